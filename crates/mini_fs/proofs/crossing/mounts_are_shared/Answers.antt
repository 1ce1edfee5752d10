use Rattle.mini_fs.proofs.MountCrossing.{Mount-sync}
use Rattle.mini_fs.proofs.CrossingRules.{crossing_rules}
use Rattle.mini_fs.proofs.crossing.mounts_are_shared.Goals as goal

pub is_shared-requires-sync-T : goal.is_shared-requires-sync-T
is_shared-requires-sync-T c κs = search (crossing_rules, Mount-sync) depth 80 fits 10000
