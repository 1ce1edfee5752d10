use Rattle.mini_fs.proofs.BioCrossing.{BioQueue-sync}
use Rattle.mini_fs.proofs.MountCrossing.{Ticket-send}
use Rattle.mini_fs.proofs.CrossingRules.{crossing_rules}
use Rattle.mini_fs.proofs.crossing.queues_are_shared.Goals as goal

pub is_shared-requires-sync-T : goal.is_shared-requires-sync-T
is_shared-requires-sync-T c κs = search (crossing_rules, Ticket-send, BioQueue-sync) depth 80 fits 10000
