use Rattle.mini_fs.proofs.CrossingRules.{crossing_rules}
use Rattle.mini_fs.proofs.MountCrossing.{Mount-sync, Pass-send}
use Rattle.worked_mounts.proofs.callers.call_both.Goals as goal

pub join-mine-requires-send-F : goal.join-mine-requires-send-F
join-mine-requires-send-F g c κs within = search (crossing_rules, Pass-send, Mount-sync, c.type_bounds.sync-R.shared) depth 80 fits 10000

pub join-mine-requires-send-A : goal.join-mine-requires-send-A
join-mine-requires-send-A g c κs within = search (crossing_rules, Pass-send) depth 80 fits 10000
