use denote.Param.Send.{IsSync}
use Rattle.mini_fs.proofs.CrossingRules.{crossing_rules}
use Rattle.mini_fs.proofs.MountCrossing.{Mount-sync, Pass-send}
use Rattle.worked_calls.specs.contracts.meetings.Scene as Scene
use Rattle.worked_calls.proofs.GateCrossing.{gate-sync}
use Rattle.worked_calls.proofs.meetings.call_both.Goals as goal

-- what two callers have in common at a meeting
scene-sync : IsSync Scene.the_row
scene-sync = search (crossing_rules, Mount-sync, gate-sync) depth 80 fits 10000

pub join-mine-requires-send-F : goal.join-mine-requires-send-F
join-mine-requires-send-F g c κs within = search (crossing_rules, Pass-send, scene-sync, c.type_bounds.sync-R.shared) depth 80 fits 10000

pub join-mine-requires-send-A : goal.join-mine-requires-send-A
join-mine-requires-send-A g c κs within = search (crossing_rules, Pass-send) depth 80 fits 10000
