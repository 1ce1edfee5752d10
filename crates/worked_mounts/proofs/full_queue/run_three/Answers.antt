use denote.Param.Send.{IsSync}
use Rattle.mini_fs.proofs.CrossingRules.{crossing_rules}
use Rattle.mini_fs.proofs.MountCrossing.{Mount-sync, Pass-send}
use Rattle.worked_mounts.specs.contracts.full_queue.Place as Place
use Rattle.worked_mounts.proofs.Gates.{gate-sync}
use Rattle.worked_mounts.proofs.full_queue.run_three.Goals as goal

place-sync : IsSync Place.the_row
place-sync = search (crossing_rules, Mount-sync, gate-sync) depth 80 fits 10000

-- Rattle's search goes through three captures of a closure and not through four, so the mount and the gate are one
pub join-first-requires-send-F : goal.join-first-requires-send-F
join-first-requires-send-F g c κs within = search (crossing_rules, Pass-send, place-sync, c.type_bounds.sync-R.shared) depth 80 fits 10000
