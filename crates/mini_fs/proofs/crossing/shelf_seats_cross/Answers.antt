use Rattle.mini_fs.proofs.BioCrossing.{ShelfSeat-send}
use Rattle.mini_fs.proofs.MountCrossing.{Ticket-send}
use Rattle.mini_fs.proofs.CrossingRules.{crossing_rules}
use Rattle.mini_fs.proofs.crossing.shelf_seats_cross.Goals as goal

pub crosses-requires-send-T : goal.crosses-requires-send-T
crosses-requires-send-T c κs = search (crossing_rules, Ticket-send, ShelfSeat-send) depth 80 fits 10000
