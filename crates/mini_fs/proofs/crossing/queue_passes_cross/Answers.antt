use Rattle.mini_fs.proofs.BioCrossing.{QueuePass-send}
use Rattle.mini_fs.proofs.MountCrossing.{Ticket-send}
use Rattle.mini_fs.proofs.CrossingRules.{crossing_rules}
use Rattle.mini_fs.proofs.crossing.queue_passes_cross.Goals as goal

pub crosses-requires-send-T : goal.crosses-requires-send-T
crosses-requires-send-T c κs = search (crossing_rules, Ticket-send, QueuePass-send) depth 80 fits 10000
