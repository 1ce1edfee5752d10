-- Bios, their shelves and their queues cross threads where their tickets do.
use denote.RattleType.{RattleType}
use denote.Param.Send.{IsSend, IsSync}
use Rattle.bio_pages.specs.contracts.bio.Bio as Bio
use Rattle.bio_pages.specs.contracts.queue.BioQueue as BioQueue
use Rattle.bio_pages.specs.contracts.queue.QueuePass as QueuePass
use Rattle.bio_pages.specs.contracts.sent.Sent as Sent
use Rattle.bio_pages.specs.contracts.shelf.BioShelf as BioShelf
use Rattle.bio_pages.specs.contracts.shelf_seat.ShelfSeat as ShelfSeat
use Rattle.mini_fs.proofs.CrossingRules.{crossing_rules}

module _ (T : RattleType) (s : IsSend T) where
  pub Bio-send : IsSend (Bio.the_row T)
  Bio-send = search crossing_rules depth 80 fits 10000

  pub ShelfSeat-send : IsSend (ShelfSeat.the_row T)
  ShelfSeat-send = search crossing_rules depth 80 fits 10000

  pub BioShelf-send : IsSend (BioShelf.the_row T)
  BioShelf-send = search crossing_rules depth 80 fits 10000

  pub BioShelf-sync : IsSync (BioShelf.the_row T)
  BioShelf-sync = search crossing_rules depth 80 fits 10000

  pub Sent-send : IsSend (Sent.the_row T)
  Sent-send = search (crossing_rules, ShelfSeat-send, BioShelf-send, BioShelf-sync) depth 80 fits 10000

  pub QueuePass-send : IsSend (QueuePass.the_row T)
  QueuePass-send = search (crossing_rules, Sent-send) depth 80 fits 10000

  pub BioQueue-sync : IsSync (BioQueue.the_row T)
  BioQueue-sync = search (crossing_rules, Sent-send) depth 80 fits 10000
