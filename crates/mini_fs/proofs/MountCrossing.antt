-- Threads share a mount, and passes and tickets go from thread to thread.
use denote.Param.Send.{IsSend, IsSync}
use Rattle.std.proofs.Crossing.{Vec-sync}
use Rattle.std.specs.contracts.vec.Vec as Vec
use Rattle.std.specs.contracts.alloc.Global as Heap
use Rattle.std.specs.contracts.impls.GlobalAllocator.TheImpl.{ghosts as heap}
use Rattle.crossbeam_utils.specs.contracts.cache_padded.CachePadded as CachePadded
use Rattle.mount_parts.specs.contracts.file.FilePlace as FilePlace
use Rattle.inode_lock.specs.contracts.lock.InodeLock as InodeLock
use Rattle.inode_lock.specs.contracts.seats.LockSeat as LockSeat
use Rattle.iob_base.specs.contracts.sector.Sector as Sector
use Rattle.range_core.specs.contracts.chronicle.RangeChronicle.TheImpl as ranges
use Rattle.range_core.specs.contracts.claims.Claims as Claims
use Rattle.range_core.specs.contracts.entry.Entry as Entry
use Rattle.range_core.specs.contracts.range.Range as Range
use Rattle.size_core.specs.contracts.chronicle.SizesChronicle.TheImpl as sizes
use Rattle.size_core.specs.contracts.claims.SizeClaims as SizeClaims
use Rattle.size_core.specs.contracts.entry.SizeEntry as SizeEntry
use Rattle.size_core.specs.contracts.sizes.Sizes as Sizes
use Rattle.space_pool.specs.contracts.cell.SpacePool as SpacePool
use Rattle.turn_cell.specs.contracts.cell.TurnCell as TurnCell
use Rattle.turn_cell.specs.contracts.seat.TurnSeat as TurnSeat
use Rattle.mini_fs.specs.contracts.mount.Mount as Mount
use Rattle.mini_fs.specs.contracts.pass.Pass as Pass
use Rattle.mini_fs.specs.contracts.ticket.Ticket as Ticket
use Rattle.mini_fs.proofs.BioCrossing.{BioQueue-sync, BioShelf-send, BioShelf-sync, QueuePass-send, ShelfSeat-send}
use Rattle.mini_fs.proofs.CrossingRules.{crossing_rules}

-- the parts are shown whole, since a search that goes down through them all runs out
pub RangeSeat-send : IsSend (TurnSeat.the_row Range.the_row Claims.the_row Entry.the_row ranges.ghosts)
RangeSeat-send = search crossing_rules depth 80 fits 10000

pub SizeSeat-send : IsSend (TurnSeat.the_row Sizes.the_row SizeClaims.the_row SizeEntry.the_row sizes.ghosts)
SizeSeat-send = search crossing_rules depth 80 fits 10000

pub LockSeat-send : IsSend LockSeat.the_row
LockSeat-send = search crossing_rules depth 80 fits 10000

pub RangeCell-sync : IsSync (TurnCell.the_row Range.the_row Claims.the_row Entry.the_row ranges.ghosts)
RangeCell-sync = search crossing_rules depth 80 fits 10000

pub SizeCell-sync : IsSync (TurnCell.the_row Sizes.the_row SizeClaims.the_row SizeEntry.the_row sizes.ghosts)
SizeCell-sync = search crossing_rules depth 80 fits 10000

pub InodeLock-sync : IsSync InodeLock.the_row
InodeLock-sync = search crossing_rules depth 80 fits 10000

pub SpacePool-sync : IsSync SpacePool.the_row
SpacePool-sync = search crossing_rules depth 80 fits 10000

pub Sector-sync : IsSync Sector.the_row
Sector-sync = search crossing_rules depth 80 fits 10000

pub Ticket-send : IsSend Ticket.the_row
Ticket-send = search (crossing_rules, RangeSeat-send) depth 80 fits 10000

pub Pass-send : IsSend Pass.the_row
Pass-send = search (crossing_rules, RangeSeat-send, SizeSeat-send, LockSeat-send, Ticket-send, QueuePass-send, ShelfSeat-send, BioShelf-send, BioShelf-sync) depth 80 fits 10000

pub Places-sync : IsSync (Vec.the_row FilePlace.the_row Heap.the_row heap)
Places-sync = Vec-sync FilePlace.the_row (search crossing_rules depth 80 fits 10000)

pub Stripes-sync : IsSync (Vec.the_row (CachePadded.the_row (TurnCell.the_row Range.the_row Claims.the_row Entry.the_row ranges.ghosts)) Heap.the_row heap)
Stripes-sync = Vec-sync (CachePadded.the_row (TurnCell.the_row Range.the_row Claims.the_row Entry.the_row ranges.ghosts)) (search (crossing_rules, RangeCell-sync) depth 80 fits 10000)

pub Sizes-sync : IsSync (Vec.the_row (CachePadded.the_row (TurnCell.the_row Sizes.the_row SizeClaims.the_row SizeEntry.the_row sizes.ghosts)) Heap.the_row heap)
Sizes-sync = Vec-sync (CachePadded.the_row (TurnCell.the_row Sizes.the_row SizeClaims.the_row SizeEntry.the_row sizes.ghosts)) (search (crossing_rules, SizeCell-sync) depth 80 fits 10000)

pub Locks-sync : IsSync (Vec.the_row InodeLock.the_row Heap.the_row heap)
Locks-sync = Vec-sync InodeLock.the_row InodeLock-sync

pub Idle-sync : IsSync (Vec.the_row Sector.the_row Heap.the_row heap)
Idle-sync = Vec-sync Sector.the_row Sector-sync

pub Mount-sync : IsSync Mount.the_row
Mount-sync = search (crossing_rules, Places-sync, Stripes-sync, Sizes-sync, Locks-sync, SpacePool-sync, Idle-sync, Ticket-send, BioQueue-sync) depth 80 fits 10000
