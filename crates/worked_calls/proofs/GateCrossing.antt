-- Callers on two threads share a gate.
use denote.Param.Send.{IsSend, IsSync}
use Rattle.std.specs.contracts.sync.Arc as Arc
use Rattle.std.specs.contracts.sync.atomic.AtomicU64 as Word
use Rattle.std.specs.contracts.alloc.Global as Heap
use Rattle.std.specs.contracts.impls.GlobalAllocator.TheImpl.{ghosts as heap}
use Rattle.std.proofs.Crossing.{Arc-sync}
use Rattle.mini_fs.proofs.CrossingRules.{crossing_rules}

word-send : IsSend Word.the_row
word-send = search crossing_rules

word-sync : IsSync Word.the_row
word-sync = search crossing_rules

pub gate-sync : IsSync (Arc.the_row Word.the_row Heap.the_row heap)
gate-sync = Arc-sync Word.the_row word-send word-sync
