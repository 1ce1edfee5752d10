use Rattle.std.proofs.Common.{◌≡◌, ◌++◌, drop}
use Rattle.iob_base.specs.Parting.{pages_of}
use Rattle.iomap_replay.specs.OneRead.{bytes_of}
use Rattle.iomap_replay.proofs.read.bytes_from.Given as goal

abbrev pub invariant-loop-part : goal.invariant-loop-part
invariant-loop-part l = l.bytes.items ++ bytes_of (pages_of (drop l.part-index l.others)) ≡ drop l.place (bytes_of (pages_of l.parts))
