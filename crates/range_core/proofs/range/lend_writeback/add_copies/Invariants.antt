use Rattle.std.proofs.Common.{◌≡◌, drop, length, map, take}
use Rattle.iob_base.specs.Parting.{pages_of}
use Rattle.range_core.specs.LendWritebacks.{page_copy}
use Rattle.range_core.proofs.range.lend_writeback.add_copies.Given as goal

abbrev pub invariant-loop-i : goal.invariant-loop-i
invariant-loop-i l = record {
  many : length l.parts ≡ l.i;
  pages : pages_of l.parts ≡ map page_copy (take l.i (drop l.low l.cells));
}
