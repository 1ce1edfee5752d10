use Rattle.std.proofs.Common.{◌≡◌, ◌+◌, ◌++◌, drop, map, take, vec_len}
use Rattle.iob_base.specs.Parting.{pages_of, without_page}
use Rattle.range_core.specs.LendReads.{paged_of}
use Rattle.range_core.specs.OnRun.{on_each}
use Rattle.range_core.proofs.range.lend_read.put_pages.Given as goal

abbrev pub invariant-loop-part : goal.invariant-loop-part
invariant-loop-part l = record {
  at : l.at ≡ l.low + l.part-index;
  cells : l.cells.items ≡ on_each (paged_of (pages_of l.initial.parts)) 0 l.low l.part-index l.initial.cells.items;
  many : vec_len l.cells ≡ vec_len l.initial.cells;
  parts : l.parts ≡ map without_page (take l.part-index l.initial.parts) ++ drop l.part-index l.initial.parts;
}
