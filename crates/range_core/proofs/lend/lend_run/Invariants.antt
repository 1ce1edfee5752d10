use Rattle.std.proofs.Common.{◌≡◌, ◌+◌, ◌++◌, drop, length, take, vec_len}
use Rattle.iob_base.specs.Parting.{pages_of}
use Rattle.range_core.specs.Lends.{lent_cell, parts_of}
use Rattle.range_core.specs.OnRun.{on_run}
use Rattle.range_core.proofs.lend.lend_run.Given as goal

abbrev pub invariant-loop-part : goal.invariant-loop-part
invariant-loop-part l = record {
  at : l.at ≡ l.low + l.part-index;
  cells : l.cells.items ≡ on_run (lent_cell l.away) l.low l.part-index l.initial.cells.items;
  many : vec_len l.cells ≡ vec_len l.initial.cells;
  long : length l.parts ≡ length l.initial.parts;
  rest : drop l.part-index l.parts ≡ drop l.part-index l.initial.parts;
  parts : take l.part-index l.parts ++ parts_of (drop (l.low + l.part-index) l.cells.items) (pages_of (drop l.part-index l.initial.parts)) ≡ parts_of (drop l.low l.initial.cells.items) (pages_of l.initial.parts);
}
