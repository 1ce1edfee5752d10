use Rattle.std.proofs.Common.{◌≡◌, drop, vec_len}
use Rattle.std.specs.Vec.Iter.{into_iter_items}
use Rattle.range_core.specs.OnRun.{count_on, on_each}
use Rattle.range_core.specs.Placing.{placed_at}
use Rattle.range_core.proofs.place.place_run.Given as goal

abbrev pub invariant-loop-i : goal.invariant-loop-i
invariant-loop-i g l = record {
  cells : l.cells.items ≡ on_each (placed_at (g.T.Picks.picks l.test) l.low l.initial.cells.items l.fn.sectors.items) 0 l.low l.i l.initial.cells.items;
  many : vec_len l.cells ≡ vec_len l.initial.cells;
  rest : into_iter_items l.rest ≡ drop (count_on (g.T.Picks.picks l.test) l.low l.i l.initial.cells.items) l.fn.sectors.items;
}
