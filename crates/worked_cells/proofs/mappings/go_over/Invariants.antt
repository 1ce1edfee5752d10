use Rattle.std.proofs.Common.{◌≡◌, ◌+◌, ◌≤◌, None}
use Rattle.worked_cells.proofs.mappings.go_over.Given as goal

abbrev pub invariant-loop : goal.invariant-loop
invariant-loop g l = record {
  unfinished : l.iter.unfinished ≡ None;
  range : l.iter.pos + l.iter.left ≤ 64;
  even : l.pass.begun ≡ l.pass.ended;
}
