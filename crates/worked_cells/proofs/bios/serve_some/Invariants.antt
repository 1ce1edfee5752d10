use Rattle.std.proofs.Common.{◌≡◌}
use Rattle.worked_cells.proofs.bios.serve_some.Given as goal

-- the pass stays one of the queue
abbrev pub invariant-loop : goal.invariant-loop
invariant-loop g l = l.pass.queue ≡ l.initial.pass.queue
