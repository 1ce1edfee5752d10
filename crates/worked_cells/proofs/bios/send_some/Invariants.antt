use Rattle.std.proofs.Common.{◌≡◌}
use Rattle.worked_cells.proofs.bios.send_some.Given as goal

-- the pass stays one of the queue
abbrev pub invariant-loop-i : goal.invariant-loop-i
invariant-loop-i g l = l.pass.queue ≡ l.initial.pass.queue
