use Rattle.std.proofs.Common.{◌≡◌}
use Rattle.worked_cells.proofs.locks.count_often.Given as goal

-- the seat stays one of this lock
abbrev pub invariant-loop : goal.invariant-loop
invariant-loop g l = l.seat.lock ≡ l.lock
