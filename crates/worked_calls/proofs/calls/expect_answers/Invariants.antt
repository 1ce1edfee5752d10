use Rattle.std.specs.Prelude.{◌≡◌, length}
use Rattle.worked_calls.specs.Stands.{Stays}
use Rattle.worked_calls.proofs.calls.expect_answers.Given as goal

abbrev pub invariant-loop-call : goal.invariant-loop-call
invariant-loop-call g l = Stays l.mount l.initial.pass l.pass × (length l.seen ≡ 1)
