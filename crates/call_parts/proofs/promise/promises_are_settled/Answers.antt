use Rattle.std.specs.Prelude.{false}
use Rattle.call_parts.proofs.PromiseLemmas.{none-left}
use Rattle.call_parts.proofs.promise.promises_are_settled.Goals as goal

pub returns : goal.returns
returns c size b s entries may left before = none-left size b entries s false may (λ _. before) left
