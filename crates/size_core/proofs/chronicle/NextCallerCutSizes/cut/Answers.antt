use Rattle.std.proofs.Common.{[], ◌∷◌, ◌++◌, Some, set, sym, subst}
use Rattle.size_core.specs.ClaimsView.{ClaimsView}
use Rattle.size_core.specs.SizeTruth.{SizeTruth}
use Rattle.size_core.proofs.Keeping.{keeps-next}
use Rattle.size_core.proofs.chronicle.NextCallerCutSizes.cut.Goals as goal

pub returns-clause-truth : goal.returns-clause-truth
returns-clause-truth c opening value history stakes number made s =
    let kept = sym c.next_caller.ensures.kept in
    let given = sym c.next_caller.ensures.given in
    let T : ClaimsView × ClaimsView → Type 0 = λ p. SizeTruth opening value history (set stakes number (Some p.0, made) ++ (Some p.1, []) ∷ []) in
    subst T (λ i. (kept i, given i)) (keeps-next s c.requires c.next_caller.ensures.few)
