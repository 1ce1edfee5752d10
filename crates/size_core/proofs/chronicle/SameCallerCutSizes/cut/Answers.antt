use Rattle.std.proofs.Common.{[], ◌∷◌, ◌++◌, Some, set, sym, subst}
use Rattle.size_core.specs.ClaimsView.{ClaimsView}
use Rattle.size_core.specs.SizeTruth.{SizeTruth}
use Rattle.size_core.proofs.Keeping.{keeps-same}
use Rattle.size_core.proofs.chronicle.SameCallerCutSizes.cut.Goals as goal

pub returns-clause-truth : goal.returns-clause-truth
returns-clause-truth c opening value history stakes number made s =
    let given = sym c.same_caller.ensures in
    let T : ClaimsView → Type 0 = λ x. SizeTruth opening value history (set stakes number (Some c.args.claims.now, made) ++ (Some x, []) ∷ []) in
    subst T given (keeps-same s)
