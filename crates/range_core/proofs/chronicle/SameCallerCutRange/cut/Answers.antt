use Rattle.std.proofs.Common.{[], ◌∷◌, ◌++◌, Some, set, sym, subst}
use Rattle.range_core.specs.ClaimsView.{ClaimsView}
use Rattle.range_core.specs.RangeTruth.{RangeTruth}
use Rattle.range_core.proofs.StakeTruth.{ticket_truth}
use Rattle.range_core.proofs.chronicle.SameCallerCutRange.cut.Goals as goal

pub returns-clause-truth : goal.returns-clause-truth
returns-clause-truth c opening value history stakes number made s =
    let given = sym c.same_caller.ensures in
    let T : ClaimsView → Type 0 = λ x. RangeTruth opening value history (set stakes number (Some c.args.claims.now, made) ++ (Some x, []) ∷ []) in
    subst T given (ticket_truth stakes number _ made s.here opening value history s.holds)
