use Rattle.std.proofs.Common.{[], ◌∷◌, ◌++◌, Some, set, sym, subst}
use Rattle.range_core.specs.ClaimsView.{ClaimsView}
use Rattle.range_core.specs.RangeTruth.{RangeTruth}
use Rattle.range_core.proofs.StakeTruth.{loan_cut_truth}
use Rattle.range_core.proofs.chronicle.WithLoanCutRange.cut.Goals as goal

pub returns-clause-truth : goal.returns-clause-truth
returns-clause-truth c opening value history stakes number made s =
    let kept = sym c.with_loan.ensures.kept in
    let given = sym c.with_loan.ensures.given in
    let T : ClaimsView × ClaimsView → Type 0 = λ p. RangeTruth opening value history (set stakes number (Some p.0, made) ++ (Some p.1, []) ∷ []) in
    subst T (λ i. (kept i, given i)) (loan_cut_truth stakes number _ made s.here opening value history s.holds)
