use Rattle.std.proofs.Common.{[], ◌∷◌, ◌++◌, Some, set, sym, subst}
use Rattle.range_core.specs.ClaimsView.{ClaimsView}
use Rattle.range_core.specs.RangeTruth.{RangeTruth}
use Rattle.range_core.proofs.StakeTruth.{caller_truth}
use Rattle.range_core.proofs.chronicle.NextCallerCutRange.cut.Goals as goal

pub returns-clause-truth : goal.returns-clause-truth
returns-clause-truth c opening value history stakes number made s =
    let kept = sym c.next_caller.ensures.kept in
    let given = sym c.next_caller.ensures.given in
    let T : ClaimsView × ClaimsView → Type 0 = λ p. RangeTruth opening value history (set stakes number (Some p.0, made) ++ (Some p.1, []) ∷ []) in
    subst T (λ i. (kept i, given i)) (caller_truth stakes number _ made s.here opening value history s.once c.requires c.next_caller.ensures.few s.holds)
