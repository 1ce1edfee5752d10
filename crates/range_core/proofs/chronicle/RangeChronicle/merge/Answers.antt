use Rattle.std.proofs.Common.{[], ◌++◌, Some, None, set, sym, subst}
use Rattle.range_core.specs.ClaimsView.{ClaimsView}
use Rattle.range_core.specs.RangeTruth.{RangeTruth}
use Rattle.range_core.proofs.StakeTruth.{merged_truth}
use Rattle.range_core.proofs.chronicle.RangeChronicle.merge.Goals as goal

pub returns-clause-truth : goal.returns-clause-truth
returns-clause-truth c opening value history stakes number other made given s apart there =
    let both = sym c.take_in.ensures in
    let T : ClaimsView → Type 0 = λ x. RangeTruth opening value history (set (set stakes number (Some x, made ++ given)) other (None, [])) in
    subst T both (merged_truth stakes number other _ _ made given c.requires s.here apart there opening value history s.holds)
