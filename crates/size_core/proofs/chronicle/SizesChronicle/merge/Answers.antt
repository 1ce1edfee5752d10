use Rattle.std.proofs.Common.{[], ◌++◌, Some, None, set, sym, subst}
use Rattle.size_core.specs.ClaimsView.{ClaimsView}
use Rattle.size_core.specs.SizeTruth.{SizeTruth}
use Rattle.size_core.proofs.Keeping.{keeps-merge}
use Rattle.size_core.proofs.chronicle.SizesChronicle.merge.Goals as goal

pub returns-clause-truth : goal.returns-clause-truth
returns-clause-truth c opening value history stakes number other made given s apart there =
    let both = sym c.take_in.ensures in
    let T : ClaimsView → Type 0 = λ x. SizeTruth opening value history (set (set stakes number (Some x, made ++ given)) other (None, [])) in
    subst T both (keeps-merge s other _ given c.requires apart there)
