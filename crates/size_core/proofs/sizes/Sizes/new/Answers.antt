use Rattle.std.proofs.Common.{List, Some, [], ◌∷◌, sym, subst}
use Rattle.size_core.specs.ClaimsView.{first_claims}
use Rattle.size_core.specs.SizesView.{SizesView}
use Rattle.size_core.specs.SizeTruth.{SizeTruth}
use Rattle.io_model.specs.declared.file.SizeStamp.{SizeStamp}
use Rattle.size_core.proofs.FirstTruth.{first_truth}
use Rattle.size_core.proofs.sizes.Sizes.new.Goals as goal

pub returns-clause-truth : goal.returns-clause-truth
returns-clause-truth c =
    let view : List SizeStamp → SizesView = λ l. record { size = c.args.size; end = c.args.end; rooms = 0; stamps = l } in
    let T : List SizeStamp → Type 0 = λ l. SizeTruth (view l) (view l) [] ((Some first_claims, []) ∷ []) in
    subst T (sym c.new.ensures.items) (first_truth c.args.size c.args.end c.requires)
