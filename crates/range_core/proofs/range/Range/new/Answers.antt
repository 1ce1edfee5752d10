use Rattle.std.proofs.Common.{◌≡◌, ℕ, Some, None, List, [], ◌∷◌, length, All, sym, ◌∙◌, ap, subst, arith}
use Rattle.std.proofs.lemmas.List.Elements.{All-nil}
use Rattle.iob_base.specs.declared.stamp.Stamp.{Stamp}
use Rattle.turn_cell.specs.Seats.{seat_claims, seat_view}
use Rattle.turn_cell.specs.Stakes.{total}
use Rattle.range_core.specs.BlockTruth.{is_gone}
use Rattle.range_core.specs.Cells.{cells_of}
use Rattle.range_core.specs.ClaimsView.{first_claims}
use Rattle.range_core.specs.Kinds.{kinds_from}
use Rattle.range_core.specs.RangeTruth.{RangeTruth}
use Rattle.range_core.specs.RangeView.{IsOfRange, RangeView, range_view}
use Rattle.range_core.specs.Space.{ClaimsSpace, SpaceClaims}
use Rattle.range_core.specs.declared.cell.Cell.{Cell}
use Rattle.range_core.proofs.FirstTruth.{all_cold, first_space, first_truth, none_gone}
use Rattle.range_core.proofs.CellLemmas.{homes_of, length-cells_of, length-kinds_from}
use Rattle.range_core.proofs.range.Range.new.Goals as goal

pub returns-clause-home : goal.returns-clause-home
returns-clause-home c =
    let are : c.in_ok-cells.cells.items ≡ cells_of (kinds_from c.args.extents.items c.args.first c.args.blocks) c.args.sectors.items =
    c.in_ok-cells.ensures ∙ ap (λ es. cells_of (kinds_from es c.args.first c.args.blocks) c.args.sectors.items) c.as_slice.ensures.value in
    let A : List Cell → Type 0 = λ xs. All (λ (x : Cell). x.away ≡ None) xs in
    subst A (sym are) (λ k d l. (all_cold (kinds_from c.args.extents.items c.args.first c.args.blocks) c.args.sectors.items k d l).away)

pub invariant_of-result : goal.invariant_of-result
invariant_of-result c =
    let size : ℕ = c.args.geometry.block_size in
    let space : SpaceClaims = (seat_claims c.args.seat).facts in
    let are : c.in_ok-cells.cells.items ≡ cells_of (kinds_from c.args.extents.items c.args.first c.args.blocks) c.args.sectors.items =
    c.in_ok-cells.ensures ∙ ap (λ es. cells_of (kinds_from es c.args.first c.args.blocks) c.args.sectors.items) c.as_slice.ensures.value in
    let many : length c.in_ok-cells.cells.items ≡ c.args.blocks =
    ap length are ∙ length-cells_of _ c.args.sectors.items ∙ length-kinds_from c.args.extents.items c.args.first c.args.blocks in
    let L = λ (l : List (ℕ × Stamp)). All (IsOfRange c.args.first (length c.in_ok-cells.cells.items)) l in
    let S : List Cell → Type 0 = λ xs. ClaimsSpace size xs space in
    let gone : total is_gone c.in_ok-cells.cells.items ≡ 0 = ap (total is_gone) are ∙ none_gone _ c.args.sectors.items in (
      record {
        places = homes_of size _ c.args.sectors.items _ are c.requires.sectors_are c.requires.whole;
        few = omega (arith, many, c.requires.few);
        logged = subst L (sym c.new.ensures.items) (All-nil (IsOfRange c.args.first (length c.in_ok-cells.cells.items)));
        space = subst S (sym are) (first_space size c.args.first c.args.blocks c.args.extents.items c.args.sectors.items space c.args.cookie c.requires);
      },
      omega (arith, gone, c.new.ensures.used),
    )

pub returns-clause-truth : goal.returns-clause-truth
returns-clause-truth c =
    let are : c.in_ok-cells.cells.items ≡ cells_of (kinds_from c.args.extents.items c.args.first c.args.blocks) c.args.sectors.items =
    c.in_ok-cells.ensures ∙ ap (λ es. cells_of (kinds_from es c.args.first c.args.blocks) c.args.sectors.items) c.as_slice.ensures.value in
    let cells = sym are in
    let log = sym c.new.ensures.items in
    let view : List Cell × List (ℕ × Stamp) → RangeView =
    λ p. range_view c.args.geometry c.args.mode c.args.first p.0 p.1 c.args.cookie 0 0 (seat_view c.args.seat) (seat_claims c.args.seat).facts in
    let T : List Cell × List (ℕ × Stamp) → Type 0 = λ p. RangeTruth (view p) (view p) [] ((Some first_claims, []) ∷ []) in
    subst T (λ i. (cells i, log i)) (first_truth c.args.geometry c.args.mode c.args.first c.args.blocks c.args.extents.items c.args.sectors.items _ _ c.args.cookie c.requires)
