use Rattle.std.proofs.Common.{◌≡◌, ◌∙◌}
use Rattle.std.proofs.lemmas.Result.{IfOk-weaker}
use Rattle.file_stripes.specs.Kinds.{kinds_from}
use Rattle.turn_cell.specs.Seats.{seat_claims, seat_view}
use Rattle.range_core.specs.RangeView.{range_of}
use Rattle.mount_parts.specs.Pieces.{range_with}
use Rattle.mount_parts.specs.Trims.{trimmed_in}
use Rattle.mount_parts.proofs.Openings.{can-open}
use Rattle.mount_parts.proofs.opening.range_of_piece.Goals as goal

pub new-requires : goal.new-requires
new-requires c =
    let p = c.args.piece in
    can-open c.args.geometry.block_size c.args.cookie p _ _ (seat_claims c.args.seat).facts c.into_vec-extents.ensures
    (c.in_ok-sectors.ensures ∙ (λ j. trimmed_in (c.block_size.ensures.value j) p.size p.stripe.first (kinds_from ((c.as_slice.ensures.value ∙ c.into_vec-extents.ensures) j) p.stripe.first p.stripe.blocks) (c.into_vec.ensures j)))
    c.requires.piece c.requires.whole c.requires.claims c.requires.cookie

pub returns-clause-range : goal.returns-clause-range
returns-clause-range c =
    let g = c.args.geometry in
    let p = c.args.piece in
    let s = c.args.seat in
    let sectors = c.in_ok-sectors.ensures ∙ (λ j. trimmed_in (c.block_size.ensures.value j) p.size p.stripe.first (kinds_from ((c.as_slice.ensures.value ∙ c.into_vec-extents.ensures) j) p.stripe.first p.stripe.blocks) (c.into_vec.ensures j)) in
    IfOk-weaker c.new.result (λ r. r ≡ range_of g p.mode p.stripe.first p.stripe.blocks c.into_vec-extents.result.items c.in_ok-sectors.sectors.items (seat_view s) (seat_claims s).facts c.args.cookie) (λ r. r ≡ range_with g c.args.cookie p (seat_view s) (seat_claims s).facts)
    (λ r is. is ∙ (λ j. range_of g p.mode p.stripe.first p.stripe.blocks (c.into_vec-extents.ensures j) (sectors j) (seat_view s) (seat_claims s).facts c.args.cookie)) c.new.ensures.ok
