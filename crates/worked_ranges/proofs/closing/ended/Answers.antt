use Rattle.std.proofs.Common.{List, ◌∙◌, ap, sym}
use Rattle.io_model.specs.declared.file.BlockEnd.{BlockEnd}
use Rattle.turn_cell.specs.Seats.{seat_claims}
use Rattle.turn_cell.specs.Stakes.{total}
use Rattle.range_core.specs.Space.{SpaceClaims}
use Rattle.worked_ranges.specs.SmallEnds.{end_numbers}
use Rattle.worked_ranges.proofs.EndLemmas.{all_weigh, ends_weigh}
use Rattle.worked_ranges.proofs.closing.ended.Goals as goal

pub end-requires : goal.end-requires
end-requires c = c.closed_is_home.ensures.home _ _ _ _ c.close-range.ensures c.requires.free

pub returns : goal.returns
returns c f =
    let home = c.closed_is_home.ensures.home _ _ _ _ c.close-range.ensures c.requires.free in
    let e = c.in_ok-blocks.ensures in
    let same = ap (λ (l : List BlockEnd). total f (end_numbers l)) e.blocks ∙ ends_weigh f c.close-range.result c.is_kept.ensures home ∙ ap (λ (k : SpaceClaims). total f k.numbers) (sym e.space) in
    all_weigh f (end_numbers c.in_ok-blocks.field-0.blocks) (seat_claims c.args.ground.keeper).facts.numbers (seat_claims c.in_ok-blocks.field-0.seat).facts.numbers (seat_claims c.join.new.into).facts.numbers _ c.close-free.result.items same c.args.ground.stands.keeps.none (ap (λ (k : SpaceClaims). k.numbers) c.join.ensures.claims) (c.close-free.ensures.numbers f)
