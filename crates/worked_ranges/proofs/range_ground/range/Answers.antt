use Rattle.std.proofs.Common.{List, sym, subst}
use Rattle.iob_base.specs.Layout.{Layout}
use Rattle.io_model.specs.declared.file.Extent.{Extent}
use Rattle.turn_cell.specs.Seats.{seat_claims}
use Rattle.range_core.specs.Opening.{CanOpen}
use Rattle.worked_ranges.proofs.SmallOpening.{small_opens}
use Rattle.worked_ranges.specs.SmallRanges.{SMALL_EXTENTS}
use Rattle.worked_ranges.proofs.range_ground.range.Goals as goal

pub new-requires : goal.new-requires
new-requires c =
    let L : Layout → Type 0 = λ g. CanOpen g.block_size 0 6 SMALL_EXTENTS c.args.own.items (seat_claims c.args.seat).facts c.args.begin.cookie in
    let E : List Extent → Type 0 = λ e. CanOpen c.args.geometry.block_size 0 6 e c.args.own.items (seat_claims c.args.seat).facts c.args.begin.cookie in
    subst E (sym c.in_ok-extents.ensures)
    (subst L (sym c.requires.geometry) (small_opens c.args.own.items (seat_claims c.args.seat).facts c.args.begin.cookie c.requires.numbers c.requires.sized c.requires.claims c.requires.cookie))
