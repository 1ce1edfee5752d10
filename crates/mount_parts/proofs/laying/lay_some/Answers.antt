use Rattle.std.proofs.Common.{◌≡◌, List, ◌++◌, map, sym, subst, ◌∙◌}
use Rattle.iob_base.specs.DeviceBlock.{DeviceBlock}
use Rattle.file_stripes.specs.Taking.{sector_numbers}
use Rattle.crossbeam_utils.specs.Padded.{padded_value}
use Rattle.turn_cell.specs.Seats.{cell_view, seat_claims}
use Rattle.space_pool.specs.Pool.{AreDistinct, fresh_pool}
use Rattle.space_pool.specs.Seats.{pool_cell}
use Rattle.mount_parts.specs.Pieces.{AreOpened, blocks_of, sectors_of}
use Rattle.mount_parts.proofs.Layings.{front-distinct, keeps-first, laid-stripes, once-distinct, some-pieces}
use Rattle.mount_parts.proofs.laying.lay_some.Goals as goal

pub open_pool-requires-clause-distinct : goal.open_pool-requires-clause-distinct
open_pool-requires-clause-distinct c =
    let t = c.in_ok-held.field-0 in
    let D : List DeviceBlock → Type 0 = λ ss. AreDistinct (sector_numbers ss ++ sector_numbers t.free.items) in
    subst D (sym c.as_slice.ensures.value) (once-distinct (sector_numbers t.held.items ++ sector_numbers t.free.items) c.in_ok-held.ensures.once)

pub open_pieces-requires-clause-some : goal.open_pieces-requires-clause-some
open_pieces-requires-clause-some c = some-pieces c.args.files.now c.in_ok-pieces.pieces.items c.requires.files c.requires.some c.in_ok-pieces.ensures.blocks

pub open_pieces-requires-clause-distinct : goal.open_pieces-requires-clause-distinct
open_pieces-requires-clause-distinct c =
    let t = c.in_ok-held.field-0 in
    let D : List DeviceBlock → Type 0 = λ ss. AreDistinct (sector_numbers ss) in
    subst D (sym c.in_ok-pieces.ensures.sectors) (front-distinct (sector_numbers t.held.items) (sector_numbers t.free.items) (once-distinct (sector_numbers t.held.items ++ sector_numbers t.free.items) c.in_ok-held.ensures.once))

pub open_pieces-requires-clause-keeps : goal.open_pieces-requires-clause-keeps
open_pieces-requires-clause-keeps c =
    keeps-first c.args.geometry.block_size c.count_blocks-blocks.result c.as_slice.result.now (sectors_of c.in_ok-pieces.pieces.items) (seat_claims c.in_ok-pool.keeper).facts c.in_ok-pool.ensures.claims
    (c.in_ok-pieces.ensures.sectors ∙ sym c.as_slice.ensures.value) (blocks_of c.in_ok-pieces.pieces.items) (c.in_ok-pieces.ensures.blocks ∙ sym c.count_blocks-blocks.ensures)

pub returns-clause-stripes : goal.returns-clause-stripes
returns-clause-stripes c =
    let t = c.in_ok-held.field-0 in
    let pool = pool_cell c.in_ok-pool.pool in
    let F : List DeviceBlock → Type 0 = λ ss. pool.opening ≡ fresh_pool pool.opening.free (sector_numbers ss ++ sector_numbers t.free.items) c.count_blocks-blocks.result c.args.geometry.block_size in
    laid-stripes c.args.geometry c.args.cookie c.count_blocks-blocks.result c.args.sectors.items t.held.items t.free.items c.new.result.items c.args.files.now _ pool c.in_ok-pieces.pieces.items
    c.in_ok-pieces.ensures.cut c.in_ok-pieces.ensures.sectors (subst (λ s. AreOpened c.args.geometry c.args.cookie pool.cell s.share c.in_ok-pieces.pieces.items (map (λ k. (cell_view (padded_value k)).opening) c.in_ok-opened.opened.cells.items)) c.in_ok-pool.ensures.seat c.in_ok-opened.ensures.cells) c.in_ok-held.ensures.held c.in_ok-held.ensures.all c.in_ok-pool.ensures.free (subst F c.as_slice.ensures.value c.in_ok-pool.ensures.opening) c.count_blocks-blocks.ensures c.new.ensures.items c.requires.some
