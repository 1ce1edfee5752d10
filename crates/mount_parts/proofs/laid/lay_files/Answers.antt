use Rattle.std.proofs.Common.{List, map, sym, subst, ◌∙◌}
use Rattle.std.proofs.lemmas.Simd.{map-map}
use Rattle.crossbeam_utils.specs.Padded.{padded_value}
use Rattle.turn_cell.specs.Seats.{cell_view}
use Rattle.turn_cell.specs.Views.{CellView}
use Rattle.space_pool.specs.Seats.{pool_cell}
use Rattle.range_core.specs.RangeView.{RangeView}
use Rattle.size_core.specs.SizesView.{SizesView}
use Rattle.mount_parts.specs.Pieces.{LaidStripes}
use Rattle.mount_parts.proofs.DeviceContents.{have-contents}
use Rattle.mount_parts.proofs.LaidOut.{laid-out}
use Rattle.mount_parts.proofs.laid.lay_files.Goals as goal

pub returns-clause-laid : goal.returns-clause-laid
returns-clause-laid c =
    let g = c.in_ok-ground.ground in
    let o = c.in_ok-opened.opened in
    let pool = pool_cell g.pool in
    let L : List RangeView → Type 0 = λ os. LaidStripes c.args.geometry c.args.cookie c.args.sectors.items c.args.files.now os pool g.idle.items in
    laid-out c.args.geometry c.args.cookie c.args.sectors.items g.idle.items c.args.files.now (map (λ k. cell_view (padded_value k)) g.cells.items) (map (λ k. cell_view (padded_value k)) o.cells.items) c.in_ok-locks.locks.items pool
    c.requires.files c.requires.few (subst L (sym (map-map (λ (v : CellView RangeView). v.opening) (λ k. cell_view (padded_value k)) g.cells.items)) c.in_ok-ground.ensures.stripes)
    (map-map (λ (v : CellView SizesView). v.opening) (λ k. cell_view (padded_value k)) o.cells.items ∙ c.in_ok-opened.ensures.cells) c.in_ok-locks.ensures.locks c.in_ok-places.places.items c.in_ok-places.ensures

pub returns-clause-contents : goal.returns-clause-contents
returns-clause-contents c =
    let g = c.in_ok-ground.ground in
    have-contents c.args.geometry c.args.cookie c.args.sectors.items g.idle.items c.args.files.now _ (pool_cell g.pool) c.in_ok-ground.ensures.stripes c.requires.device
