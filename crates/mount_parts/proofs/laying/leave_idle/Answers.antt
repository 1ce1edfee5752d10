use Rattle.std.proofs.Common.{◌≡◌, List, map, ap, subst, ◌++◌}
use Rattle.iob_base.specs.DeviceBlock.{DeviceBlock}
use Rattle.file_stripes.specs.Taking.{sector_numbers}
use Rattle.crossbeam_utils.specs.Padded.{padded_value}
use Rattle.turn_cell.specs.Seats.{cell_view}
use Rattle.space_pool.specs.Pool.{fresh_pool}
use Rattle.space_pool.specs.Seats.{pool_cell}
use Rattle.mount_parts.proofs.Layings.{laid-none}
use Rattle.mount_parts.proofs.laying.leave_idle.Goals as goal

pub returns-clause-stripes : goal.returns-clause-stripes
returns-clause-stripes c =
    let pool = pool_cell c.in_ok-pool.pool in
    let F : List DeviceBlock → Type 0 = λ ss. pool.opening ≡ fresh_pool pool.opening.free (sector_numbers ss ++ sector_numbers c.new.result.items) 0 c.args.geometry.block_size in
    laid-none c.args.geometry c.args.cookie c.args.sectors.items c.new-none.result.items c.new.result.items c.args.files.now _ pool c.requires (ap (map (λ k. (cell_view (padded_value k)).opening)) c.new-2.ensures.items) c.new-none.ensures.items c.new.ensures.items
    c.in_ok-pool.ensures.free (subst F c.as_slice.ensures.value c.in_ok-pool.ensures.opening)
