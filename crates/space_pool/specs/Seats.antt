-- What contracts see of a space pool.
use Rattle.turn_cell.specs.Views.{CellView}
use Rattle.turn_cell.specs.Seats.{cell_view}
use Rattle.space_pool.specs.declared.cell.SpacePool.{SpacePool}
use Rattle.space_pool.specs.Pool.{PoolView}

-- which pool it is, and what it was opened with
abbrev pub pool_cell : SpacePool → CellView PoolView
pool_cell p = cell_view p.cell
