-- A pass that has all there is of each cell of a mount.
use Rattle.std.specs.Prelude.{◌≡◌, ◌^◌, All}
use Rattle.turn_cell.specs.Views.{SeatView}
use Rattle.size_core.specs.declared.entry.SizeEntry.{SizeEntry}
use Rattle.mini_fs.specs.PassView.{PassView, SizeSeat}

-- The pass has the whole share at each stripe and at each size
pub record HasWhole (p : PassView) : Type 0 where
  pub stripes : All (λ s. s.share ≡ 2 ^ 63) p.stripes
  pub sizes : All (λ s. s.seat.share ≡ 2 ^ 63) p.sizes

-- a seat at a size, without its rooms
abbrev pub seat_of_size : SizeSeat → SeatView SizeEntry
seat_of_size s = s.seat
