-- Shares that a pass gives a ticket and gets back.
use Rattle.std.specs.Prelude.{◌≡◌, ℕ, ◌+◌, List, map, slice_set}
use Rattle.turn_cell.specs.Views.{SeatView}
use Rattle.range_core.specs.declared.entry.Entry.{Entry}
use Rattle.mount_parts.specs.MountView.{MountView, stripe_at}
use Rattle.mini_fs.specs.PassView.{PassView, SizeSeat, share_at}
use Rattle.worked_mounts.specs.Alone.{only_file}

abbrev pub stripe_share : SeatView Entry → ℕ
stripe_share s = s.share

abbrev pub size_share : SizeSeat → ℕ
size_share s = s.seat.share

-- the shares of a pass at the stripes, in order, and at the sizes
abbrev pub stripe_shares : PassView → List ℕ
stripe_shares p = map stripe_share p.stripes

abbrev pub size_shares : PassView → List ℕ
size_shares p = map size_share p.sizes

-- A pass got a share of 1 at a stripe; all other shares, its seats at the locks and its spare numbers are as before
pub record GetsShare (stripe : ℕ) (p q : PassView) : Type 0 where
  pub stripes : stripe_shares q ≡ slice_set (stripe_shares p) stripe (share_at p stripe + 1)
  pub sizes : size_shares q ≡ size_shares p
  pub locks : q.locks ≡ p.locks
  pub spare : q.spare ≡ p.spare

-- the share of a pass at the stripe of the file's first block
abbrev pub first_share : MountView → PassView → ℕ
first_share m p = share_at p (stripe_at m only_file 0)
