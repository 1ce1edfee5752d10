-- A pass is split for another caller, and two passes are joined.
use Rattle.std.specs.Prelude.{◌≡◌, ℕ, ◌-◌, ◌<◌, Option, Some, None, All, map}
use Rattle.inode_lock.specs.View.{LockView, split_off}
use Rattle.turn_cell.specs.Views.{SeatView, kept_part, new_part}
use Rattle.range_core.specs.declared.entry.Entry.{Entry}
use Rattle.mount_parts.specs.Locks.{AreFresh}
use Rattle.mount_parts.specs.MountView.{MountView}
use Rattle.mini_fs.specs.BioSeats.{given_bios, kept_bios}
use Rattle.mini_fs.specs.PassView.{PassView, SizeSeat}

-- the share at each cell that a new pass gets
abbrev pub given_share : ℕ
given_share = 4294967296

-- the seats that are left at a stripe and at a size, and those of the new pass
abbrev pub kept_stripe : SeatView Entry → SeatView Entry
kept_stripe seat = kept_part seat given_share

abbrev pub given_stripe : SeatView Entry → SeatView Entry
given_stripe seat = new_part seat given_share

abbrev pub kept_size : SizeSeat → SizeSeat
kept_size s = record s { seat = kept_part s.seat given_share }

abbrev pub given_size : SizeSeat → SizeSeat
given_size s = record { seat = new_part s.seat given_share; rooms = 0 }

-- a seat at a lock, after another was split off it
abbrev pub kept_lock : Option LockView → Option LockView
kept_lock None = None
kept_lock (Some seat) = Some (split_off seat)

-- a seat at a lock is at home
abbrev pub IsHome : Option LockView → Type 0
IsHome place = (seat : LockView) × (place ≡ Some seat)

-- the pass holds no class of any file
abbrev pub HoldsNothing : PassView → Type 0
HoldsNothing p = All IsHome p.locks

-- The pass may be split: it has a spare number, a share at each cell that is greater than what the new pass gets, and holds no class
pub record CanSplit (p : PassView) : Type 0 where
  pub spare : 0 < p.spare
  pub stripes : All (λ s. given_share < s.share) p.stripes
  pub sizes : All (λ s. given_share < s.seat.share) p.sizes
  pub home : HoldsNothing p

-- What is left of a pass
abbrev pub kept_pass : PassView → PassView
kept_pass p = record p { stripes = map kept_stripe p.stripes; sizes = map kept_size p.sizes; locks = map kept_lock p.locks; spare = p.spare - 1; bios = kept_bios p.bios }

-- A new pass was split off: it has the lowest spare number and none to hand on, has seen what the first has and made nothing, has made no step at a lock, has the same last call, began no mapping, and has one of the shelves where there is another, and passed no bio
pub record SplitOff (m : MountView) (p q new : PassView) : Type 0 where
  pub left : q ≡ kept_pass p
  pub stripes : new.stripes ≡ map given_stripe p.stripes
  pub sizes : new.sizes ≡ map given_size p.sizes
  pub locks : AreFresh m.locks new.locks
  pub caller : new.caller ≡ 4294967296 - p.spare
  pub spare : new.spare ≡ 0
  pub last : new.last ≡ p.last
  pub begun : new.begun ≡ None
  pub bios : new.bios ≡ given_bios p.bios
