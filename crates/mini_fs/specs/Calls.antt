-- What input and output calls ask of a pass, and how they leave it.
use Rattle.std.specs.Prelude.{◌≡◌, ℕ, ◌<◌, ◌≤◌, Some, slice_get}
use Rattle.iob_base.specs.declared.stamp.FileId.{FileId}
use Rattle.turn_cell.specs.Views.{SeatView}
use Rattle.range_core.specs.declared.entry.Entry.{Entry}
use Rattle.mount_parts.specs.MountView.{HasBlock, HasFile, MountView, stripe_at}
use Rattle.mini_fs.specs.Holds.{HoldsNone}
use Rattle.mini_fs.specs.PassView.{IsPassOf, PassView, share_at}
use Rattle.mini_fs.specs.Tickets.{KeepsTickets}

-- each seat of the pass at a stripe of the file has at least this share
abbrev pub HasShares : MountView → FileId → ℕ → PassView → Type 0
HasShares m file least p = (b : ℕ) → HasBlock m file b → least ≤ share_at p (stripe_at m file b)

-- each seat of the first pass has the same share in the second
abbrev pub KeepsShares : PassView → PassView → Type 0
KeepsShares p q = (stripe : ℕ) (seat : SeatView Entry) → slice_get p.stripes stripe ≡ Some seat → share_at q stripe ≡ seat.share

-- A pass may go to a call of this number at a file: it is of the mount, the file exists, it holds no class of it and has enough of a share at its stripes, and its calls so far have lower numbers
pub record MayCall (m : MountView) (file : FileId) (call : ℕ) (p : PassView) : Type 0 where
  pub of : IsPassOf m p
  pub exists : HasFile m file
  pub free : HoldsNone p file
  pub shares : HasShares m file 128 p
  pub later : p.last < call

-- A call of this number leaves its pass with the shares, the numbers and the tickets that it had, and without a class of the file
pub record LeavesPass (m : MountView) (file : FileId) (call : ℕ) (p q : PassView) : Type 0 where
  pub of : IsPassOf m q
  pub last : q.last ≡ call
  pub caller : q.caller ≡ p.caller
  pub spare : q.spare ≡ p.spare
  pub shares : KeepsShares p q
  pub free : HoldsNone q file
  pub tickets : KeepsTickets p q
