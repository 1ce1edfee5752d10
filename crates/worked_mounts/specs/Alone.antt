-- A mount of one cached file, and a pass that stands at it between two of its calls.
use Rattle.std.specs.Prelude.{◌≡◌, ℕ, ◌<◌, All, IfSome, Some, slice_get}
use Rattle.iob_base.specs.Layout.{layout}
use Rattle.iob_base.specs.declared.stamp.FileId.{FileId}
use Rattle.iob_base.specs.declared.stamp.Mode.TheVariants.{Cached}
use Rattle.iomap_core.specs.declared.mapping.Iomap.{Iomap}
use Rattle.range_core.specs.declared.sample.Sample.{Sample}
use Rattle.mount_parts.specs.MountView.{HasFile, MountView, file_at, stripe_at}
use Rattle.mini_fs.specs.Mappings.{IsGivenAt, IsOpen, LiesInStripe}
use Rattle.mini_fs.specs.PassView.{IsPassOf, PassView, SizeSeat, share_at}
use Rattle.mini_fs.specs.SizeTurns.{size_at}
use Rattle.mini_fs.specs.Splits.{HoldsNothing}
use Rattle.mini_fs.specs.declared.begun.Begun.{Begun}

-- the one file of the mount
abbrev pub only_file : FileId
only_file = record { 0 = 0 }

-- the share of a pass at the first stripe
abbrev pub share_of : PassView → ℕ
share_of p = share_at p 0

-- The mount has a first file, which is cached, and blocks of 16 bytes in folios of four; the pass is of the mount, has the same share at all cells, and holds no class
pub record IsAlone (m : MountView) (p : PassView) : Type 0 where
  pub geometry : m.geometry ≡ layout 16 4
  pub exists : HasFile m only_file
  pub cached : (file_at m only_file).mode ≡ Cached
  pub of : IsPassOf m p
  pub shares : All (λ s. s.share ≡ share_of p) p.stripes
  pub size_shares : All (λ s. s.seat.share ≡ share_of p) p.sizes
  pub home : HoldsNothing p

-- A sample of blocks of a file that lie in one stripe was given to the pass
pub record IsSeen (m : MountView) (file : FileId) (p : PassView) (seen : Sample) : Type 0 where
  pub given : IsGivenAt p (stripe_at m file seen.extent.block) seen
  pub lies : LiesInStripe m file seen.extent

-- The pass has this mapping of a cached file open, and was given the sample on which it rests
pub record HasMapping (m : MountView) (p : PassView) (iomap : Iomap) : Type 0 where
  pub cached : (file_at m iomap.file).mode ≡ Cached
  pub unended : IsOpen m p iomap
  pub seen : IfSome p.begun (λ (begun : Begun). IsSeen m iomap.file p begun.sample)

-- every mapping that the first pass has, the second one has
abbrev pub KeepsMapping : MountView → PassView → PassView → Type 0
KeepsMapping m p q = (iomap : Iomap) → HasMapping m p iomap → HasMapping m q iomap

-- the pass has room for an entry at the size of the file
abbrev pub HasRoom : MountView → PassView → Type 0
HasRoom m p = (seat : SizeSeat) → slice_get p.sizes (size_at m only_file) ≡ Some seat → 0 < seat.rooms
