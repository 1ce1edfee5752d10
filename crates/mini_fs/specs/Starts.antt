-- How a mount and its first pass begin.
use Rattle.std.specs.Prelude.{◌≡◌, ℕ, None, List, map}
use Rattle.iob_base.specs.DeviceBlock.{DeviceBlock}
use Rattle.iob_base.specs.Layout.{Layout}
use Rattle.io_model.specs.declared.file.FileSpec.{FileSpec}
use Rattle.turn_cell.specs.Views.{CellView}
use Rattle.size_core.specs.SizesView.{SizesView}
use Rattle.mount_parts.specs.FilePlaces.{places_from}
use Rattle.mount_parts.specs.FirstSizes.{first_sizes}
use Rattle.mount_parts.specs.Locks.{AreFresh}
use Rattle.mount_parts.specs.MountView.{MountView}
use Rattle.mount_parts.specs.OpeningContents.{HaveContents}
use Rattle.mount_parts.specs.Pieces.{LaidStripes, is_first_at}
use Rattle.mini_fs.specs.BioSeats.{AreFirst}
use Rattle.mini_fs.specs.PassView.{PassView, SizeSeat}
use Rattle.mini_fs.specs.Splits.{HoldsNothing}

-- the first seat at a size cell, which has room for no entry
abbrev pub first_size_seat : CellView SizesView → SizeSeat
first_size_seat c = record { seat = is_first_at c; rooms = 0 }

-- A mount began over these sectors with these files, and this is its first pass: it has the whole share at each cell, has seen and made nothing, holds no class, has the caller number 0 and all others to hand on, made no call and began no mapping; it has all shelves of a new queue for 64 bios
pub record Started (geometry : Layout) (cookie : ℕ) (sectors : List DeviceBlock) (files : List FileSpec) (m : MountView) (p : PassView) : Type 0 where
  pub geometry_is : m.geometry ≡ geometry
  pub files_are : m.files ≡ places_from 0 0 files
  pub stripes : LaidStripes geometry cookie sectors files (map (λ c. c.opening) m.stripes) m.pool m.idle
  pub contents : HaveContents geometry.block_size sectors files (map (λ c. c.opening) m.stripes)
  pub sizes : map (λ c. c.opening) m.sizes ≡ first_sizes geometry.block_size files
  pub stripe_seats : p.stripes ≡ map is_first_at m.stripes
  pub size_seats : p.sizes ≡ map first_size_seat m.sizes
  pub lock_seats : AreFresh m.locks p.locks
  pub home : HoldsNothing p
  pub caller : p.caller ≡ 0
  pub spare : p.spare ≡ 4294967295
  pub last : p.last ≡ 0
  pub begun : p.begun ≡ None
  pub capacity : m.queue.capacity ≡ 64
  pub bios : AreFirst m.queue.queue p.bios
