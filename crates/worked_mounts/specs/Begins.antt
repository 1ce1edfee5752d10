-- How a mount of one cached file may begin.
use Rattle.std.specs.Prelude.{◌≡◌, ℕ, ◌+◌, ◌*◌, ◌<◌, ◌≤◌, ◌&&◌, Bool, true, nat_le, nat_lt, All, IfSome, IsTrue, Option, List, [], ◌∷◌, length}
use Rattle.iob_base.specs.DeviceBlock.{DeviceBlock}
use Rattle.iob_base.specs.declared.TheConstants.{WORN}
use Rattle.iob_base.specs.declared.stamp.Mode.TheVariants.{Cached}
use Rattle.io_model.specs.declared.file.Extent.{Extent}
use Rattle.io_model.specs.declared.file.FileSpec.{FileSpec}
use Rattle.file_stripes.specs.Files.{IsFile, numbers_of_file, numbers_of_files}
use Rattle.file_stripes.specs.Taking.{AreInOrder, IsWhole}
use Rattle.mount_parts.specs.FirstSizes.{MayHaveSize}

-- a cached file of so many blocks, with this size and these extents
abbrev pub file_with : ℕ → Option ℕ → List Extent → FileSpec
file_with blocks size extents = record { mode = Cached; blocks = blocks; size = size; extents = extents }

-- these numbers go up, and lie from one up to another
abbrev pub rise : ℕ → ℕ → List ℕ → Bool
rise low high [] = true
rise low high (d ∷ ds) = nat_le low d && (nat_lt d high && rise (d + 1) high ds)

-- A device of so many blocks may have a file with this size and these extents, whose device numbers go up, and its ranges may begin with this cookie
pub record MayBegin (device blocks : ℕ) (size : Option ℕ) (cookie : ℕ) (extents : List Extent) : Type 0 where
  pub file : IsFile (file_with blocks size extents)
  pub numbers : IsTrue (rise 0 device (numbers_of_file (file_with blocks size extents)))
  pub sized : IfSome size (λ n. n ≤ blocks * 16)
  pub cookie_is : cookie ≤ WORN

-- A device of so many blocks, each of 16 bytes, may have these cached files, whose device numbers go up from one to the next
pub record MayHold (device : ℕ) (files : List FileSpec) : Type 0 where
  pub each : All IsFile files
  pub cached : All (λ f. f.mode ≡ Cached) files
  pub numbers : IsTrue (rise 0 device (numbers_of_files files))
  pub sized : All (MayHaveSize 16) files

-- The blocks of a device of so many, each of 16 bytes, in the order of their numbers
pub record IsDevice (blocks : ℕ) (sectors : List DeviceBlock) : Type 0 where
  pub count : length sectors ≡ blocks
  pub order : AreInOrder 0 sectors
  pub whole : All (IsWhole 16) sectors
