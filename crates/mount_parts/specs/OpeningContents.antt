-- The content of the blocks of files before the first call, as the device gives it.
use Rattle.std.specs.Prelude.{◌≡◌, ℕ, ◌+◌, ◌/◌, ◌%◌, ◌<◌, Option, Some, None, List, slice_get}
use Rattle.iob_base.specs.DeviceBlock.{DeviceBlock}
use Rattle.io_model.specs.Contents.{Content, cut_content, zeros}
use Rattle.io_model.specs.Finals.{sector_bytes}
use Rattle.io_model.specs.Kinds.{kind_at, mapped_number}
use Rattle.io_model.specs.declared.file.FileSpec.{FileSpec}
use Rattle.range_core.specs.BlockContents.{opening_bytes}
use Rattle.range_core.specs.RangeView.{RangeView}
use Rattle.mount_parts.specs.FilePlaces.{places_from}
use Rattle.mount_parts.specs.declared.file.FilePlace.{FilePlace}

-- the bytes of a device's sector for a block whose bytes are its own, zeros for every other
abbrev pub bytes_or_zeros : ℕ → List DeviceBlock → Option ℕ → Content
bytes_or_zeros size sectors None = zeros size
bytes_or_zeros size sectors (Some d) = sector_bytes (slice_get sectors d)

-- the content of a file's block over these sectors of a device: zeros where the file does not map it, and from the file's size on (iomap: holes and unwritten space read as zeros)
abbrev pub first_content : ℕ → List DeviceBlock → FileSpec → ℕ → Content
first_content size sectors file b = cut_content size file.size b (bytes_or_zeros size sectors (mapped_number (kind_at file.extents b)))

-- Each block of each file has that content in the range that was opened with its stripe
abbrev pub HaveContents : ℕ → List DeviceBlock → List FileSpec → List RangeView → Type 0
HaveContents size sectors files openings = (k b : ℕ) (f : FileSpec) (file : FilePlace) (o : RangeView) → slice_get files k ≡ Some f → slice_get (places_from 0 0 files) k ≡ Some file → b < f.blocks → slice_get openings (file.stripe + b / 64) ≡ Some o
    → opening_bytes size (slice_get o.cells (b % 64)) ≡ first_content size sectors f b
