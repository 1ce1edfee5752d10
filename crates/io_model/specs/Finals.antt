use Rattle.std.specs.Prelude.{ℕ, [], Option, Some, None, IsTrue}
use Rattle.std.specs.Str.{bytes_eq}
use Rattle.iob_base.specs.DeviceBlock.{DeviceBlock}
use Rattle.iob_base.specs.declared.sector.Page.{Page}
use Rattle.io_model.specs.Contents.{Content, zeros}
use Rattle.io_model.specs.Effects.{replayed}
use Rattle.io_model.specs.Kinds.{kind_at, mapped_number}
use Rattle.io_model.specs.Lists.{each_from}
use Rattle.io_model.specs.Ranges.{ranged_calls}
use Rattle.io_model.specs.declared.run.Run.{Run}
use Rattle.io_model.specs.declared.script.Script.{Script}

abbrev pub sector_bytes : Option DeviceBlock → Content
sector_bytes None = []
sector_bytes (Some sector) = sector.bytes

-- what stands on the device for a block: its sector's bytes where it is mapped, zeros elsewhere
abbrev pub device_content : ℕ → Option ℕ → Option DeviceBlock → Content
device_content size None sector = zeros size
device_content size (Some d) sector = sector_bytes sector

-- the final content of a block: its dirty page, or else what stands on the device
abbrev pub final_content : ℕ → Option ℕ → Option DeviceBlock → Option Page → Content
final_content size mapped sector None = device_content size mapped sector
final_content size mapped sector (Some page) = page.bytes

-- the final content of each block is the replay of its whole journal
abbrev pub IsFinalContent : Script → Run → Type 0
IsFinalContent script run =
    IsTrue (each_from (λ f file. each_from (λ b block.
    bytes_eq (final_content script.geometry.block_size (mapped_number (kind_at file.extents b)) block.sector block.dirty)
    (replayed script (ranged_calls script run) f b block.journal)) 0 file.blocks) 0 run.ends.files)
