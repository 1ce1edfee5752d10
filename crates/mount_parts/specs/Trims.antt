-- What the sectors of a file's blocks become before the first call: the bytes at or past the file's size are zeros.
use Rattle.std.specs.Prelude.{ℕ, ◌+◌, Option, Some, None, List, [], ◌∷◌, ◌++◌, map, take, if◌then◌else◌}
use Rattle.iob_base.specs.DeviceBlock.{DeviceBlock, device_block}
use Rattle.io_model.specs.Contents.{cut_content}
use Rattle.io_model.specs.declared.file.Kind.{Kind}
use Rattle.range_core.specs.Cells.{sectors_after}
use Rattle.range_core.specs.Kinds.{has_space, is_mapped}

-- a sector of a block of a file that ends at this byte: zeros stand from the end on
abbrev pub zeroed_past : ℕ → ℕ → ℕ → DeviceBlock → DeviceBlock
zeroed_past size end b s = device_block s.number (cut_content size (Some end) b s.bytes)

-- the same for a block of this kind: the bytes of one that is not mapped are never shown, and stay
abbrev pub trimmed : ℕ → ℕ → ℕ → Kind → DeviceBlock → DeviceBlock
trimmed size end b kind s = if is_mapped kind then zeroed_past size end b s else s

-- of sectors in order, that of the next block, which is of this kind and may have none
abbrev pub next_trimmed : ℕ → ℕ → ℕ → Kind → List DeviceBlock → List DeviceBlock
next_trimmed size end b kind sectors = if has_space kind then map (trimmed size end b kind) (take 1 sectors) else []

-- the sectors of blocks of these kinds, from a block on
abbrev pub trimmed_from : ℕ → ℕ → ℕ → List Kind → List DeviceBlock → List DeviceBlock
trimmed_from size end b [] sectors = []
trimmed_from size end b (kind ∷ kinds) sectors = next_trimmed size end b kind sectors ++ trimmed_from size end (b + 1) kinds (sectors_after kind sectors)

-- the same for a file that may have no size: its sectors stay as they are
abbrev pub trimmed_in : ℕ → Option ℕ → ℕ → List Kind → List DeviceBlock → List DeviceBlock
trimmed_in size None b kinds sectors = sectors
trimmed_in size (Some end) b kinds sectors = trimmed_from size end b kinds sectors
