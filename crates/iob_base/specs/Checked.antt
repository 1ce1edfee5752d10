use Rattle.std.specs.Prelude.{ℕ, if◌then◌else◌, Result, Ok, Err}
use Rattle.iob_base.specs.Geometry.{is_block_size, is_folio_blocks, is_grain}
use Rattle.iob_base.specs.Layout.{Layout, layout, layout_with_grain}
use Rattle.iob_base.specs.declared.geometry.BadGeometry.{BadGeometry}
use Rattle.iob_base.specs.declared.geometry.BadGeometry.TheVariants.{BlockSize, FolioBlocks, Grain}

-- the geometry of two sizes, or which of them is wrong: the block size is looked at first
abbrev pub checked_geometry : ℕ → ℕ → Result Layout BadGeometry
checked_geometry size blocks =
    if is_block_size size then (if is_folio_blocks blocks then Ok (layout size blocks) else Err (FolioBlocks blocks)) else Err (BlockSize size)

-- the same with a grain, which is looked at last
abbrev pub checked_grain : ℕ → ℕ → ℕ → Result Layout BadGeometry
checked_grain size blocks grain =
    if is_block_size size then (if is_folio_blocks blocks then (if is_grain size grain then Ok (layout_with_grain size blocks grain) else Err (Grain grain))
    else Err (FolioBlocks blocks)) else Err (BlockSize size)
