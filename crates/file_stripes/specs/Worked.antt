-- A file of three stripes.
use Rattle.std.specs.Prelude.{None, [], ◌∷◌, List}
use Rattle.iob_base.specs.declared.stamp.Mode.TheVariants.{Cached}
use Rattle.io_model.specs.declared.file.BlockEnd.{BlockEnd}
use Rattle.io_model.specs.declared.file.Extent.{Extent}
use Rattle.io_model.specs.declared.file.FileSpec.{FileSpec}
use Rattle.io_model.specs.declared.file.Kind.TheVariants.{Hole, Mapped, Unwritten}
use Rattle.file_stripes.specs.Runs.{one_block}
use Rattle.file_stripes.specs.declared.run_end.RunEnd.{RunEnd}

abbrev pub worked_extents : List Extent
worked_extents = record { block = 129; length = 1; kind = Unwritten 0 } ∷ record { block = 63; length = 2; kind = Mapped 3 } ∷ []

-- a file of 130 blocks, two around the first border of stripes and the last with space
abbrev pub worked_file : FileSpec
worked_file = record { mode = Cached; blocks = 130; size = None; extents = worked_extents }

-- the end of a block without a sector
abbrev pub bare_block : BlockEnd
bare_block = record { sector = None; dirty = None; journal = [] }

-- what is left of a stripe of two blocks, one extent each
abbrev pub two_blocks : Extent → Extent → RunEnd
two_blocks first last = record { extents = first ∷ last ∷ []; blocks = bare_block ∷ bare_block ∷ [] }

-- what is left of two stripes, where an extent goes over the border
abbrev pub worked_ends : List RunEnd
worked_ends = two_blocks (one_block 0 Hole) (one_block 1 (Mapped 3)) ∷ two_blocks (one_block 2 (Mapped 4)) (one_block 3 Hole) ∷ []
