use Rattle.std.specs.Prelude.{ℕ, ◌+◌, List, [], ◌∷◌, Some}
use Rattle.io_model.specs.RunText.{image_line}
use Rattle.io_model.specs.declared.file.BlockEnd.{BlockEnd}
use Rattle.io_model.specs.declared.file.Kind.{Kind}
use Rattle.io_model.specs.declared.file.Kind.TheVariants.{Hole, Delalloc, Unwritten, Mapped}

-- the image lines of blocks that are all mapped; a line does not show the number on the device
abbrev pub mapped_lines : List ℕ → ℕ → List BlockEnd → List ℕ → List ℕ
mapped_lines name b [] rest = rest
mapped_lines name b (block ∷ blocks) rest = image_line name b (Some 0) block.dirty block.sector (mapped_lines name (b + 1) blocks rest)

-- the image lines of the blocks of an extent of this kind
abbrev pub lines_of_kind : Kind → List ℕ → ℕ → List BlockEnd → List ℕ → List ℕ
lines_of_kind Hole name b blocks rest = rest
lines_of_kind Delalloc name b blocks rest = rest
lines_of_kind (Unwritten d) name b blocks rest = rest
lines_of_kind (Mapped d) name b blocks rest = mapped_lines name b blocks rest
