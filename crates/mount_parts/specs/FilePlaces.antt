-- Where files lie in a mount: the stripes and the size cells of each behind those of the files before it.
use Rattle.std.specs.Prelude.{ℕ, ◌+◌, Option, Some, None, List, [], ◌∷◌}
use Rattle.io_model.specs.declared.file.FileSpec.{FileSpec}
use Rattle.mount_parts.specs.MountView.{size_cells, stripes_of}
use Rattle.mount_parts.specs.declared.file.FilePlace.{FilePlace}

-- a file that has a size has this size cell
abbrev pub sized_at : Option ℕ → ℕ → Option ℕ
sized_at None cell = None
sized_at (Some size) cell = Some cell

-- a file whose stripes and size cell begin here
abbrev pub place_of : FileSpec → ℕ → ℕ → FilePlace
place_of f stripe cell = record { mode = f.mode; blocks = f.blocks; stripe = stripe; size = sized_at f.size cell }

-- files one after another, from this stripe and this size cell on
abbrev pub places_from : ℕ → ℕ → List FileSpec → List FilePlace
places_from stripe cell [] = []
places_from stripe cell (f ∷ fs) = place_of f stripe cell ∷ places_from (stripe + stripes_of f.blocks) (cell + size_cells (sized_at f.size cell)) fs

-- how many stripes and size cells files have
abbrev pub stripes_of_files : List FileSpec → ℕ
stripes_of_files [] = 0
stripes_of_files (f ∷ fs) = stripes_of f.blocks + stripes_of_files fs

abbrev pub sizes_of_files : List FileSpec → ℕ
sizes_of_files [] = 0
sizes_of_files (f ∷ fs) = size_cells (sized_at f.size 0) + sizes_of_files fs
