-- The sizes of files before the first call.
use Rattle.std.specs.Prelude.{◌≡◌, ℕ, ◌*◌, ◌≤◌, Option, Some, None, IfSome, List, [], ◌∷◌, ◌++◌}
use Rattle.iob_base.specs.declared.stamp.Mode.TheVariants.{Cached}
use Rattle.io_model.specs.declared.file.FileSpec.{FileSpec}
use Rattle.size_core.specs.SizesView.{SizesView, fresh_sizes}

-- A file may have its size: it is cached, and the size is at most its end
abbrev pub MayHaveSize : ℕ → FileSpec → Type 0
MayHaveSize size f = IfSome f.size (λ n. (f.mode ≡ Cached) × (n ≤ f.blocks * size))

-- what the cell of a file's size is opened with, where it has one, and the file ends there
abbrev pub size_from : Option ℕ → ℕ → List SizesView
size_from None end = []
size_from (Some n) end = fresh_sizes n end ∷ []

-- the sizes of files that have one, in order, with blocks of so many bytes
abbrev pub first_sizes : ℕ → List FileSpec → List SizesView
first_sizes size [] = []
first_sizes size (f ∷ fs) = size_from f.size (f.blocks * size) ++ first_sizes size fs
