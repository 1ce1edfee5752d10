use Rattle.std.specs.Prelude.{ℕ, ◌+◌, List, ◌++◌, take, drop, slice_index_or}
use Rattle.extent_map.specs.Expansion.{run_of}
use Rattle.io_model.specs.declared.file.Kind.{Kind}
use Rattle.io_model.specs.declared.file.Kind.TheVariants.{Hole}

-- what contracts see of a map: the kind of each block, and how many cuts are spare
pub record BlockKinds : Type 0 where
  pub kinds : List Kind
  pub spare : ℕ

-- n blocks from b on become a run of this kind, and all others stay
abbrev pub with_run : List Kind → ℕ → ℕ → Kind → List Kind
with_run kinds b n k = take b kinds ++ run_of k n ++ drop (b + n) kinds

-- the kind of a block of the list
abbrev pub kind_of_block : List Kind → ℕ → Kind
kind_of_block kinds b = slice_index_or kinds b Hole
