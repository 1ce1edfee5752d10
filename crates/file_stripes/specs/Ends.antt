-- The ends of runs of blocks of one file, one after another.
use Rattle.std.specs.Prelude.{ℕ, ◌+◌, List, [], ◌∷◌, ◌++◌, length, IsTrue}
use Rattle.io_model.specs.Fitting.{is_merged_from}
use Rattle.io_model.specs.declared.file.BlockEnd.{BlockEnd}
use Rattle.io_model.specs.declared.file.Kind.{Kind}
use Rattle.file_stripes.specs.Kinds.{kinds_from}
use Rattle.file_stripes.specs.declared.run_end.RunEnd.{RunEnd}

-- the blocks of these runs, in order
abbrev pub blocks_in : List RunEnd → List BlockEnd
blocks_in [] = []
blocks_in (e ∷ ends) = e.blocks ++ blocks_in ends

-- from a block on, each run has a merged list of extents over its blocks, and the next begins where it ends
abbrev pub FollowOn : ℕ → List RunEnd → Type 0
FollowOn b [] = Unit {0}
FollowOn b (e ∷ ends) = IsTrue (is_merged_from b (b + length e.blocks) e.extents) × FollowOn (b + length e.blocks) ends

-- the kinds of the blocks of these runs, from a block on, as the extents of each give them
abbrev pub kinds_of_ends : ℕ → List RunEnd → List Kind
kinds_of_ends b [] = []
kinds_of_ends b (e ∷ ends) = kinds_from e.extents b (length e.blocks) ++ kinds_of_ends (b + length e.blocks) ends
