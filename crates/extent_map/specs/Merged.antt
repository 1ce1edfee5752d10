use Rattle.std.specs.Prelude.{◌≡◌, ℕ, ◌<◌, List, length, IsTrue}
use Rattle.extent_map.specs.BlockKinds.{kind_of_block}
use Rattle.io_model.specs.Kinds.{kind_at}
use Rattle.extent_map.specs.Expansion.{kinds_of}
use Rattle.io_model.specs.Fitting.{is_merged_from}
use Rattle.io_model.specs.declared.file.Extent.{Extent}
use Rattle.io_model.specs.declared.file.Kind.{Kind}

-- the extents say these kinds, block by block, cover them once, in order, and no two neighbours could be joined
pub record IsMergedList (kinds : List Kind) (extents : List Extent) : Type 0 where
  pub kinds_are : kinds_of extents ≡ kinds
  pub merged : IsTrue (is_merged_from 0 (length kinds) extents)

-- one list of kinds has one merged list
abbrev pub MergedListIsUnique : Type 0
MergedListIsUnique = (kinds : List Kind) (xs ys : List Extent) → IsMergedList kinds xs → IsMergedList kinds ys → xs ≡ ys

-- a merged list gives each block its kind
abbrev pub MergedListSaysTheKinds : Type 0
MergedListSaysTheKinds =
    (kinds : List Kind) (extents : List Extent) → IsMergedList kinds extents → (b : ℕ) → b < length kinds → kind_at extents b ≡ kind_of_block kinds b
