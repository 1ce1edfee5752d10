use Rattle.std.specs.Prelude.{◌≡◌, ℕ, ◌+◌, List, ◌∷◌, ◌++◌, length, take, drop}
use Rattle.io_model.specs.declared.file.Extent.{Extent}
use Rattle.io_model.specs.declared.file.Kind.{Kind}
use Rattle.extent_map.specs.Expansion.{kinds_of}
use Rattle.extent_map.specs.Keeping.{Apart, FollowOn}

-- a run of n blocks from b on
abbrev pub run_at : ℕ → ℕ → Kind → Extent
run_at b n k = record { block = b; length = n; kind = k }

-- extents that say the kinds below a block
pub record Front (runs : List Extent) (b : ℕ) (l : List Extent) : Type 0 where
  pub kinds : kinds_of l ≡ take b (kinds_of runs)
  pub follow : FollowOn 0 l
  pub apart : Apart l

-- extents that say the kinds from a block on
pub record Back (runs : List Extent) (b : ℕ) (r : List Extent) : Type 0 where
  pub kinds : kinds_of r ≡ drop b (kinds_of runs)
  pub follow : FollowOn b r
  pub apart : Apart r

-- a run stands between those before it and those after it
pub record Between (runs : List Extent) (b n : ℕ) (k : Kind) (from : ℕ) (now : List Extent) : Type 0 where
  pub l : List Extent
  pub r : List Extent
  pub front : Front runs b l
  pub back : Back runs (b + n) r
  pub long : length l ≡ from
  pub is : now ≡ l ++ run_at b n k ∷ r
