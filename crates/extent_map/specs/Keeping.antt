use Rattle.std.specs.Prelude.{◌≡◌, ℕ, ◌+◌, ◌<◌, ◌≤◌, ◌^◌, Bool, false, List, [], ◌∷◌, length, take}
use Rattle.extent_map.specs.Expansion.{kinds_of, NumbersFit}
use Rattle.io_model.specs.Fitting.{could_be_joined}
use Rattle.io_model.specs.declared.file.Extent.{Extent}

-- an extent begins at block a, has a block at least, and its device numbers fit
pub record BeginsAt (a : ℕ) (e : Extent) : Type 0 where
  pub at : e.block ≡ a
  pub some : 0 < e.length
  pub fits : NumbersFit e.kind e.length

-- extents follow on one another from block a on
abbrev pub FollowOn : ℕ → List Extent → Type 0
FollowOn a [] = Unit {0}
FollowOn a (e ∷ es) = BeginsAt a e × FollowOn (a + e.length) es

-- the first of these extents could be joined with the one before them
abbrev pub goes_on : Extent → List Extent → Bool
goes_on e [] = false
goes_on e (next ∷ es) = could_be_joined e next

-- no two neighbours could be joined
abbrev pub Apart : List Extent → Type 0
Apart [] = Unit {0}
Apart (e ∷ es) = (goes_on e es ≡ false) × Apart es

-- the first block of the i-th extent
abbrev pub start_of : List Extent → ℕ → ℕ
start_of es i = length (kinds_of (take i es))

-- what the runs of a map keep
pub record IsKept (runs : List Extent) : Type 0 where
  pub follow : FollowOn 0 runs
  pub apart : Apart runs
  pub short : length (kinds_of runs) < 2 ^ 64

-- block b lies in the i-th extent
pub record LiesIn (runs : List Extent) (b i : ℕ) : Type 0 where
  pub within : i < length runs
  pub from : start_of runs i ≤ b
  pub below : b < start_of runs (i + 1)
