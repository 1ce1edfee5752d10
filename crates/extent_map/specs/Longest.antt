use Rattle.std.specs.Prelude.{◌≡◌, ℕ, ◌≤◌, Bool, false, List, [], ◌∷◌, take, drop}
use Rattle.io_model.specs.Kinds.{is_kind}
use Rattle.extent_map.specs.Expansion.{run_of, NumbersFit}
use Rattle.io_model.specs.declared.file.Extent.{Extent}
use Rattle.io_model.specs.declared.file.Kind.{Kind}

-- the list has n blocks from b on, and they are a run of this kind: consecutive device numbers
abbrev pub IsRunAt : List Kind → ℕ → Kind → ℕ → Type 0
IsRunAt kinds b k n = take n (drop b kinds) ≡ run_of k n

-- no run from b on of at most so many blocks is longer
abbrev pub IsLongest : List Kind → ℕ → ℕ → ℕ → Type 0
IsLongest kinds b max length = (k : Kind) (n : ℕ) → n ≤ max → IsRunAt kinds b k n → n ≤ length

-- what a look-up from block b on gives: the longest run of one kind with consecutive device numbers, cut at max blocks
pub record IsLookup (kinds : List Kind) (b max : ℕ) (e : Extent) : Type 0 where
  pub block : e.block ≡ b
  pub some : 1 ≤ e.length
  pub cut : e.length ≤ max
  pub run : IsRunAt kinds b e.kind e.length
  pub longest : IsLongest kinds b max e.length
  pub numbers : NumbersFit e.kind e.length

-- the list begins with this kind
abbrev pub begins : Kind → List Kind → Bool
begins k [] = false
begins k (x ∷ xs) = is_kind k x

-- a block of a list has one look-up
abbrev pub LookupIsUnique : Type 0
LookupIsUnique = (kinds : List Kind) (b max : ℕ) (e f : Extent) → IsLookup kinds b max e → IsLookup kinds b max f → e ≡ f
