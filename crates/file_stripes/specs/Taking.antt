-- The sectors of a device, and those that files name.
use Rattle.std.specs.Prelude.{◌≡◌, ℕ, ◌+◌, ◌<◌, ◌≤◌, ◌==◌, if◌then◌else◌, Option, None, List, [], ◌∷◌, ◌++◌, All, length, map, slice_index_or, slice_set}
use Rattle.std.specs.Option.{option_to_list}
use Rattle.iob_base.specs.DeviceBlock.{DeviceBlock}

-- the weights of the sectors, added up
abbrev pub weight : (DeviceBlock → ℕ) → List DeviceBlock → ℕ
weight f [] = 0
weight f (s ∷ ss) = f s + weight f ss

-- how often a number stands in a list
abbrev pub times : ℕ → List ℕ → ℕ
times x [] = 0
times x (y ∷ ys) = (if y == x then 1 else 0) + times x ys

-- the numbers of sectors, in order
abbrev pub sector_numbers : List DeviceBlock → List ℕ
sector_numbers sectors = map (λ s. s.number) sectors

-- a sector has so many bytes
abbrev pub IsWhole : ℕ → DeviceBlock → Type 0
IsWhole size s = length s.bytes ≡ size

-- the sectors' numbers go up by one, from a number on
abbrev pub AreInOrder : ℕ → List DeviceBlock → Type 0
AreInOrder n [] = Unit {0}
AreInOrder n (s ∷ ss) = (s.number ≡ n) × AreInOrder (n + 1) ss

-- these are numbers of a device of so many blocks, and none stands twice
pub record AreNamedOnce (blocks : ℕ) (numbers : List ℕ) : Type 0 where
  pub below : All (λ d. d < blocks) numbers
  pub once : (x : ℕ) → times x numbers ≤ 1

-- the sectors whose number is not among these, in order
abbrev pub not_named : List ℕ → List DeviceBlock → List DeviceBlock
not_named numbers [] = []
not_named numbers (s ∷ ss) = if times s.number numbers == 0 then s ∷ not_named numbers ss else not_named numbers ss

-- the second list begins with the first
abbrev pub BeginsWith : List ℕ → List ℕ → Type 0
BeginsWith part whole = (rest : List ℕ) × (whole ≡ part ++ rest)

-- what is in the places of a list, in order
abbrev pub somes : List (Option DeviceBlock) → List DeviceBlock
somes [] = []
somes (place ∷ places) = option_to_list place ++ somes places

-- what stands at these places, taken out one after another
abbrev pub taken : List ℕ → List (Option DeviceBlock) → List DeviceBlock
taken [] places = []
taken (d ∷ ds) places = option_to_list (slice_index_or places d None) ++ taken ds (slice_set places d None)

-- the places after that
abbrev pub taken_out : List ℕ → List (Option DeviceBlock) → List (Option DeviceBlock)
taken_out [] places = places
taken_out (d ∷ ds) places = taken_out ds (slice_set places d None)
