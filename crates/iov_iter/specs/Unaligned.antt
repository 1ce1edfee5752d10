use Rattle.std.specs.Prelude.{◌≡◌, ◌≢◌, ℕ, ◌+◌, ◌-◌, ◌%◌, ◌<◌, ◌≤◌, List, length, slice_index}

-- the index-th segment, from 1, has this length, which is no multiple of size, and those of all before it are
pub record IsFirstUnaligned (size : ℕ) (lengths : List ℕ) (index n : ℕ) : Type 0 where
  pub from_one : 1 ≤ index
  pub within : index ≤ length lengths
  pub is : slice_index lengths (index - 1) ≡ n
  pub unaligned : n % size ≢ 0
  pub aligned_before : (k : ℕ) → k + 1 < index → slice_index lengths k % size ≡ 0

-- the length of each segment is a multiple of size
abbrev pub AreAligned : ℕ → List ℕ → Type 0
AreAligned size lengths = (k : ℕ) → k < length lengths → slice_index lengths k % size ≡ 0
