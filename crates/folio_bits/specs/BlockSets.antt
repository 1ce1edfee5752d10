-- Sets of the blocks of a folio. A set is a list that tells of each block whether it is in the set.
use Rattle.std.specs.Prelude.{◌≡◌, ℕ, ◌+◌, ◌<◌, ◌≤◌, Bool, true, false, ◌==◌, List, ◌++◌, take, drop, map, length, replicate, slice_index_or}
use Rattle.std.specs.List.{range_with_len}
use Rattle.std.specs.Int.{bit_at}

-- what contracts see of a folio: the blocks that are uptodate, and those that are dirty
pub record BlockSets : Type 0 where
  pub uptodate : List Bool
  pub dirty : List Bool

-- a folio of so many blocks, none of them in a set
abbrev pub no_blocks : ℕ → BlockSets
no_blocks blocks = record { uptodate = replicate blocks false; dirty = replicate blocks false }

-- the block is in the set; past the folio there is none
abbrev pub has : List Bool → ℕ → Bool
has blocks i = slice_index_or blocks i false

-- n blocks from `from` on are all in the set, or all out of it, and all others stay
abbrev pub with_run : List Bool → ℕ → ℕ → Bool → List Bool
with_run blocks from n b = take from blocks ++ replicate n b ++ drop (from + n) blocks

-- no block at or after `from` is in the set
abbrev pub HasNoneFrom : List Bool → ℕ → Type 0
HasNoneFrom blocks from = (i : ℕ) → from ≤ i → has blocks i ≡ false

-- The n blocks from `at` on are the first run of the set at or after `from`: no block from `from` up to it is in the
-- set, all of it are, and the block after it is not
pub record IsNextRun (blocks : List Bool) (from at n : ℕ) : Type 0 where
  pub after : from ≤ at
  pub some : 0 < n
  pub inside : at + n ≤ length blocks
  pub none_before : (i : ℕ) → from ≤ i → i < at → has blocks i ≡ false
  pub all : (i : ℕ) → at ≤ i → i < at + n → has blocks i ≡ true
  pub ends : has blocks (at + n) ≡ false

-- the block of this number is in the set that a word's bits tell
abbrev pub is_set : ℕ → ℕ → Bool
is_set mask i = bit_at mask i == 1

-- the set of the blocks of a folio that a word's bits tell
abbrev pub set_of : ℕ → ℕ → List Bool
set_of blocks mask = map (is_set mask) (range_with_len 0 blocks)

-- the n bits from `at` on are the lowest run of ones of a word
pub record IsLowestRun (mask at n : ℕ) : Type 0 where
  pub some : 0 < n
  pub zeros : (i : ℕ) → i < at → bit_at mask i ≡ 0
  pub ones : (i : ℕ) → at ≤ i → i < at + n → bit_at mask i ≡ 1
  pub ends : bit_at mask (at + n) ≡ 0
