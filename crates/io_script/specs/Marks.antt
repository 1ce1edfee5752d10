use Rattle.std.specs.Prelude.{◌≡◌, ℕ, Bool, ◌&&◌, nat_le, nat_lt, ◌+◌, ◌<◌, false, List, length, slice_index_or}
use Rattle.std.specs.List.{list_any, range_with_len}

-- a number is one of so many from the first on
abbrev pub is_in_run : ℕ → ℕ → ℕ → Bool
is_in_run low n i = nat_le low i && nat_lt i (low + n)

-- one of so many numbers from the first on passes
abbrev pub some_from : (ℕ → Bool) → ℕ → ℕ → Bool
some_from test low n = list_any test (range_with_len low n)

-- a mark for each of so many numbers that says whether it passes
pub record AreMarks (marks : List Bool) (n : ℕ) (test : ℕ → Bool) : Type 0 where
  pub many : length marks ≡ n
  pub each : (i : ℕ) → i < n → slice_index_or marks i false ≡ test i
