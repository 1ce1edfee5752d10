-- What happens to the blocks of a run, one by one.
use Rattle.std.specs.Prelude.{ℕ, zero, suc, ◌+◌, ◌-◌, Bool, List, [], ◌∷◌}
use Rattle.range_core.specs.EntryCounts.{one_where}
use Rattle.range_core.specs.RangeView.{RangeView}
use Rattle.range_core.specs.declared.cell.Cell.{Cell}

module _ {A : Type 0} where
  -- a list with the n items from a place on changed, each by its number in the run, the first of which is k
  abbrev pub on_each : (ℕ → A → A) → ℕ → ℕ → ℕ → List A → List A
  on_each f k zero zero xs = xs
  on_each f k zero (suc n) [] = []
  on_each f k zero (suc n) (x ∷ xs) = f k x ∷ on_each f (suc k) zero n xs
  on_each f k (suc low) n [] = []
  on_each f k (suc low) n (x ∷ xs) = x ∷ on_each f k low n xs

  -- the same where all items change alike
  abbrev pub on_run : (A → A) → ℕ → ℕ → List A → List A
  on_run f low n xs = on_each (λ _. f) 0 low n xs

  -- how many of the n items from a place on pass a test
  abbrev pub count_on : (A → Bool) → ℕ → ℕ → List A → ℕ
  count_on p zero zero xs = 0
  count_on p zero (suc n) [] = 0
  count_on p zero (suc n) (x ∷ xs) = one_where (p x) + count_on p zero n xs
  count_on p (suc low) n [] = 0
  count_on p (suc low) n (x ∷ xs) = count_on p low n xs

-- a range with the n blocks from b on changed
abbrev pub with_run : (Cell → Cell) → RangeView → ℕ → ℕ → RangeView
with_run f r b n = record r { cells = on_run f (b - r.first) n r.cells }

-- a range with the n blocks from b on changed, each by its number in the run
abbrev pub with_each : (ℕ → Cell → Cell) → RangeView → ℕ → ℕ → RangeView
with_each f r b n = record r { cells = on_each f 0 (b - r.first) n r.cells }
