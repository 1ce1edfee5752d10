-- Free sectors, and how they come and go.
use Rattle.std.specs.Prelude.{◌≡◌, ℕ, ◌+◌, ◌≤◌, List, ◌++◌, length, All}
use Rattle.std.specs.List.Sorted.{IsNonDecreasingBy}
use Rattle.std.specs.Ordering.{nat_cmp}
use Rattle.std.specs.declared.cmp.Ordering.{Ordering}
use Rattle.iob_base.specs.DeviceBlock.{DeviceBlock}
use Rattle.turn_cell.specs.Stakes.{total}

-- the free sectors, and how many there is room for
pub record FreeView : Type 0 where
  pub sectors : List DeviceBlock
  pub room : ℕ

-- of two sectors the one with the lower number is the greater
abbrev pub lowest_first : DeviceBlock → DeviceBlock → Ordering
lowest_first s t = nat_cmp t.number s.number

-- the second list has the sectors of the first, in some order: however sectors are weighed, both weigh the same
abbrev pub SameSectors : List DeviceBlock → List DeviceBlock → Type 0
SameSectors xs ys = (f : DeviceBlock → ℕ) → total f ys ≡ total f xs

-- the first two lists together have the sectors of the third, in some order
abbrev pub MovesInto : List DeviceBlock → List DeviceBlock → List DeviceBlock → Type 0
MovesInto xs ys zs = (f : DeviceBlock → ℕ) → total f zs ≡ total f xs + total f ys

-- no sector of the first list has a higher number than one of the second
abbrev pub AreBelow : List DeviceBlock → List DeviceBlock → Type 0
AreBelow xs ys = All (λ x. All (λ y. x.number ≤ y.number) ys) xs

-- So many sectors with the lowest numbers went from `free`, which has `left` now, to the end of `before`, in order
pub record TakesLowest (n : ℕ) (free before left after : List DeviceBlock) : Type 0 where
  pub taken : List DeviceBlock
  pub appended : after ≡ before ++ taken
  pub count : length taken ≡ n
  pub moved : MovesInto taken left free
  pub ordered : IsNonDecreasingBy (λ s. s.number) taken
  pub lowest : AreBelow taken left
