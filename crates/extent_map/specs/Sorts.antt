use Rattle.std.specs.Prelude.{◌≡◌, ℕ, ◌<◌, ◌≤◌, Bool, true, false, not, List, length, slice_index_or, IsTrue}
use Rattle.extent_map.specs.BlockKinds.{kind_of_block}
use Rattle.io_model.specs.declared.file.Extent.{Extent}
use Rattle.io_model.specs.declared.file.Kind.{Kind}
use Rattle.io_model.specs.declared.file.Kind.TheVariants.{Hole}

abbrev pub is_hole : Kind → Bool
is_hole Hole = true
is_hole _ = false

abbrev pub is_data : Kind → Bool
is_data k = not (is_hole k)

-- no block from b on, below the other, is of the sort
abbrev pub NoneBetween : (Kind → Bool) → List Kind → ℕ → ℕ → Type 0
NoneBetween sort kinds b end = (y : ℕ) → b ≤ y → y < end → IsTrue (not (sort (kind_of_block kinds y)))

-- no block of the list, at or after b, is of the sort
abbrev pub NoneFrom : (Kind → Bool) → List Kind → ℕ → Type 0
NoneFrom sort kinds b = NoneBetween sort kinds b (length kinds)

-- x is the least block of the list, at or after b, whose kind is of the sort
pub record IsLeastFrom (sort : Kind → Bool) (kinds : List Kind) (b x : ℕ) : Type 0 where
  pub from : b ≤ x
  pub within : x < length kinds
  pub here : IsTrue (sort (kind_of_block kinds x))
  pub none_before : NoneBetween sort kinds b x

-- whether a kind is a hole, or is not
abbrev pub is_sort : Bool → Kind → Bool
is_sort true k = is_hole k
is_sort false k = is_data k

-- the i-th extent is not of the sort
abbrev pub IsOther : Bool → List Extent → ℕ → Type 0
IsOther hole es i = (d : Extent) → i < length es → is_sort hole (slice_index_or es i d).kind ≡ false
