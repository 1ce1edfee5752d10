-- The seats at the locks of files.
use Rattle.std.specs.Prelude.{◌≡◌, ℕ, Option, Some, List, [], ◌∷◌}
use Rattle.atomic_table.specs.Seated.{TableId}
use Rattle.inode_lock.specs.View.{LockView, fresh}

-- new seats at these locks, one by one, which made no step
abbrev pub AreFresh : List TableId → List (Option LockView) → Type 0
AreFresh [] [] = Unit {0}
AreFresh (id ∷ ids) (place ∷ places) = ((number : ℕ) × (place ≡ Some (fresh id number))) × AreFresh ids places
AreFresh _ _ = ⊥
