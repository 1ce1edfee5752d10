-- What each kind of step tells the seat that makes it.
use Rattle.std.specs.Prelude.{ℕ, ◌<◌, ◌≤◌, ◌==◌, None}
use Rattle.atomic_table.specs.Table.{Me, Step}
use Rattle.inode_lock.specs.declared.word.Class.{Class}
use Rattle.inode_lock.specs.declared.word.Class.TheVariants.{Exclusive}
use Rattle.inode_lock.specs.declared.steps.Step.TheVariants.{Look, Take, Leave}
use Rattle.inode_lock.specs.declared.steps.Known.{Known}
use Rattle.inode_lock.specs.Word.{told}
use Rattle.inode_lock.specs.Steps.{IsAfter, held_after}

abbrev Mine : Type 0
Mine = Me (Unit {0}) Known

abbrev pub Looked : Step (Unit {0}) → Mine → ℕ → Mine → Type 0
Looked s before found after = IsAfter before.0 before.0.holds (Look found) after.0

-- it was granted where the word was the expected one
abbrev pub Asked : Class → Step (Unit {0}) → Mine → ℕ → Mine → Type 0
Asked c s before found after = IsAfter before.0 (held_after c (found == s.first) before.0.holds) (Take c found (found == s.first)) after.0

-- the word told this hold, and where the class is exclusive no other
abbrev pub Left : Class → Step (Unit {0}) → Mine → ℕ → Mine → Type 0
Left c s before found after = IsAfter before.0 None (Leave c found) after.0 × (0 < told c found) × (told Exclusive found ≤ 1)
