-- What the calls of a lock do to a seat's view.
use Rattle.std.specs.Prelude.{◌≡◌, ◌≢◌, ℕ, ◌<◌, ◌≤◌, List, [], ◌∷◌, ◌++◌, true, false, Some, None, All, MatchBool, if◌then◌else◌}
use Rattle.inode_lock.specs.declared.word.Class.{Class}
use Rattle.inode_lock.specs.declared.word.Class.TheVariants.{Exclusive}
use Rattle.inode_lock.specs.declared.steps.Step.{Step}
use Rattle.inode_lock.specs.declared.steps.Step.TheVariants.{Look, Take, Leave}
use Rattle.inode_lock.specs.Word.{told, excludes}
use Rattle.inode_lock.specs.View.{LockView, onward}

-- the steps of a try that was granted: a look, and a take that found the same word
abbrev pub granted_steps : Class → ℕ → List Step
granted_steps c read = Look read ∷ Take c read true ∷ []

-- The class was had: after a look at a word that does not exclude it, the take was granted
abbrev pub IsGranted : Class → LockView → LockView → Type 0
IsGranted c before after = (read : ℕ) × (excludes c read ≡ false) × (after ≡ onward before (granted_steps c read) (Some c))

-- The steps of a try that was refused: a look at a word that excludes the class, or a look and a take
abbrev pub refused_steps : Class → ℕ → ℕ → List Step
refused_steps c read found = (if excludes c read then Look read ∷ [] else Look read ∷ Take c found false ∷ [])

-- A try's refusal has its cause: the word that the look read excludes the class and is the last word found, or it does
-- not, and the take found another word
abbrev pub HasCause : Class → ℕ → ℕ → Type 0
HasCause c read found = MatchBool (excludes c read) (found ≡ read) (found ≢ read)

-- The class was not had, and the seat made the steps of a refused try
abbrev pub IsRefused : Class → LockView → ℕ → ℕ → LockView → Type 0
IsRefused c before read found after = HasCause c read found × (after ≡ onward before (refused_steps c read found) None)

-- the steps of refused tries, each with the word that it read and the one that it found
abbrev pub tries_steps : Class → List (ℕ × ℕ) → List Step
tries_steps c [] = []
tries_steps c (t ∷ ts) = refused_steps c t.0 t.1 ++ tries_steps c ts

-- after any number of refused tries, each with its cause, and nothing else
abbrev pub HasTried : Class → LockView → LockView → Type 0
HasTried c before after =
    (tries : List (ℕ × ℕ)) × All (λ t. HasCause c t.0 t.1) tries × (after ≡ onward before (tries_steps c tries) None)

-- the class was had after such tries
abbrev pub IsWon : Class → LockView → LockView → Type 0
IsWon c before after = (between : LockView) × HasTried c before between × IsGranted c between after

-- The hold ended, at a word that told it, and no other hold where the class is exclusive
abbrev pub IsLeft : Class → LockView → LockView → Type 0
IsLeft c before after =
    (found : ℕ) × (0 < told c found) × (told Exclusive found ≤ 1) × (after ≡ onward before (Leave c found ∷ []) None)
