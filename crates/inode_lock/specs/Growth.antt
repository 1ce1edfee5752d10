-- How a seat's list of steps grows: how often it was granted each class, and how often it left it.
-- A crate above says with `Grows` what one of its calls did at a lock.
use Rattle.std.specs.Prelude.{◌≡◌, ℕ, ◌+◌, List, [], ◌∷◌, ◌++◌, true, false, Some}
use Rattle.inode_lock.specs.declared.word.Class.{Class}
use Rattle.inode_lock.specs.declared.steps.Step.{Step}
use Rattle.inode_lock.specs.declared.steps.Step.TheVariants.{Look, Take, Leave, Split}
use Rattle.inode_lock.specs.Exclusion.{weight}
use Rattle.inode_lock.specs.View.{LockView}
use Rattle.inode_lock.specs.Calls.{IsGranted, IsRefused, IsWon, IsLeft}

-- 1 for a take of the class that was granted, else 0
abbrev pub take_of : Class → Step → ℕ
take_of c (Look found) = 0
take_of c (Take d found true) = weight c (Some d)
take_of c (Take d found false) = 0
take_of c (Leave d found) = 0
take_of c Split = 0

-- 1 for a leave of the class, else 0
abbrev pub leave_of : Class → Step → ℕ
leave_of c (Look found) = 0
leave_of c (Take d found granted) = 0
leave_of c (Leave d found) = weight c (Some d)
leave_of c Split = 0

abbrev pub takes_of : Class → List Step → ℕ
takes_of c [] = 0
takes_of c (s ∷ ss) = take_of c s + takes_of c ss

abbrev pub leaves_of : Class → List Step → ℕ
leaves_of c [] = 0
leaves_of c (s ∷ ss) = leave_of c s + leaves_of c ss

-- The list grew, by steps in which each class was granted and left so often
pub record Grows (before after : List Step) (granted ended : Class → ℕ) : Type 0 where
  pub more : List Step
  pub steps : after ≡ before ++ more
  pub takes : (c : Class) → takes_of c more ≡ granted c
  pub leaves : (c : Class) → leaves_of c more ≡ ended c

-- of no class
abbrev pub never : Class → ℕ
never c = 0

-- of this class, once
abbrev pub once : Class → Class → ℕ
once d c = weight c (Some d)

-- a granted try, and tries until one is granted, take their class once and leave nothing
abbrev pub GrantTakesOnce : Type 0
GrantTakesOnce = (c : Class) (v w : LockView) → IsGranted c v w → Grows v.steps w.steps (once c) never

abbrev pub WinTakesOnce : Type 0
WinTakesOnce = (c : Class) (v w : LockView) → IsWon c v w → Grows v.steps w.steps (once c) never

-- a refused try takes and leaves nothing
abbrev pub RefusalTakesNothing : Type 0
RefusalTakesNothing = (c : Class) (v w : LockView) (read found : ℕ) → IsRefused c v read found w → Grows v.steps w.steps never never

-- the end of a hold leaves its class once
abbrev pub LeaveLeavesOnce : Type 0
LeaveLeavesOnce = (c : Class) (v w : LockView) → IsLeft c v w → Grows v.steps w.steps never (once c)

-- a wait and the end of its hold take and leave their class once
abbrev pub HoldTakesAndLeaves : Type 0
HoldTakesAndLeaves = (c : Class) (v h w : LockView) → IsWon c v h → IsLeft c h w → Grows v.steps w.steps (once c) (once c)

-- a list that stays grew by nothing
abbrev pub StayGrowsNothing : Type 0
StayGrowsNothing = (xs : List Step) → Grows xs xs never never

-- what a list grew by twice is added
abbrev pub GrowthAdds : Type 0
GrowthAdds =
    (xs ys zs : List Step) (t l u m n o : Class → ℕ) → Grows xs ys t l → Grows ys zs u m → ((c : Class) → n c ≡ t c + u c) → ((c : Class) → o c ≡ l c + m c)
    → Grows xs zs n o
