-- What a seat knows after each step.
use Rattle.std.specs.Prelude.{◌≡◌, ℕ, List, [], ◌∷◌, ◌++◌, map, Bool, Option, Some, None, if◌then◌else◌}
use Rattle.inode_lock.specs.declared.word.Class.{Class}
use Rattle.inode_lock.specs.declared.steps.Step.{Step}
use Rattle.inode_lock.specs.declared.steps.Step.TheVariants.{Look, Take, Leave, Split}
use Rattle.inode_lock.specs.declared.steps.Placed.{Placed}
use Rattle.inode_lock.specs.declared.steps.Known.{Known}

-- it holds nothing, and has made no step
abbrev pub newcomer : Known
newcomer = record { holds = None; steps = [] }

abbrev pub placed : ℕ → Step → Placed
placed place s = record { place = place; step = s }

-- the steps alone
abbrev pub steps_of : List Placed → List Step
steps_of ps = map (λ p. p.step) ps

-- one step more, in its place, after which it holds this
abbrev pub after_step : Known → Option Class → ℕ → Step → Known
after_step v now place s = record { holds = now; steps = v.steps ++ placed place s ∷ [] }

-- one step more, after which it holds this
abbrev pub IsAfter : Known → Option Class → Step → Known → Type 0
IsAfter v now s w = (w.holds ≡ now) × (steps_of w.steps ≡ steps_of v.steps ++ s ∷ [])

-- what it holds after it asked for a class
abbrev pub held_after : Class → Bool → Option Class → Option Class
held_after c granted held = (if granted then Some c else held)

abbrev pub looked : ℕ → ℕ → Known → Known
looked place found v = after_step v v.holds place (Look found)

abbrev pub asked : Class → ℕ → ℕ → Bool → Known → Known
asked c place found granted v = after_step v (held_after c granted v.holds) place (Take c found granted)

abbrev pub left : Class → ℕ → ℕ → Known → Known
left c place found v = after_step v None place (Leave c found)

abbrev pub forked : Known → Known
forked v = after_step v v.holds 0 Split
