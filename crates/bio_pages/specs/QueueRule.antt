-- The rule of a queue of bios.
use Rattle.std.specs.Prelude.{◌≡◌, ℕ, List, [], ◌∷◌, ◌++◌}
use mathlib.Core.Option.{some}
use lib.ListN.{get_elem?}
use Rattle.turn_cell.specs.Stakes.{total}
use Rattle.bio_pages.specs.declared.sent.Sent.{Sent}
use Rattle.bio_pages.specs.declared.queue_rule.Passed.{Passed}

module _ {T : Type 0} where
  abbrev pub nothing_passed : Passed T
  nothing_passed = record { pushed = []; popped = [] }

  abbrev pub with_put : Passed T → Sent T → Passed T
  with_put v sent = record v { pushed = v.pushed ++ sent ∷ [] }

  abbrev pub with_got : Passed T → Sent T → Passed T
  with_got v sent = record v { popped = v.popped ++ sent ∷ [] }

  -- the weights of all that the passes pushed
  abbrev pub pushed_in_all : (Sent T → ℕ) → List (Passed T) → ℕ
  pushed_in_all f views = total (λ v. total f v.pushed) views

  -- the weights of all that the passes popped
  abbrev pub popped_in_all : (Sent T → ℕ) → List (Passed T) → ℕ
  popped_in_all f views = total (λ v. total f v.popped) views

-- What was pushed, in the order of the queue, is what was popped and then what the queue holds. However bios are weighed, the passes have pushed and popped just these
pub record Queued {T : Type 0} (items : List (Sent T)) (views : List (Passed T)) : Type 0 where
  pub pushed : List (Sent T)
  pub popped : List (Sent T)
  pub order : pushed ≡ popped ++ items
  pub puts : (f : Sent T → ℕ) → total f pushed ≡ pushed_in_all f views
  pub gets : (f : Sent T → ℕ) → total f popped ≡ popped_in_all f views

-- At one moment the queue held these bios, by its rule, and a pass had passed these
pub record Stood {T : Type 0} (items : List (Sent T)) (v : Passed T) : Type 0 where
  pub views : List (Passed T)
  pub number : ℕ
  pub here : get_elem? views number ≡ some v
  pub holds : Queued items views

-- the same, whatever the queue held
abbrev pub WasPushed : {T : Type 0} → Passed T → Type 0
WasPushed {T} v = (items : List (Sent T)) × Stood items v
