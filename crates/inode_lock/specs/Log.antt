-- The log of a lock: all steps of all seats at its word, in one order, each of which found the word that the one before it left.
use Rattle.std.specs.Prelude.{◌≡◌, ℕ, zero, suc, ◌+◌, ◌-◌, ◌≤◌, Bool, true, false, List, [], ◌∷◌, length, if◌then◌else◌}
use mathlib.Core.Option.{some}
use lib.ListN.{get_elem?}
use Rattle.inode_lock.specs.declared.steps.Step.{Step}
use Rattle.inode_lock.specs.declared.steps.Step.TheVariants.{Look, Take, Leave, Split}
use Rattle.inode_lock.specs.declared.steps.Placed.{Placed}
use Rattle.inode_lock.specs.declared.steps.Known.{Known}
use Rattle.inode_lock.specs.Word.{holds_in, word_of}

-- The step found the one word, and left the other. A split is at no word
abbrev pub Leads : Step → ℕ → ℕ → Type 0
Leads (Look found) word next = (found ≡ word) × (next ≡ word)
Leads (Take c found true) word next = (found ≡ word) × (next ≡ word_of c (holds_in word + 1))
Leads (Take c found false) word next = (found ≡ word) × (next ≡ word)
Leads (Leave c found) word next = (found ≡ word) × (next + 1 ≡ word)
Leads Split word next = ⊥

-- the steps lead from the one word to the other, and their places are counted from this one on
abbrev pub IsLog : ℕ → ℕ → List Placed → ℕ → Type 0
IsLog place word [] last = last ≡ word
IsLog place word (p ∷ ps) last = (next : ℕ) × (p.place ≡ place) × Leads p.step word next × IsLog (place + 1) next ps last

-- whether the step is at the word
abbrev pub is_at_word : Step → Bool
is_at_word (Look found) = true
is_at_word (Take c found granted) = true
is_at_word (Leave c found) = true
is_at_word Split = false

-- the word that a step found, and the word that it left
abbrev pub found_by : Step → ℕ
found_by (Look found) = found
found_by (Take c found granted) = found
found_by (Leave c found) = found
found_by Split = 0

abbrev pub left_by : Step → ℕ
left_by (Look found) = found
left_by (Take c found true) = word_of c (holds_in found + 1)
left_by (Take c found false) = found
left_by (Leave c found) = found - 1
left_by Split = 0

-- the word that so many steps left
abbrev pub word_after : ℕ → List Placed → ℕ → ℕ
word_after word [] k = word
word_after word (p ∷ ps) zero = word
word_after word (p ∷ ps) (suc k) = word_after (left_by p.step) ps k

-- the weights of the steps at the word, added up
abbrev pub weights : (Placed → ℕ) → List Placed → ℕ
weights f [] = 0
weights f (p ∷ ps) = (if is_at_word p.step then f p else 0) + weights f ps

-- those of all seats
abbrev pub all_weights : (Placed → ℕ) → List Known → ℕ
all_weights f [] = 0
all_weights f (v ∷ vs) = weights f v.steps + all_weights f vs

-- the places of the steps at the word rise, from the first number on and below the second
abbrev pub AreInOrder : ℕ → ℕ → List Placed → Type 0
AreInOrder low high [] = low ≤ high
AreInOrder low high (p ∷ ps) = (is_at_word p.step ≡ true → low ≤ p.place) × AreInOrder (if is_at_word p.step then p.place + 1 else low) high ps

-- There is one log, from the word 0 to the word now. However steps are weighed, it weighs what the seats' steps at the word do, so each of its steps was made by one seat, once; and each seat's are in its order
pub record IsLogged (word : ℕ) (views : List Known) : Type 0 where
  pub log : List Placed
  pub leads : IsLog 0 0 log word
  pub once : (f : Placed → ℕ) → weights f log ≡ all_weights f views
  pub order : (i : ℕ) (v : Known) → get_elem? views i ≡ some v → AreInOrder 0 (length log) v.steps
