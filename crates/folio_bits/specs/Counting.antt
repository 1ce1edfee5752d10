-- The rule between the word of a countdown and what its seats know, and what it means.
use Rattle.std.specs.Prelude.{◌≡◌, ℕ, ◌+◌, Bool, false, List, [], ◌∷◌, length, slice_index, Option, Some, None, ◌==◌, if◌then◌else◌, IsTrue}
use mathlib.Core.Option.{some}
use lib.ListN.{get_elem?}
use Rattle.atomic_table.specs.Table.{State}
use Rattle.folio_bits.specs.declared.rule.Known.{Known}
use Rattle.folio_bits.specs.declared.rule.Spent.{Spent}

-- the weights of all seats, added up
abbrev pub total : (Known → ℕ) → List Known → ℕ
total f [] = 0
total f (v ∷ vs) = f v + total f vs

-- what all seats have together
abbrev pub amounts : List Known → ℕ
amounts views = total (λ v. v.amount) views

-- the seat has finished at a word that was its amount
abbrev pub was_last : Option Spent → Bool
was_last None = false
was_last (Some e) = e.found == e.had

abbrev pub IsToldLast : Known → Type 0
IsToldLast v = IsTrue (was_last v.spent)

-- 1 for a seat that was told Last, else 0
abbrev pub last : Known → ℕ
last v = (if was_last v.spent then 1 else 0)

-- how many seats were told Last
abbrev pub lasts : List Known → ℕ
lasts views = total last views

-- the word is what all seats have together, and one seat was told Last where that is 0, and none where it is not
pub record AmountsCounted (s : State (Unit {0}) Known) : Type 0 where
  pub one_word : length s.words ≡ 1
  pub added : amounts s.views ≡ slice_index s.words 0
  pub told : lasts s.views ≡ (if slice_index s.words 0 == 0 then 1 else 0)

-- two seats that were told Last are one
abbrev pub OneIsToldLast : Type 0
OneIsToldLast =
    (s : State (Unit {0}) Known) → AmountsCounted s → (i j : ℕ) (v w : Known) → get_elem? s.views i ≡ some v → IsToldLast v
    → get_elem? s.views j ≡ some w → IsToldLast w → i ≡ j

-- where a seat was told Last, no seat has anything left
abbrev pub LastIsToldAfterAll : Type 0
LastIsToldAfterAll =
    (s : State (Unit {0}) Known) → AmountsCounted s → (i j : ℕ) (v w : Known) → get_elem? s.views i ≡ some v → IsToldLast v
    → get_elem? s.views j ≡ some w → w.amount ≡ 0

-- where no seat has anything left, one was told Last
abbrev pub SomebodyIsToldLast : Type 0
SomebodyIsToldLast =
    (s : State (Unit {0}) Known) → AmountsCounted s → ((j : ℕ) (w : Known) → get_elem? s.views j ≡ some w → w.amount ≡ 0)
    → (i : ℕ) × (v : Known) × (get_elem? s.views i ≡ some v) × IsToldLast v
