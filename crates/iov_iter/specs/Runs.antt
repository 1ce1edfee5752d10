use Rattle.std.specs.Prelude.{◌≡◌, ℕ, zero, suc, ◌+◌, false, true, List, [], ◌∷◌, ◌++◌, length, map, take, drop}
use Rattle.iob_base.specs.declared.sector.Page.{Page}
use Rattle.iov_iter.specs.Moving.{page}
use Rattle.iov_iter.specs.Slots.{SlotView}

-- n items from the i-th on, each changed alike
abbrev pub run_mapped : {A : Type 0} → (A → A) → ℕ → ℕ → List A → List A
run_mapped f i n xs = take i xs ++ map f (take n (drop i xs)) ++ drop (i + n) xs

abbrev pub slot_out : SlotView → SlotView
slot_out s = record s { out = true }

abbrev pub page_in : SlotView → Page
page_in s = page s.number s.bytes

-- the first n of these slots are there and have their pages
abbrev pub AreIn : ℕ → List SlotView → Type 0
AreIn zero ss = Unit {0}
AreIn (suc n) [] = ⊥
AreIn (suc n) (s ∷ ss) = (s.out ≡ false) × AreIn n ss

-- each page has as many bytes as the slot's
abbrev pub FitIn : List SlotView → List Page → Type 0
FitIn ss [] = Unit {0}
FitIn [] (g ∷ gs) = ⊥
FitIn (s ∷ ss) (g ∷ gs) = (length g.bytes ≡ length s.bytes) × FitIn ss gs

abbrev pub slot_put : SlotView → Page → SlotView
slot_put s g = record s { bytes = g.bytes; out = false }

-- pages in the first of these slots
abbrev pub slots_put : List SlotView → List Page → List SlotView
slots_put ss [] = ss
slots_put [] (g ∷ gs) = []
slots_put (s ∷ ss) (g ∷ gs) = slot_put s g ∷ slots_put ss gs
