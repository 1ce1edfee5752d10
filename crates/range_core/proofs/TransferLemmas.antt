-- What parts are after a transfer.
use Rattle.std.proofs.Common.{◌≡◌, ℕ, zero, suc, ◌<◌, ◌≤◌, Bool, true, false, Some, if◌then◌else◌, List, [], ◌∷◌, ◌++◌, length, map, take, drop, refl, ◌∙◌, ap, arith}
use Rattle.std.specs.Prelude.{nat_lt, slice_get}
use Rattle.std.proofs.lemmas.Bool.{ltb-false, ltb-true}
use Rattle.iob_base.specs.declared.stamp.Op.{Op}
use Rattle.iob_base.specs.declared.stamp.Op.TheVariants.{Read, Write}
use Rattle.fault_device.specs.Transfer.{block_read, block_written, parts_after}
use Rattle.iob_base.specs.declared.part.Part.{Part}

-- a part that was moved, where it landed
abbrev pub moved : Op → Part → Part
moved Read p = block_read p
moved Write p = block_written p

module _ {A B : Type 0} (f : A → A) (g : A → B) where
  -- what each item keeps when it changes, a list keeps of which the first items do
  front-kept : ((x : A) → g (f x) ≡ g x) → (n : ℕ) (xs : List A) → map g (map f (take n xs) ++ drop n xs) ≡ map g xs
  front-kept h zero xs = refl
  front-kept h (suc n) [] = refl
  front-kept h (suc n) (x ∷ xs) = ap (λ y. y ∷ map g (map f (take n xs) ++ drop n xs)) (h x) ∙ ap (λ l. g x ∷ l) (front-kept h n xs)

module _ {A : Type 0} (f : A → A) where
  length-front : (n : ℕ) (xs : List A) → length (map f (take n xs) ++ drop n xs) ≡ length xs
  length-front zero xs = refl
  length-front (suc n) [] = refl
  length-front (suc n) (x ∷ xs) = ap suc (length-front n xs)

  -- one of the first items has changed
  front-at : (n k : ℕ) (xs : List A) (x : A) → slice_get xs k ≡ Some x → k < n → slice_get (map f (take n xs) ++ drop n xs) k ≡ Some (f x)
  front-at zero k xs x e l = absurd (omega arith)
  front-at (suc n) k [] x e l = absurd (cc)
  front-at (suc n) zero (y ∷ xs) x e l = let is : y ≡ x = cc in ap (λ z. Some (f z)) is
  front-at (suc n) (suc k) (y ∷ xs) x e l = front-at n k xs x e (omega arith)

  -- any other is as it was
  rest-at : (n k : ℕ) (xs : List A) (x : A) → slice_get xs k ≡ Some x → n ≤ k → slice_get (map f (take n xs) ++ drop n xs) k ≡ Some x
  rest-at zero k xs x e l = e
  rest-at (suc n) k [] x e l = absurd (cc)
  rest-at (suc n) zero (y ∷ xs) x e l = absurd (omega arith)
  rest-at (suc n) (suc k) (y ∷ xs) x e l = rest-at n k xs x e (omega arith)

-- as many parts come back
pub length-after : (op : Op) (landed : ℕ) (parts : List Part) → length (parts_after op landed parts) ≡ length parts
length-after Read landed parts = length-front block_read landed parts
length-after Write landed parts = length-front block_written landed parts

-- a part that landed was moved
pub landed-at : (op : Op) (landed k : ℕ) (parts : List Part) (p : Part) → slice_get parts k ≡ Some p → k < landed → slice_get (parts_after op landed parts) k ≡ Some (moved op p)
landed-at Read landed k parts p e l = front-at block_read landed k parts p e l
landed-at Write landed k parts p e l = front-at block_written landed k parts p e l

-- any other part is as it was lent
pub missed-at : (op : Op) (landed k : ℕ) (parts : List Part) (p : Part) → slice_get parts k ≡ Some p → landed ≤ k → slice_get (parts_after op landed parts) k ≡ Some p
missed-at Read landed k parts p e l = rest-at block_read landed k parts p e l
missed-at Write landed k parts p e l = rest-at block_written landed k parts p e l

-- each part that comes back was moved or is as it was lent
abbrev pub part_after : Op → ℕ → ℕ → Part → Part
part_after op landed k p = if nat_lt k landed then moved op p else p

pub after-at : (op : Op) (landed k : ℕ) (parts : List Part) (p : Part) → slice_get parts k ≡ Some p → slice_get (parts_after op landed parts) k ≡ Some (part_after op landed k p)
after-at op landed k parts p e = at (nat_lt k landed) refl
  where
    at : (t : Bool) → nat_lt k landed ≡ t → slice_get (parts_after op landed parts) k ≡ Some (if t then moved op p else p)
    at true l = landed-at op landed k parts p e (ltb-true _ _ l)
    at false l = missed-at op landed k parts p e (ltb-false _ _ l)

-- pages keep their numbers, and those of a write all that they have
pub numbers-after : (op : Op) (landed : ℕ) (parts : List Part) → map (λ (p : Part). p.page.number) (parts_after op landed parts) ≡ map (λ (p : Part). p.page.number) parts
numbers-after Read landed parts = front-kept block_read (λ (p : Part). p.page.number) (λ p. refl) landed parts
numbers-after Write landed parts = front-kept block_written (λ (p : Part). p.page.number) (λ p. refl) landed parts

pub pages-written : (landed : ℕ) (parts : List Part) → map (λ (p : Part). p.page) (parts_after Write landed parts) ≡ map (λ (p : Part). p.page) parts
pages-written landed parts = front-kept block_written (λ (p : Part). p.page) (λ p. refl) landed parts
