-- How many items at the head of a list pass a test by their number.
use Rattle.std.proofs.Common.{◌≡◌, ℕ, zero, suc, ◌+◌, ◌-◌, ◌<◌, ◌≤◌, ◌⊎◌, Bool, true, false, if◌then◌else◌, Some, None, List, [], ◌∷◌, length, get_or, drop, min, arith, refl, sym, ◌∙◌, ap, subst, add-one, inl, inr, length-drop}
use Rattle.std.specs.Prelude.{slice_get}
use Rattle.std.proofs.Math.Seq.{drop-cons}
use Rattle.std.proofs.Math.ListN.{drop_of_length-le}
use Rattle.std.proofs.lemmas.Option.{slice_get-get_or}
use Rattle.io_model.specs.declared.file.Kind.{Kind}
use Rattle.range_core.specs.Lookups.{first_kind}
use Rattle.range_core.specs.Runs.{leading}
use Rattle.range_core.specs.declared.cell.Cell.{Cell}
use Rattle.range_core.proofs.RunLemmas.{if_false, if_true}
use Rattle.range_core.proofs.SampleLemmas.{slice_get-drop}

module _ {A : Type 0} (p : ℕ → A → Bool) where
  -- one item, and the rest
  leading-next : (i n : ℕ) (xs : List A) (d : A) → i < length xs → i < n → leading p i (drop i xs) (n - i) ≡ (if p i (get_or xs i d) then suc (leading p (i + 1) (drop (i + 1) xs) (n - (i + 1))) else 0)
  leading-next i n xs d h m =
      let e : n - i ≡ suc (n - (i + 1)) = omega arith in
      let f : drop i xs ≡ get_or xs i d ∷ drop (suc i) xs = drop-cons xs i d h in
      ap (λ ys. leading p i ys (n - i)) f ∙ ap (leading p i (get_or xs i d ∷ drop (suc i) xs)) e ∙ rw add-one

  -- the i-th item passes
  pub leading-more : (i n : ℕ) (xs : List A) (d : A) (all : ℕ) → all ≡ i + leading p i (drop i xs) (n - i) → i < length xs → i < n → p i (get_or xs i d) ≡ true → all ≡ i + 1 + leading p (i + 1) (drop (i + 1) xs) (n - (i + 1))
  leading-more i n xs d all e h m t =
      let next = leading-next i n xs d h m in
      let goes = if_true _ (suc (leading p (i + 1) (drop (i + 1) xs) (n - (i + 1)))) 0 t in
      omega (arith, e, next ∙ goes)

  -- it does not
  pub leading-stop : (i n : ℕ) (xs : List A) (d : A) (all : ℕ) → all ≡ i + leading p i (drop i xs) (n - i) → i < length xs → i < n → p i (get_or xs i d) ≡ false → i ≡ all
  leading-stop i n xs d all e h m t =
      let next = leading-next i n xs d h m in
      let stops = if_false _ (suc (leading p (i + 1) (drop (i + 1) xs) (n - (i + 1)))) 0 t in
      omega (arith, e, next ∙ stops)

  leading-none : (i n : ℕ) (xs : List A) → (n ≡ 0) ⊎ (xs ≡ []) → leading p i xs n ≡ 0
  leading-none i n [] h = refl
  leading-none i zero (x ∷ xs) h = refl
  leading-none i (suc n) (x ∷ xs) h = elim h [ inl e ↦ absurd (omega arith) | inr e ↦ absurd (cc) ]

  -- all that there are or are wanted pass
  pub leading-end : (end i n : ℕ) (xs : List A) (all : ℕ) → all ≡ i + leading p i (drop i xs) (n - i) → end ≡ min n (length xs) → i ≡ end → end ≡ all
  leading-end end i n xs all e m h =
      let none : (n - i ≡ 0) ⊎ (drop i xs ≡ []) = elim (cut n (length xs)) [ inl l ↦ inl (omega arith) | inr l ↦ inr (drop_of_length-le xs (omega arith)) ] in
      let zero_more = leading-none i (n - i) (drop i xs) none in
      omega (arith, e, zero_more)
    where
      cut : (n k : ℕ) → (min n k ≡ n) ⊎ (min n k ≡ k)
      cut n k = grind arith

  -- as many as there are and are wanted, at most
  pub leading-within : (i : ℕ) (xs : List A) (n : ℕ) → (leading p i xs n ≤ length xs) × (leading p i xs n ≤ n)
  leading-within i [] n = (omega arith, omega arith)
  leading-within i (x ∷ xs) zero = (omega arith, omega arith)
  leading-within i (x ∷ xs) (suc n) = at (p i x) (leading-within (i + 1) xs n)
    where
      at : (t : Bool) → (leading p (i + 1) xs n ≤ length xs) × (leading p (i + 1) xs n ≤ n) → ((if t then suc (leading p (i + 1) xs n) else 0) ≤ suc (length xs)) × ((if t then suc (leading p (i + 1) xs n) else 0) ≤ suc n)
      at true r = (omega (arith, r.0), omega (arith, r.1))
      at false r = (omega arith, omega arith)

  -- each of them passes
  pub leading-pass : (i : ℕ) (xs : List A) (n k : ℕ) (x : A) → k < leading p i xs n → slice_get xs k ≡ Some x → p (i + k) x ≡ true
  leading-pass i [] n k x l e = absurd (cc)
  leading-pass i (y ∷ xs) zero k x l e = absurd (omega arith)
  leading-pass i (y ∷ xs) (suc n) k x l e = at (p i y) refl k l e (λ j m f. leading-pass (i + 1) xs n j x m f)
    where
      at : (t : Bool) → p i y ≡ t → (k : ℕ) → k < (if t then suc (leading p (i + 1) xs n) else 0) → slice_get (y ∷ xs) k ≡ Some x → ((j : ℕ) → j < leading p (i + 1) xs n → slice_get xs j ≡ Some x → p (i + 1 + j) x ≡ true) → p (i + k) x ≡ true
      at false t k l e rest = absurd (omega arith)
      at true t zero l e rest = let is : y ≡ x = cc in let z : i ≡ i + 0 = omega arith in let P : ℕ → A → Type 0 = λ m v. p m v ≡ true in subst (λ v. P (i + 0) v) is (subst (λ m. P m y) z t)
      at true t (suc k) l e rest = let z : i + 1 + k ≡ i + suc k = omega arith in let m : k < leading p (i + 1) xs n = omega arith in ap (λ j. p j x) (sym z) ∙ rest k m e

  -- where the first one passes and one is wanted, there is one
  pub leading-some : (xs : List A) (n : ℕ) (x : A) → slice_get xs 0 ≡ Some x → p 0 x ≡ true → 0 < n → 0 < leading p 0 xs n
  leading-some [] n x e t h = absurd (cc)
  leading-some (y ∷ xs) zero x e t h = absurd (omega arith)
  leading-some (y ∷ xs) (suc n) x e t h = let is : x ≡ y = cc in let one : leading p 0 (y ∷ xs) (suc n) ≡ suc (leading p 1 xs n) = if_true (p 0 y) (suc (leading p (0 + 1) xs n)) 0 (ap (p 0) (sym is) ∙ t) in omega arith

-- 1 to 16 blocks that all go with the first of them
pub record IsLeadingRun (p : Kind → ℕ → Cell → Bool) (cells : List Cell) (low n : ℕ) : Type 0 where
  pub some : 0 < n
  pub few : n ≤ 16
  pub within : low + n ≤ length cells
  pub each : (k : ℕ) (c : Cell) → k < n → slice_get cells (low + k) ≡ Some c → p (first_kind (drop low cells)) k c ≡ true

-- the blocks that a count finds to go with the first one
pub leading_run : (p : Kind → ℕ → Cell → Bool) (count : List Cell → ℕ → ℕ) → ((c : Cell) (cells : List Cell) (n : ℕ) → count (c ∷ cells) n ≡ leading (p c.kind) 0 (c ∷ cells) n) → (cells : List Cell) (low most n : ℕ) (first : Cell)
    → n ≡ count (drop low cells) most → low < length cells → 0 < most → most ≤ 16 → first ≡ get_or cells low first → p first.kind 0 first ≡ true → IsLeadingRun p cells low n
leading_run p count counts cells low most n first e h some few at goes = run (drop low cells) refl
  where
    there : slice_get cells low ≡ Some first
    there = slice_get-get_or cells low first h ∙ ap Some (sym at)

    run : (xs : List Cell) → drop low cells ≡ xs → IsLeadingRun p cells low n
    run [] f =
        let z : low + 0 ≡ low = omega arith in
        absurd (let none : Some first ≡ None = sym there ∙ ap (slice_get cells) (sym z) ∙ sym (slice_get-drop low 0 cells) ∙ ap (λ l. slice_get l 0) f in cc)
    run (x ∷ xs) f =
        let z : low ≡ low + 0 = omega arith in
        let head : slice_get (x ∷ xs) 0 ≡ Some first = ap (λ l. slice_get l 0) (sym f) ∙ slice_get-drop low 0 cells ∙ ap (slice_get cells) (sym z) ∙ there in
        let is : x ≡ first = cc in
        let q : ℕ → Cell → Bool = p x.kind in
        let n_is : n ≡ leading q 0 (x ∷ xs) most = e ∙ ap (λ l. count l most) f ∙ counts x xs most in
        let kind : first_kind (drop low cells) ≡ x.kind = ap first_kind f in
        let bounds = leading-within q 0 (x ∷ xs) most in
        let one = leading-some q (x ∷ xs) most first head (ap (λ (c : Cell). p c.kind 0 first) is ∙ goes) some in
        record {
          some = omega arith;
          few = omega (arith, bounds.1);
          within = omega (arith, bounds.0, ap length f, length-drop low cells);
          each = λ k c l g.
              let m : k < leading q 0 (x ∷ xs) most = omega arith in
              let y : 0 + k ≡ k = omega arith in
              ap (λ j. p j k c) kind ∙ ap (λ j. q j c) (sym y) ∙ leading-pass q 0 (x ∷ xs) most k c m (ap (λ l. slice_get l k) (sym f) ∙ slice_get-drop low k cells ∙ g);
        }
