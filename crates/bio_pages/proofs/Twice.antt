-- A bio that is run twice is as after the one transfer that moved more.
use Rattle.std.proofs.Common.{◌≡◌, ℕ, zero, suc, ◌≤◌, ◌<◌, true, List, [], ◌∷◌, ◌++◌, All, map, take, drop, length, max, refl, sym, ap, ◌∙◌, subst, arith, ⊎_elim}
use Rattle.std.proofs.lemmas.List.Elements.{All-cons, All-head, All-tail}
use Rattle.std.proofs.lemmas.Bool.{cases_lt, lt-ltb, ltb-true}
use Rattle.std.specs.Prelude.{nat_lt}
use Rattle.iob_base.specs.declared.stamp.Op.{Op}
use Rattle.iob_base.specs.declared.stamp.Op.TheVariants.{Read, Write}
use Rattle.iob_base.specs.declared.part.Part.{Part}
use Rattle.fault_device.specs.Transfer.{CanTransfer, IsWhole, block_read, block_written, parts_after}
use Rattle.fault_device.specs.declared.lane.Done.{Done}
use Rattle.bio_pages.specs.declared.bio.Bio.{Bio}
use Rattle.bio_pages.specs.Running.{IsRun}

module _ {A : Type 0} (f : A → A) where
  -- a list of which the first n items are moved
  abbrev pub moved : ℕ → List A → List A
  moved n xs = map f (take n xs) ++ drop n xs

  pub moved-length : (n : ℕ) (xs : List A) → length (moved n xs) ≡ length xs
  moved-length zero xs = refl
  moved-length (suc n) [] = refl
  moved-length (suc n) (x ∷ xs) = ap suc (moved-length n xs)

  pub moved-all : (P : A → Type 0) → ((a : A) → P a → P (f a)) → (n : ℕ) (xs : List A) → All P xs → All P (moved n xs)
  moved-all P keeps zero xs h = h
  moved-all P keeps (suc n) [] h = h
  moved-all P keeps (suc n) (x ∷ xs) h = All-cons P (f x) (moved n xs) (keeps x (All-head P x xs h)) (moved-all P keeps n xs (All-tail P x xs h))

module _ {A : Type 0} (f : A → A) (again : (a : A) → f (f a) ≡ f a) where
  -- a second move of xs many or more takes the place of the first
  pub moved-more : (n m : ℕ) (xs : List A) → n ≤ m → moved f m (moved f n xs) ≡ moved f m xs
  moved-more zero m xs le = refl
  moved-more (suc n) zero xs le = absurd (omega arith)
  moved-more (suc n) (suc m) [] le = refl
  moved-more (suc n) (suc m) (x ∷ xs) le = λ i. again x i ∷ moved-more n m xs (omega arith) i

  -- a second move of xs many or fewer leaves the first
  pub moved-less : (n m : ℕ) (xs : List A) → m ≤ n → moved f m (moved f n xs) ≡ moved f n xs
  moved-less n zero xs le = refl
  moved-less zero (suc m) xs le = absurd (omega arith)
  moved-less (suc n) (suc m) [] le = refl
  moved-less (suc n) (suc m) (x ∷ xs) le = λ i. again x i ∷ moved-less n m xs (omega arith) i

pub after-length : (op : Op) (n : ℕ) (xs : List Part) → length (parts_after op n xs) ≡ length xs
after-length Read n xs = moved-length block_read n xs
after-length Write n xs = moved-length block_written n xs

pub after-whole : (op : Op) (n : ℕ) (xs : List Part) → All IsWhole xs → All IsWhole (parts_after op n xs)
after-whole Read n xs h = moved-all block_read IsWhole (λ a _. refl) n xs h
after-whole Write n xs h = moved-all block_written IsWhole (λ a _. refl) n xs h

pub after-more : (op : Op) (n m : ℕ) (xs : List Part) → n ≤ m → parts_after op m (parts_after op n xs) ≡ parts_after op m xs
after-more Read n m xs le = moved-more block_read (λ a. refl) n m xs le
after-more Write n m xs le = moved-more block_written (λ a. refl) n m xs le

pub after-less : (op : Op) (n m : ℕ) (xs : List Part) → m ≤ n → parts_after op m (parts_after op n xs) ≡ parts_after op n xs
after-less Read n m xs le = moved-less block_read (λ a. refl) n m xs le
after-less Write n m xs le = moved-less block_written (λ a. refl) n m xs le

max-short : (m n k : ℕ) → n < k → nat_lt m k ≡ nat_lt (max m n) k
max-short m n k lt = ⊎_elim
    (λ (h : m < k). lt-ltb m k h ∙ sym (lt-ltb (max m n) k (omega arith)))
    (λ (h : k ≤ m). let e : m ≡ max m n = omega arith in ap (λ x. nat_lt x k) e)
    (cases_lt m k)

run-parts : (op : Op) (n m : ℕ) (xs ys zs : List Part) → ys ≡ parts_after op n xs → zs ≡ parts_after op m ys → zs ≡ parts_after op (max m n) xs
run-parts op n m xs ys zs a b =
    let c : zs ≡ parts_after op m (parts_after op n xs) = b ∙ ap (parts_after op m) a in
    ⊎_elim
    (λ (le : n < m). let e : m ≡ max m n = omega arith in c ∙ after-more op n m xs (omega arith) ∙ ap (λ k. parts_after op k xs) e)
    (λ (le : m ≤ n). let e : n ≡ max m n = omega arith in c ∙ after-less op n m xs le ∙ ap (λ k. parts_after op k xs) e)
    (cases_lt n m)

module _ {T : Type 0} where
  -- what was run can be run again
  pub can-again : (before after : Bio T) (done : Done) → IsRun before after done → CanTransfer before.parts → CanTransfer after.parts
  can-again before after done r can =
      let e : length after.parts ≡ length before.parts = ap length r.parts ∙ after-length before.op done.landed before.parts in
      let s = can.some in
      let f = can.few in
      record { some = omega arith; few = omega arith; whole = subst (All IsWhole) (sym r.parts) (after-whole before.op done.landed before.parts can.whole) }

  -- a bio whose first transfer failed, and that was run once more, is as after one transfer of as many blocks as the greater of both
  pub run-again : (before mid after : Bio T) (first second : Done) → first.failed ≡ true → IsRun before mid first → IsRun mid after second → IsRun before after (record second { landed = max second.landed first.landed })
  run-again before mid after first second failed r s =
      let op : mid.op ≡ before.op = ap (λ (b : Bio T). b.op) r.bio in
      let e : length mid.parts ≡ length before.parts = ap length r.parts ∙ after-length before.op first.landed before.parts in
      let short = ltb-true first.landed (length before.parts) (sym r.failed ∙ failed) in
      let within = s.landed in
      record {
        bio = s.bio ∙ ap (λ (b : Bio T). record b { parts = after.parts }) r.bio;
        parts = run-parts before.op first.landed second.landed before.parts mid.parts after.parts r.parts (s.parts ∙ ap (λ o. parts_after o second.landed mid.parts) op);
        blocks = s.blocks ∙ e;
        landed = omega arith;
        failed = s.failed ∙ ap (nat_lt second.landed) e ∙ max-short second.landed first.landed (length before.parts) short;
        rose = s.rose;
      }
