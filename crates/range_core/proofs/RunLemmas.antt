use Rattle.std.proofs.Common.{◌≡◌, ℕ, zero, suc, ◌+◌, ◌-◌, ◌<◌, ◌⊎◌, Bool, true, false, if◌then◌else◌, List, [], ◌∷◌, length, get_or, drop, min, arith, refl, ◌∙◌, ap, add-one, inl, inr}
use Rattle.std.proofs.Math.Seq.{drop-cons}
use Rattle.std.proofs.Math.ListN.{drop_of_length-le}
use Rattle.io_model.specs.Kinds.{kind_after, is_kind}
use Rattle.io_model.specs.declared.file.Kind.{Kind}
use Rattle.range_core.specs.Runs.{run_from}
use Rattle.range_core.specs.declared.cell.Cell.{Cell}

pub if_true : {A : Type 0} (b : Bool) (x y : A) → b ≡ true → (if b then x else y) ≡ x
if_true true x y e = refl
if_true false x y e = cc

pub if_false : {A : Type 0} (b : Bool) (x y : A) → b ≡ false → (if b then x else y) ≡ y
if_false true x y e = cc
if_false false x y e = refl

-- one block of a run, and the rest
pub run_from-next : (kind : Kind) (i n : ℕ) (cells : List Cell) (d : Cell) → i < length cells → i < n → run_from kind i (drop i cells) (n - i) ≡ (if is_kind (kind_after kind i) (get_or cells i d).kind then suc (run_from kind (i + 1) (drop (i + 1) cells) (n - (i + 1))) else 0)
run_from-next kind i n cells d h m =
    let e : n - i ≡ suc (n - (i + 1)) = omega arith in
    let f : drop i cells ≡ get_or cells i d ∷ drop (suc i) cells = drop-cons cells i d h in
    ap (λ xs. run_from kind i xs (n - i)) f ∙ ap (run_from kind i (get_or cells i d ∷ drop (suc i) cells)) e ∙ rw add-one

-- the run goes on at the i-th block
pub run_from-more : (kind : Kind) (i n : ℕ) (cells : List Cell) (d : Cell) (all : ℕ) → all ≡ i + run_from kind i (drop i cells) (n - i) → i < length cells → i < n → is_kind (kind_after kind i) (get_or cells i d).kind ≡ true → all ≡ i + 1 + run_from kind (i + 1) (drop (i + 1) cells) (n - (i + 1))
run_from-more kind i n cells d all e h m t =
    let next = run_from-next kind i n cells d h m in
    let goes = if_true _ (suc (run_from kind (i + 1) (drop (i + 1) cells) (n - (i + 1)))) 0 t in
    omega (arith, e, next ∙ goes)

-- it ends there
pub run_from-stop : (kind : Kind) (i n : ℕ) (cells : List Cell) (d : Cell) (all : ℕ) → all ≡ i + run_from kind i (drop i cells) (n - i) → i < length cells → i < n → is_kind (kind_after kind i) (get_or cells i d).kind ≡ false → i ≡ all
run_from-stop kind i n cells d all e h m t =
    let next = run_from-next kind i n cells d h m in
    let stops = if_false _ (suc (run_from kind (i + 1) (drop (i + 1) cells) (n - (i + 1)))) 0 t in
    omega (arith, e, next ∙ stops)

run_from-none : (kind : Kind) (i n : ℕ) (cells : List Cell) → (n ≡ 0) ⊎ (cells ≡ []) → run_from kind i cells n ≡ 0
run_from-none kind i n [] h = refl
run_from-none kind i zero (c ∷ cells) h = refl
run_from-none kind i (suc n) (c ∷ cells) h = elim h [ inl e ↦ absurd (omega arith) | inr e ↦ absurd (cc) ]

-- it ends with the blocks that there are or are wanted
pub run_from-end : (kind : Kind) (end i n : ℕ) (cells : List Cell) (all : ℕ) → all ≡ i + run_from kind i (drop i cells) (n - i) → end ≡ min n (length cells) → i ≡ end → end ≡ all
run_from-end kind end i n cells all e m h =
    let none : (n - i ≡ 0) ⊎ (drop i cells ≡ []) = elim (cut n (length cells)) [ inl l ↦ inl (omega arith) | inr l ↦ inr (drop_of_length-le cells (omega arith)) ] in
    let zero_more = run_from-none kind i (n - i) (drop i cells) none in
    omega (arith, e, zero_more)
  where
    cut : (n k : ℕ) → (min n k ≡ n) ⊎ (min n k ≡ k)
    cut n k = grind arith
