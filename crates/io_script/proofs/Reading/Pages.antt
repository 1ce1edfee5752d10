-- The user pages of a call, read off their runs.
use Rattle.std.proofs.Common.{◌≡◌, ℕ, zero, suc, ◌+◌, ◌≤◌, ◌==◌, Bool, true, false, List, [], ◌∷◌, ◌++◌, length, decimal, codes, All, IsTrue, if◌then◌else◌, refl, sym, ap, ap₂, ◌∙◌, arith, add-one, eqb-true}
use Rattle.std.proofs.lemmas.Fmt.{decimal_digit}
use Rattle.std.proofs.lemmas.List.{append_cancel_left}
use Rattle.std.proofs.lemmas.List.Elements.{All-head, All-tail}
use Rattle.io_model.specs.RunText.{onto_runs, page_runs, runs_text, more_runs_text}
use Rattle.io_script.specs.Ranges.{IsWord}
use Rattle.io_script.proofs.Reading.Lists.{heads, tails, Each, IsRead, lines, lines_one}
use Rattle.io_script.proofs.Reading.Pieces.{stops, is_digit, number_one}

-- The numbers of runs

-- the numbers of a run
up : ℕ → ℕ → List ℕ
up first zero = []
up first (suc n) = first ∷ up (first + 1) n

numbers : List (ℕ × ℕ) → List ℕ
numbers [] = []
numbers (r ∷ rs) = up r.0 r.1 ++ numbers rs

numbers-onto_by : (b : Bool) (page : ℕ) (r : ℕ × ℕ) (rs : List (ℕ × ℕ)) → (page + 1 == r.0) ≡ b
    → numbers (if b then (page, r.1 + 1) ∷ rs else (page, 1) ∷ r ∷ rs) ≡ page ∷ numbers (r ∷ rs)
unfolding up numbers
numbers-onto_by true page r rs e =
    ap (λ n. up page n ++ numbers rs) (add-one r.1) ∙ ap (λ next. page ∷ (up next r.1 ++ numbers rs)) (eqb-true (page + 1) r.0 e)
numbers-onto_by false page r rs e = refl

numbers-onto : (page : ℕ) (rs : List (ℕ × ℕ)) → numbers (onto_runs page rs) ≡ page ∷ numbers rs
unfolding up numbers
numbers-onto page [] = refl
numbers-onto page (r ∷ rs) = numbers-onto_by (page + 1 == r.0) page r rs refl

-- the runs of some numbers have these numbers
numbers-page_runs : (pages : List ℕ) → numbers (page_runs pages) ≡ pages
unfolding numbers
numbers-page_runs [] = refl
numbers-page_runs (page ∷ pages) = numbers-onto page (page_runs pages) ∙ ap (λ l. page ∷ l) (numbers-page_runs pages)

-- How long runs are

abbrev IsShort : ℕ → ℕ × ℕ → Type 0
IsShort most r = IsWord r.0 × (r.1 ≤ most)

short_more : (most : ℕ) (rs : List (ℕ × ℕ)) → Each (IsShort most) rs → Each (IsShort (most + 1)) rs
short_more most [] h = tt
short_more most (r ∷ rs) h = ((h.0.0, omega (arith, h.0.1)), short_more most rs h.1)

short-onto_by : (b : Bool) (most page : ℕ) (r : ℕ × ℕ) (rs : List (ℕ × ℕ)) → IsWord page → Each (IsShort most) (r ∷ rs)
    → Each (IsShort (most + 1)) (if b then (page, r.1 + 1) ∷ rs else (page, 1) ∷ r ∷ rs)
short-onto_by true most page r rs small h = ((small, omega (arith, h.0.1)), short_more most rs h.1)
short-onto_by false most page r rs small h = ((small, omega arith), short_more most (r ∷ rs) h)

short-onto : (most page : ℕ) (rs : List (ℕ × ℕ)) → IsWord page → Each (IsShort most) rs → Each (IsShort (most + 1)) (onto_runs page rs)
short-onto most page [] small h = ((small, omega arith), tt)
short-onto most page (r ∷ rs) small h = short-onto_by (page + 1 == r.0) most page r rs small h

short-page_runs : (pages : List ℕ) (n : ℕ) → n ≡ length pages → All IsWord pages → Each (IsShort n) (page_runs pages)
short-page_runs [] n e h = tt
short-page_runs (page ∷ pages) n e h =
    let more = short-onto (length pages) page (page_runs pages) (All-head IsWord page pages h) (short-page_runs pages (length pages) refl (All-tail IsWord page pages h)) in
    let same : length pages + 1 ≡ n = omega (arith, e) in
    subst_short page pages n same more
  where
    subst_short : (page : ℕ) (pages : List ℕ) (n : ℕ) → length pages + 1 ≡ n → Each (IsShort (length pages + 1)) (onto_runs page (page_runs pages)) → Each (IsShort n) (onto_runs page (page_runs pages))
    subst_short page pages n same more = rw same at more

-- The texts of runs

abbrev pub IsSmallRun : ℕ × ℕ → Type 0
IsSmallRun r = IsWord r.0 × IsWord r.1

small_runs : (most : ℕ) (rs : List (ℕ × ℕ)) → IsWord most → Each (IsShort most) rs → Each IsSmallRun rs
small_runs most [] h k = tt
small_runs most (r ∷ rs) h k = ((k.0.0, omega (arith, h, k.0.1)), small_runs most rs h k.1)

pub small-page_runs : (pages : List ℕ) → All IsWord pages → IsWord (length pages) → Each IsSmallRun (page_runs pages)
small-page_runs pages h small = small_runs (length pages) (page_runs pages) small (short-page_runs pages (length pages) refl h)

abbrev run_text_of : ℕ × ℕ → List ℕ → List ℕ
run_text_of r rest = decimal r.0 ++ (codes "+" ++ (decimal r.1 ++ rest))

abbrev next_run : ℕ × ℕ → List ℕ → List ℕ
next_run r rest = codes "," ++ run_text_of r rest

run_one : (r s : ℕ × ℕ) (a b : List ℕ) → IsSmallRun r → IsSmallRun s → IsTrue (stops is_digit a) → IsTrue (stops is_digit b) → run_text_of r a ≡ run_text_of s b → (r ≡ s) × (a ≡ b)
run_one r s a b hr hs ha hb e =
    let first = number_one r.0 s.0 (codes "+" ++ (decimal r.1 ++ a)) (codes "+" ++ (decimal s.1 ++ b)) hr.0 hs.0 refl refl e in
    let count = number_one r.1 s.1 a b hr.1 hs.1 ha hb (append_cancel_left (codes "+") (decimal r.1 ++ a) (decimal s.1 ++ b) first.1) in
    (ap₂ (λ x y. (x, y)) first.0 count.0, count.1)

next_run_read : IsRead next_run IsSmallRun (λ a. IsTrue (stops is_digit a))
next_run_read = record {
  one = λ r s a b hr hs ha hb e. run_one r s a b hr hs ha hb (append_cancel_left (codes ",") (run_text_of r a) (run_text_of s b) e);
  begins = λ r a. refl;
}

more_runs_text-lines : (rs : List (ℕ × ℕ)) (rest : List ℕ) → more_runs_text rs rest ≡ lines next_run rs rest
more_runs_text-lines [] rest = refl
more_runs_text-lines (r ∷ rs) rest = ap (λ more. next_run r more) (more_runs_text-lines rs rest)

-- the runs as they are printed: no runs as a first number and none
abbrev shown : ℕ → List (ℕ × ℕ) → (ℕ × ℕ) × List (ℕ × ℕ)
shown first [] = ((first, 0), [])
shown first (r ∷ rs) = (r, rs)

abbrev shown_text : (ℕ × ℕ) × List (ℕ × ℕ) → List ℕ → List ℕ
shown_text p rest = run_text_of p.0 (lines next_run p.1 rest)

runs_text-shown : (first : ℕ) (rs : List (ℕ × ℕ)) (rest : List ℕ) → runs_text first rs rest ≡ shown_text (shown first rs) rest
runs_text-shown first [] rest = ap (λ zero. decimal first ++ (codes "+" ++ (zero ++ rest))) (sym (decimal_digit 0 (omega arith)))
runs_text-shown first (r ∷ rs) rest = ap (λ more. run_text_of r more) (more_runs_text-lines rs rest)

numbers-shown : (first : ℕ) (rs : List (ℕ × ℕ)) → numbers ((shown first rs).0 ∷ (shown first rs).1) ≡ numbers rs
unfolding up numbers
numbers-shown first [] = refl
numbers-shown first (r ∷ rs) = refl

small-shown : (first : ℕ) (rs : List (ℕ × ℕ)) → IsWord first → Each IsSmallRun rs → IsSmallRun (shown first rs).0 × Each IsSmallRun (shown first rs).1
small-shown first [] h k = ((h, omega arith), tt)
small-shown first (r ∷ rs) h k = (k.0, k.1)

lines_stop : (rs : List (ℕ × ℕ)) (a : List ℕ) → IsTrue (stops is_digit (lines next_run rs (10 ∷ a)))
lines_stop [] a = refl
lines_stop (r ∷ rs) a = refl

no_run_ends : (a : List ℕ) (r : ℕ × ℕ) (b : List ℕ) → IsSmallRun r → next_run r b ≡ 10 ∷ a → ⊥
no_run_ends a r b h e = let differ : 44 ≡ 10 = heads 44 10 (run_text_of r b) a e in omega (arith, differ)

shown_one : (p q : (ℕ × ℕ) × List (ℕ × ℕ)) (a b : List ℕ) → IsSmallRun p.0 × Each IsSmallRun p.1 → IsSmallRun q.0 × Each IsSmallRun q.1
    → shown_text p (10 ∷ a) ≡ shown_text q (10 ∷ b) → (numbers (p.0 ∷ p.1) ≡ numbers (q.0 ∷ q.1)) × (a ≡ b)
shown_one p q a b hp hq e =
    let first = run_one p.0 q.0 (lines next_run p.1 (10 ∷ a)) (lines next_run q.1 (10 ∷ b)) hp.0 hq.0 (lines_stop p.1 a) (lines_stop q.1 b) e in
    let others = lines_one next_run IsSmallRun (λ t. IsTrue (stops is_digit t)) next_run_read p.1 q.1 (10 ∷ a) (10 ∷ b) hp.1 hq.1 refl refl (no_run_ends a) (no_run_ends b) first.1 in
    (ap₂ (λ r rs. numbers (r ∷ rs)) first.0 others.0, tails 10 10 a b others.1)

-- the pages can be read off their text, up to the end of the line
pub pages_one : (first : ℕ) (ps qs a b : List ℕ) → IsWord first → All IsWord ps → IsWord (length ps) → All IsWord qs → IsWord (length qs)
    → runs_text first (page_runs ps) (10 ∷ a) ≡ runs_text first (page_runs qs) (10 ∷ b) → (ps ≡ qs) × (a ≡ b)
pages_one first ps qs a b hf hp lp hq lq e =
    let same = shown_one (shown first (page_runs ps)) (shown first (page_runs qs)) a b (small-shown first (page_runs ps) hf (small-page_runs ps hp lp)) (small-shown first (page_runs qs) hf (small-page_runs qs hq lq))
    (sym (runs_text-shown first (page_runs ps) (10 ∷ a)) ∙ e ∙ runs_text-shown first (page_runs qs) (10 ∷ b)) in
    (sym (numbers-page_runs ps) ∙ sym (numbers-shown first (page_runs ps)) ∙ same.0 ∙ numbers-shown first (page_runs qs) ∙ numbers-page_runs qs, same.1)
