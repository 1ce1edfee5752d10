-- Each word that a seat found is the one that the steps before its own had left.
use Rattle.std.proofs.Common.{◌≡◌, ℕ, zero, suc, ◌+◌, ◌≤◌, Bool, true, false, cond, eqb, get_or, List, [], ◌∷◌, sym, refl, ap, ◌∙◌, arith, ◌⊎◌, inl, inr, ⊎_elim}
use Rattle.std.proofs.lemmas.Bool.Decides.{nat_tests}
use mathlib.Core.Option.{some, some-injective, some-ne-none}
use lib.ListN.{get_elem?}
use Rattle.inode_lock.specs.declared.steps.Step.{Step}
use Rattle.inode_lock.specs.declared.steps.Step.TheVariants.{Look, Take, Leave, Split}
use Rattle.inode_lock.specs.declared.steps.Placed.{Placed}
use Rattle.inode_lock.specs.declared.steps.Known.{Known}
use Rattle.inode_lock.specs.Word.{holds_in, word_of}
use Rattle.inode_lock.specs.Log.{Leads, IsLog, is_at_word, found_by, left_by, word_after, weights, all_weights}
use Rattle.inode_lock.specs.Exclusion.{EachWordWasFound}

-- 1 for a step in this place that found this word, else 0
abbrev like : ℕ → ℕ → Placed → ℕ
like k n q = cond (eqb q.place k) (cond (eqb (found_by q.step) n) 1 0) 0

at-itself : (a b : ℕ) → ◌≡◌ {A = ℕ} (cond (eqb a a) (cond (eqb b b) 1 0) 0) 1
at-itself a b = grind (arith, nat_tests)

same : (a b : ℕ) → eqb a b ≡ true → a ≡ b
same a b e = grind (arith, nat_tests)

-- a step of a seat weighs at most what all its steps do, and these what those of all seats do
step-weighs : (f : Placed → ℕ) (ps : List Placed) (j : ℕ) (p : Placed) → get_elem? ps j ≡ some p → is_at_word p.step ≡ true → f p ≤ weights f ps
step-weighs f [] j p at reads = absurd (some-ne-none p (sym at))
step-weighs f (x ∷ xs) zero p at reads =
    let is : cond (is_at_word x.step) (f x) 0 ≡ f p = ap (λ (q : Placed). cond (is_at_word q.step) (f q) 0) (some-injective x p at) ∙ ap (λ (b : Bool). cond b (f p) 0) reads in omega arith
step-weighs f (x ∷ xs) (suc j) p at reads = let r = step-weighs f xs j p at reads in omega arith

seat-weighs : (f : Placed → ℕ) (vs : List Known) (i : ℕ) (v : Known) → get_elem? vs i ≡ some v → weights f v.steps ≤ all_weights f vs
seat-weighs f [] i v at = absurd (some-ne-none v (sym at))
seat-weighs f (x ∷ xs) zero v at = let is : weights f x.steps ≡ weights f v.steps = ap (λ (u : Known). weights f u.steps) (some-injective x v at) in omega arith
seat-weighs f (x ∷ xs) (suc i) v at = let r = seat-weighs f xs i v at in omega arith

led : (s : Step) (word next : ℕ) → Leads s word next → (found_by s ≡ word) × (next ≡ left_by s)
led (Look found) word next l = (l.0, l.1 ∙ sym l.0)
led (Take c found true) word next l = (l.0, l.1 ∙ ap (λ (m : ℕ). word_of c (holds_in m + 1)) (sym l.0))
led (Take c found false) word next l = (l.0, l.1 ∙ sym l.0)
led (Leave c found) word next l = (l.0, let e = l.0 in let less = l.1 in omega arith)
led Split word next l = absurd l

here-or-later : (w a b : Bool) (rest : ℕ) → 1 ≤ cond w (cond a (cond b 1 0) 0) 0 + rest → ((a ≡ true) × (b ≡ true)) ⊎ (1 ≤ rest)
here-or-later true true true rest h = inl (refl, refl)
here-or-later true true false rest h = inr (omega arith)
here-or-later true false b rest h = inr (omega arith)
here-or-later false a b rest h = inr (omega arith)

-- a step in a log found the word that the steps before it had left
found-in_log : (k n place word last : ℕ) (ps : List Placed) → IsLog place word ps last → 1 ≤ weights (like k n) ps → (d : ℕ) × (k ≡ place + d) × (n ≡ word_after word ps d)
found-in_log k n place word last [] h some_weight = absurd (omega arith)
found-in_log k n place word last (p ∷ ps) h some_weight =
    let l = led p.step word h.0 h.2 in
    ⊎_elim
    (λ (t : (eqb p.place k ≡ true) × (eqb (found_by p.step) n ≡ true)).
    let there : p.place ≡ k = same p.place k t.0 in
    let at : p.place ≡ place = h.1 in
    (zero, (omega arith), sym (same (found_by p.step) n t.1) ∙ l.0))
    (λ (more : 1 ≤ weights (like k n) ps).
    let r = found-in_log k n (place + 1) h.0 last ps h.3 more in
    let is : k ≡ place + 1 + r.0 = r.1 in
    (suc r.0, (omega arith), r.2 ∙ ap (λ (m : ℕ). word_after m ps r.0) l.1))
    (here-or-later (is_at_word p.step) (eqb p.place k) (eqb (found_by p.step) n) (weights (like k n) ps) some_weight)

pub each_word_was_found : EachWordWasFound
each_word_was_found s h i j v p at there reads =
    let f : Placed → ℕ = like p.place (found_by p.step) in
    let one : f p ≡ 1 = at-itself p.place (found_by p.step) in
    let mine : f p ≤ weights f v.steps = step-weighs f v.steps j p there reads in
    let ours : weights f v.steps ≤ all_weights f s.views = seat-weighs f s.views i v at in
    let once : weights f h.logged.log ≡ all_weights f s.views = h.logged.once f in
    let r = found-in_log p.place (found_by p.step) 0 0 (get_or s.words 0 0) h.logged.log h.logged.leads (omega arith) in
    let is : p.place ≡ 0 + r.0 = r.1 in
    r.2 ∙ ap (word_after 0 h.logged.log) (omega arith)
