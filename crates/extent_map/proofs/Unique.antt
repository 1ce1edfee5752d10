use Rattle.std.proofs.Common.{◌≡◌, ℕ, zero, suc, ◌+◌, ◌-◌, ◌<◌, ◌≤◌, true, false, not, ◌==◌, nat_lt, nat_le, List, [], ◌∷◌, ◌++◌, length, take, drop, get_or, inl, inr, refl, sym, ◌∙◌, ap, subst, arith}
use Rattle.std.proofs.lemmas.Bool.{and_from, and_parts, and_right, cases_lt, cond-false, cond-true, eqb-true, le-leb, le-ltb, lt-ltb, ltb-true, not-true}
use Rattle.std.proofs.lemmas.List.{append_cancel_left, get_or-append_right, get_or_append_left, take_at}
use Rattle.io_model.specs.Fitting.{could_be_joined, is_merged_from}
use Rattle.io_model.specs.Kinds.{covers, kind_after, kind_at}
use Rattle.io_model.specs.declared.file.Extent.{Extent}
use Rattle.io_model.specs.declared.file.Kind.{Kind}
use Rattle.io_model.specs.declared.file.Kind.TheVariants.{Hole}
use Rattle.extent_map.specs.Expansion.{kinds_of, run_of}
use Rattle.extent_map.specs.Keeping.{goes_on}
use Rattle.extent_map.specs.Longest.{LookupIsUnique, begins}
use Rattle.extent_map.specs.Merged.{MergedListIsUnique, MergedListSaysTheKinds}
use Rattle.extent_map.specs.Splicing.{run_at}
use Rattle.extent_map.proofs.Following.{kind_after-after, kind_after-zero, length-kinds_of, length-run_of}
use Rattle.extent_map.proofs.Looking.{begins_run, longest_run}

-- one extent of a merged list
record Step (a : ℕ) (e : Extent) (es : List Extent) : Type 0 where
  at : e.block ≡ a
  some : 0 < e.length
  apart : goes_on e es ≡ false

-- all of them
abbrev Steps : ℕ → List Extent → Type 0
Steps a [] = Unit {0}
Steps a (e ∷ es) = Step a e es × Steps (a + e.length) es

steps_of : (a b : ℕ) (es : List Extent) → is_merged_from a b es ≡ true → Steps a es
steps_of a b [] h = tt
steps_of a b (e ∷ []) h =
    let p = and_parts (e.block == a) _ h in
    let q = and_parts (nat_lt 0 e.length) _ p.1 in
    (record { at = eqb-true e.block a p.0; some = ltb-true 0 e.length q.0; apart = refl }, tt)
steps_of a b (e ∷ next ∷ es) h =
    let p = and_parts (e.block == a) _ h in
    let q = and_parts (nat_lt 0 e.length) _ p.1 in
    let r = and_parts (not (could_be_joined e next)) _ q.1 in
    (record { at = eqb-true e.block a p.0; some = ltb-true 0 e.length q.0; apart = not-true (could_be_joined e next) r.0 }, steps_of (a + e.length) b (next ∷ es) r.1)

nothing_after : (a : ℕ) (e : Extent) (es : List Extent) → Steps a (e ∷ es) → begins (kind_after e.kind e.length) (kinds_of es) ≡ false
nothing_after a e [] s = refl
nothing_after a e (next ∷ es) s = begins_run (kind_after e.kind e.length) next.kind next.length (kinds_of es) s.1.0.some ∙ s.0.apart

first_kinds : (k x : Kind) (m n : ℕ) (s t : List Kind) → 0 < m → 0 < n → run_of k m ++ s ≡ run_of x n ++ t → k ≡ x
first_kinds k x zero n s t p q e = absurd (omega arith)
first_kinds k x (suc m) zero s t p q e = absurd (omega arith)
first_kinds k x (suc m) (suc n) s t p q e = cc

-- of two first runs none is longer
no_longer_run : (a : ℕ) (e : Extent) (es : List Extent) (f : Extent) (fs : List Extent) → Steps a (e ∷ es) → kinds_of (e ∷ es) ≡ kinds_of (f ∷ fs) → f.length ≤ e.length
no_longer_run a e es f fs s h =
    longest_run e.kind e.length (kinds_of es) f.kind f.length s.0.some (nothing_after a e es s)
    (ap (take f.length) h ∙ take_at (run_of f.kind f.length) (kinds_of fs) f.length (length-run_of f.kind f.length))

same_extent : (b c m n : ℕ) (k x : Kind) → b ≡ c → m ≡ n → k ≡ x → run_at b m k ≡ run_at c n x
same_extent b c m n k x p q r = ap (λ y. run_at y m k) p ∙ ap (λ y. run_at c y k) q ∙ ap (λ y. run_at c n y) r

one_list : (a : ℕ) (xs ys : List Extent) → Steps a xs → Steps a ys → kinds_of xs ≡ kinds_of ys → xs ≡ ys
one_list a [] [] s t h = refl
one_list a [] (f ∷ ys) s t h = absurd (omega (arith, ap length h, length-kinds_of f ys, t.0.some))
one_list a (e ∷ xs) [] s t h = absurd (omega (arith, ap length h, length-kinds_of e xs, s.0.some))
one_list a (e ∷ xs) (f ∷ ys) s t h =
    let kind : e.kind ≡ f.kind = first_kinds e.kind f.kind e.length f.length (kinds_of xs) (kinds_of ys) s.0.some t.0.some h in
    let long : e.length ≡ f.length = omega (arith, no_longer_run a e xs f ys s h, no_longer_run a f ys e xs t (sym h)) in
    let same : e ≡ f = same_extent e.block f.block e.length f.length e.kind f.kind (s.0.at ∙ sym t.0.at) long kind in
    let tails : kinds_of xs ≡ kinds_of ys = append_cancel_left (run_of e.kind e.length) (kinds_of xs) (kinds_of ys) (h ∙ ap (λ x. run_of x.kind x.length ++ kinds_of ys) (sym same)) in
    let P : ℕ → Type 0 = λ n. Steps (a + n) ys in
    ap (λ x. x ∷ xs) same ∙ ap (λ l. f ∷ l) (one_list (a + e.length) xs ys s.1 (subst P (sym long) t.1) tails)

pub merged_unique : MergedListIsUnique
merged_unique kinds xs ys p q =
    one_list 0 xs ys (steps_of 0 (length kinds) xs p.merged) (steps_of 0 (length kinds) ys q.merged) (p.kinds_are ∙ sym q.kinds_are)

first_of_run : (k x : Kind) (n : ℕ) → 0 < n → run_of k n ≡ run_of x n → k ≡ x
first_of_run k x zero p e = absurd (omega arith)
first_of_run k x (suc n) p e = cc

pub lookup_unique : LookupIsUnique
lookup_unique kinds b max e f p q =
    let less : e.length ≤ f.length = q.longest e.kind e.length p.cut p.run in
    let more : f.length ≤ e.length = p.longest f.kind f.length q.cut q.run in
    let long : e.length ≡ f.length = omega arith in
    let runs : run_of e.kind e.length ≡ run_of f.kind e.length =
    sym p.run ∙ ap (λ n. take n (drop b kinds)) long ∙ q.run ∙ ap (run_of f.kind) (sym long) in
    same_extent e.block f.block e.length f.length e.kind f.kind (p.block ∙ sym q.block) long (first_of_run e.kind f.kind e.length p.some runs)

-- a block of a run
get_run : (k : Kind) (n i : ℕ) → i < n → get_or (run_of k n) i Hole ≡ kind_after k i
get_run k zero i h = absurd (omega arith)
get_run k (suc n) zero h = sym (kind_after-zero k)
get_run k (suc n) (suc i) h =
    let step : 1 + i ≡ suc i = omega arith in get_run (kind_after k 1) n i (omega arith) ∙ kind_after-after k 1 i ∙ ap (kind_after k) step

says : (a : ℕ) (es : List Extent) (x : ℕ) → Steps a es → x < length (kinds_of es) → kind_at es (a + x) ≡ get_or (kinds_of es) x Hole
says a [] x s h = absurd (omega arith)
says a (e ∷ es) x s h =
    elim (cases_lt x e.length) [
      | inl inside ↦
          (let n : a + x - e.block ≡ x = omega (arith, s.0.at) in
          let has : covers e (a + x) ≡ true =
          and_from (nat_le e.block (a + x)) _ (le-leb e.block (a + x) (omega (arith, s.0.at))) (lt-ltb (a + x) (e.block + e.length) (omega (arith, s.0.at))) in
          cond-true (covers e (a + x)) (kind_after e.kind (a + x - e.block)) (kind_at es (a + x)) has
          ∙ ap (kind_after e.kind) n
          ∙ sym (get_run e.kind e.length x inside)
          ∙ sym (get_or_append_left (run_of e.kind e.length) (kinds_of es) Hole x (omega (arith, length-run_of e.kind e.length))))
      | inr past ↦
          (let n : a + x ≡ a + e.length + (x - e.length) = omega arith in
          let lacks : covers e (a + x) ≡ false =
          and_right (nat_le e.block (a + x)) _ (le-ltb (a + x) (e.block + e.length) (omega (arith, s.0.at))) in
          cond-false (covers e (a + x)) (kind_after e.kind (a + x - e.block)) (kind_at es (a + x)) lacks
          ∙ ap (kind_at es) n
          ∙ says (a + e.length) es (x - e.length) s.1 (omega (arith, length-kinds_of e es))
          ∙ sym (get_or-append_right (run_of e.kind e.length) (kinds_of es) e.length x Hole (length-run_of e.kind e.length) past))
    ]

pub merged_says : MergedListSaysTheKinds
merged_says kinds extents m b h =
    let n : 0 + b ≡ b = omega arith in
    ap (kind_at extents) (sym n)
    ∙ says 0 extents b (steps_of 0 (length kinds) extents m.merged) (omega (arith, ap length m.kinds_are))
    ∙ ap (λ l. get_or l b Hole) m.kinds_are
