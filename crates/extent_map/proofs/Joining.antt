use Rattle.std.proofs.Common.{◌≡◌, ℕ, zero, suc, ◌+◌, ◌<◌, ◌≤◌, Bool, true, false, if◌then◌else◌, List, [], ◌∷◌, ◌++◌, length, take, drop, set, get_or, refl, sym, ◌∙◌, ap, subst, arith, add-zero, append_assoc}
use Rattle.std.specs.Prelude.{remove}
use Rattle.std.proofs.lemmas.List.{append-nil, get_or_read, take-append-drop}
use Rattle.io_model.specs.Fitting.{could_be_joined}
use Rattle.io_model.specs.Kinds.{kind_after, is_kind}
use Rattle.io_model.specs.declared.file.Extent.{Extent}
use Rattle.io_model.specs.declared.file.Kind.{Kind}
use Rattle.io_model.specs.declared.file.Kind.TheVariants.{Hole, Delalloc, Unwritten, Mapped}
use Rattle.extent_map.specs.Edits.{attach, glue, joined_at, longer}
use Rattle.extent_map.specs.Expansion.{NumbersFit, kinds_of, run_of}
use Rattle.extent_map.specs.Keeping.{Apart, FollowOn, goes_on}
use Rattle.extent_map.proofs.Following.{kind_after-after, length-kinds_of, run_of-add}
use Rattle.extent_map.proofs.Looking.{is_kind-true}

-- glue with its test as an argument
abbrev glue_by : Bool → Extent → Extent → List Extent → List Extent
glue_by t e f es = if t then longer e f.length ∷ es else e ∷ f ∷ es

-- the kinds of glued extents
glue_by-kinds : (t : Bool) (e f : Extent) (es : List Extent) → could_be_joined e f ≡ t → kinds_of (glue_by t e f es) ≡ run_of e.kind e.length ++ kinds_of (f ∷ es)
glue_by-kinds true e f es h =
    ap (λ l. l ++ kinds_of es)
    (run_of-add e.kind e.length f.length ∙ ap (λ k. run_of e.kind e.length ++ run_of k f.length) (is_kind-true (kind_after e.kind e.length) f.kind h))
    ∙ append_assoc (run_of e.kind e.length) (run_of f.kind f.length) (kinds_of es)
glue_by-kinds false e f es h = refl

pub kinds_of-glue : (e : Extent) (es : List Extent) → kinds_of (glue e es) ≡ run_of e.kind e.length ++ kinds_of es
kinds_of-glue e [] = refl
kinds_of-glue e (f ∷ es) = glue_by-kinds (could_be_joined e f) e f es refl

-- numbers that fit in both parts of a run
fits_longer : (k : Kind) (m n : ℕ) → NumbersFit (kind_after k m) n → NumbersFit k (m + n)
fits_longer Hole m n f = tt
fits_longer Delalloc m n f = tt
fits_longer (Unwritten d) m n f = omega arith
fits_longer (Mapped d) m n f = omega arith

follow_by : (t : Bool) (a : ℕ) (e f : Extent) (es : List Extent) → could_be_joined e f ≡ t → FollowOn a (e ∷ f ∷ es) → FollowOn a (glue_by t e f es)
follow_by true a e f es h o =
    let P : ℕ → Type 0 = λ n. FollowOn n es in
    let Q : Kind → Type 0 = λ k. NumbersFit k f.length in
    let n : a + e.length + f.length ≡ a + (e.length + f.length) = omega arith in
    let some : 0 < e.length + f.length = omega (arith, o.0.some) in
    let fits : NumbersFit (kind_after e.kind e.length) f.length = subst Q (sym (is_kind-true (kind_after e.kind e.length) f.kind h)) o.1.0.fits in (
      record { at = o.0.at; some = some; fits = fits_longer e.kind e.length f.length fits },
      subst P n o.1.1,
    )
follow_by false a e f es h o = o

pub follow_glue : (a : ℕ) (e : Extent) (es : List Extent) → FollowOn a (e ∷ es) → FollowOn a (glue e es)
follow_glue a e [] o = o
follow_glue a e (f ∷ es) o = follow_by (could_be_joined e f) a e f es refl o

-- extents whose next kinds are the same
pub goes_on_same : (e f : Extent) (es : List Extent) → kind_after e.kind e.length ≡ kind_after f.kind f.length → goes_on e es ≡ goes_on f es
goes_on_same e f [] h = refl
goes_on_same e f (g ∷ es) h = ap (λ k. is_kind k g.kind) h

apart_by : (t : Bool) (e f : Extent) (es : List Extent) → could_be_joined e f ≡ t → Apart (f ∷ es) → Apart (glue_by t e f es)
apart_by true e f es h a =
    let k : kind_after e.kind (e.length + f.length) ≡ kind_after f.kind f.length =
    sym (kind_after-after e.kind e.length f.length) ∙ ap (λ q. kind_after q f.length) (is_kind-true (kind_after e.kind e.length) f.kind h) in
    (goes_on_same (longer e f.length) f es k ∙ a.0, a.1)
apart_by false e f es h a = (h, a)

pub apart_glue : (e : Extent) (es : List Extent) → Apart es → Apart (glue e es)
apart_glue e [] a = (refl, tt)
apart_glue e (f ∷ es) a = apart_by (could_be_joined e f) e f es refl a

head_by : (t : Bool) (x e f : Extent) (es : List Extent) → goes_on x (glue_by t e f es) ≡ could_be_joined x e
head_by true x e f es = refl
head_by false x e f es = refl

head_glue : (x e : Extent) (es : List Extent) → goes_on x (glue e es) ≡ could_be_joined x e
head_glue x e [] = refl
head_glue x e (f ∷ es) = head_by (could_be_joined e f) x e f es

head_attach : (x f : Extent) (es rest : List Extent) → goes_on x (attach (f ∷ es) rest) ≡ could_be_joined x f
head_attach x f [] rest = head_glue x f rest
head_attach x f (g ∷ es) rest = refl

-- two lists of extents, joined where they meet
pub kinds_of-attach : (l r : List Extent) → kinds_of (attach l r) ≡ kinds_of l ++ kinds_of r
kinds_of-attach [] r = refl
kinds_of-attach (e ∷ []) r = kinds_of-glue e r ∙ ap (λ k. k ++ kinds_of r) (sym (append-nil (run_of e.kind e.length)))
kinds_of-attach (e ∷ f ∷ es) r =
    ap (λ k. run_of e.kind e.length ++ k) (kinds_of-attach (f ∷ es) r) ∙ sym (append_assoc (run_of e.kind e.length) (kinds_of (f ∷ es)) (kinds_of r))

pub follow_attach : (a : ℕ) (l r : List Extent) → FollowOn a l → FollowOn (a + length (kinds_of l)) r → FollowOn a (attach l r)
follow_attach a [] r f g = let P : ℕ → Type 0 = λ n. FollowOn n r in subst P (add-zero a) g
follow_attach a (e ∷ []) r f g =
    let P : ℕ → Type 0 = λ n. FollowOn n r in
    let n : a + length (kinds_of (e ∷ [])) ≡ a + e.length = omega (arith, length-kinds_of e []) in
    follow_glue a e r (f.0, subst P n g)
follow_attach a (e ∷ x ∷ es) r f g =
    let P : ℕ → Type 0 = λ n. FollowOn n r in
    let n : a + length (kinds_of (e ∷ x ∷ es)) ≡ a + e.length + length (kinds_of (x ∷ es)) = omega (arith, length-kinds_of e (x ∷ es)) in
    (f.0, follow_attach (a + e.length) (x ∷ es) r f.1 (subst P n g))

pub apart_attach : (l r : List Extent) → Apart l → Apart r → Apart (attach l r)
apart_attach [] r a b = b
apart_attach (e ∷ []) r a b = apart_glue e r b
apart_attach (e ∷ f ∷ es) r a b = (head_attach e f es r ∙ a.0, apart_attach (f ∷ es) r a.1 b)

-- what joining at a place does
pub joined_append : (l : List Extent) (e : Extent) (r : List Extent) → joined_at (length l) (l ++ e ∷ r) ≡ l ++ glue e r
joined_append [] e r = refl
joined_append (x ∷ l) e r = ap (λ k. x ∷ k) (joined_append l e r)

joined_attach : (p : ℕ) (l r : List Extent) → length l ≡ suc p → joined_at p (l ++ r) ≡ attach l r
joined_attach p [] r h = absurd (omega arith)
joined_attach zero (e ∷ []) r h = refl
joined_attach (suc p) (e ∷ []) r h = absurd (omega arith)
joined_attach zero (e ∷ f ∷ es) r h = absurd (omega arith)
joined_attach (suc p) (e ∷ f ∷ es) r h = ap (λ k. e ∷ k) (joined_attach p (f ∷ es) r (omega arith))

pub joined_before : (i p : ℕ) (runs : List Extent) → length (take i runs) ≡ suc p → joined_at p runs ≡ attach (take i runs) (drop i runs)
joined_before i p runs h = ap (joined_at p) (sym (take-append-drop i runs)) ∙ joined_attach p (take i runs) (drop i runs) h

pub joined_past : (i : ℕ) (runs : List Extent) → length runs ≤ suc i → joined_at i runs ≡ runs
joined_past i [] h = refl
joined_past zero (e ∷ []) h = refl
joined_past zero (e ∷ f ∷ es) h = absurd (omega arith)
joined_past (suc i) (e ∷ es) h = ap (λ k. e ∷ k) (joined_past i es (omega arith))

not_by : (t : Bool) (e f : Extent) (es : List Extent) → t ≡ false → glue_by t e f es ≡ e ∷ f ∷ es
not_by true e f es h = absurd (cc)
not_by false e f es h = refl

yes_by : (t : Bool) (e f : Extent) (es : List Extent) → t ≡ true → glue_by t e f es ≡ longer e f.length ∷ es
yes_by true e f es h = refl
yes_by false e f es h = absurd (cc)

pub joined_not : (i : ℕ) (runs : List Extent) (d : Extent) → suc i < length runs → could_be_joined (get_or runs i d) (get_or runs (suc i) d) ≡ false → joined_at i runs ≡ runs
joined_not i [] d h n = refl
joined_not zero (e ∷ []) d h n = refl
joined_not zero (e ∷ f ∷ es) d h n = not_by (could_be_joined e f) e f es n
joined_not (suc i) (e ∷ es) d h n = ap (λ k. e ∷ k) (joined_not i es d (omega arith) n)

pub joined_yes : (i : ℕ) (runs : List Extent) (d : Extent) → suc i < length runs → could_be_joined (get_or runs i d) (get_or runs (suc i) d) ≡ true → joined_at i runs ≡ remove (set runs i (longer (get_or runs i d) (get_or runs (suc i) d).length)) (suc i)
joined_yes i [] d h n = absurd (omega arith)
joined_yes zero (e ∷ []) d h n = absurd (omega arith)
joined_yes zero (e ∷ f ∷ es) d h n = yes_by (could_be_joined e f) e f es n
joined_yes (suc i) (e ∷ es) d h n = ap (λ k. e ∷ k) (joined_yes i es d (omega arith) n)

-- two neighbours have no more blocks than all
pub both_short : (i : ℕ) (runs : List Extent) (d : Extent) → suc i < length runs → (get_or runs i d).length + (get_or runs (suc i) d).length ≤ length (kinds_of runs)
both_short i [] d h = absurd (omega arith)
both_short zero (e ∷ []) d h = absurd (omega arith)
both_short zero (e ∷ f ∷ es) d h = omega (arith, length-kinds_of e (f ∷ es), length-kinds_of f es)
both_short (suc i) (e ∷ es) d h = omega (arith, length-kinds_of e es, both_short i es d (omega arith))

-- the same of extents that were read
read_test : (i : ℕ) (runs : List Extent) (e f : Extent) (t : Bool) → i + 1 < length runs → e ≡ get_or runs i e → f ≡ get_or runs (i + 1) f → could_be_joined e f ≡ t → could_be_joined (get_or runs i e) (get_or runs (suc i) e) ≡ t
read_test i runs e f t h p q is =
    let n : i + 1 ≡ suc i = omega arith in
    let g : f ≡ get_or runs (suc i) e = get_or_read runs (i + 1) f h q e ∙ ap (λ x. get_or runs x e) n in
    ap (λ x. could_be_joined x (get_or runs (suc i) e)) (sym p) ∙ ap (could_be_joined e) (sym g) ∙ is

pub not_joined : (i : ℕ) (runs : List Extent) (e f : Extent) → i + 1 < length runs → e ≡ get_or runs i e → f ≡ get_or runs (i + 1) f → could_be_joined e f ≡ false → joined_at i runs ≡ runs
not_joined i runs e f h p q is = joined_not i runs e (omega arith) (read_test i runs e f false h p q is)

pub are_joined : (i : ℕ) (runs : List Extent) (e f : Extent) → i + 1 < length runs → e ≡ get_or runs i e → f ≡ get_or runs (i + 1) f → could_be_joined e f ≡ true → remove (set runs i (longer e f.length)) (i + 1) ≡ joined_at i runs
are_joined i runs e f h p q is =
    let n : i + 1 ≡ suc i = omega arith in
    let g : f ≡ get_or runs (suc i) e = get_or_read runs (i + 1) f h q e ∙ ap (λ x. get_or runs x e) n in
    ap (λ x. remove (set runs i (longer x f.length)) (i + 1)) p
    ∙ ap (λ x. remove (set runs i (longer (get_or runs i e) x.length)) (i + 1)) g
    ∙ ap (remove (set runs i (longer (get_or runs i e) (get_or runs (suc i) e).length))) n
    ∙ sym (joined_yes i runs e (omega arith) (read_test i runs e f true h p q is))

pub read_short : (i : ℕ) (runs : List Extent) (e f : Extent) → i + 1 < length runs → e ≡ get_or runs i e → f ≡ get_or runs (i + 1) f → e.length + f.length ≤ length (kinds_of runs)
read_short i runs e f h p q =
    let n : i + 1 ≡ suc i = omega arith in
    let g : f ≡ get_or runs (suc i) e = get_or_read runs (i + 1) f h q e ∙ ap (λ x. get_or runs x e) n in
    omega (arith, ap (λ x. x.length) p, ap (λ x. x.length) g, both_short i runs e (omega arith))

pub glue_yes : (e f : Extent) (es : List Extent) → could_be_joined e f ≡ true → glue e (f ∷ es) ≡ longer e f.length ∷ es
glue_yes e f es h = yes_by (could_be_joined e f) e f es h

pub glue_no : (e f : Extent) (es : List Extent) → could_be_joined e f ≡ false → glue e (f ∷ es) ≡ e ∷ f ∷ es
glue_no e f es h = not_by (could_be_joined e f) e f es h
