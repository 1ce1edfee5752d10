-- Merged extents with a run more at the end.
use Rattle.std.proofs.Common.{◌≡◌, ℕ, ◌+◌, ◌-◌, ◌<◌, ◌≤◌, Bool, true, false, not, ◌&&◌, nat_le, nat_lt, if◌then◌else◌, List, [], ◌∷◌, ◌++◌, All, refl, sym, ◌∙◌, ap, subst, arith, append_assoc}
use Rattle.std.proofs.lemmas.Bool.{eqb-true}
use Rattle.std.proofs.lemmas.Bool.Decides.{nat_tests}
use Rattle.std.proofs.lemmas.List.Elements.{All-cons, All-head, All-nil, All-tail}
use Rattle.io_model.specs.Fitting.{could_be_joined, is_merged_from}
use Rattle.io_model.specs.Kinds.{covers, kind_after, kind_at, is_kind}
use Rattle.io_model.specs.declared.file.Extent.{Extent}
use Rattle.io_model.specs.declared.file.Kind.{Kind}
use Rattle.io_model.specs.declared.file.Kind.TheVariants.{Hole, Delalloc, Unwritten, Mapped}
use Rattle.file_stripes.specs.Kinds.{IsFirstRun}
use Rattle.file_stripes.specs.Runs.{IsFirstExtent, longer, with_run}
use Rattle.file_stripes.proofs.KindLemmas.{is_kind-true, kind_after-add}
use Rattle.file_stripes.proofs.MergedLemmas.{Last, before_of, from_before, from_last, last_of, merged-le}

-- what the last extent becomes
abbrev pub last_with : Extent → Extent → List Extent
last_with e r = if could_be_joined e r then longer e r.length ∷ [] else e ∷ r ∷ []

pub with_run-append : (es : List Extent) (e r : Extent) → with_run (es ++ e ∷ []) r ≡ es ++ last_with e r
with_run-append [] e r = refl
with_run-append (x ∷ []) e r = refl
with_run-append (x ∷ y ∷ es) e r = ap (λ l. x ∷ l) (with_run-append (y ∷ es) e r)

if_is : (t : Bool) (x y : List Extent) → t ≡ true → (if t then x else y) ≡ x
if_is true x y e = refl
if_is false x y e = absurd (cc)

if_not : (t : Bool) (x y : List Extent) → t ≡ false → (if t then x else y) ≡ y
if_not true x y e = absurd (cc)
if_not false x y e = refl

-- the run joined the last extent
pub joined : (old rest now : List Extent) (e r : Extent) → old ≡ rest ++ e ∷ [] → could_be_joined e r ≡ true → now ≡ rest ++ longer e r.length ∷ [] → now ≡ with_run old r
joined old rest now e r o t n =
    n ∙ ap (λ l. rest ++ l) (sym (if_is _ (longer e r.length ∷ []) (e ∷ r ∷ []) t)) ∙ sym (with_run-append rest e r) ∙ ap (λ l. with_run l r) (sym o)

-- the run stands for itself
pub began : (old rest mid now : List Extent) (e r : Extent) → old ≡ rest ++ e ∷ [] → could_be_joined e r ≡ false → mid ≡ rest ++ e ∷ [] → now ≡ mid ++ r ∷ [] → now ≡ with_run old r
began old rest mid now e r o t m n =
    n ∙ ap (λ l. l ++ r ∷ []) m ∙ append_assoc rest (e ∷ []) (r ∷ [])
    ∙ ap (λ l. rest ++ l) (sym (if_not _ (longer e r.length ∷ []) (e ∷ r ∷ []) t)) ∙ sym (with_run-append rest e r) ∙ ap (λ l. with_run l r) (sym o)

-- the extents with a run more begin as they did
record BeginsAs (f : Extent) (es : List Extent) : Type 0 where
  head : Extent
  tail : List Extent
  is : es ≡ head ∷ tail
  kind : head.kind ≡ f.kind

last_begins : (f r : Extent) (t : Bool) → BeginsAs f (if t then longer f r.length ∷ [] else f ∷ r ∷ [])
last_begins f r true = record { head = longer f r.length; tail = []; is = refl; kind = refl }
last_begins f r false = record { head = f; tail = r ∷ []; is = refl; kind = refl }

begins_as : (f : Extent) (es : List Extent) (r : Extent) → BeginsAs f (with_run (f ∷ es) r)
begins_as f [] r = last_begins f r (could_be_joined f r)
begins_as f (g ∷ es) r = record { head = f; tail = with_run (g ∷ es) r; is = refl; kind = refl }

-- a run that is to stand from a block on
pub record Stands (b : ℕ) (r : Extent) : Type 0 where
  pub at : r.block ≡ b
  pub some : 0 < r.length

is_some : (n : ℕ) → 0 < n → nat_lt 0 n ≡ true
is_some n h = grind (arith, nat_tests)

one_merged : (a b : ℕ) (r : Extent) → Stands b r → b ≡ a → is_merged_from a (b + r.length) (r ∷ []) ≡ true
one_merged a b r s e =
    from_last a (b + r.length) r (record { at = s.at ∙ e; some = is_some r.length s.some; end = omega (arith, s.at) })

last_merged : (a b : ℕ) (e r : Extent) (t : Bool) → could_be_joined e r ≡ t → Stands b r → Last a b e → is_merged_from a (b + r.length) (if t then longer e r.length ∷ [] else e ∷ r ∷ []) ≡ true
last_merged a b e r true is s l =
    from_last a (b + r.length) (longer e r.length) (record { at = l.at; some = is_some (e.length + r.length) (omega (arith, s.some)); end = omega (arith, l.end) })
last_merged a b e r false is s l =
    from_before a (b + r.length) e r [] (record { at = l.at; some = l.some; apart = ap not is; rest = one_merged (a + e.length) b r s (omega (arith, l.at, l.end)) })

-- merged extents stay merged
pub merged_with : (a b : ℕ) (es : List Extent) (r : Extent) → is_merged_from a b es ≡ true → Stands b r → is_merged_from a (b + r.length) (with_run es r) ≡ true
merged_with a b [] r h s = one_merged a b r s (sym (eqb-true a b h))
merged_with a b (e ∷ []) r h s = last_merged a b e r (could_be_joined e r) refl s (last_of a b e h)
merged_with a b (e ∷ f ∷ es) r h s =
    let l = before_of a b e f es h in
    let g = begins_as f es r in
    let M : List Extent → Type 0 = λ xs. is_merged_from (a + e.length) (b + r.length) xs ≡ true in
    let rest : M (g.head ∷ g.tail) = subst M g.is (merged_with (a + e.length) b (f ∷ es) r l.rest s) in
    let apart : not (could_be_joined e g.head) ≡ true = ap (λ q. not (is_kind (kind_after e.kind e.length) q)) g.kind ∙ l.apart in
    let N : List Extent → Type 0 = λ xs. is_merged_from a (b + r.length) (e ∷ xs) ≡ true in
    subst N (sym g.is) (from_before a (b + r.length) e g.head g.tail (record { at = l.at; some = l.some; apart = apart; rest = rest }))

-- what one extent gives, before others
abbrev choice : Bool → Kind → Kind → Kind
choice t x y = if t then x else y

cover_grown : (p l n x b : ℕ) → p + l ≡ b → x < b → (nat_le p x && nat_lt x (p + (l + n))) ≡ (nat_le p x && nat_lt x (p + l))
cover_grown p l n x b e h = grind (arith, nat_tests)

cover_before : (p n x : ℕ) → x < p → (nat_le p x && nat_lt x (p + n)) ≡ false
cover_before p n x h = grind (arith, nat_tests)

cover_in : (p n x : ℕ) → p ≤ x → x < p + n → (nat_le p x && nat_lt x (p + n)) ≡ true
cover_in p n x h m = grind (arith, nat_tests)

cover_past : (p n x : ℕ) → p + n ≤ x → (nat_le p x && nat_lt x (p + n)) ≡ false
cover_past p n x h = grind (arith, nat_tests)

-- an extent gives no kind to a block before it or behind it, and to its own blocks theirs
pub kind_before : (e : Extent) (es : List Extent) (x : ℕ) → x < e.block → kind_at (e ∷ es) x ≡ kind_at es x
kind_before e es x h = ap (λ t. choice t (kind_after e.kind (x - e.block)) (kind_at es x)) (cover_before e.block e.length x h)

pub kind_in : (e : Extent) (es : List Extent) (x : ℕ) → e.block ≤ x → x < e.block + e.length → kind_at (e ∷ es) x ≡ kind_after e.kind (x - e.block)
kind_in e es x h m = ap (λ t. choice t (kind_after e.kind (x - e.block)) (kind_at es x)) (cover_in e.block e.length x h m)

pub kind_past : (e : Extent) (es : List Extent) (x : ℕ) → e.block + e.length ≤ x → kind_at (e ∷ es) x ≡ kind_at es x
kind_past e es x h = ap (λ t. choice t (kind_after e.kind (x - e.block)) (kind_at es x)) (cover_past e.block e.length x h)

last_kept : (a b x : ℕ) (e r : Extent) (t : Bool) → Stands b r → x < b → Last a b e → kind_at (if t then longer e r.length ∷ [] else e ∷ r ∷ []) x ≡ kind_at (e ∷ []) x
last_kept a b x e r true s h l =
    ap (λ t. choice t (kind_after e.kind (x - e.block)) Hole) (cover_grown e.block e.length r.length x b l.end h)
last_kept a b x e r false s h l =
    ap (λ q. choice (covers e x) (kind_after e.kind (x - e.block)) q) (kind_before r [] x (omega (arith, s.at)))

-- the blocks before keep their kinds
pub kind_kept : (a b x : ℕ) (es : List Extent) (r : Extent) → is_merged_from a b es ≡ true → Stands b r → x < b → kind_at (with_run es r) x ≡ kind_at es x
kind_kept a b x [] r h s m = kind_before r [] x (omega (arith, s.at))
kind_kept a b x (e ∷ []) r h s m = last_kept a b x e r (could_be_joined e r) s m (last_of a b e h)
kind_kept a b x (e ∷ f ∷ es) r h s m =
    let l = before_of a b e f es h in
    ap (λ q. choice (covers e x) (kind_after e.kind (x - e.block)) q) (kind_kept (a + e.length) b x (f ∷ es) r l.rest s m)

last_next : (a b x : ℕ) (e r : Extent) (t : Bool) → could_be_joined e r ≡ t → Stands b r → b ≤ x → x < b + r.length → Last a b e → kind_at (if t then longer e r.length ∷ [] else e ∷ r ∷ []) x ≡ kind_after r.kind (x - b)
last_next a b x e r true is s h m l =
    kind_in (longer e r.length) [] x (omega (arith, l.end)) (omega (arith, l.end))
    ∙ ap (kind_after e.kind) (omega (arith, l.end))
    ∙ sym (kind_after-add e.kind e.length (x - b))
    ∙ ap (λ k. kind_after k (x - b)) (is_kind-true _ _ is)
last_next a b x e r false is s h m l =
    kind_past e (r ∷ []) x (omega (arith, l.end))
    ∙ kind_in r [] x (omega (arith, s.at)) (omega (arith, s.at))
    ∙ ap (λ n. kind_after r.kind (x - n)) s.at

-- the blocks of the run have its kinds
pub kind_next : (a b x : ℕ) (es : List Extent) (r : Extent) → is_merged_from a b es ≡ true → Stands b r → b ≤ x → x < b + r.length → kind_at (with_run es r) x ≡ kind_after r.kind (x - b)
kind_next a b x [] r h s l m = kind_in r [] x (omega (arith, s.at)) (omega (arith, s.at)) ∙ ap (λ n. kind_after r.kind (x - n)) s.at
kind_next a b x (e ∷ []) r h s l m = last_next a b x e r (could_be_joined e r) refl s l m (last_of a b e h)
kind_next a b x (e ∷ f ∷ es) r h s l m =
    let p = before_of a b e f es h in
    let up = merged-le (a + e.length) b (f ∷ es) p.rest in
    kind_past e (with_run (f ∷ es) r) x (omega (arith, p.at)) ∙ kind_next (a + e.length) b x (f ∷ es) r p.rest s l m

-- runs of a file before the first call stay such runs
first_joined : (k q : Kind) (l n : ℕ) → is_kind (kind_after k l) q ≡ true → IsFirstRun k l → IsFirstRun q n → IsFirstRun k (l + n)
first_joined Hole q l n t h m = tt
first_joined Delalloc q l n t h m = h
first_joined (Unwritten d) Hole l n t h m = absurd (cc)
first_joined (Unwritten d) Delalloc l n t h m = absurd m
first_joined (Unwritten d) (Unwritten e) l n t h m = omega (arith, eqb-true (d + l) e t)
first_joined (Unwritten d) (Mapped e) l n t h m = absurd (cc)
first_joined (Mapped d) Hole l n t h m = absurd (cc)
first_joined (Mapped d) Delalloc l n t h m = absurd m
first_joined (Mapped d) (Unwritten e) l n t h m = absurd (cc)
first_joined (Mapped d) (Mapped e) l n t h m = omega (arith, eqb-true (d + l) e t)

last_first : (e r : Extent) (t : Bool) → could_be_joined e r ≡ t → IsFirstExtent e → IsFirstExtent r → All IsFirstExtent (if t then longer e r.length ∷ [] else e ∷ r ∷ [])
last_first e r true is h m =
    All-cons IsFirstExtent (longer e r.length) [] (first_joined e.kind r.kind e.length r.length is h m) (All-nil IsFirstExtent)
last_first e r false is h m = All-cons IsFirstExtent e (r ∷ []) h (All-cons IsFirstExtent r [] m (All-nil IsFirstExtent))

pub first_with : (es : List Extent) (r : Extent) → All IsFirstExtent es → IsFirstExtent r → All IsFirstExtent (with_run es r)
first_with [] r h m = All-cons IsFirstExtent r [] m (All-nil IsFirstExtent)
first_with (e ∷ []) r h m = last_first e r (could_be_joined e r) refl (All-head IsFirstExtent e [] h) m
first_with (e ∷ f ∷ es) r h m =
    All-cons IsFirstExtent e (with_run (f ∷ es) r) (All-head IsFirstExtent e (f ∷ es) h) (first_with (f ∷ es) r (All-tail IsFirstExtent e (f ∷ es) h) m)
