use Rattle.std.proofs.Common.{◌≡◌, ℕ, ◌+◌, ◌-◌, ◌<◌, ◌≤◌, Bool, true, false, not, ◌&&◌, ◌==◌, nat_le, nat_lt, if◌then◌else◌, List, [], ◌∷◌, ◌++◌, length, map, take, get_or, All, refl, sym, ◌∙◌, ap, subst, arith, add-one, append_assoc}
use Rattle.std.proofs.Math.Seq.{take-suc}
use Rattle.std.proofs.lemmas.Bool.{eqb-true, eq-eqb, and_parts, and_from}
use Rattle.std.proofs.lemmas.Bool.Decides.{nat_tests}
use Rattle.std.proofs.lemmas.List.{map-append}
use Rattle.std.proofs.lemmas.List.Elements.{All-cons, All-nil}
use Rattle.io_model.specs.Fitting.{could_be_joined, is_merged_from}
use Rattle.io_model.specs.Kinds.{covers, kind_after, kind_at, is_kind}
use Rattle.io_model.specs.declared.file.Extent.{Extent}
use Rattle.io_model.specs.declared.file.Kind.{Kind}
use Rattle.io_model.specs.declared.file.Kind.TheVariants.{Hole}
use Rattle.range_core.specs.Kinds.{kinds_from}
use Rattle.range_core.specs.Merging.{IsShort, grown, one_block, with_block}
use Rattle.range_core.specs.declared.cell.Cell.{Cell}
use Rattle.range_core.proofs.KindLemmas.{is_kind-true, kind_after-zero, kinds_from-more, kinds_from-same}

-- what the last extent becomes
abbrev pub last_with : Extent → ℕ → Kind → List Extent
last_with e b k = if is_kind (kind_after e.kind e.length) k then grown e ∷ [] else e ∷ one_block b k ∷ []

pub with_block-append : (es : List Extent) (e : Extent) (b : ℕ) (k : Kind) → with_block (es ++ e ∷ []) b k ≡ es ++ last_with e b k
with_block-append [] e b k = refl
with_block-append (x ∷ []) e b k = refl
with_block-append (x ∷ y ∷ es) e b k = ap (λ l. x ∷ l) (with_block-append (y ∷ es) e b k)

if_is : (t : Bool) (x y : List Extent) → t ≡ true → (if t then x else y) ≡ x
if_is true x y e = refl
if_is false x y e = absurd (cc)

if_not : (t : Bool) (x y : List Extent) → t ≡ false → (if t then x else y) ≡ y
if_not true x y e = absurd (cc)
if_not false x y e = refl

-- the block joined the last extent
pub joined : (old rest now : List Extent) (e : Extent) (b : ℕ) (k : Kind) → old ≡ rest ++ e ∷ [] → is_kind (kind_after e.kind e.length) k ≡ true → now ≡ rest ++ grown e ∷ [] → now ≡ with_block old b k
joined old rest now e b k o t n =
    n ∙ ap (λ l. rest ++ l) (sym (if_is _ (grown e ∷ []) (e ∷ one_block b k ∷ []) t)) ∙ sym (with_block-append rest e b k) ∙ ap (λ l. with_block l b k) (sym o)

-- the block began an extent
pub began : (old rest mid now : List Extent) (e : Extent) (b : ℕ) (k : Kind) → old ≡ rest ++ e ∷ [] → is_kind (kind_after e.kind e.length) k ≡ false → mid ≡ rest ++ e ∷ [] → now ≡ mid ++ one_block b k ∷ [] → now ≡ with_block old b k
began old rest mid now e b k o t m n =
    n ∙ ap (λ l. l ++ one_block b k ∷ []) m ∙ append_assoc rest (e ∷ []) (one_block b k ∷ [])
    ∙ ap (λ l. rest ++ l) (sym (if_not _ (grown e ∷ []) (e ∷ one_block b k ∷ []) t)) ∙ sym (with_block-append rest e b k) ∙ ap (λ l. with_block l b k) (sym o)

-- the last of merged extents
record Last (a b : ℕ) (e : Extent) : Type 0 where
  at : e.block ≡ a
  some : nat_lt 0 e.length ≡ true
  end : e.block + e.length ≡ b

-- one before it
record Before (a b : ℕ) (e f : Extent) (es : List Extent) : Type 0 where
  at : e.block ≡ a
  some : nat_lt 0 e.length ≡ true
  apart : not (could_be_joined e f) ≡ true
  rest : is_merged_from (a + e.length) b (f ∷ es) ≡ true

last_of : (a b : ℕ) (e : Extent) → is_merged_from a b (e ∷ []) ≡ true → Last a b e
last_of a b e h =
    let p = and_parts (e.block == a) _ h in
    let q = and_parts (nat_lt 0 e.length) _ p.1 in
    record { at = eqb-true _ _ p.0; some = q.0; end = eqb-true _ _ q.1 }

before_of : (a b : ℕ) (e f : Extent) (es : List Extent) → is_merged_from a b (e ∷ f ∷ es) ≡ true → Before a b e f es
before_of a b e f es h =
    let p = and_parts (e.block == a) _ h in
    let q = and_parts (nat_lt 0 e.length) _ p.1 in
    let r = and_parts (not (could_be_joined e f)) _ q.1 in
    record { at = eqb-true _ _ p.0; some = q.0; apart = r.0; rest = r.1 }

from_last : (a b : ℕ) (e : Extent) → Last a b e → is_merged_from a b (e ∷ []) ≡ true
from_last a b e l = and_from _ _ (eq-eqb _ _ l.at) (and_from _ _ l.some (eq-eqb _ _ l.end))

from_before : (a b : ℕ) (e f : Extent) (es : List Extent) → Before a b e f es → is_merged_from a b (e ∷ f ∷ es) ≡ true
from_before a b e f es l = and_from _ _ (eq-eqb _ _ l.at) (and_from _ _ l.some (and_from _ _ l.apart l.rest))

-- merged extents go up
merged-le : (a b : ℕ) (es : List Extent) → is_merged_from a b es ≡ true → a ≤ b
merged-le a b [] h = omega (arith, eqb-true a b h)
merged-le a b (e ∷ []) h = let l = last_of a b e h in omega (arith, l.at, l.end)
merged-le a b (e ∷ f ∷ es) h =
    let l = before_of a b e f es h in omega (arith, merged-le (a + e.length) b (f ∷ es) l.rest)

-- none is longer than all of them together
pub merged-short : (a b : ℕ) (es : List Extent) → is_merged_from a b es ≡ true → b < a + 65536 → All IsShort es
merged-short a b [] h m = All-nil IsShort
merged-short a b (e ∷ []) h m =
    let l = last_of a b e h in
    let short : IsShort e = omega (arith, l.at, l.end) in
    All-cons IsShort e [] short (All-nil IsShort)
merged-short a b (e ∷ f ∷ es) h m =
    let l = before_of a b e f es h in
    let up = merged-le (a + e.length) b (f ∷ es) l.rest in
    let short : IsShort e = omega arith in
    All-cons IsShort e (f ∷ es) short (merged-short (a + e.length) b (f ∷ es) l.rest (omega arith))

-- the extents with the next block begin as they did
record BeginsAs (f : Extent) (es : List Extent) : Type 0 where
  head : Extent
  tail : List Extent
  is : es ≡ head ∷ tail
  kind : head.kind ≡ f.kind

last_begins : (f : Extent) (b : ℕ) (k : Kind) (t : Bool) → BeginsAs f (if t then grown f ∷ [] else f ∷ one_block b k ∷ [])
last_begins f b k true = record { head = grown f; tail = []; is = refl; kind = refl }
last_begins f b k false = record { head = f; tail = one_block b k ∷ []; is = refl; kind = refl }

begins_as : (f : Extent) (es : List Extent) (b : ℕ) (k : Kind) → BeginsAs f (with_block (f ∷ es) b k)
begins_as f [] b k = last_begins f b k (is_kind (kind_after f.kind f.length) k)
begins_as f (g ∷ es) b k = record { head = f; tail = with_block (g ∷ es) b k; is = refl; kind = refl }

one_merged : (a b : ℕ) (k : Kind) → b ≡ a → is_merged_from a (b + 1) (one_block b k ∷ []) ≡ true
one_merged a b k e = from_last a (b + 1) (one_block b k) (record { at = e; some = refl; end = refl })

last_merged : (a b : ℕ) (e : Extent) (k : Kind) (t : Bool) → is_kind (kind_after e.kind e.length) k ≡ t → Last a b e → is_merged_from a (b + 1) (if t then grown e ∷ [] else e ∷ one_block b k ∷ []) ≡ true
last_merged a b e k true is l =
    from_last a (b + 1) (grown e) (record { at = l.at; some = grind (arith, nat_tests); end = omega (arith, l.end) })
last_merged a b e k false is l =
    from_before a (b + 1) e (one_block b k) [] (record { at = l.at; some = l.some; apart = ap not is; rest = one_merged (a + e.length) b k (omega (arith, l.at, l.end)) })

-- merged extents stay merged
pub merged_with : (a b : ℕ) (es : List Extent) (k : Kind) → is_merged_from a b es ≡ true → is_merged_from a (b + 1) (with_block es b k) ≡ true
merged_with a b [] k h = one_merged a b k (sym (eqb-true a b h))
merged_with a b (e ∷ []) k h = last_merged a b e k (is_kind (kind_after e.kind e.length) k) refl (last_of a b e h)
merged_with a b (e ∷ f ∷ es) k h =
    let l = before_of a b e f es h in
    let g = begins_as f es b k in
    let M : List Extent → Type 0 = λ xs. is_merged_from (a + e.length) (b + 1) xs ≡ true in
    let rest : M (g.head ∷ g.tail) = subst M g.is (merged_with (a + e.length) b (f ∷ es) k l.rest) in
    let apart : not (could_be_joined e g.head) ≡ true = ap (λ q. not (is_kind (kind_after e.kind e.length) q)) g.kind ∙ l.apart in
    let N : List Extent → Type 0 = λ xs. is_merged_from a (b + 1) (e ∷ xs) ≡ true in
    subst N (sym g.is) (from_before a (b + 1) e g.head g.tail (record { at = l.at; some = l.some; apart = apart; rest = rest }))

cover_grown : (p l x b : ℕ) → p + l ≡ b → x < b → (nat_le p x && nat_lt x (p + (l + 1))) ≡ (nat_le p x && nat_lt x (p + l))
cover_grown p l x b e h = grind (arith, nat_tests)

cover_past : (b x : ℕ) → x < b → (nat_le b x && nat_lt x (b + 1)) ≡ false
cover_past b x h = grind (arith, nat_tests)

cover_here : (p l : ℕ) → (nat_le p (p + l) && nat_lt (p + l) (p + (l + 1))) ≡ true
cover_here p l = grind (arith, nat_tests)

cover_end : (p l x : ℕ) → p + l ≤ x → (nat_le p x && nat_lt x (p + l)) ≡ false
cover_end p l x h = grind (arith, nat_tests)

cover_one : (b : ℕ) → (nat_le b b && nat_lt b (b + 1)) ≡ true
cover_one b = grind (arith, nat_tests)

-- what one extent gives, before others
abbrev choice : Bool → Kind → Kind → Kind
choice t x y = if t then x else y

one_past : (b x : ℕ) (k : Kind) → x < b → kind_at (one_block b k ∷ []) x ≡ Hole
one_past b x k h = ap (λ t. choice t (kind_after k (x - b)) Hole) (cover_past b x h)

one_here : (b : ℕ) (k : Kind) → kind_at (one_block b k ∷ []) b ≡ k
one_here b k =
    ap (λ t. choice t (kind_after k (b - b)) Hole) (cover_one b) ∙ ap (kind_after k) (omega arith) ∙ kind_after-zero k

last_kept : (a b x : ℕ) (e : Extent) (k : Kind) (t : Bool) → x < b → Last a b e → kind_at (if t then grown e ∷ [] else e ∷ one_block b k ∷ []) x ≡ kind_at (e ∷ []) x
last_kept a b x e k true h l = ap (λ t. choice t (kind_after e.kind (x - e.block)) Hole) (cover_grown e.block e.length x b l.end h)
last_kept a b x e k false h l = ap (λ q. choice (covers e x) (kind_after e.kind (x - e.block)) q) (one_past b x k h)

-- the blocks before keep their kinds
pub kind_kept : (a b x : ℕ) (es : List Extent) (k : Kind) → is_merged_from a b es ≡ true → x < b → kind_at (with_block es b k) x ≡ kind_at es x
kind_kept a b x [] k h m = one_past b x k m
kind_kept a b x (e ∷ []) k h m = last_kept a b x e k (is_kind (kind_after e.kind e.length) k) m (last_of a b e h)
kind_kept a b x (e ∷ f ∷ es) k h m =
    let l = before_of a b e f es h in
    ap (λ q. choice (covers e x) (kind_after e.kind (x - e.block)) q) (kind_kept (a + e.length) b x (f ∷ es) k l.rest m)

last_next : (a b : ℕ) (e : Extent) (k : Kind) (t : Bool) → is_kind (kind_after e.kind e.length) k ≡ t → Last a b e → kind_at (if t then grown e ∷ [] else e ∷ one_block b k ∷ []) b ≡ k
last_next a b e k true is l =
    let C : ℕ → Type 0 = λ x. (nat_le e.block x && nat_lt x (e.block + (e.length + 1))) ≡ true in
    let here : C b = subst C l.end (cover_here e.block e.length) in
    ap (λ t. choice t (kind_after e.kind (b - e.block)) Hole) here ∙ ap (kind_after e.kind) (omega (arith, l.end)) ∙ is_kind-true _ _ is
last_next a b e k false is l =
    ap (λ t. choice t (kind_after e.kind (b - e.block)) (kind_at (one_block b k ∷ []) b)) (cover_end e.block e.length b (omega (arith, l.end)))
    ∙ one_here b k

-- the next block has its kind
pub kind_next : (a b : ℕ) (es : List Extent) (k : Kind) → is_merged_from a b es ≡ true → kind_at (with_block es b k) b ≡ k
kind_next a b [] k h = one_here b k
kind_next a b (e ∷ []) k h = last_next a b e k (is_kind (kind_after e.kind e.length) k) refl (last_of a b e h)
kind_next a b (e ∷ f ∷ es) k h =
    let l = before_of a b e f es h in
    let up = merged-le (a + e.length) b (f ∷ es) l.rest in
    ap (λ t. choice t (kind_after e.kind (b - e.block)) (kind_at (with_block (f ∷ es) b k) b)) (cover_end e.block e.length b (omega arith))
    ∙ kind_next (a + e.length) b (f ∷ es) k l.rest

-- one more block of a range
pub kinds_with : (a i : ℕ) (es : List Extent) (cells : List Cell) (d : Cell) → is_merged_from a (a + i) es ≡ true → i < length cells → kinds_from es a i ≡ map (λ c. c.kind) (take i cells) → kinds_from (with_block es (a + i) (get_or cells i d).kind) a (i + 1) ≡ map (λ c. c.kind) (take (i + 1) cells)
kinds_with a i es cells d h m e =
    let k : Kind = (get_or cells i d).kind in
    rw add-one
    (kinds_from-more (with_block es (a + i) k) a i
    ∙ ap (λ q. kinds_from (with_block es (a + i) k) a i ++ q ∷ []) (kind_next a (a + i) es k h)
    ∙ ap (λ l. l ++ k ∷ []) (kinds_from-same (with_block es (a + i) k) es a i (λ x p q. kind_kept a (a + i) x es k h q) ∙ e)
    ∙ sym (ap (map (λ c. c.kind)) (take-suc cells i d m) ∙ map-append (λ c. c.kind) (take i cells) (get_or cells i d ∷ [])))

pub merged_more : (a i : ℕ) (es new : List Extent) (cells : List Cell) (d : Cell) → is_merged_from a (a + i) es ≡ true → i < length cells → kinds_from es a i ≡ map (λ c. c.kind) (take i cells) → new ≡ with_block es (a + i) (get_or cells i d).kind → (is_merged_from a (a + (i + 1)) new ≡ true) × (kinds_from new a (i + 1) ≡ map (λ c. c.kind) (take (i + 1) cells))
merged_more a i es new cells d h m e n =
    let k : Kind = (get_or cells i d).kind in
    let next : a + i + 1 ≡ a + (i + 1) = omega arith in
    let M : ℕ → Type 0 = λ b. is_merged_from a b (with_block es (a + i) k) ≡ true in (
      ap (is_merged_from a (a + (i + 1))) n ∙ subst M next (merged_with a (a + i) es k h),
      ap (λ xs. kinds_from xs a (i + 1)) n ∙ kinds_with a i es cells d h m e,
    )
