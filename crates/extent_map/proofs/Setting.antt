use Rattle.std.proofs.Common.{◌≡◌, ℕ, zero, suc, ◌+◌, ◌-◌, ◌<◌, ◌≤◌, ◌^◌, Bool, true, false, nat_le, if◌then◌else◌, List, [], ◌∷◌, ◌++◌, length, take, drop, get_or, inl, inr, refl, sym, ◌∙◌, ap, subst, arith, zero-add, append_assoc, length-append, length-drop}
use Rattle.std.proofs.Math.Seq.{take-append-add}
use Rattle.std.proofs.lemmas.Bool.{cases_lt, leb-true, leb-false}
use Rattle.std.proofs.lemmas.List.{append-nil, drop_at, drop-drop, length-take-le, take_at, take-append-le}
use Rattle.io_model.specs.Kinds.{kind_after, is_kind}
use Rattle.io_model.specs.declared.file.Extent.{Extent}
use Rattle.io_model.specs.declared.file.Kind.{Kind}
use Rattle.extent_map.specs.BlockKinds.{with_run}
use Rattle.extent_map.specs.Edits.{attach, below_list, below_part, glue, joined_at, rest_list, rest_part}
use Rattle.extent_map.specs.Expansion.{NumbersFit, kinds_of, run_of}
use Rattle.extent_map.specs.Keeping.{Apart, BeginsAt, FollowOn, IsKept, LiesIn, goes_on, start_of}
use Rattle.extent_map.specs.Splicing.{Back, Between, Front, run_at}
use Rattle.extent_map.proofs.Following.{ReadAt, no_extent, read_at, read_or, fits_less, fits_part, follow_both, kind_after-after, kinds_of-append, length-kinds_of, length-run_of, take-run_of}
use Rattle.extent_map.proofs.Joining.{apart_attach, apart_glue, follow_attach, follow_glue, goes_on_same, joined_append, kinds_of-attach, kinds_of-glue}
use Rattle.extent_map.proofs.Looking.{apart_back, rest_of}

apart_front : (xs ys : List Extent) → Apart (xs ++ ys) → Apart xs
apart_front [] ys h = tt
apart_front (x ∷ []) ys h = (refl, tt)
apart_front (x ∷ y ∷ xs) ys h = (h.0, apart_front (y ∷ xs) ys h.1)

apart_last : (xs : List Extent) (e f : Extent) (ys : List Extent) → Apart (xs ++ e ∷ ys) → f.kind ≡ e.kind → Apart (xs ++ f ∷ [])
apart_last [] e f ys h k = (refl, tt)
apart_last (x ∷ []) e f ys h k = (ap (is_kind (kind_after x.kind x.length)) k ∙ h.0, (refl, tt))
apart_last (x ∷ y ∷ xs) e f ys h k = (h.0, apart_last (y ∷ xs) e f ys h.1 k)

-- the part below a block, with its test as an argument
abbrev below_by : Bool → Extent → ℕ → List Extent
below_by t e b = if t then [] else below_part e b ∷ []

below-kinds : (t : Bool) (e : Extent) (b : ℕ) → nat_le b e.block ≡ t → kinds_of (below_by t e b) ≡ run_of e.kind (b - e.block)
below-kinds true e b h = let n : 0 ≡ b - e.block = omega (arith, leb-true b e.block h) in ap (run_of e.kind) n
below-kinds false e b h = append-nil (run_of e.kind (b - e.block))

below-follow : (t : Bool) (a : ℕ) (e : Extent) (b : ℕ) → nat_le b e.block ≡ t → BeginsAt a e → b < e.block + e.length → FollowOn a (below_by t e b)
below-follow true a e b h o m = tt
below-follow false a e b h o m =
    let some : 0 < b - e.block = omega (arith, leb-false b e.block h) in
    let less : b - e.block ≤ e.length = omega arith in
    (record { at = o.at; some = some; fits = fits_less e.kind (b - e.block) e.length less o.fits }, tt)

below-apart : (t : Bool) (xs : List Extent) (e : Extent) (ys : List Extent) (b : ℕ) → Apart (xs ++ e ∷ ys) → Apart (xs ++ below_by t e b)
below-apart true xs e ys b h = let A : List Extent → Type 0 = Apart in subst A (sym (append-nil xs)) (apart_front xs (e ∷ ys) h)
below-apart false xs e ys b h = apart_last xs e (below_part e b) ys h refl

pub front_of : (runs : List Extent) (i b : ℕ) (e : Extent) → ReadAt runs i e → Apart runs → e.block ≤ b → b < e.block + e.length → Front runs b (take i runs ++ below_list e b)
front_of runs i b e r a h m =
    let t : Bool = nat_le b e.block in
    let s : ℕ = b - e.block in
    let tail : List Extent = drop (i + 1) runs in
    let n : b ≡ start_of runs i + s = omega (arith, r.begins.at) in
    let le : s ≤ length (run_of e.kind e.length) = omega (arith, length-run_of e.kind e.length) in
    let whole : kinds_of runs ≡ kinds_of (take i runs) ++ (run_of e.kind e.length ++ kinds_of tail) = ap kinds_of r.split ∙ kinds_of-append (take i runs) (e ∷ tail) in
    let taken : take b (kinds_of runs) ≡ kinds_of (take i runs) ++ run_of e.kind s =
    ap (λ x. take x (kinds_of runs)) n
    ∙ ap (take (start_of runs i + s)) whole
    ∙ take-append-add (kinds_of (take i runs)) (run_of e.kind e.length ++ kinds_of tail) s
    ∙ ap (λ l. kinds_of (take i runs) ++ l) (take-append-le s (run_of e.kind e.length) (kinds_of tail) le ∙ take-run_of e.kind s e.length (omega arith)) in
    let A : List Extent → Type 0 = Apart in
    let P : ℕ → Type 0 = λ x. FollowOn x (below_by t e b) in
    record {
      kinds = kinds_of-append (take i runs) (below_by t e b) ∙ ap (λ l. kinds_of (take i runs) ++ l) (below-kinds t e b refl) ∙ sym taken;
      follow = follow_both 0 (take i runs) (below_by t e b) r.front (subst P (sym (zero-add (start_of runs i))) (below-follow t (start_of runs i) e b refl r.begins m));
      apart = below-apart t (take i runs) e tail b (subst A r.split a);
    }

-- the part from a block on, with its test as an argument
abbrev rest_by : Bool → Extent → ℕ → List Extent
rest_by t e b = if t then [] else rest_part e b ∷ []

rest-kinds : (t : Bool) (e : Extent) (b : ℕ) → nat_le e.length (b - e.block) ≡ t → kinds_of (rest_by t e b) ≡ run_of (kind_after e.kind (b - e.block)) (e.length - (b - e.block))
rest-kinds true e b h =
    let n : 0 ≡ e.length - (b - e.block) = omega (arith, leb-true e.length (b - e.block) h) in ap (run_of (kind_after e.kind (b - e.block))) n
rest-kinds false e b h = append-nil (run_of (kind_after e.kind (b - e.block)) (e.length - (b - e.block)))

rest-follow : (t : Bool) (a : ℕ) (e : Extent) (b : ℕ) (ys : List Extent) → nat_le e.length (b - e.block) ≡ t → BeginsAt a e → e.block ≤ b → b ≤ e.block + e.length → FollowOn (a + e.length) ys → FollowOn b (rest_by t e b ++ ys)
rest-follow true a e b ys h o m l f =
    let P : ℕ → Type 0 = λ x. FollowOn x ys in
    let n : a + e.length ≡ b = omega (arith, leb-true e.length (b - e.block) h, o.at) in
    subst P n f
rest-follow false a e b ys h o m l f =
    let P : ℕ → Type 0 = λ x. FollowOn x ys in
    let s : ℕ = b - e.block in
    let some : 0 < e.length - s = omega (arith, leb-false e.length (b - e.block) h) in
    let less : s + (e.length - s) ≤ e.length = omega (arith, leb-false e.length (b - e.block) h) in
    let n : a + e.length ≡ b + (e.length - s) = omega (arith, leb-false e.length (b - e.block) h, o.at) in
    (record { at = refl; some = some; fits = fits_part e.kind s (e.length - s) e.length less o.fits }, subst P n f)

rest-apart : (t : Bool) (e : Extent) (b : ℕ) (ys : List Extent) → nat_le e.length (b - e.block) ≡ t → (goes_on e ys ≡ false) × Apart ys → Apart (rest_by t e b ++ ys)
rest-apart true e b ys h a = a.1
rest-apart false e b ys h a =
    let s : ℕ = b - e.block in
    let n : s + (e.length - s) ≡ e.length = omega (arith, leb-false e.length (b - e.block) h) in
    (goes_on_same (rest_part e b) e ys (kind_after-after e.kind s (e.length - s) ∙ ap (kind_after e.kind) n) ∙ a.0, a.1)

pub back_of : (runs : List Extent) (i b : ℕ) (e : Extent) → ReadAt runs i e → Apart runs → e.block ≤ b → b ≤ e.block + e.length → Back runs b (rest_list e b ++ drop (i + 1) runs)
back_of runs i b e r a h m =
    let t : Bool = nat_le e.length (b - e.block) in
    let tail : List Extent = drop (i + 1) runs in
    let A : List Extent → Type 0 = Apart in
    record {
      kinds = kinds_of-append (rest_by t e b) tail ∙ ap (λ l. l ++ kinds_of tail) (rest-kinds t e b refl) ∙ sym (rest_of runs i b e r h m);
      follow = rest-follow t (start_of runs i) e b tail refl r.begins h m r.back;
      apart = rest-apart t e b tail refl (apart_back (take i runs) e tail (subst A r.split a));
    }

-- a list of kinds with a run in it is as long as it was
pub length-with_run : (kinds : List Kind) (b n : ℕ) (k : Kind) → b + n ≤ length kinds → length (with_run kinds b n k) ≡ length kinds
length-with_run kinds b n k h =
    let taken : length (take b kinds) ≡ b = length-take-le b kinds (omega arith) in
    omega
    (arith, length-append (take b kinds ++ run_of k n) (drop (b + n) kinds), length-append (take b kinds) (run_of k n), length-run_of k n, taken, length-drop (b + n) kinds)

-- the runs after a run was put between those before it and those after it
pub record Put (runs : List Extent) (b n : ℕ) (k : Kind) (now : List Extent) : Type 0 where
  pub kinds : kinds_of now ≡ with_run (kinds_of runs) b n k
  pub as_long : length (kinds_of now) ≡ length (kinds_of runs)
  pub kept : IsKept now

-- kinds of three parts
parts : (runs l r : List Extent) (b n : ℕ) (k : Kind) → Front runs b l → Back runs (b + n) r → kinds_of l ++ (run_of k n ++ kinds_of r) ≡ with_run (kinds_of runs) b n k
parts runs l r b n k f g =
    ap (λ x. x ++ (run_of k n ++ kinds_of r)) f.kinds
    ∙ ap (λ x. take b (kinds_of runs) ++ (run_of k n ++ x)) g.kinds
    ∙ sym (append_assoc (take b (kinds_of runs)) (run_of k n) (drop (b + n) (kinds_of runs)))

pub put : (runs l r : List Extent) (b n : ℕ) (k : Kind) → Front runs b l → Back runs (b + n) r → 1 ≤ n → NumbersFit k n → b + n ≤ length (kinds_of runs) → length (kinds_of runs) < 2 ^ 64 → Put runs b n k (attach l (glue (run_at b n k) r))
put runs l r b n k f g some fits inside short =
    let m : Extent = run_at b n k in
    let kinds : kinds_of (attach l (glue m r)) ≡ with_run (kinds_of runs) b n k =
    kinds_of-attach l (glue m r) ∙ ap (λ x. kinds_of l ++ x) (kinds_of-glue m r) ∙ parts runs l r b n k f g in
    let at : 0 + length (kinds_of l) ≡ b = omega (arith, ap length f.kinds, length-take-le b (kinds_of runs) (omega arith)) in
    let P : ℕ → Type 0 = λ x. FollowOn x (glue m r) in
    let begins : BeginsAt b m = record { at = refl; some = some; fits = fits } in
    record {
      kinds = kinds;
      as_long = ap length kinds ∙ length-with_run (kinds_of runs) b n k inside;
      kept = record {
        follow = follow_attach 0 l (glue m r) f.follow (subst P (sym at) (follow_glue b m r (begins, g.follow)));
        apart = apart_attach l (glue m r) f.apart (apart_glue m r g.apart);
        short = omega (arith, ap length kinds, length-with_run (kinds_of runs) b n k inside);
      };
    }

-- before the joins the kinds are as many
pub put_short : (runs l r now : List Extent) (b n : ℕ) (k : Kind) → Front runs b l → Back runs (b + n) r → b + n ≤ length (kinds_of runs) → length (kinds_of runs) < 2 ^ 64 → now ≡ l ++ run_at b n k ∷ r → length (kinds_of now) < 2 ^ 64
put_short runs l r now b n k f g inside short is =
    omega
    (arith, ap (λ x. length (kinds_of x)) is, ap length (kinds_of-append l (run_at b n k ∷ r) ∙ parts runs l r b n k f g), length-with_run (kinds_of runs) b n k inside)

pub glued_short : (runs l r now : List Extent) (b n : ℕ) (k : Kind) → Front runs b l → Back runs (b + n) r → b + n ≤ length (kinds_of runs) → length (kinds_of runs) < 2 ^ 64 → now ≡ l ++ glue (run_at b n k) r → length (kinds_of now) < 2 ^ 64
glued_short runs l r now b n k f g inside short is =
    omega
    (arith, ap (λ x. length (kinds_of x)) is, ap length (kinds_of-append l (glue (run_at b n k) r) ∙ ap (λ x. kinds_of l ++ x) (kinds_of-glue (run_at b n k) r) ∙ parts runs l r b n k f g), length-with_run (kinds_of runs) b n k inside)

-- the steps in place: the cut, the run in place of others, the rest
pub spliced : (runs cut mid now l rest : List Extent) (m : Extent) (first last from : ℕ) → take from cut ≡ l → from ≤ length cut → drop (first + 1) cut ≡ drop (first + 1) runs → first ≤ last → mid ≡ take from cut ++ m ∷ drop (last + 1) cut → now ≡ take (from + 1) mid ++ (rest ++ drop (from + 1) mid) → now ≡ l ++ m ∷ (rest ++ drop (last + 1) runs)
spliced runs cut mid now l rest m first last from taken within same order is_mid is_now =
    let tail : List Extent = drop (last + 1) runs in
    let n : last + 1 ≡ first + 1 + (last - first) = omega arith in
    let dropped : drop (last + 1) cut ≡ tail =
    ap (λ x. drop x cut) n ∙ sym (drop-drop (last - first) (first + 1) cut) ∙ ap (drop (last - first)) same ∙ drop-drop (last - first) (first + 1) runs ∙ ap (λ x. drop x runs) (sym n) in
    let mid_is : mid ≡ (l ++ m ∷ []) ++ tail =
    is_mid ∙ ap (λ x. x ++ m ∷ drop (last + 1) cut) taken ∙ ap (λ x. l ++ m ∷ x) dropped ∙ sym (append_assoc l (m ∷ []) tail) in
    let long : length (l ++ m ∷ []) ≡ from + 1 = omega (arith, length-append l (m ∷ []), ap length taken, length-take-le from cut within) in
    is_now
    ∙ ap (λ x. take (from + 1) x ++ (rest ++ drop (from + 1) x)) mid_is
    ∙ ap (λ x. x ++ (rest ++ drop (from + 1) ((l ++ m ∷ []) ++ tail))) (take_at (l ++ m ∷ []) tail (from + 1) long)
    ∙ ap (λ x. (l ++ m ∷ []) ++ (rest ++ x)) (drop_at (l ++ m ∷ []) tail (from + 1) long)
    ∙ append_assoc l (m ∷ []) (rest ++ tail)

pub joined_after : (now next l r : List Extent) (m : Extent) (from : ℕ) → length l ≡ from → now ≡ l ++ m ∷ r → next ≡ joined_at from now → next ≡ l ++ glue m r
joined_after now next l r m from len is j =
    j ∙ ap (joined_at from) is ∙ ap (λ x. joined_at x (l ++ m ∷ r)) (sym len) ∙ joined_append l m r

pub attached : (now next l r : List Extent) (from : ℕ) → length l ≡ from → now ≡ l ++ r → next ≡ attach (take from now) (drop from now) → next ≡ attach l r
attached now next l r from len is j =
    j
    ∙ ap (λ x. attach (take from x) (drop from x)) is
    ∙ ap (λ x. attach x (drop from (l ++ r))) (take_at l r from len)
    ∙ ap (attach l) (drop_at l r from len)

-- starts go up
pub start_mono : (runs : List Extent) (i j : ℕ) → i ≤ j → start_of runs i ≤ start_of runs j
start_mono runs zero j h = omega arith
start_mono [] (suc i) zero h = omega arith
start_mono [] (suc i) (suc j) h = omega arith
start_mono (e ∷ runs) (suc i) zero h = absurd (omega arith)
start_mono (e ∷ runs) (suc i) (suc j) h =
    omega (arith, length-kinds_of e (take i runs), length-kinds_of e (take j runs), start_mono runs i j (omega arith))

-- of two blocks in order, the places are in order
pub places_in_order : (runs : List Extent) (b c i j : ℕ) → LiesIn runs b i → LiesIn runs c j → b ≤ c → i ≤ j
places_in_order runs b c i j p q h =
    elim (cases_lt j i) [
      | inl less ↦ absurd (omega (arith, start_mono runs (j + 1) i (omega arith), p.from, q.below))
      | inr more ↦ more
    ]

pub between : (runs cut mid now rest : List Extent) (b n : ℕ) (k : Kind) (first last from : ℕ) (f : Extent) → IsKept runs → 1 ≤ n → LiesIn runs b first → LiesIn runs (b + n - 1) last → f ≡ get_or runs last f → rest ≡ rest_list f (b + n) → ((d : Extent) → take from cut ≡ take first runs ++ below_list (get_or runs first d) b) → from ≤ length cut → drop (first + 1) cut ≡ drop (first + 1) runs → mid ≡ take from cut ++ run_at b n k ∷ drop (last + 1) cut → now ≡ take (from + 1) mid ++ (rest ++ drop (from + 1) mid) → Between runs b n k from now
between runs cut mid now rest b n k first last from f kept some p q read is_rest taken within same is_mid is_now =
    let e : Extent = get_or runs first no_extent in
    let re : ReadAt runs first e = read_or runs first no_extent kept.follow p.within in
    let rf : ReadAt runs last f = read_at runs last f kept.follow q.within read in
    let l : List Extent = take first runs ++ below_list e b in
    let order = places_in_order runs b (b + n - 1) first last p q (omega arith) in
    let s = spliced runs cut mid now l rest (run_at b n k) first last from (taken no_extent) within same order is_mid is_now in
    record {
      l = l;
      r = rest_list f (b + n) ++ drop (last + 1) runs;
      front = front_of runs first b e re kept.apart (omega (arith, re.begins.at, p.from)) (omega (arith, re.begins.at, re.next, p.below));
      back = back_of runs last (b + n) f rf kept.apart (omega (arith, rf.begins.at, q.from)) (omega (arith, rf.begins.at, rf.next, q.below, some));
      long = sym (ap length (taken no_extent)) ∙ length-take-le from cut within;
      is = s ∙ ap (λ x. l ++ run_at b n k ∷ (x ++ drop (last + 1) runs)) is_rest;
    }

pub lies_in : (xs ys : List Extent) (b i : ℕ) → xs ≡ ys → LiesIn xs b i → LiesIn ys b i
lies_in xs ys b i e p = let P : List Extent → Type 0 = λ x. LiesIn x b i in subst P e p

-- the joins after the splice
pub put_after : (runs spliced glued now : List Extent) (b n : ℕ) (k : Kind) (from : ℕ) → Between runs b n k from spliced → glued ≡ joined_at from spliced → now ≡ attach (take from glued) (drop from glued) → 1 ≤ n → NumbersFit k n → b + n ≤ length (kinds_of runs) → length (kinds_of runs) < 2 ^ 64 → Put runs b n k now
put_after runs spliced glued now b n k from s j a some fits inside short =
    let m : Extent = run_at b n k in
    let after = joined_after spliced glued s.l s.r m from s.long s.is j in
    let is = attached glued now s.l (glue m s.r) from s.long after a in
    let P : List Extent → Type 0 = Put runs b n k in
    subst P (sym is) (put runs s.l s.r b n k s.front s.back some fits inside short)
