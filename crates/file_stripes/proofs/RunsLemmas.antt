-- Merged extents with the runs of others behind them, and with the blocks of kinds.
use Rattle.std.proofs.Common.{◌≡◌, ℕ, ◌+◌, ◌-◌, ◌<◌, ◌≤◌, Bool, true, false, nat_lt, List, [], ◌∷◌, ◌++◌, length, take, drop, get_or, All, refl, sym, ◌∙◌, ap, subst, arith, add-one}
use Rattle.std.proofs.Math.Seq.{take-suc}
use Rattle.std.proofs.lemmas.Bool.{eqb-true}
use Rattle.std.proofs.lemmas.Bool.Decides.{nat_tests}
use Rattle.std.proofs.lemmas.List.{drop_more}
use Rattle.std.proofs.lemmas.List.Elements.{All-get_or, All-nil}
use Rattle.io_model.specs.Fitting.{is_merged_from}
use Rattle.io_model.specs.Kinds.{kind_after, kind_at}
use Rattle.io_model.specs.declared.file.Extent.{Extent}
use Rattle.io_model.specs.declared.file.Kind.{Kind}
use Rattle.io_model.specs.declared.file.Kind.TheVariants.{Hole}
use Rattle.file_stripes.specs.Kinds.{IsFirstKind, kinds_from}
use Rattle.file_stripes.specs.Runs.{FollowsOn, IsFirstExtent, IsShort, one_block, with_run, with_runs}
use Rattle.file_stripes.proofs.KindLemmas.{kind_after-zero}
use Rattle.file_stripes.proofs.MergedLemmas.{heads, merged-le, merged-short}
use Rattle.file_stripes.proofs.PlacedLemmas.{kinds_from-add, kinds_from-more, kinds_from-same}
use Rattle.file_stripes.proofs.RunLemmas.{Stands, first_with, kind_in, kind_kept, kind_next, kind_past, merged_with}

pub runs_merged : (a b c : ℕ) (es rs : List Extent) → is_merged_from a b es ≡ true → is_merged_from b c rs ≡ true → is_merged_from a c (with_runs es rs) ≡ true
runs_merged a b c es [] h m = let M : ℕ → Type 0 = λ x. is_merged_from a x es ≡ true in subst M (eqb-true b c m) h
runs_merged a b c es (r ∷ rs) h m =
    let p = heads b c r rs m in
    runs_merged a (b + r.length) c (with_run es r) rs (merged_with a b es r h (record { at = p.at; some = p.some })) p.rest

-- the blocks before the runs keep their kinds
runs_before : (a b c x : ℕ) (es rs : List Extent) → is_merged_from a b es ≡ true → is_merged_from b c rs ≡ true → x < b → kind_at (with_runs es rs) x ≡ kind_at es x
runs_before a b c x es [] h m l = refl
runs_before a b c x es (r ∷ rs) h m l =
    let p = heads b c r rs m in
    let s : Stands b r = record { at = p.at; some = p.some } in
    runs_before a (b + r.length) c x (with_run es r) rs (merged_with a b es r h s) p.rest (omega arith)
    ∙ kind_kept a b x es r h s l

lt_of : (x y : ℕ) → nat_lt x y ≡ true → x < y
lt_of x y h = grind (arith, nat_tests)

ge_of : (x y : ℕ) → nat_lt x y ≡ false → y ≤ x
ge_of x y h = grind (arith, nat_tests)

after_front : (t : Bool) (now here there goal : Kind) (x y : ℕ) → nat_lt x y ≡ t → (x < y → now ≡ goal) → (y ≤ x → now ≡ goal) → now ≡ goal
after_front true now here there goal x y is h m = h (lt_of x y is)
after_front false now here there goal x y is h m = m (ge_of x y is)

-- the blocks of the runs have their kinds
runs_after : (a b c x : ℕ) (es rs : List Extent) → is_merged_from a b es ≡ true → is_merged_from b c rs ≡ true → b ≤ x → x < c → kind_at (with_runs es rs) x ≡ kind_at rs x
runs_after a b c x es [] h m l k = absurd (omega (arith, eqb-true b c m))
runs_after a b c x es (r ∷ rs) h m l k =
    let p = heads b c r rs m in
    let s : Stands b r = record { at = p.at; some = p.some } in
    let w = merged_with a b es r h s in
    let now : Kind = kind_at (with_runs (with_run es r) rs) x in
    after_front (nat_lt x (b + r.length)) now now now (kind_at (r ∷ rs) x) x (b + r.length) refl
    (λ q. runs_before a (b + r.length) c x (with_run es r) rs w p.rest q ∙ kind_next a b x es r h s l q
    ∙ ap (λ n. kind_after r.kind (x - n)) (sym p.at) ∙ sym (kind_in r rs x (omega (arith, p.at)) (omega (arith, p.at))))
    (λ q. runs_after a (b + r.length) c x (with_run es r) rs w p.rest q k ∙ sym (kind_past r rs x (omega (arith, p.at))))

-- the kinds of both, one after another
pub runs_kinds : (a n m : ℕ) (es rs : List Extent) → is_merged_from a (a + n) es ≡ true → is_merged_from (a + n) (a + n + m) rs ≡ true → kinds_from (with_runs es rs) a (n + m) ≡ kinds_from es a n ++ kinds_from rs (a + n) m
runs_kinds a n m es rs h k =
    let all = with_runs es rs in
    kinds_from-add all a n m
    ∙ ap (λ l. l ++ kinds_from all (a + n) m) (kinds_from-same all es a n (λ x p q. runs_before a (a + n) (a + n + m) x es rs h k q))
    ∙ ap (λ l. kinds_from es a n ++ l) (kinds_from-same all rs (a + n) m (λ x p q. runs_after a (a + n) (a + n + m) x es rs h k p q))

-- what stands past the end of a list
abbrev pub no_extent : Extent
no_extent = record { block = 0; length = 0; kind = Hole }

-- what is added next
pub follows_short : (es rs : List Extent) (i : ℕ) (d : Extent) → i < length rs → FollowsOn es (drop i rs) → All IsShort es × IsShort (get_or rs i d)
follows_short es rs i d h f =
    let M : List Extent → Type 0 = λ l. is_merged_from f.at f.to l ≡ true in
    let m : M (get_or rs i d ∷ drop (i + 1) rs) = subst M (drop_more rs i d h) f.after in
    let p = heads f.at f.to (get_or rs i d) (drop (i + 1) rs) m in
    let up = merged-le (f.at + (get_or rs i d).length) f.to (drop (i + 1) rs) p.rest in
    let few = f.few in (
      merged-short f.from f.at es f.before (omega arith),
      omega arith,
    )

-- one run more was added
pub follows_more : (es rs new first all : List Extent) (i : ℕ) (d : Extent) → i < length rs → new ≡ with_run es (get_or rs i d) → FollowsOn es (drop i rs) → with_runs es (drop i rs) ≡ with_runs first all → FollowsOn new (drop (i + 1) rs) × (with_runs new (drop (i + 1) rs) ≡ with_runs first all)
follows_more es rs new first all i d h n f e =
    let r : Extent = get_or rs i d in
    let M : List Extent → Type 0 = λ l. is_merged_from f.at f.to l ≡ true in
    let m : M (r ∷ drop (i + 1) rs) = subst M (drop_more rs i d h) f.after in
    let p = heads f.at f.to r (drop (i + 1) rs) m in
    let N : List Extent → Type 0 = λ l. is_merged_from f.from (f.at + r.length) l ≡ true in (
      record {
        from = f.from;
        at = f.at + r.length;
        to = f.to;
        before = subst N (sym n) (merged_with f.from f.at es r f.before (record { at = p.at; some = p.some }));
        after = p.rest;
        few = f.few;
      },
      ap (λ l. with_runs l (drop (i + 1) rs)) n ∙ ap (with_runs es) (sym (drop_more rs i d h)) ∙ e,
    )

-- extents that say the first kinds
pub record Merging (first : ℕ) (kinds : List Kind) (i : ℕ) (es : List Extent) : Type 0 where
  pub merged : is_merged_from first (first + i) es ≡ true
  pub kinds_are : kinds_from es first i ≡ take i kinds
  pub given : All IsFirstExtent es

pub merging_none : (first : ℕ) (kinds : List Kind) → Merging first kinds 0 []
merging_none first kinds = record { merged = grind (arith, nat_tests); kinds_are = refl; given = All-nil IsFirstExtent }

pub merging_short : (first i : ℕ) (kinds : List Kind) (es : List Extent) → Merging first kinds i es → first + i ≤ 65536 → All IsShort es
merging_short first i kinds es g h = merged-short first (first + i) es g.merged (omega arith)

pub merging_more : (first i : ℕ) (kinds : List Kind) (es new : List Extent) (d : Kind) → i < length kinds → All IsFirstKind kinds → Merging first kinds i es → new ≡ with_run es (one_block (first + i) (get_or kinds i d)) → Merging first kinds (i + 1) new
merging_more first i kinds es new d h f g e =
    let k : Kind = get_or kinds i d in
    let b : Extent = one_block (first + i) k in
    let s : Stands (first + i) b = record { at = refl; some = omega arith } in
    let next : first + i + 1 ≡ first + (i + 1) = omega arith in
    let M : ℕ → Type 0 = λ x. is_merged_from first x (with_run es b) ≡ true in
    let N : List Extent → Type 0 = λ l. is_merged_from first (first + (i + 1)) l ≡ true in
    let A : List Extent → Type 0 = λ l. All IsFirstExtent l in
    let here : kind_at (with_run es b) (first + i) ≡ k =
    kind_next first (first + i) (first + i) es b g.merged s (omega arith) (omega arith) ∙ ap (kind_after k) (omega arith) ∙ kind_after-zero k in
    let all : kinds_from (with_run es b) first (i + 1) ≡ take (i + 1) kinds =
    rw add-one
    (kinds_from-more (with_run es b) first i
    ∙ ap (λ q. kinds_from (with_run es b) first i ++ q ∷ []) here
    ∙ ap (λ l. l ++ k ∷ []) (kinds_from-same (with_run es b) es first i (λ x p q. kind_kept first (first + i) x es b g.merged s q) ∙ g.kinds_are)
    ∙ sym (take-suc kinds i d h)) in
    record {
      merged = subst N (sym e) (subst M next (merged_with first (first + i) es b g.merged s));
      kinds_are = ap (λ l. kinds_from l first (i + 1)) e ∙ all;
      given = subst A (sym e) (first_with es b g.given (All-get_or IsFirstKind kinds i d h f));
    }
