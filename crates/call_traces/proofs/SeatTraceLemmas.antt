-- What calls one after another, side by side and in phases come to at one stripe.
use Rattle.std.proofs.Common.{◌≡◌, ℕ, List, [], ◌∷◌, ◌++◌, Some, sym, ap, ◌∙◌, subst, arith, append-nil}
use Rattle.std.specs.Prelude.{All, slice_get}
use Rattle.std.proofs.lemmas.List.Elements.{All-append, All-cons, All-head, All-nil, All-weaker}
use Rattle.turn_cell.specs.Stakes.{Begins, total}
use Rattle.turn_cell.specs.Views.{SeatView, joined, longer}
use Rattle.turn_cell.proofs.Beginnings.{begins-self, begins-then}
use Rattle.turn_cell.proofs.Sums.{total-append}
use Rattle.range_core.specs.declared.entry.Entry.{Entry}
use Rattle.mount_parts.specs.MountView.{MountView}
use Rattle.mount_parts.proofs.Places.{map-there}
use Rattle.mini_fs.specs.Acts.{SeatActed, made_in, seen_in}
use Rattle.mini_fs.specs.PassView.{PassView}
use Rattle.mini_fs.specs.Splits.{given_stripe, kept_stripe}
use Rattle.mini_fs.proofs.ActLemmas.{acted-seat}
use Rattle.mini_fs.proofs.JoinPasses.{paired-at}
use Rattle.call_parts.specs.Reads.{seen_at, seen_by}
use Rattle.call_traces.specs.SeatTraces.{AllBefore, ComesBefore, EachBefore, IsWithin, PhasesAtStripe, PhasesInOrder, RanAt, all_calls, calls_in, own_weight}
use Rattle.call_traces.specs.Traces.{Phase, Phases, Ran, Traced}

seen-here : (k : ℕ) (p : PassView) (s : SeatView Entry) → slice_get p.stripes k ≡ Some s → seen_at p k ≡ s.seen
seen-here k p s here = ap seen_by here

module _ (k : ℕ) where
  -- a call lies as well within what more was seen before it or after it
  within-more : (s u t v : SeatView Entry) → Begins s.seen u.seen → Begins t.seen v.seen → (c : Traced) → IsWithin k u t c → IsWithin k s v c
  within-more s u t v less more c w = record { begins = begins-then _ _ _ less w.begins; grows = w.grows; ends = begins-then _ _ _ w.ends more }

  ran-none : (s : SeatView Entry) → RanAt k [] s s
  ran-none s = record { seen = begins-self s.seen; weighs = λ f. omega arith; within = All-nil (IsWithin k s s) }

  -- calls after others
  ran-then : (calls others : List Traced) (s u t : SeatView Entry) → RanAt k calls s u → RanAt k others u t → RanAt k (calls ++ others) s t
  ran-then calls others s u t first more = record {
    seen = begins-then _ _ _ first.seen more.seen;
    weighs = λ f. omega (arith, first.weighs f, more.weighs f, total-append (own_weight k f) calls others);
    within = All-append (IsWithin k s t) calls others (All-weaker (IsWithin k s u) (IsWithin k s t) (within-more s s u t (begins-self s.seen) more.seen) calls first.within)
        (All-weaker (IsWithin k u t) (IsWithin k s t) (within-more s u t t first.seen (begins-self t.seen)) others more.within);
  }

  -- so the first ones come before the others
  before-then : (calls others : List Traced) (s u t : SeatView Entry) → RanAt k calls s u → RanAt k others u t → AllBefore k calls others
  before-then calls others s u t first more =
      All-weaker (IsWithin k s u) (λ c. All (ComesBefore k c) others)
      (λ c w. All-weaker (IsWithin k u t) (ComesBefore k c) (λ d v. begins-then _ _ _ w.ends v.begins) others more.within) calls first.within

  -- one call
  ran-one : (c : Traced) (s t : SeatView Entry) → slice_get c.before.stripes k ≡ Some s → slice_get c.after.stripes k ≡ Some t → SeatActed k c.acts s t → RanAt k (c ∷ []) s t
  ran-one c s t here there acted =
      let before : seen_at c.before k ≡ s.seen = seen-here k c.before s here in
      let after : seen_at c.after k ≡ t.seen = seen-here k c.after t there in
      record {
        seen = (seen_in k c.acts, sym acted.seen);
        weighs = λ f. (let e : total f t.made ≡ total f (s.made ++ made_in k c.acts) = ap (total f) acted.made in omega (arith, e, total-append f s.made (made_in k c.acts)));
        within = All-cons (IsWithin k s t) c [] (record { begins = ([], append-nil s.seen ∙ sym before); grows = after ∙ acted.seen ∙ ap (λ l. l ++ seen_in k c.acts) (sym before); ends = ([], append-nil (seen_at c.after k) ∙ after) }) (All-nil (IsWithin k s t));
      }

  -- calls one after another
  ran-seat : (m : MountView) (calls : List Traced) (p q : PassView) (s : SeatView Entry) → Ran m calls p q → slice_get p.stripes k ≡ Some s
      → (t : SeatView Entry) × (slice_get q.stripes k ≡ Some t) × RanAt k calls s t × EachBefore k calls
  ran-seat m [] p q s is here = (s, ap (λ (v : PassView). slice_get v.stripes k) is ∙ here, ran-none s, tt)
  ran-seat m (c ∷ calls) p q s (first, traced, rest) here =
      let there : slice_get c.before.stripes k ≡ Some s = ap (λ (v : PassView). slice_get v.stripes k) first ∙ here in
      let acted = acted-seat k c.acts c.before c.after s traced.acted there in
      let more = ran-seat m calls c.after q acted.0 rest acted.1 in
      let one = ran-one c s acted.0 there acted.1 acted.2 in
      let before = before-then (c ∷ []) calls s acted.0 more.0 one more.2 in
      (more.0, more.1, ran-then (c ∷ []) calls s acted.0 more.0 one more.2, (All-head (λ d. All (ComesBefore k d) calls) c [] before, more.3))

  -- a seat that was split, another that went on from the new one, and both joined
  joined-ran : (calls others : List Traced) (s u t : SeatView Entry) → RanAt k calls (given_stripe s) u → RanAt k others (kept_stripe s) t → Begins t.seen (longer t.seen u.seen) → Begins u.seen (longer t.seen u.seen) → RanAt k (calls ++ others) s (joined t u)
  joined-ran calls others s u t mine rest left right = record {
    seen = begins-then _ _ _ rest.seen left;
    weighs = λ f. omega (arith, mine.weighs f, rest.weighs f, total-append f t.made u.made, total-append (own_weight k f) calls others);
    within = All-append (IsWithin k s (joined t u)) calls others
        (All-weaker (IsWithin k (given_stripe s) u) (IsWithin k s (joined t u)) (within-more s (given_stripe s) u (joined t u) (begins-self s.seen) right) calls mine.within)
        (All-weaker (IsWithin k (kept_stripe s) t) (IsWithin k s (joined t u)) (within-more s (kept_stripe s) t (joined t u) (begins-self s.seen) left) others rest.within);
  }

  -- callers side by side
  phase-seat : (m : MountView) (callers : List (List Traced)) (p q : PassView) (s : SeatView Entry) → Phase m callers p q → slice_get p.stripes k ≡ Some s
      → (t : SeatView Entry) × (slice_get q.stripes k ≡ Some t) × RanAt k (calls_in callers) s t × All (EachBefore k) callers
  phase-seat m [] p q s is here = (s, ap (λ (v : PassView). slice_get v.stripes k) is ∙ here, ran-none s, All-nil (EachBefore k))
  phase-seat m (calls ∷ []) p q s ran here =
      let r = ran-seat m calls p q s ran here in
      (r.0, r.1, subst (λ l. RanAt k l s r.0) (sym (append-nil calls)) r.2, All-cons (EachBefore k) calls [] r.3 (All-nil (EachBefore k)))
  phase-seat m (calls ∷ next ∷ callers) p q s forks here =
      let new_at : slice_get forks.new.stripes k ≡ Some (given_stripe s) = ap (λ l. slice_get l k) forks.split.stripes ∙ map-there given_stripe p.stripes k s here in
      let kept_at : slice_get forks.kept.stripes k ≡ Some (kept_stripe s) = ap (λ (v : PassView). slice_get v.stripes k) forks.split.left ∙ map-there kept_stripe p.stripes k s here in
      let mine = ran-seat m calls forks.new forks.ran (given_stripe s) forks.mine new_at in
      let rest = phase-seat m (next ∷ callers) forks.kept forks.back (kept_stripe s) forks.others kept_at in
      let both = forks.histories.stripes k rest.0 mine.0 rest.1 mine.1 in (
        joined rest.0 mine.0,
        ap (λ (v : PassView). slice_get v.stripes k) forks.joined ∙ paired-at joined forks.back.stripes forks.ran.stripes k rest.0 mine.0 rest.1 mine.1,
        joined-ran calls (calls_in (next ∷ callers)) s mine.0 rest.0 mine.2 rest.2 both.0 both.1,
        All-cons (EachBefore k) calls (next ∷ callers) mine.3 rest.3,
      )

  phases-seat : (m : MountView) (phases : List (List (List Traced))) (p q : PassView) (s : SeatView Entry) → Phases m phases p q → slice_get p.stripes k ≡ Some s
      → (t : SeatView Entry) × (slice_get q.stripes k ≡ Some t) × RanAt k (all_calls phases) s t × PhasesInOrder k phases
  phases-seat m [] p q s is here = (s, ap (λ (v : PassView). slice_get v.stripes k) is ∙ here, ran-none s, tt)
  phases-seat m (callers ∷ phases) p q s (r, phase, rest) here =
      let first = phase-seat m callers p r s phase here in
      let more = phases-seat m phases r q first.0 rest first.1 in (
        more.0,
        more.1,
        ran-then (calls_in callers) (all_calls phases) s first.0 more.0 first.2 more.2,
        (first.3, before-then (calls_in callers) (all_calls phases) s first.0 more.0 first.2 more.2, more.3),
      )

pub phases-at : PhasesAtStripe
phases-at m phases p q did k s here = phases-seat k m phases p q s did here
