-- A journal in which calls that may not stand before others stand behind them.
use Rattle.std.proofs.Common.{◌≡◌, ℕ, ◌<◌, Bool, true, false, List, [], ◌∷◌, ◌++◌, IsTrue, refl, sym, ap, ◌∙◌, arith, append-nil}
use Rattle.std.proofs.lemmas.Bool.{and_from, eq-eqb}
use Rattle.std.specs.List.{list_all}
use Rattle.iob_base.specs.declared.stamp.Stamp.{Stamp}
use Rattle.io_model.specs.Lists.{each_pair}
use Rattle.range_core.specs.EntryCounts.{one_where}
use Rattle.call_traces.specs.Orders.{AbsentStandsAnywhere, OrderIsKept, StandsBefore, is_stamp_of, times_stamped}

own-stamp : (st : Stamp) → is_stamp_of st.call st ≡ 1
own-stamp st = ap one_where (eq-eqb st.call st.call refl)

-- a test holds of all stamps whose call it does not refuse
all-pass : (test : Stamp → Bool) (journal : List Stamp) → ((st : Stamp) → test st ≡ false → 0 < times_stamped st.call journal → ⊥) → IsTrue (list_all test journal)
all-pass test [] none = refl
all-pass test (st ∷ sts) none =
    let own : is_stamp_of st.call st ≡ 1 = own-stamp st in
    and_from (test st) (list_all test sts) (at (test st) refl) (all-pass test sts (λ later refused some. none later refused (omega (arith, some))))
  where
    at : (b : Bool) → test st ≡ b → b ≡ true
    at true e = refl
    at false e = let own : is_stamp_of st.call st ≡ 1 = own-stamp st in absurd (none st e (omega (arith, own)))

-- of two calls the later one has the first stamp, so the other has none
headed : (st : Stamp) (first : ℕ) (sts front back : List Stamp) → st ∷ sts ≡ front ++ back → times_stamped st.call front ≡ 0 → times_stamped first back ≡ 0 → 0 < times_stamped first sts → ⊥
headed st first sts [] back parts later none some =
    let e : times_stamped first (st ∷ sts) ≡ times_stamped first back = ap (times_stamped first) parts in omega (arith, e, none, some)
headed st first sts (x ∷ front) back parts later none some =
    let same : st ≡ x = cc in
    let own : is_stamp_of st.call x ≡ 1 = ap (is_stamp_of st.call) (sym same) ∙ own-stamp st in
    omega (arith, own, later)

-- what holds of a journal in this respect holds without its first stamp
tail-before : (st : Stamp) (first later : ℕ) (sts front back : List Stamp) → st ∷ sts ≡ front ++ back → times_stamped later front ≡ 0 → times_stamped first back ≡ 0 → StandsBefore first later sts
tail-before st first later sts [] back parts none_later none_first = record {
  front = [];
  back = sts;
  parts = refl;
  none_later = refl;
  none_first = (let e : times_stamped first (st ∷ sts) ≡ times_stamped first back = ap (times_stamped first) parts in omega (arith, e, none_first));
}
tail-before st first later sts (x ∷ front) back parts none_later none_first = record {
  front = front;
  back = back;
  parts = cc;
  none_later = omega (arith, none_later);
  none_first = none_first;
}

pub order-kept : OrderIsKept
order-kept may [] before = refl
order-kept may (st ∷ sts) before =
    and_from (list_all (λ next. may st.call next.call) sts) (each_pair (λ s next. may s.call next.call) sts)
    (all-pass (λ next. may st.call next.call) sts (λ next refused some. let b = before st.call next.call refused in headed st next.call sts b.front b.back b.parts b.none_later b.none_first some))
    (order-kept may sts (λ n later refused. let b = before n later refused in tail-before st later n sts b.front b.back b.parts b.none_later b.none_first))

pub absent-anywhere : AbsentStandsAnywhere
absent-anywhere n other journal none = (
  record { front = []; back = journal; parts = refl; none_later = refl; none_first = none },
  record { front = journal; back = []; parts = sym (append-nil journal); none_later = none; none_first = refl },
)
