-- What the truth of a range tells of the seat that made a turn, of a loan that is split off, and of a cell that is closed.
use Rattle.std.proofs.Common.{◌≡◌, ◌≢◌, ℕ, ◌+◌, ◌≤◌, Bool, true, false, ◌&&◌, if◌then◌else◌, nat_eq, Option, Some, None, refl, sym, ◌∙◌, ap, arith, inl, inr}
use Rattle.std.proofs.lemmas.Bool.{eqb-false}
use Rattle.std.proofs.lemmas.Option.{slice_get-get_or}
use mathlib.Core.Option.{some}
use lib.ListN.{get_elem?}
use Rattle.turn_cell.specs.Stakes.{total}
use Rattle.turn_cell.proofs.Sums.{total-alone, total-at, total-two}
use Rattle.range_core.specs.BlockTruth.{gone}
use Rattle.range_core.specs.Closing.{ClosedIsHome, ClosedKeepsShare, LoanComesHome, OwnEntriesAlone}
use Rattle.range_core.specs.EntryCounts.{made_as, one_where}
use Rattle.range_core.specs.Stakes.{RangeStake, is_main_of, mains, names, names_block, strays}
use Rattle.range_core.specs.declared.lending.Away.{Away}

at_home : (a : Option Away) → gone a ≡ 0 → a ≡ None
at_home None e = refl
at_home (Some away) e = absurd (omega arith)

pub closed_is_home : ClosedIsHome
closed_is_home opening value seat claims closed none i d l =
    let b : ℕ = opening.first + i in
    let true_at = closed.stands.holds.blocks i _ (slice_get-get_or value.cells i d l) in
    let alone : total (names b) closed.stakes ≡ names b (Some claims, seat.made) =
    total-alone (names b) closed.stakes closed.number (Some claims, seat.made) closed.stands.here (λ j s apart at. ap (names b) (closed.alone j s apart at)) in
    let mine : names b (Some claims, seat.made) ≡ 0 = ap (λ h. one_where (names_block b h)) none in
    at_home _ (sym true_at.away_is_claimed.once ∙ alone ∙ mine)

pub closed_keeps_share : ClosedKeepsShare
closed_keeps_share opening value seat claims closed = closed.stands.holds.same_run.pool

same_number : (n : ℕ) → nat_eq n n ≡ true
same_number n = at (nat_eq n n) refl
  where
    at : (t : Bool) → nat_eq n n ≡ t → t ≡ true
    at true e = refl
    at false e = absurd (eqb-false n n e refl)

pub own_entries_alone : OwnEntriesAlone
own_entries_alone opening value history stakes number claims made s own low =
    s.once (made_as n) ∙ total-alone (λ (x : RangeStake). total (made_as n) x.1) stakes number (Some claims, made) s.here none_of
  where
    n : ℕ
    n = claims.caller

    mine : mains n (Some claims, made) ≡ 1
    mine = ap (λ t. one_where (t && nat_eq n n)) own ∙ ap one_where (same_number n)

    none_of : (j : ℕ) (x : RangeStake) → j ≢ number → get_elem? stakes j ≡ some x → total (made_as n) x.1 ≡ 0
    none_of j x apart at = by (is_main_of n x.0) refl
      where
        by : (t : Bool) → is_main_of n x.0 ≡ t → total (made_as n) x.1 ≡ 0
        by true is =
            let one : mains n x ≡ 1 = ap one_where is in
            let two : mains n (Some claims, made) + mains n x ≤ total (mains n) stakes = total-two (mains n) stakes number j (Some claims, made) x apart s.here at in
            let apart_now = s.holds.callers_are_apart n low in
            let most = apart_now.one in
            absurd (omega (arith, mine))
        by false is =
            let here : mains n (Some claims, made) ≤ total (mains n) stakes = total-at (mains n) stakes number (Some claims, made) s.here in
            let apart_now = s.holds.callers_are_apart n low in
            let none = apart_now.own (omega (arith, mine)) in
            let few : strays n x ≤ total (strays n) stakes = total-at (strays n) stakes j x at in
            let weighs : strays n x ≡ total (made_as n) x.1 = ap (λ t. if t then 0 else total (made_as n) x.1) is in
            omega arith

pub loan_comes_home : LoanComesHome
loan_comes_home claims = (
  record { one_held = inl refl; one_spare = inr refl; own = λ _. refl },
  let z : claims.spare + 0 ≡ claims.spare = omega arith in
      ap (λ n. record claims { spare = n }) z,
)
