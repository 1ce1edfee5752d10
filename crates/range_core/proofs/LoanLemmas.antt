-- A claim on a block as it is made, and as it is given up.
use Rattle.std.proofs.Common.{◌≡◌, ◌≢◌, ℕ, ◌+◌, ◌<◌, ◌≤◌, Option, Some, None, List, set, sym, ◌∙◌, ap, subst, arith, ⊎_elim}
use mathlib.Core.Option.{some}
use lib.ListN.{get_elem?}
use Rattle.atomic_table.proofs.Lists.{at_set}
use Rattle.turn_cell.specs.Stakes.{total}
use Rattle.turn_cell.proofs.Sums.{total-at, total-set}
use Rattle.range_core.specs.BlockTruth.{FitsAway, gone}
use Rattle.range_core.specs.ClaimsView.{ClaimsView}
use Rattle.range_core.specs.EntryCounts.{one_where}
use Rattle.range_core.specs.Loans.{ChangesSeat, LoanIsClaimed, OthersStayClaimed, ReturnFreesClaim}
use Rattle.range_core.specs.Stakes.{RangeStake, held_by, names, names_block}
use Rattle.range_core.specs.declared.lending.Away.{Away}
use Rattle.range_core.specs.declared.lending.Held.{Held}

-- how often a block is named, where one seat's claim changes
names-changed : (b : ℕ) (stakes others : List RangeStake) (claims left : ClaimsView) → ChangesSeat stakes others claims left
    → total (names b) others + one_where (names_block b claims.held) ≡ total (names b) stakes + one_where (names_block b left.held)
names-changed b stakes others claims left g =
    let t : total (names b) (set stakes g.number (Some left, g.now)) + names b (Some claims, g.made) ≡ total (names b) stakes + names b (Some left, g.now) =
    total-set (names b) stakes g.number (Some claims, g.made) (Some left, g.now) g.here in
    ap (λ xs. total (names b) xs + one_where (names_block b claims.held)) g.is ∙ t

-- a seat of the changed list is the one that changed, or one that was there
seat_then : (stakes others : List RangeStake) (claims left : ClaimsView) (g : ChangesSeat stakes others claims left) (P : Option Held → Type 0)
    → P left.held → ((s : RangeStake) (m : ℕ) → get_elem? stakes m ≡ some s → P (held_by s.0)) → (n : ℕ) (s : RangeStake) → get_elem? others n ≡ some s → P (held_by s.0)
seat_then stakes others claims left g P mine theirs n s at =
    ⊎_elim
    (λ (u : (n ≡ g.number) × ((Some left, g.now) ≡ s)). let Q : RangeStake → Type 0 = λ x. P (held_by x.0) in subst Q u.1 mine)
    (λ (u : (n ≢ g.number) × (get_elem? stakes n ≡ some s)). theirs s n u.1)
    (at_set stakes g.number n (Some left, g.now) s (ap (λ xs. get_elem? xs n) (sym g.is) ∙ at))

gone-few : (a : Option Away) → gone a ≤ 1
gone-few None = omega arith
gone-few (Some away) = omega arith

pub loan_is_claimed : LoanIsClaimed
loan_is_claimed size b was c content away h stakes others claims left g none some_h named home lent fits a =
    let t = names-changed b stakes others claims left g in
    let zero_before : one_where (names_block b claims.held) ≡ 0 = ap (λ x. one_where (names_block b x)) none in
    let one_after : one_where (names_block b left.held) ≡ 1 = ap (λ x. one_where (names_block b x)) some_h ∙ ap one_where named in
    let empty : total (names b) stakes ≡ 0 = a.once ∙ ap gone home in
    let P : Option Held → Type 0 = λ x. 0 < one_where (names_block b x) → FitsAway size b c content c.away x in
    let here : P left.held =
    λ _. let F : Option Away → Type 0 = λ o. FitsAway size b c content o left.held in
    let G : Option Held → Type 0 = λ x. FitsAway size b c content (Some away) x in
    subst F (sym lent) (subst G (sym some_h) fits) in
    let elsewhere : (s : RangeStake) (m : ℕ) → get_elem? stakes m ≡ some s → P (held_by s.0) =
    λ s m at more. absurd (let few : names b s ≤ total (names b) stakes = total-at (names b) stakes m s at in omega arith) in
    record {
      once = (let q : total (names b) others ≡ 1 = omega arith in q) ∙ sym (ap gone lent);
      fits = λ n s at. seat_then stakes others claims left g P here elsewhere n s at;
    }

pub return_frees_claim : ReturnFreesClaim
return_frees_claim size b was c content after h stakes others claims left g some_h none named home a =
    let t = names-changed b stakes others claims left g in
    let one_before : one_where (names_block b claims.held) ≡ 1 = ap (λ x. one_where (names_block b x)) some_h ∙ ap one_where named in
    let zero_after : one_where (names_block b left.held) ≡ 0 = ap (λ x. one_where (names_block b x)) none in
    let few = gone-few was.away in
    let o = a.once in
    let empty : total (names b) others ≡ 0 = omega arith in
    record {
      once = empty ∙ sym (ap gone home);
      fits = λ n s at more. absurd (let least : names b s ≤ total (names b) others = total-at (names b) others n s at in omega arith);
    }

pub others_stay_claimed : OthersStayClaimed
others_stay_claimed size b c content stakes others claims left g before after a =
    let t = names-changed b stakes others claims left g in
    let zero_before : one_where (names_block b claims.held) ≡ 0 = ap one_where before in
    let zero_after : one_where (names_block b left.held) ≡ 0 = ap one_where after in
    let same : total (names b) others ≡ total (names b) stakes = omega arith in
    let P : Option Held → Type 0 = λ x. 0 < one_where (names_block b x) → FitsAway size b c content c.away x in
    record {
      once = same ∙ a.once;
      fits = λ n s at. seat_then stakes others claims left g P (λ more. absurd (omega arith)) (λ u m there more. a.fits m u there more) n s at;
    }
