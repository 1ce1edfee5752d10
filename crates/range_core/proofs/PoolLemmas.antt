-- What a turn at the pool tells of the claims of the seat that made it.
use Rattle.std.proofs.Common.{◌≡◌, ℕ, zero, suc, ◌<◌, ◌≤◌, ◌==◌, Bool, true, false, if◌then◌else◌, List, [], Some, Ok, Err, min, nat_lt, refl, ap, subst, arith, ◌∙◌}
use Rattle.std.proofs.lemmas.Bool.{eqb-false, ltb-true}
use Rattle.iob_base.specs.DeviceBlock.{DeviceBlock}
use Rattle.turn_cell.specs.Laws.{Stands}
use Rattle.turn_cell.specs.Stakes.{total}
use Rattle.turn_cell.proofs.Sums.{total-at}
use Rattle.space_pool.specs.Pool.{AreDistinct, PoolView, no_space, reserve_answer, reserve_some_answer}
use Rattle.space_pool.specs.declared.answer.NoSpace.{NoSpace}
use Rattle.space_pool.specs.Truth.{PoolStake, PoolTruth, claimed, number_weight}
use Rattle.space_pool.specs.Turns.{KeepsSeat, TakeTurns, TurnedAt}
use Rattle.space_pool.specs.declared.claims.PoolClaims.{PoolClaims}
use Rattle.space_pool.specs.declared.entry.PoolEntry.{PoolEntry}
use Rattle.range_core.specs.PoolTurns.{PoolPlace, TakesAt, TurnsFor, claims_on}
use Rattle.range_core.specs.RangeView.{part_in}
use Rattle.turn_cell.specs.Views.{SeatView}

-- a seat that stands at the pool claims no number twice
pub stands-distinct : {opening value : PoolView} {history : List PoolEntry} {stakes : List PoolStake} {number : ℕ} {claims : PoolClaims} {made : List PoolEntry} → Stands PoolTruth opening value history stakes number claims made
    → AreDistinct claims.facts.numbers
stands-distinct {opening} {value} {history} {stakes} {number} {claims} {made} stands x =
    let f : ℕ → ℕ = λ y. if y == x then 1 else 0 in
    let mine : total f claims.facts.numbers ≤ total (claimed (number_weight f)) stakes = total-at (claimed (number_weight f)) stakes number (Some claims, made) stands.here in
    let all = stands.holds.numbers.weighs f in
    let once = stands.holds.numbers.distinct x in
    omega arith

-- a turn is made for some sectors
pub turns_for : (n : ℕ) (turn : PoolPlace → PoolPlace → Type 0) (p q : PoolPlace) → (n ≡ 0 → ⊥) → turn p q → TurnsFor n turn p q
turns_for zero turn p q h t = absurd (h refl)
turns_for (suc n) turn p q h t = t

-- sectors that went into an empty list are all that it has
pub takes_all : (opening : PoolView) (n : ℕ) (before after : List DeviceBlock) (p q : PoolPlace) → before ≡ [] → KeepsSeat p.seat q.seat
    → TurnedAt opening (λ history value next entry. TakeTurns opening (claims_on p.space) (claims_on q.space) history value next entry n before after) (claims_on p.space) (claims_on q.space) p.seat q.seat → TakesAt opening n after p q
takes_all opening n before after p q empty keeps turned =
    let T : List DeviceBlock → Type 0 = λ xs. TurnedAt opening (λ history value next entry. TakeTurns opening (claims_on p.space) (claims_on q.space) history value next entry n xs after) (claims_on p.space) (claims_on q.space) p.seat q.seat in
    record { keeps = keeps; turned = subst T empty turned }

-- what was reserved is some, and no more than was asked for
pub some_reserved : (found n m : ℕ) → 1 ≤ n → Ok m ≡ reserve_some_answer found n → (0 < m) × (m ≤ n)
some_reserved found n m least e = at (found == 0) refl e
  where
    at : (t : Bool) → (found == 0) ≡ t → Ok m ≡ (if t then Err (no_space n found) else Ok (min n found)) → (0 < m) × (m ≤ n)
    at true t e = absurd (cc)
    at false t e =
        let is : m ≡ min n found = cc in
        let more : found ≡ 0 → ⊥ = eqb-false found 0 t in
        (grind arith, grind arith)

-- a seat that stays at its pool keeps its share of it
pub part_kept : (p q : SeatView PoolEntry) → KeepsSeat p q → part_in q ≡ part_in p
part_kept p q k = ap (λ c. (c, q.share)) k.cell ∙ ap (λ n. (p.cell, n)) k.share

-- a seat that made a turn for so many sectors, or none for no sector, stays at its pool with its share
pub kept_for : (n : ℕ) (turn : PoolPlace → PoolPlace → Type 0) → ((p q : PoolPlace) → turn p q → KeepsSeat p.seat q.seat) → (p q : PoolPlace) → TurnsFor n turn p q → part_in q.seat ≡ part_in p.seat
kept_for zero turn keeps p q t = ap (λ (x : PoolPlace). part_in x.seat) t
kept_for (suc n) turn keeps p q t = part_kept p.seat q.seat (keeps p q t)

-- nothing was reserved where fewer were unreserved than were asked for
pub none_reserved : (found n : ℕ) (e : NoSpace) → Err e ≡ reserve_answer found n → (e.wanted ≡ n) × (e.found < n)
none_reserved found n e is = at (nat_lt found n) refl is
  where
    at : (t : Bool) → nat_lt found n ≡ t → Err e ≡ (if t then Err (no_space n found) else Ok (tt {0})) → (e.wanted ≡ n) × (e.found < n)
    at false t is = absurd (cc)
    at true t is =
        let same : e ≡ no_space n found = cc in
        let less = ltb-true found n t in
        let f : e.found ≡ found = ap (λ (x : NoSpace). x.found) same in
        (ap (λ (x : NoSpace). x.wanted) same, omega arith)
