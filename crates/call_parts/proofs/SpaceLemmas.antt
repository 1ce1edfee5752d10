-- Why a turn found too little space: the files have more blocks than the device has sectors.
use Rattle.std.proofs.Common.{◌≡◌, ℕ, zero, suc, ◌+◌, ◌-◌, ◌<◌, ◌≤◌, ◌==◌, Bool, true, false, List, [], ◌∷◌, ◌++◌, length, min, not, Some, None, Option, Ok, Err, if◌then◌else◌, refl, sym, ap, ◌∙◌, subst, arith}
use Rattle.std.specs.Prelude.{IsSomeAnd, nat_lt, slice_get, unwrap_or}
use Rattle.std.proofs.lemmas.Bool.{eqb-true, ltb-true}
use Rattle.std.proofs.lemmas.Option.{none-some}
use mathlib.Core.Option.{some}
use lib.ListN.{get_elem?}
use Rattle.iob_base.specs.declared.stamp.FileId.{FileId}
use Rattle.io_model.specs.Kinds.{kind_after}
use Rattle.io_model.specs.declared.file.Kind.TheVariants.{Hole}
use Rattle.turn_cell.specs.Stakes.{total}
use Rattle.turn_cell.specs.Views.{SeatView}
use Rattle.turn_cell.proofs.Sums.{total-count}
use Rattle.space_pool.specs.Claims.{ClaimsView, Fits}
use Rattle.space_pool.specs.Pool.{PoolView, no_space, reserve_answer, reserve_some_answer, unreserved}
use Rattle.space_pool.specs.Truth.{IsWithin, PoolStake, PoolTruth, claimed, number_weight, weight_of}
use Rattle.space_pool.specs.declared.answer.NoSpace.{NoSpace}
use Rattle.space_pool.specs.declared.claims.PoolClaims.{PoolClaims}
use Rattle.space_pool.specs.declared.entry.PoolEntry.{PoolEntry}
use Rattle.range_core.specs.KnownSamples.{WasGiven}
use Rattle.range_core.specs.RangeTruth.{RangeTruth}
use Rattle.range_core.specs.RangeView.{RangeView}
use Rattle.range_core.specs.Attaches.{holes_in}
use Rattle.range_core.specs.Refusals.{◌orElse◌, reserve_refusal, stale, where_true, worn}
use Rattle.range_core.specs.Stakes.{RangeStake}
use Rattle.range_core.specs.declared.entry.Entry.{Entry}
use Rattle.range_core.specs.declared.fault.EventFault.{EventFault}
use Rattle.range_core.specs.declared.fault.EventFault.TheVariants as refusal
use Rattle.range_core.specs.declared.sample.Sample.{Sample}
use Rattle.range_core.proofs.ReserveLemmas.{AreHoles, fits_holes, holes_counted, unstale}
use Rattle.range_core.proofs.SampleLemmas.{known_sample}
use Rattle.mount_parts.specs.MountView.{MountView, stripe_at}
use Rattle.mini_fs.specs.MapTurns.{MakesTurn}
use Rattle.mini_fs.specs.MapTurns.MapTurn.{Place, Promise}
use Rattle.mini_fs.specs.Mappings.{IsGivenAt}
use Rattle.mini_fs.specs.PassView.{PassView}
use Rattle.call_parts.specs.Causes.{IsShort}

-- what a seat has of its cap: sectors, and reservations of more
abbrev used : ClaimsView → ℕ
used c = length c.numbers + c.reserved

-- each seat is within its cap
abbrev AreWithin : List PoolStake → Type 0
AreWithin stakes = (number : ℕ) (c : PoolClaims) (made : List PoolEntry) → get_elem? stakes number ≡ some (Some c, made) → IsWithin c.facts

-- what a stake uses of its cap, in parts
used-parts : (claims : Option PoolClaims) → weight_of used claims ≡ weight_of (number_weight (λ _. 1)) claims + weight_of (λ c. c.reserved) claims
used-parts None = refl
used-parts (Some c) = ap (λ n. n + c.facts.reserved) (sym (total-count c.facts.numbers))

all-used : (stakes : List PoolStake) → total (claimed used) stakes ≡ total (claimed (number_weight (λ _. 1))) stakes + total (claimed (λ c. c.reserved)) stakes
all-used [] = refl
all-used (s ∷ stakes) = omega (arith, used-parts s.0, all-used stakes)

-- no stake uses more than its cap
stake-within : (claims : Option PoolClaims) → ((c : PoolClaims) → claims ≡ Some c → IsWithin c.facts) → weight_of used claims ≤ weight_of (λ c. c.cap) claims
stake-within None within = omega arith
stake-within (Some c) within = within c refl

all-within : (stakes : List PoolStake) → AreWithin stakes → total (claimed used) stakes ≤ total (claimed (λ c. c.cap)) stakes
all-within [] within = omega arith
all-within (s ∷ stakes) within =
    let first = stake-within s.0 (λ c is. within 0 c s.1 (λ i. some (is i, s.1))) in
    let rest = all-within stakes (λ number c made at. within (suc number) c made at) in
    omega (arith, first, rest)

-- where one has room for so many more, all together have
room-left : (stakes : List PoolStake) (number n : ℕ) (c : PoolClaims) (made : List PoolEntry) → AreWithin stakes → get_elem? stakes number ≡ some (Some c, made) → Fits c.facts n → total (claimed used) stakes + n ≤ total (claimed (λ c. c.cap)) stakes
room-left [] number n c made within here fits = absurd (cc)
room-left (s ∷ stakes) zero n c made within here fits =
    let same : s ≡ (Some c, made) = cc in
    let uses : claimed used s ≡ used c.facts = ap (claimed used) same in
    let caps : claimed (λ c. c.cap) s ≡ c.facts.cap = ap (claimed (λ c. c.cap)) same in
    let rest = all-within stakes (λ number d made' at. within (suc number) d made' at) in
    omega (arith, uses, caps, fits, rest)
room-left (s ∷ stakes) (suc number) n c made within here fits =
    let first = stake-within s.0 (λ d is. within 0 d s.1 (λ i. some (is i, s.1))) in
    let rest = room-left stakes number n c made (λ k d made' at. within (suc k) d made' at) here fits in
    omega (arith, first, rest)

-- A seat that has room for n sectors more finds fewer only at a pool whose caps are more than its sectors
pub short-pool : (opening now : PoolView) (history : List PoolEntry) (stakes : List PoolStake) (number n : ℕ) (c : PoolClaims) (made : List PoolEntry) → PoolTruth opening now history stakes → get_elem? stakes number ≡ some (Some c, made) → Fits c.facts n
    → unreserved now < n → length opening.numbers < opening.cap
short-pool opening now history stakes number n c made truth here fits few =
    let numbers : total (λ s. 1) now.free + total (claimed (number_weight (λ _. 1))) stakes ≡ total (λ _. 1) opening.numbers = truth.numbers.weighs (λ _. 1) in
    let free = total-count now.free in
    let all = total-count opening.numbers in
    let uses = all-used stakes in
    let room = room-left stakes number n c made (λ k d made' at. (truth.caps.within k d made' at).0) here fits in
    let caps = truth.caps.adds in
    let reserved = truth.reserved in
    let enough = truth.enough in
    omega (arith, numbers, free, all, uses, room, caps, reserved, enough, few)

-- what a refusal of a wish for sectors says
none-found : (found n w f : ℕ) → Err (no_space w f) ≡ reserve_answer found n → (w ≡ n) × (f ≡ found) × (found < n)
none-found found n w f is = at (nat_lt found n) refl
  where
    at : (t : Bool) → nat_lt found n ≡ t → (w ≡ n) × (f ≡ found) × (found < n)
    at true e =
        let same : Err (no_space w f) ≡ Err (no_space n found) = is ∙ ap (λ t. if t then Err (no_space n found) else Ok tt) e in
        let inner : no_space w f ≡ no_space n found = cc in
        (ap (λ (x : NoSpace). x.wanted) inner, ap (λ (x : NoSpace). x.found) inner, ltb-true found n e)
    at false e = let no : Err (no_space w f) ≡ Ok tt = is ∙ ap (λ t. if t then Err (no_space n found) else Ok tt) e in absurd (cc)

some-none-found : (found n w f : ℕ) → Err (no_space w f) ≡ reserve_some_answer found n → (w ≡ n) × (f ≡ found) × (found ≡ 0)
some-none-found found n w f is = at (found == 0) refl
  where
    at : (t : Bool) → (found == 0) ≡ t → (w ≡ n) × (f ≡ found) × (found ≡ 0)
    at true e =
        let same : Err (no_space w f) ≡ Err (no_space n found) = is ∙ ap (λ t. if t then Err (no_space n found) else Ok (min n found)) e in
        let inner : no_space w f ≡ no_space n found = cc in
        (ap (λ (x : NoSpace). x.wanted) inner, ap (λ (x : NoSpace). x.found) inner, eqb-true found 0 e)
    at false e = let no : Err (no_space w f) ≡ Ok (min n found) = is ∙ ap (λ t. if t then Err (no_space n found) else Ok (min n found)) e in absurd (cc)

-- no other refusal speaks of space
abbrev pub ShortOf : MountView → EventFault → Type 0
ShortOf m (refusal.NoSpace wanted found) = IsShort m wanted found
ShortOf m _ = Unit {0}

-- a sample that is not stale is of holes, if it is of a hole at all
fresh-holes : (opening now : RangeView) (history : List Entry) (stakes : List RangeStake) (seen : Sample) → RangeTruth opening now history stakes → WasGiven seen history → stale now seen ≡ None → seen.extent.kind ≡ Hole → 0 < seen.extent.length → AreHoles now.cells (seen.extent.block - now.first) 1
fresh-holes opening now history stakes seen truth given fresh hole long =
    let extent = known_sample opening now history stakes seen truth given (unstale now seen fresh) in
    let inside = extent.inside long in
    record {
      within = omega (arith, inside, long);
      holes = λ k c less at. extent.kinds k c (omega (arith, less, long)) at ∙ ap (λ q. kind_after q k) hole;
    }

-- where a promise of space was refused for want of it, its sample was not stale
not-stale : (now : RangeView) (seen : Sample) (n w f : ℕ) → refusal.NoSpace w f ≡ unwrap_or (reserve_refusal now seen) (refusal.NoSpace n 0) → stale now seen ≡ None
not-stale now seen n w f is = at (seen.cookie == now.cookie) refl
  where
    at : (t : Bool) → (seen.cookie == now.cookie) ≡ t → stale now seen ≡ None
    at true e = ap (λ t. where_true (not t) (refusal.Stale seen.cookie now.cookie)) e
    at false e =
        let no : refusal.NoSpace w f ≡ refusal.Stale seen.cookie now.cookie = is ∙ ap (λ t. unwrap_or (where_true (not t) (refusal.Stale seen.cookie now.cookie) orElse worn now true) (refusal.NoSpace n 0)) e in
        absurd (cc)

-- a sample that a seat was given is one of the history that others go on with
given-more : (seen : Sample) (history more : List Entry) → WasGiven seen history → WasGiven seen (history ++ more)
given-more seen history more given = record { place = given.place; entry = given.entry; here = there history given.place given.here; gave = given.gave }
  where
    there : (xs : List Entry) (i : ℕ) → slice_get xs i ≡ Some given.entry → slice_get (xs ++ more) i ≡ Some given.entry
    there [] i at = absurd (none-some given.entry at)
    there (x ∷ xs) zero at = at
    there (x ∷ xs) (suc i) at = there xs i at

-- a promise to a hole that was refused for want of space
pub promise-short : (m : MountView) (file : FileId) (p q : PassView) (seen : Sample) (fault : EventFault) → 0 < seen.extent.length → seen.extent.kind ≡ Hole → IsGivenAt p (stripe_at m file seen.extent.block) seen
    → MakesTurn m file (Promise seen seen.extent.length (Err fault)) p q → ShortOf m fault
promise-short m file p q seen (refusal.NoSpace w f) long hole given turn =
    let t = turn.turned in
    let refused = t.done.err in
    let pool = refused.left.1.turned in
    let n = seen.extent.length in
    let found = some-none-found (unreserved pool.value) n w f pool.done.0.found in
    let mine : WasGiven seen turn.before.seen = subst (λ o. IsSomeAnd o (λ (x : SeatView Entry). WasGiven seen x.seen)) turn.stand.seat_is given in
    let truth = t.stood.holds in
    let size = turn.cell.opening.geometry.block_size in
    let holes = fresh-holes turn.cell.opening t.value (turn.before.seen ++ t.others) t.stakes seen truth (given-more seen turn.before.seen t.others mine) (not-stale t.value seen n w f refused.is) hole long in
    let fits = fits_holes size (seen.extent.block - t.value.first) 1 t.value.cells t.value.space truth.pool_claims_sectors in
    let one = holes_counted (seen.extent.block - t.value.first) 1 t.value.cells holes in
    let wanted = found.0 in
    let there = found.1 in
    let none = found.2 in
    record {
      fewer = omega (arith, wanted, there, none, long);
      short = short-pool m.pool.opening pool.value _ pool.stakes pool.number 1 _ _ pool.stood.holds pool.stood.here (subst (Fits t.value.space) one fits) (omega (arith, none));
    }
promise-short m file p q seen (refusal.Stale x y) long hole given turn = tt
promise-short m file p q seen (refusal.Away x y) long hole given turn = tt
promise-short m file p q seen (refusal.Cold x) long hole given turn = tt
promise-short m file p q seen (refusal.Settled x) long hole given turn = tt
promise-short m file p q seen (refusal.Unattached x) long hole given turn = tt
promise-short m file p q seen (refusal.Dirty x) long hole given turn = tt
promise-short m file p q seen (refusal.Worn x) long hole given turn = tt
promise-short m file p q seen refusal.NoMemory long hole given turn = tt
promise-short m file p q seen (refusal.Poison x) long hole given turn = tt

-- sectors for the blocks of a run that were refused for want of space
pub place-short : (m : MountView) (file : FileId) (p q : PassView) (b n : ℕ) (fault : EventFault) → MakesTurn m file (Place b n (Err fault)) p q → ShortOf m fault
place-short m file p q b n (refusal.NoSpace w f) turn =
    let t = turn.turned in
    let refused = t.done.err in
    let pool = refused.left.1.turned in
    let holes = holes_in t.value b n in
    let found = none-found (unreserved pool.value) holes w f pool.done.0.found in
    let truth = t.stood.holds in
    let size = turn.cell.opening.geometry.block_size in
    let fits = fits_holes size (b - t.value.first) n t.value.cells t.value.space truth.pool_claims_sectors in
    let wanted = found.0 in
    let there = found.1 in
    let few = found.2 in
    record {
      fewer = omega (arith, wanted, there, few);
      short = short-pool m.pool.opening pool.value _ pool.stakes pool.number holes _ _ pool.stood.holds pool.stood.here fits few;
    }
place-short m file p q b n (refusal.Stale x y) turn = tt
place-short m file p q b n (refusal.Away x y) turn = tt
place-short m file p q b n (refusal.Cold x) turn = tt
place-short m file p q b n (refusal.Settled x) turn = tt
place-short m file p q b n (refusal.Unattached x) turn = tt
place-short m file p q b n (refusal.Dirty x) turn = tt
place-short m file p q b n (refusal.Worn x) turn = tt
place-short m file p q b n refusal.NoMemory turn = tt
place-short m file p q b n (refusal.Poison x) turn = tt
