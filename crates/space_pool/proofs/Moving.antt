-- What each call moves.
use Rattle.std.proofs.Common.{◌≡◌, ℕ, ◌+◌, ◌-◌, ◌≤◌, Bool, true, false, cond, List, ◌++◌, length, min, nat_lt, ◌==◌, Result, Ok, Err, refl, sym, ap, subst, arith, length-append}
use Rattle.std.proofs.lemmas.Bool.Decides.{nat_tests}
use Rattle.std.proofs.lemmas.List.{length-map}
use Rattle.iob_base.specs.DeviceBlock.{DeviceBlock}
use Rattle.turn_cell.specs.Stakes.{total}
use Rattle.turn_cell.proofs.Sums.{total-append, total-map}
use Rattle.space_pool.specs.declared.answer.NoSpace.{NoSpace}
use Rattle.space_pool.specs.declared.entry.PoolEntry.{PoolEntry}
use Rattle.space_pool.specs.declared.entry.PoolEntry.TheVariants.{Reserve, ReserveSome, Unreserve, Take, Give}
use Rattle.space_pool.specs.Claims.{ClaimsView, numbers_of, Fits, with_more, with_fewer, with_taken, with_given, without}
use Rattle.space_pool.specs.Pool.{PoolView, unreserved, IsClaimOn, no_space, more_reserved, fewer_reserved, with_free, CanGive, Reserves, ReservesSome, Unreserves, Takes, Gives}
use Rattle.space_pool.specs.History.{unreserved_after, taken_by, given_by}
use Rattle.space_pool.specs.Truth.{IsWithin}
use Rattle.space_pool.proofs.Removing.{without-weighs, without-length}
use Rattle.space_pool.proofs.States.{left-length, moved-length}
use Rattle.space_pool.proofs.Keeping.{Moves}

moves-at : (p : PoolView) (c : ClaimsView) (q q' : PoolView) (d d' : ClaimsView) (e : PoolEntry) → q ≡ q' → d ≡ d' → Moves p c q' d' e → Moves p c q d e
moves-at p c q q' d d' e same same' m = subst (λ (x : PoolView). Moves p c x d e) (sym same) (subst (λ (y : ClaimsView). Moves p c q' y e) (sym same') m)

-- nothing moves
pub stays : (p : PoolView) (c : ClaimsView) (e : PoolEntry) → p.reserved ≤ length p.free → IsWithin c → unreserved p ≡ unreserved_after (unreserved p) e → ((f : DeviceBlock → ℕ) → total f (taken_by e) ≡ total f (given_by e)) → Moves p c p c e
stays p c e enough within counted quiet = record {
  numbers = λ f. refl;
  reserved = refl;
  enough = enough;
  within = within;
  cap = refl;
  size = refl;
  pool = refl;
  counted = counted;
  stock = λ f. ap (λ (k : ℕ). total f p.free + k) (quiet f);
}

-- more is reserved
more : (p : PoolView) (c : ClaimsView) (n : ℕ) (e : PoolEntry) → p.reserved + n ≤ length p.free → Fits c n → unreserved p - n ≡ unreserved_after (unreserved p) e → ((f : DeviceBlock → ℕ) → total f (taken_by e) ≡ total f (given_by e))
    → Moves p c (more_reserved p n) (with_more c n) e
more p c n e room fits counted quiet = record {
  numbers = λ f. refl;
  reserved = omega arith;
  enough = room;
  within = omega arith;
  cap = refl;
  size = refl;
  pool = refl;
  counted = omega arith;
  stock = λ f. ap (λ (k : ℕ). total f p.free + k) (quiet f);
}

granted : (b : Bool) (e : NoSpace) (x : Unit {0}) → Ok x ≡ cond b (Err e) (Ok tt) → b ≡ false
granted true e x same = cc
granted false e x same = refl

pub reserve-moves : (n : ℕ) (p : PoolView) (c : ClaimsView) (answer : Result (Unit {0}) NoSpace) (q : PoolView) (d : ClaimsView) → Reserves n p c answer q d → p.reserved ≤ length p.free → Fits c n
    → Moves p c q d (Reserve n answer)
reserve-moves n p c (Ok x) q d r enough fits =
    let b : nat_lt (unreserved p) n ≡ false = granted (nat_lt (unreserved p) n) (no_space n (unreserved p)) x r.found in
    let room : n ≤ unreserved p = grind (arith, nat_tests) in
    moves-at p c q (more_reserved p n) d (with_more c n) (Reserve n (Ok x)) r.ok.0 r.ok.1 (more p c n (Reserve n (Ok x)) (omega arith) fits refl (λ f. refl))
reserve-moves n p c (Err x) q d r enough fits = moves-at p c q p d c (Reserve n (Err x)) r.err.0 r.err.1 (stays p c (Reserve n (Err x)) enough (omega arith) refl (λ f. refl))

granted-some : (b : Bool) (e : NoSpace) (m k : ℕ) → Ok m ≡ cond b (Err e) (Ok k) → m ≡ k
granted-some true e m k same = cc
granted-some false e m k same = cc

pub reserve_some-moves : (n : ℕ) (p : PoolView) (c : ClaimsView) (answer : Result ℕ NoSpace) (q : PoolView) (d : ClaimsView) → ReservesSome n p c answer q d → p.reserved ≤ length p.free → Fits c n
    → Moves p c q d (ReserveSome n answer)
reserve_some-moves n p c (Ok m) q d r enough fits =
    let is : m ≡ min n (unreserved p) = granted-some (unreserved p == 0) (no_space n (unreserved p)) m (min n (unreserved p)) r.found in
    moves-at p c q (more_reserved p m) d (with_more c m) (ReserveSome n (Ok m)) r.ok.0 r.ok.1 (more p c m (ReserveSome n (Ok m)) (omega arith) (omega arith) refl (λ f. refl))
reserve_some-moves n p c (Err x) q d r enough fits = moves-at p c q p d c (ReserveSome n (Err x)) r.err.0 r.err.1 (stays p c (ReserveSome n (Err x)) enough (omega arith) refl (λ f. refl))

pub unreserve-moves : (n : ℕ) (p : PoolView) (c : ClaimsView) (q : PoolView) (d : ClaimsView) → Unreserves n p c q d → p.reserved ≤ length p.free → IsWithin c → IsClaimOn p c → n ≤ c.reserved
    → Moves p c q d (Unreserve n)
unreserve-moves n p c q d u enough within claim few =
    let has = claim.reserved in
    moves-at p c q (fewer_reserved p n) d (with_fewer c n) (Unreserve n) u.pool u.claims (record {
      numbers = λ f. refl;
      reserved = omega arith;
      enough = omega arith;
      within = omega arith;
      cap = refl;
      size = refl;
      pool = refl;
      counted = omega arith;
      stock = λ f. refl;
    })

pub take-moves : (n : ℕ) (p : PoolView) (c : ClaimsView) (before : List DeviceBlock) (q : PoolView) (d : ClaimsView) (after : List DeviceBlock) (t : Takes n p c before q d after) → p.reserved ≤ length p.free → IsWithin c → IsClaimOn p c → n ≤ c.reserved
    → Moves p c q d (Take n t.lowest.taken)
take-moves n p c before q d after t enough within claim few =
    let has = claim.reserved in
    let taken : List DeviceBlock = t.lowest.taken in
    let count : length taken ≡ n = t.lowest.count in
    let l : length p.free ≡ n + length q.free = left-length t.lowest in
    let numbers : length (c.numbers ++ numbers_of taken) ≡ length c.numbers + length (numbers_of taken) = length-append c.numbers (numbers_of taken) in
    let m : length (numbers_of taken) ≡ length taken = length-map taken (λ (s : DeviceBlock). s.number) in
    moves-at p c q (with_free (fewer_reserved p n) q.free) d (with_taken c taken) (Take n taken) t.pool t.claims (record {
      numbers = λ f.
          let w : total (λ s. f s.number) p.free ≡ total (λ s. f s.number) taken + total (λ s. f s.number) q.free = t.lowest.moved (λ s. f s.number) in
          let a : total f (c.numbers ++ numbers_of taken) ≡ total f c.numbers + total f (numbers_of taken) = total-append f c.numbers (numbers_of taken) in
          let b : total f (numbers_of taken) ≡ total (λ s. f s.number) taken = total-map f (λ (s : DeviceBlock). s.number) taken in omega arith;
      reserved = omega arith;
      enough = omega arith;
      within = omega arith;
      cap = refl;
      size = refl;
      pool = refl;
      counted = omega arith;
      stock = λ f. let w : total f p.free ≡ total f taken + total f q.free = t.lowest.moved f in omega arith;
    })

pub give-moves : (given : List DeviceBlock) (p : PoolView) (c : ClaimsView) (q : PoolView) (d : ClaimsView) → Gives given p c q d → p.reserved ≤ length p.free → IsWithin c → CanGive given c → Moves p c q d (Give (length given) given)
give-moves given p c q d g enough within can =
    let l : length q.free ≡ length p.free + length given = moved-length p.free given q.free g.moved in
    let kept : length (without (numbers_of given) c.numbers) + length (numbers_of given) ≡ length c.numbers = without-length (numbers_of given) c.numbers can.among in
    moves-at p c q (with_free p q.free) d (with_given c given) (Give (length given) given) g.pool g.claims (record {
      numbers = λ f.
          let w : total (λ s. f s.number) q.free ≡ total (λ s. f s.number) p.free + total (λ s. f s.number) given = g.moved (λ s. f s.number) in
          let a : total f (without (numbers_of given) c.numbers) + total f (numbers_of given) ≡ total f c.numbers = without-weighs f (numbers_of given) c.numbers can.among in
          let b : total f (numbers_of given) ≡ total (λ s. f s.number) given = total-map f (λ (s : DeviceBlock). s.number) given in omega arith;
      reserved = refl;
      enough = omega arith;
      within = omega arith;
      cap = refl;
      size = refl;
      pool = refl;
      counted = omega arith;
      stock = λ f. let w : total f q.free ≡ total f p.free + total f given = g.moved f in omega arith;
    })
