-- Claims on a pool stay claims on it.
use Rattle.std.proofs.Common.{◌≡◌, ℕ, ◌+◌, ◌≤◌, List, ◌++◌, length, Result, Ok, Err, refl, sym, ap, subst, ◌∙◌, arith, length-append}
use Rattle.std.proofs.lemmas.List.{length-map}
use Rattle.iob_base.specs.DeviceBlock.{DeviceBlock}
use Rattle.turn_cell.specs.Stakes.{total}
use Rattle.turn_cell.proofs.Sums.{total-count}
use Rattle.space_pool.specs.declared.answer.NoSpace.{NoSpace}
use Rattle.space_pool.specs.Sectors.{SameSectors}
use Rattle.space_pool.specs.Claims.{ClaimsView, numbers_of, without, with_part_gone, claims_with, with_more, with_fewer, with_taken, with_given, joined_claims}
use Rattle.space_pool.specs.Pool.{PoolView, fresh_pool, IsClaimOn, AreClaimsOn, KeepsOthers, more_reserved, fewer_reserved, with_free, CanGive, CanPart, Reserves, ReservesSome, Unreserves, Takes, Gives}
use Rattle.space_pool.proofs.Removing.{without-length}
use Rattle.space_pool.proofs.States.{left-length, moved-length}

-- What the claims have gained the pool lacks, and has reserved
pub record Balances (p : PoolView) (c : ClaimsView) (q : PoolView) (d : ClaimsView) : Type 0 where
  pub size : d.size ≡ c.size
  pub pool_size : q.size ≡ p.size
  pub all : length q.numbers ≡ length p.numbers
  pub numbers : length d.numbers + length q.free ≡ length c.numbers + length p.free
  pub reserved : q.reserved + c.reserved ≡ p.reserved + d.reserved

balances-at : (p : PoolView) (c : ClaimsView) (q q' : PoolView) (d d' : ClaimsView) → q ≡ q' → d ≡ d' → Balances p c q' d' → Balances p c q d
balances-at p c q q' d d' same same' b = subst (λ (x : PoolView). Balances p c x d) (sym same) (subst (λ (y : ClaimsView). Balances p c q' y) (sym same') b)

pub keeps-claim : (p : PoolView) (c : ClaimsView) (q : PoolView) (d : ClaimsView) → Balances p c q d → IsClaimOn p c → IsClaimOn q d
keeps-claim p c q d b h = record {
  size = b.size ∙ h.size ∙ sym b.pool_size;
  numbers = omega (arith, b.numbers, b.all, h.numbers);
  reserved = omega (arith, b.reserved, h.reserved);
}

pub keeps-others : (p : PoolView) (c : ClaimsView) (q : PoolView) (d : ClaimsView) → Balances p c q d → KeepsOthers p c q d
keeps-others p c q d b other h = record {
  size = b.size ∙ h.size ∙ sym b.pool_size;
  other_size = h.other_size ∙ sym b.pool_size;
  numbers = omega (arith, b.numbers, b.all, h.numbers);
  reserved = omega (arith, b.reserved, h.reserved);
}

nothing : (p : PoolView) (c : ClaimsView) → Balances p c p c
nothing p c = record { size = refl; pool_size = refl; all = refl; numbers = refl; reserved = refl }

more : (p : PoolView) (c : ClaimsView) (n : ℕ) → Balances p c (more_reserved p n) (with_more c n)
more p c n = record { size = refl; pool_size = refl; all = refl; numbers = refl; reserved = omega arith }

pub reserve-balances : (n : ℕ) (p : PoolView) (c : ClaimsView) (answer : Result (Unit {0}) NoSpace) (q : PoolView) (d : ClaimsView) → Reserves n p c answer q d → Balances p c q d
reserve-balances n p c (Ok x) q d r = balances-at p c q (more_reserved p n) d (with_more c n) r.ok.0 r.ok.1 (more p c n)
reserve-balances n p c (Err x) q d r = balances-at p c q p d c r.err.0 r.err.1 (nothing p c)

pub reserve_some-balances : (n : ℕ) (p : PoolView) (c : ClaimsView) (answer : Result ℕ NoSpace) (q : PoolView) (d : ClaimsView) → ReservesSome n p c answer q d → Balances p c q d
reserve_some-balances n p c (Ok m) q d r = balances-at p c q (more_reserved p m) d (with_more c m) r.ok.0 r.ok.1 (more p c m)
reserve_some-balances n p c (Err x) q d r = balances-at p c q p d c r.err.0 r.err.1 (nothing p c)

pub unreserve-balances : (n : ℕ) (p : PoolView) (c : ClaimsView) (q : PoolView) (d : ClaimsView) → IsClaimOn p c → n ≤ c.reserved → Unreserves n p c q d → Balances p c q d
unreserve-balances n p c q d claim few u =
    let has = claim.reserved in
    balances-at p c q (fewer_reserved p n) d (with_fewer c n) u.pool u.claims (record { size = refl; pool_size = refl; all = refl; numbers = refl; reserved = omega arith })

pub take-balances : (n : ℕ) (p : PoolView) (c : ClaimsView) (before : List DeviceBlock) (q : PoolView) (d : ClaimsView) (after : List DeviceBlock) → IsClaimOn p c → n ≤ c.reserved → Takes n p c before q d after → Balances p c q d
take-balances n p c before q d after claim few t =
    let has = claim.reserved in
    let taken : List DeviceBlock = t.lowest.taken in
    let count : length taken ≡ n = t.lowest.count in
    let l : length p.free ≡ n + length q.free = left-length t.lowest in
    let both : length (c.numbers ++ numbers_of taken) ≡ length c.numbers + length (numbers_of taken) = length-append c.numbers (numbers_of taken) in
    let m : length (numbers_of taken) ≡ length taken = length-map taken (λ (s : DeviceBlock). s.number) in
    balances-at p c q (with_free (fewer_reserved p n) q.free) d (with_taken c taken) t.pool t.claims
    (record { size = refl; pool_size = refl; all = refl; numbers = omega arith; reserved = omega arith })

pub give-balances : (given : List DeviceBlock) (p : PoolView) (c : ClaimsView) (q : PoolView) (d : ClaimsView) → CanGive given c → Gives given p c q d → Balances p c q d
give-balances given p c q d can g =
    let l : length q.free ≡ length p.free + length given = moved-length p.free given q.free g.moved in
    let kept : length (without (numbers_of given) c.numbers) + length (numbers_of given) ≡ length c.numbers = without-length (numbers_of given) c.numbers can.among in
    let m : length (numbers_of given) ≡ length given = length-map given (λ (s : DeviceBlock). s.number) in
    balances-at p c q (with_free p q.free) d (with_given c given) g.pool g.claims
    (record { size = refl; pool_size = refl; all = refl; numbers = omega arith; reserved = refl })

pub given-is : (c d : ClaimsView) (xs ys : List DeviceBlock) → xs ≡ ys → d ≡ with_given c xs → d ≡ with_given c ys
given-is c d xs ys same is = is ∙ ap (with_given c) same

-- what was claimed alone is claimed side by side once it is cut in two
pub parts-stand : (p : PoolView) (c left right : ClaimsView) (held : List DeviceBlock) (cap : ℕ) → CanPart held cap c → left ≡ with_part_gone c held cap → right ≡ claims_with held cap c.size → IsClaimOn p c → AreClaimsOn p left right
parts-stand p c left right held cap can left-is right-is claim =
    let gone : length (without (numbers_of held) c.numbers) + length (numbers_of held) ≡ length c.numbers = without-length (numbers_of held) c.numbers can.among in
    let has = claim.numbers in
    let some = claim.reserved in
    let parts : AreClaimsOn p (with_part_gone c held cap) (claims_with held cap c.size) = record { size = claim.size; other_size = claim.size; numbers = omega arith; reserved = omega arith } in
    subst (λ (x : ClaimsView). AreClaimsOn p x right) (sym left-is) (subst (λ (y : ClaimsView). AreClaimsOn p (with_part_gone c held cap) y) (sym right-is) parts)

-- and the other way round
pub joined-stands : (p : PoolView) (c d both : ClaimsView) → both ≡ joined_claims c d → AreClaimsOn p c d → IsClaimOn p both
joined-stands p c d both is h =
    let l : length (c.numbers ++ d.numbers) ≡ length c.numbers + length d.numbers = length-append c.numbers d.numbers in
    let has = h.numbers in
    let joined : IsClaimOn p (joined_claims c d) = record { size = h.size; numbers = omega arith; reserved = h.reserved } in
    subst (IsClaimOn p) (sym is) joined

-- the held sectors of a new pool
pub starts-claimed : (p : PoolView) (c : ClaimsView) (held free : List DeviceBlock) (cap size : ℕ) → SameSectors free p.free → p ≡ fresh_pool p.free (numbers_of held ++ numbers_of free) cap size → c ≡ claims_with held cap size → IsClaimOn p c
starts-claimed p c held free cap size same p-is c-is =
    let w : total (λ _. 1) p.free ≡ total (λ _. 1) free = same (λ _. 1) in
    let n : length (numbers_of held ++ numbers_of free) ≡ length (numbers_of held) + length (numbers_of free) = length-append (numbers_of held) (numbers_of free) in
    let f : length (numbers_of free) ≡ length free = length-map free (λ (s : DeviceBlock). s.number) in
    let has : length c.numbers ≡ length (numbers_of held) = ap (λ (d : ClaimsView). length d.numbers) c-is in
    let all : length p.numbers ≡ length (numbers_of held ++ numbers_of free) = ap (λ (q : PoolView). length q.numbers) p-is in
    let none : c.reserved ≡ 0 = ap (λ (d : ClaimsView). d.reserved) c-is in
    record {
      size = ap (λ (d : ClaimsView). d.size) c-is ∙ sym (ap (λ (q : PoolView). q.size) p-is);
      numbers = omega (arith, w, n, f, has, all, total-count p.free, total-count free);
      reserved = omega (arith, none);
    }
