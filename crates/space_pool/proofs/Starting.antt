-- The truth of a pool before its first turn.
use Rattle.std.proofs.Common.{◌≡◌, ℕ, zero, suc, ◌≤◌, List, [], ◌∷◌, ◌++◌, length, Some, refl, sym, ap, ◌∙◌, subst, arith}
use Rattle.std.proofs.lemmas.List.{length-map}
use mathlib.Core.Option.{some, some-injective, some-ne-none}
use lib.ListN.{get_elem?}
use Rattle.iob_base.specs.DeviceBlock.{DeviceBlock}
use Rattle.turn_cell.specs.Stakes.{total}
use Rattle.turn_cell.proofs.Sums.{total-append, total-map}
use Rattle.space_pool.specs.declared.claims.PoolClaims.{PoolClaims}
use Rattle.space_pool.specs.declared.entry.PoolEntry.{PoolEntry}
use Rattle.space_pool.specs.Sectors.{SameSectors}
use Rattle.space_pool.specs.Claims.{ClaimsView, numbers_of, claims_with}
use Rattle.space_pool.specs.Pool.{PoolView, AreDistinct, fresh_pool}
use Rattle.space_pool.specs.Truth.{PoolStake, PoolTruth}
use Rattle.space_pool.proofs.Keeping.{IsFine, same-claims}

-- the one seat of a new pool
sole-seat : (opening : PoolView) (claims : PoolClaims) → IsFine opening claims → (number : ℕ) (c : PoolClaims) (made : List PoolEntry) → get_elem? {A = PoolStake} ((Some claims, []) ∷ []) number ≡ some (Some c, made) → IsFine opening c
sole-seat opening claims fine zero c made at = same-claims (IsFine opening) claims c [] made (some-injective {A = PoolStake} (Some claims, []) (Some c, made) at) fine
sole-seat opening claims fine (suc number) c made at = absurd (some-ne-none {A = PoolStake} (Some c, made) (sym at))

pub truth-starts : (free held : List DeviceBlock) (cap size : ℕ) (state : PoolView) (claims : PoolClaims) → SameSectors free state.free → state ≡ fresh_pool state.free (numbers_of held ++ numbers_of free) cap size
    → claims.facts ≡ claims_with held cap size → AreDistinct (numbers_of held ++ numbers_of free) → length held ≤ cap → PoolTruth state state [] ((Some claims, []) ∷ [])
truth-starts free held cap size state claims same state-is claims-is distinct few =
    let c : ClaimsView = claims.facts in
    let numbers : state.numbers ≡ numbers_of held ++ numbers_of free = ap (λ (p : PoolView). p.numbers) state-is in
    let mine : c.numbers ≡ numbers_of held = ap (λ (d : ClaimsView). d.numbers) claims-is in
    let none : c.reserved ≡ 0 = ap (λ (d : ClaimsView). d.reserved) claims-is in
    let caps : c.cap ≡ cap = ap (λ (d : ClaimsView). d.cap) claims-is in
    let sizes : c.size ≡ size = ap (λ (d : ClaimsView). d.size) claims-is in
    let count : length c.numbers ≡ length held = ap length mine ∙ length-map held (λ (s : DeviceBlock). s.number) in
    let empty : state.reserved ≡ 0 = ap (λ (p : PoolView). p.reserved) state-is in
    let whole : state.cap ≡ cap = ap (λ (p : PoolView). p.cap) state-is in
    record {
      numbers = record {
        distinct = subst AreDistinct (sym numbers) distinct;
        weighs = λ f.
            let a : total f state.numbers ≡ total f (numbers_of held ++ numbers_of free) = ap (total f) numbers in
            let b = total-append f (numbers_of held) (numbers_of free) in
            let d : total f (numbers_of free) ≡ total (λ s. f s.number) free = total-map f (λ (s : DeviceBlock). s.number) free in
            let e : total (λ s. f s.number) state.free ≡ total (λ s. f s.number) free = same (λ s. f s.number) in
            let g : total f c.numbers ≡ total f (numbers_of held) = ap (total f) mine in omega arith;
      };
      caps = record { adds = omega arith; within = sole-seat state claims (omega arith, sizes ∙ sym (ap (λ (p : PoolView). p.size) state-is)) };
      reserved = omega arith;
      enough = omega arith;
      told = refl;
      stock = λ f. refl;
      same = refl;
    }
