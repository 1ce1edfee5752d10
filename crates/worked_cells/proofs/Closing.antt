-- What a closed pool hands back where its last seat claims nothing.
use Rattle.std.proofs.Common.{◌≡◌, ℕ, ◌+◌, ◌==◌, cond, List, [], Some, ap, arith}
use Rattle.iob_base.specs.DeviceBlock.{DeviceBlock}
use Rattle.turn_cell.specs.Stakes.{total}
use Rattle.turn_cell.specs.Views.{SeatView}
use Rattle.turn_cell.proofs.Sums.{total-alone, total-map}
use Rattle.space_pool.specs.declared.claims.PoolClaims.{PoolClaims}
use Rattle.space_pool.specs.declared.entry.PoolEntry.{PoolEntry}
use Rattle.space_pool.specs.Claims.{numbers_of, times}
use Rattle.space_pool.specs.Pool.{PoolView}
use Rattle.space_pool.specs.Truth.{claimed, number_weight}
use Rattle.space_pool.specs.Turns.{ClosesPool}

pub all-back : (opening : PoolView) (seat : SeatView PoolEntry) (claims : PoolClaims) (sectors : List DeviceBlock) → ClosesPool opening seat claims sectors → claims.facts.numbers ≡ [] → (x : ℕ) → times x (numbers_of sectors) ≡ times x opening.numbers
all-back opening seat claims sectors closes none x =
    let f : ℕ → ℕ = λ y. cond (y == x) 1 0 in
    let w : DeviceBlock → ℕ = λ s. f s.number in
    let closed = closes.closed in
    let moved : total w closes.value.free ≡ total w closes.all.taken + 0 = closes.all.moved w in
    let is : total w sectors ≡ total w closes.all.taken = ap (total w) closes.all.appended in
    let named : times x (numbers_of sectors) ≡ total w sectors = total-map f (λ (s : DeviceBlock). s.number) sectors in
    let weighs : total w closes.value.free + total (claimed (number_weight f)) closed.stakes ≡ times x opening.numbers = closed.stands.holds.numbers.weighs f in
    let alone : total (claimed (number_weight f)) closed.stakes ≡ total f claims.facts.numbers =
    total-alone (claimed (number_weight f)) closed.stakes closed.number (Some claims, seat.made) closed.stands.here (λ j s apart at. ap (claimed (number_weight f)) (closed.alone j s apart at)) in
    let nothing : total f claims.facts.numbers ≡ 0 = ap (total f) none in
    omega arith
