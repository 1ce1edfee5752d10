-- What a pool hands back at its end.
use Rattle.std.proofs.Common.{◌≡◌, ℕ, ◌+◌, List, [], Some, ap, subst, arith}
use Rattle.std.specs.Prelude.{All, length}
use Rattle.iob_base.specs.DeviceBlock.{DeviceBlock}
use Rattle.turn_cell.specs.Stakes.{total}
use Rattle.turn_cell.specs.Views.{SeatView, Closed}
use Rattle.turn_cell.proofs.Sums.{total-alone}
use Rattle.space_pool.specs.declared.claims.PoolClaims.{PoolClaims}
use Rattle.space_pool.specs.declared.entry.PoolEntry.{PoolEntry}
use Rattle.space_pool.specs.Sectors.{TakesLowest}
use Rattle.space_pool.specs.Pool.{PoolView, HasSize, misfit}
use Rattle.space_pool.specs.Truth.{PoolTruth, claimed, number_weight, HistoryTellsTheFree}
use Rattle.space_pool.specs.Turns.{ClosesPool}
use Rattle.space_pool.proofs.Sizes.{all-fit}

module _ {n : ℕ} {free sectors : List DeviceBlock} (t : TakesLowest n free [] [] sectors) where
  -- taken out in order, all free sectors are the free sectors
  all-weigh : (f : DeviceBlock → ℕ) → total f sectors ≡ total f free
  all-weigh f =
      let is : total f sectors ≡ total f t.taken = ap (total f) t.appended in
      let moved : total f free ≡ total f t.taken + 0 = t.moved f in omega arith

  pub all-sized : (size : ℕ) → total (misfit size) free ≡ 0 → All (HasSize size) sectors
  all-sized size none = all-fit size sectors (let same = all-weigh (misfit size) in omega arith)

pub closes : (opening value : PoolView) (seat : SeatView PoolEntry) (claims : PoolClaims) (sectors : List DeviceBlock) → Closed PoolTruth opening value seat claims
    → TakesLowest (length value.free) value.free [] [] sectors → All (HasSize value.size) sectors → ClosesPool opening seat claims sectors
closes opening value seat claims sectors closed all sized =
    let truth = closed.stands.holds in
    let size : value.size ≡ opening.size = ap (λ (p : PoolView). p.size) truth.same in
    record {
      value = value;
      closed = closed;
      all = all;
      sized = subst (λ (k : ℕ). All (HasSize k) sectors) size sized;
      numbers = λ f.
          let weighs : total (λ s. f s.number) value.free + total (claimed (number_weight f)) closed.stakes ≡ total f opening.numbers = truth.numbers.weighs f in
          let alone : total (claimed (number_weight f)) closed.stakes ≡ total f claims.facts.numbers =
          total-alone (claimed (number_weight f)) closed.stakes closed.number (Some claims, seat.made) closed.stands.here (λ j s apart at. ap (claimed (number_weight f)) (closed.alone j s apart at)) in
          let same : total (λ s. f s.number) sectors ≡ total (λ s. f s.number) value.free = all-weigh all (λ s. f s.number) in
          omega arith;
      distinct = truth.numbers.distinct;
      stock = λ f. let left = truth.stock f in let same = all-weigh all f in omega arith;
    }

pub history_tells_the_free : HistoryTellsTheFree
history_tells_the_free opening now later history stakes others t u f = let a = t.stock f in let b = u.stock f in omega arith
