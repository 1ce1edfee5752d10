-- What the moves of free sectors say of a pool.
use Rattle.std.proofs.Common.{◌≡◌, ℕ, ◌+◌, ◌-◌, List, ◌++◌, length, take, drop, length-append, refl, ap, ◌∙◌, arith}
use Rattle.std.proofs.Math.Seq.{drop-append_seam}
use Rattle.std.proofs.lemmas.List.{take_all}
use Rattle.iob_base.specs.DeviceBlock.{DeviceBlock}
use Rattle.turn_cell.specs.Stakes.{total}
use Rattle.turn_cell.proofs.Sums.{total-count}
use Rattle.space_pool.specs.Sectors.{TakesLowest, MovesInto}
use Rattle.space_pool.specs.Claims.{ClaimsView, with_taken}
use Rattle.space_pool.specs.Pool.{pool_view, misfit, Takes}
use Rattle.space_pool.proofs.Sizes.{all-fit}

module _ {n : ℕ} {free before left after : List DeviceBlock} (t : TakesLowest n free before left after) where
  -- so many fewer are free
  pub left-length : length free ≡ n + length left
  left-length =
      let m : total (λ _. 1) free ≡ total (λ _. 1) t.taken + total (λ _. 1) left = t.moved (λ _. 1) in
      omega (arith, m, t.count, total-count free, total-count t.taken, total-count left)

  left-fits : (size : ℕ) → total (misfit size) free ≡ 0 → total (misfit size) t.taken ≡ 0
  left-fits size none = omega (arith, t.moved (misfit size), none)

  pub left-sized : (size : ℕ) → total (misfit size) free ≡ 0 → total (misfit size) left ≡ 0
  left-sized size none = omega (arith, t.moved (misfit size), none)

  -- what stands behind the old end is what was taken
  pub taken-is : (from : ℕ) (all : List DeviceBlock) → from ≡ length before → all ≡ after → take (length all - from) (drop from all) ≡ t.taken
  taken-is from all from-is all-is =
      let e : all ≡ before ++ t.taken = all-is ∙ t.appended in
      let d : drop from all ≡ t.taken = ap (λ k. drop k all) from-is ∙ ap (drop (length before)) e ∙ drop-append_seam before t.taken in
      let l : length all ≡ length before + length t.taken = ap length e ∙ length-append before t.taken in
      ap (take (length all - from)) d ∙ take_all (length all - from) t.taken (omega arith)

  pub takes-state : (reserved : ℕ) (whole c d : ClaimsView) (from : ℕ) (all : List DeviceBlock) → total (misfit whole.size) free ≡ 0 → from ≡ length before → all ≡ after
      → d ≡ with_taken c (take (length all - from) (drop from all)) → Takes n (pool_view free reserved whole) c before (pool_view left (reserved - n) whole) d after
  takes-state reserved whole c d from all none from-is all-is is = record {
    lowest = t;
    sized = all-fit whole.size t.taken (left-fits whole.size none);
    pool = refl;
    claims = is ∙ ap (with_taken c) (taken-is from all from-is all-is);
  }

-- so many more are free
pub moved-length : (xs ys zs : List DeviceBlock) → MovesInto xs ys zs → length zs ≡ length xs + length ys
moved-length xs ys zs m =
    let w : total (λ _. 1) zs ≡ total (λ _. 1) xs + total (λ _. 1) ys = m (λ _. 1) in
    omega (arith, w, total-count xs, total-count ys, total-count zs)
