-- What is left of a pool once all its seats are one.
use Rattle.std.proofs.Common.{◌≡◌, ℕ, zero, suc, ◌+◌, ◌≤◌, List, [], ◌∷◌, ◌++◌, drop, length, map, refl, sym, ◌∙◌, ap, arith}
use Rattle.std.proofs.lemmas.List.{map-append}
use Rattle.iob_base.specs.DeviceBlock.{DeviceBlock}
use Rattle.turn_cell.specs.Stakes.{total}
use Rattle.turn_cell.proofs.Sums.{total-append}
use Rattle.space_pool.specs.Pool.{PoolView}
use Rattle.mount_parts.specs.PoolEnds.{EndsPool}

-- nothing is left of a list once all was taken from its front
pub drop-all : {A : Type 0} (xs : List A) (n : ℕ) → length xs ≤ n → drop n xs ≡ []
drop-all [] zero below = refl
drop-all [] (suc n) below = refl
drop-all (x ∷ xs) zero below = absurd (omega arith)
drop-all (x ∷ xs) (suc n) below = drop-all xs n (omega arith)

-- a list whose last item is taken weighs what that item and the others weigh
pub last-weighs : {A B : Type 0} (f : B → ℕ) (g : A → B) (all rest : List A) (last : A) → all ≡ rest ++ last ∷ [] → total f (map g all) ≡ f (g last) + total f (map g rest)
last-weighs f g all rest last is =
    let e : total f (map g all) ≡ total f (map g rest) + total f (g last ∷ []) = ap (λ l. total f (map g l)) is ∙ ap (total f) (map-append g rest (last ∷ [])) ∙ total-append f (map g rest) (map g (last ∷ [])) in
    omega arith

-- what is left of a pool is told by claims that weigh the same
pub ends-alike : (opening : PoolView) (claims others : (ℕ → ℕ) → ℕ) (sectors : List DeviceBlock) → ((f : ℕ → ℕ) → claims f ≡ others f) → EndsPool opening claims sectors → EndsPool opening others sectors
ends-alike opening claims others sectors same ends = record {
  free = ends.free;
  in_order = ends.in_order;
  sized = ends.sized;
  numbers = λ f. ap (λ n. total (λ s. f s.number) sectors + n) (sym (same f)) ∙ ends.numbers f;
  distinct = ends.distinct;
}
