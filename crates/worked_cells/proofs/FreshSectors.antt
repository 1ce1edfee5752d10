-- The sectors of a new device may be a pool's: they have its block size, and their numbers differ.
use Rattle.std.proofs.Common.{◌≡◌, ℕ, zero, suc, ◌+◌, ◌≤◌, ◌==◌, cond, List, [], ◌∷◌, ◌++◌, length, length-append, refl, sym, ap, ◌∙◌, arith}
use Rattle.std.specs.Prelude.{All, replicate}
use Rattle.std.proofs.lemmas.Bool.Decides.{nat_tests}
use Rattle.std.proofs.lemmas.List.Elements.{All-nil, All-push}
use Rattle.std.proofs.lemmas.List.{length-replicate}
use Rattle.iob_base.specs.DeviceBlock.{DeviceBlock, device_block, fresh_blocks}
use Rattle.turn_cell.proofs.Sums.{total-append, total-map}
use Rattle.space_pool.specs.Claims.{numbers_of, times}
use Rattle.space_pool.specs.Pool.{HasSize, AreDistinct}

pub fresh-sized : (size fill n : ℕ) → All (HasSize size) (fresh_blocks size fill n)
fresh-sized size fill zero = All-nil (HasSize size)
fresh-sized size fill (suc n) = All-push (HasSize size) (fresh_blocks size fill n) (device_block n (replicate size fill)) (fresh-sized size fill n) (length-replicate size fill)

pub fresh-length : (size fill n : ℕ) → length (fresh_blocks size fill n) ≡ n
fresh-length size fill zero = refl
fresh-length size fill (suc n) = omega (arith, fresh-length size fill n, length-append (fresh_blocks size fill n) (device_block n (replicate size fill) ∷ []))

-- how often a number stands there, with one number more
times-more : (size fill n x : ℕ) → times x (numbers_of (fresh_blocks size fill (suc n))) ≡ times x (numbers_of (fresh_blocks size fill n)) + (cond (n == x) 1 0 + 0)
times-more size fill n x =
    let w : ℕ → ℕ = λ y. cond (y == x) 1 0 in
    let last : List DeviceBlock = device_block n (replicate size fill) ∷ [] in
    total-map w (λ (s : DeviceBlock). s.number) (fresh_blocks size fill n ++ last) ∙ total-append (λ (s : DeviceBlock). w s.number) (fresh_blocks size fill n) last
    ∙ ap (λ k. k + (cond (n == x) 1 0 + 0)) (sym (total-map w (λ (s : DeviceBlock). s.number) (fresh_blocks size fill n)))

-- a number stands there once where it is below the end, and not from there on
counted : (size fill n x : ℕ) → (n ≤ x → times x (numbers_of (fresh_blocks size fill n)) ≡ 0) × (times x (numbers_of (fresh_blocks size fill n)) ≤ 1)
counted size fill zero x = ((λ below. refl), omega arith)
counted size fill (suc n) x = step n x (times x (numbers_of (fresh_blocks size fill n))) (times x (numbers_of (fresh_blocks size fill (suc n)))) (times-more size fill n x) (counted size fill n x)
  where
    step : (n x a b : ℕ) → b ≡ a + (cond (n == x) 1 0 + 0) → (n ≤ x → a ≡ 0) × (a ≤ 1) → (suc n ≤ x → b ≡ 0) × (b ≤ 1)
    step n x a b is h = grind (arith, nat_tests)

pub fresh-distinct : (size fill n : ℕ) → AreDistinct (numbers_of (fresh_blocks size fill n))
fresh-distinct size fill n x = (counted size fill n x).1
