-- All sectors have a size exactly where none misfits.
use Rattle.std.proofs.Common.{◌≡◌, ℕ, List, [], ◌∷◌, length, refl, arith}
use Rattle.std.specs.Prelude.{All}
use Rattle.std.proofs.lemmas.Bool.Decides.{nat_tests}
use Rattle.std.proofs.lemmas.List.Elements.{All-nil, All-cons, All-head, All-tail}
use Rattle.iob_base.specs.DeviceBlock.{DeviceBlock}
use Rattle.turn_cell.specs.Stakes.{total}
use Rattle.space_pool.specs.Pool.{HasSize, misfit}

pub none-misfits : (size : ℕ) (xs : List DeviceBlock) → All (HasSize size) xs → total (misfit size) xs ≡ 0
none-misfits size [] all = refl
none-misfits size (x ∷ xs) all =
    let h : length x.bytes ≡ size = All-head (HasSize size) x xs all in
    let z : misfit size x ≡ 0 = grind (arith, nat_tests) in
    omega (arith, none-misfits size xs (All-tail (HasSize size) x xs all))

pub all-fit : (size : ℕ) (xs : List DeviceBlock) → total (misfit size) xs ≡ 0 → All (HasSize size) xs
all-fit size [] none = All-nil (HasSize size)
all-fit size (x ∷ xs) none =
    let z : misfit size x ≡ 0 = omega arith in
    let h : length x.bytes ≡ size = grind (arith, nat_tests) in
    All-cons (HasSize size) x xs h (all-fit size xs (omega arith))
