use Rattle.std.proofs.Common.{◌≡◌, ℕ, ◌/◌, ◌^◌, ◌<◌, w32, w64, arith, sym, ◌∙◌, ap, subst}
use Rattle.std.specs.Int.{trailing_zeros, trailing_ones}
use Rattle.std.proofs.lemmas.Nat.{shr_le}
use Rattle.std.proofs.lemmas.Nat.Bits.{bit_at-trailing_zeros, bit_at-trailing_ones}
use Rattle.folio_bits.specs.BlockSets.{IsLowestRun}
use Rattle.folio_bits.proofs.Words.{lowest}
use Rattle.folio_bits.proofs.mask.first_run.Goals as goal

pub returns : goal.returns
returns c =
    let rest : ℕ = c.args.rest in
    let first : ℕ = trailing_zeros w32 rest in
    let high : ℕ = rest / 2 ^ first in
    let some_one : 0 < rest = omega arith in
    let small : rest < 2 ^ 32 = omega arith in
    let less : high < 2 ^ 32 = let le = shr_le rest first in omega arith in
    let zeros = bit_at-trailing_zeros w32 rest some_one small in
    let ones = bit_at-trailing_ones w64 high (omega arith) in
    let is : c.trailing_ones-ones.result ≡ trailing_ones w64 high = c.trailing_ones-ones.ensures ∙ ap (λ (n : ℕ). trailing_ones w64 n) c.from.ensures in
    subst (λ (n : ℕ). IsLowestRun rest first n) (sym is) (lowest rest first (trailing_ones w64 high) zeros.1 zeros.2 ones.1 ones.2)
