use Rattle.std.proofs.Common.{◌≡◌, ℕ, true, sym, subst, bit_or}
use Rattle.folio_bits.specs.BlockSets.{set_of, with_run}
use Rattle.folio_bits.proofs.Words.{set_of-or}
use Rattle.folio_bits.proofs.mask.with.Goals as goal

pub returns : goal.returns
returns c = λ blocks fits few.
    subst (λ (m : ℕ). set_of blocks (bit_or c.args.mask m) ≡ with_run (set_of blocks c.args.mask) c.args.from c.args.n true) (sym c.run_mask.ensures) (set_of-or blocks c.args.mask c.args.from c.args.n fits)
