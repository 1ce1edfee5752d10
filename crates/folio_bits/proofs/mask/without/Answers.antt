use Rattle.std.proofs.Common.{◌≡◌, ℕ, ◌-◌, false, sym, subst, bit_and}
use Rattle.folio_bits.specs.BlockSets.{set_of, with_run}
use Rattle.folio_bits.proofs.Words.{set_of-and_not}
use Rattle.folio_bits.proofs.mask.without.Goals as goal

pub returns : goal.returns
returns c = λ blocks fits few.
    subst (λ (m : ℕ). set_of blocks (bit_and c.args.mask (4294967295 - m)) ≡ with_run (set_of blocks c.args.mask) c.args.from c.args.n false) (sym c.run_mask.ensures) (set_of-and_not blocks c.args.mask c.args.from c.args.n fits few)
