use Rattle.std.proofs.Common.{ℕ, eqb, sym, ap, ◌∙◌}
use Rattle.std.proofs.lemmas.Nat.Bits.{shr_and_one}
use Rattle.folio_bits.proofs.Runs.{has-set_of}
use Rattle.folio_bits.proofs.mask.contains.Goals as goal

pub returns : goal.returns
returns c = ap (λ (k : ℕ). eqb k 1) (shr_and_one c.args.mask c.args.block) ∙ sym (has-set_of c.args.blocks c.args.mask c.args.block c.requires.inside)
