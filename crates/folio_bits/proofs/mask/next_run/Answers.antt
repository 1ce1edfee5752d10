use Rattle.std.proofs.Common.{◌≡◌, ℕ, subst, bit_and}
use Rattle.std.specs.Option.{MatchOption}
use Rattle.folio_bits.specs.BlockSets.{IsLowestRun}
use Rattle.folio_bits.proofs.Words.{none_past, found_run}
use Rattle.folio_bits.proofs.mask.next_run.Goals as goal

pub returns-then-from-blocks : goal.returns-then-from-blocks
returns-then-from-blocks c = none_past c.args.mask c.args.blocks c.args.from c.if-from-blocks.true

pub returns : goal.returns
returns c =
    let run = subst (λ (m : ℕ). MatchOption c.first_run.result (bit_and c.args.mask m ≡ 0) (λ run. IsLowestRun (bit_and c.args.mask m) run.0 run.1)) c.run_mask.ensures c.first_run.ensures in
    found_run c.args.mask c.args.blocks c.args.from c.first_run.result run
