use Rattle.call_parts.specs.Fills.{fills}
use Rattle.buffered_write.proofs.ColdLemmas.{warmed}
use Rattle.buffered_write.proofs.UnderLemmas.{goes-at}
use Rattle.buffered_write.proofs.store_part.warm.Goals as goal

pub returns-clause-warmed : goal.returns-clause-warmed
returns-clause-warmed g c = warmed c.args.mount.now c.args.file c.requires.cached c.args.block _ _ c.args.pass.now c.fill_cold-fill.new.pass c.fill_cold-fill.result c.bios_of.result c.after_fill.result c.bios_of.ensures c.after_fill.ensures c.fill_cold-fill.ensures.filled

pub returns-clause-goes : goal.returns-clause-goes
returns-clause-goes g c =
    let filled = c.fill_cold-fill.ensures.filled in
    goes-at c.args.mount.now c.args.file c.args.by fills _ _ c.args.pass.now c.fill_cold-fill.new.pass filled.acts filled.steps c.requires.goes
