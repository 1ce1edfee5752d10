use Rattle.buffered_write.proofs.UnderLemmas.{given-here, through-here, under-block}
use Rattle.buffered_write.proofs.ZeroPartLemmas.{through-goes-at, zeroed-through}
use Rattle.buffered_write.proofs.zero_part.through_once.Goals as goal

pub dax_zero-requires-clause-block : goal.dax_zero-requires-clause-block
dax_zero-requires-clause-block g c = under-block c.args.mount.now c.args.file c.args.seen c.args.from c.args.to c.args.pass.now c.requires.under

pub dax_zero-requires-clause-ready : goal.dax_zero-requires-clause-ready
dax_zero-requires-clause-ready g c = λ cell seat stand. (
  through-here c.args.mount.now c.args.file c.args.seen c.args.from c.args.to c.args.pass.now c.requires.under c.is_laid_out.ensures cell stand.cell_is c.requires.mode,
  given-here c.args.mount.now c.args.file c.args.seen c.args.from c.args.to c.args.pass.now c.requires.under seat stand.seat_is,
)

pub returns-clause-came : goal.returns-clause-came
returns-clause-came g c =
    zeroed-through c.args.mount.now c.args.file c.args.by c.args.seen c.args.from c.args.to c.args.pass.now c.dax_zero.new.pass c.is_laid_out.ensures c.requires.under c.dax_zero.ensures.of c.dax_zero.ensures.tickets c.requires.mode _ _ c.dax_zero.result c.dax_zero.ensures.turned

pub returns-clause-goes : goal.returns-clause-goes
returns-clause-goes g c = through-goes-at c.args.mount.now c.args.file c.args.by c.args.from c.args.to _ _ c.args.pass.now c.dax_zero.new.pass c.dax_zero.result c.requires.goes (returns-clause-came g c)
