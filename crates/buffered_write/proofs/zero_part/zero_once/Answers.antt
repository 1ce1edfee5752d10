use Rattle.buffered_write.proofs.UnderLemmas.{given-here, under-block}
use Rattle.buffered_write.proofs.ZeroPartLemmas.{once-goes-at, zeroed-once, zeros-ready}
use Rattle.buffered_write.proofs.zero_part.zero_once.Goals as goal

pub store_zeros-requires-clause-block : goal.store_zeros-requires-clause-block
store_zeros-requires-clause-block g c = under-block c.args.mount.now c.args.file c.args.seen c.args.from c.args.to c.args.pass.now c.requires.under

pub store_zeros-requires-clause-ready : goal.store_zeros-requires-clause-ready
store_zeros-requires-clause-ready g c = λ cell seat stand. (
  zeros-ready c.args.mount.now c.args.file c.args.seen c.args.from c.args.to c.args.pass.now c.is_laid_out.ensures c.requires.mode c.requires.under c.requires.folio cell stand.cell_is,
  given-here c.args.mount.now c.args.file c.args.seen c.args.from c.args.to c.args.pass.now c.requires.under seat stand.seat_is,
)

pub returns-clause-came : goal.returns-clause-came
returns-clause-came g c =
    zeroed-once c.args.mount.now c.args.file c.args.by c.args.seen c.args.from c.args.to c.args.pass.now c.store_zeros.new.pass c.is_laid_out.ensures c.requires.under c.store_zeros.ensures.of c.store_zeros.ensures.tickets c.requires.mode c.store_zeros.result c.store_zeros.ensures.turned

pub returns-clause-goes : goal.returns-clause-goes
returns-clause-goes g c = once-goes-at c.args.mount.now c.args.file c.args.by c.args.from c.args.to c.args.pass.now c.store_zeros.new.pass c.store_zeros.result c.requires.goes (returns-clause-came g c)
