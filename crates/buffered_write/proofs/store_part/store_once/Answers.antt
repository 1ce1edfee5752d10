use Rattle.buffered_write.proofs.StoredLemmas.{lay-some, once-goes, store-ready, stored-once}
use Rattle.buffered_write.proofs.UnderLemmas.{given-here, under-block, under-of}
use Rattle.mini_fs.specs.PassView.{claims_of}
use Rattle.buffered_write.proofs.store_part.store_once.Goals as goal

pub store-requires-clause-block : goal.store-requires-clause-block
store-requires-clause-block g c = under-block c.args.mount.now c.args.file c.args.seen c.args.from c.args.to c.args.pass.now (under-of c.args.mount.now c.args.file c.args.seen c.args.from c.args.to c.args.pass.now c.requires.can)

pub store-requires-clause-ready : goal.store-requires-clause-ready
store-requires-clause-ready g c = λ cell seat stand. (
  store-ready c.args.mount.now c.args.file c.args.seen c.args.from c.args.to c.args.pass.now c.args.iov.now c.is_laid_out.ensures c.requires.goes.cached c.requires.can c.requires.folio c.requires.room cell stand.cell_is,
  given-here c.args.mount.now c.args.file c.args.seen c.args.from c.args.to c.args.pass.now (under-of c.args.mount.now c.args.file c.args.seen c.args.from c.args.to c.args.pass.now c.requires.can) seat stand.seat_is,
)

pub returns-clause-came : goal.returns-clause-came
returns-clause-came g c =
    stored-once c.args.mount.now c.args.file c.args.by c.args.seen c.args.from c.args.to c.args.pass.now c.store.new.pass c.args.iov.now c.store.new.iov (claims_of c.args.pass.now) c.is_laid_out.ensures
    (lay-some c.args.mount.now c.args.file c.args.seen c.args.from c.args.to c.args.pass.now c.requires.can) c.requires.can c.requires.room c.store.ensures.of c.store.ensures.tickets c.store.result c.store.ensures.turned

pub returns-clause-goes : goal.returns-clause-goes
returns-clause-goes g c = once-goes c.args.mount.now c.args.file c.args.by c.args.from c.args.to c.args.pass.now c.store.new.pass c.args.iov.now c.store.new.iov c.store.result c.requires.goes (returns-clause-came g c)
