use Rattle.std.proofs.Common.{arith}
use Rattle.worked_mounts.proofs.Going.{alone-goes, goes-turn, share-goes}
use Rattle.worked_mounts.proofs.Mapped.{mapping-turn}
use Rattle.worked_mounts.proofs.Storing.{buffer-next, store-block, store-ready}
use Rattle.worked_mounts.proofs.mount_stores.store_turn.Goals as goal

pub store-requires-clause-block : goal.store-requires-clause-block
store-requires-clause-block g c =
    let e = c.expect_covered.ensures in
    store-block c.args.mount.now c.args.file c.requires.cached c.args.pass.now c.args.seen c.args.from c.args.to c.args.iov.now c.is_laid_out.ensures c.requires.alone c.requires.seen c.expect_folio.ensures.some c.expect_folio.ensures.folio e.low e.high

pub store-requires-clause-ready : goal.store-requires-clause-ready
store-requires-clause-ready g c =
    let e = c.expect_covered.ensures in
    store-ready c.args.mount.now c.args.file c.requires.cached c.args.pass.now c.args.seen c.args.from c.args.to c.args.iov.now c.is_laid_out.ensures c.requires.alone c.requires.seen c.expect_folio.ensures.some c.expect_folio.ensures.folio e.low e.high e.space
    (buffer-next c.args.iov.now c.args.from c.args.to c.requires.buffer c.requires.start c.count.ensures.valid c.expect_folio.ensures.some c.expect_folio.ensures.folio)

pub returns-clause-alone : goal.returns-clause-alone
returns-clause-alone g c = alone-goes c.args.mount.now c.args.pass.now c.store.new.pass c.requires.alone c.store.ensures.of (goes-turn c.store.ensures.turned)

pub returns-clause-share : goal.returns-clause-share
returns-clause-share g c = share-goes c.args.pass.now c.store.new.pass (goes-turn c.store.ensures.turned)

pub returns-clause-mapping : goal.returns-clause-mapping
returns-clause-mapping g c = mapping-turn c.store.ensures.of c.store.ensures.turned
