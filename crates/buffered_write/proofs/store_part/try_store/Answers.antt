use Rattle.std.proofs.Common.{subst}
use Rattle.buffered_write.specs.Pwrites.{RefusedStore}
use Rattle.buffered_write.proofs.StoredLemmas.{lay-some, refused-writes, wanting-writes, warm-writes}
use Rattle.buffered_write.proofs.store_part.try_store.Goals as goal

pub warm-requires-clause-block : goal.warm-requires-clause-block
warm-requires-clause-block g c = (c.in-Err-Cold.ensures.came.block c.in-Err-Cold.block c.in-Err-Cold.field-0-is).exists

pub returns-in-Ok-clause-tried : goal.returns-in-Ok-clause-tried
returns-in-Ok-clause-tried g c = c.in-Ok.ensures.came _

pub returns-in-Err-Cold-clause-tried : goal.returns-in-Err-Cold-clause-tried
returns-in-Err-Cold-clause-tried g c =
    let some = lay-some c.args.mount.now c.args.file c.args.seen c.args.from c.args.to c.args.pass.now c.requires.can in
    warm-writes c.args.mount.now c.args.file c.args.by c.args.from c.args.to c.in-Err-Cold.block _ _ c.args.pass.now c.store_once.new.pass c.warm.new.pass c.args.iov.now c.store_once.new.iov c.warm.result.1 c.warm.result.0 some
    (subst (RefusedStore c.args.mount.now c.args.file c.args.by c.args.from c.args.to c.args.pass.now c.store_once.new.pass c.args.iov.now c.store_once.new.iov) c.in-Err-Cold.field-0-is c.in-Err-Cold.ensures.came) c.warm.ensures.warmed

pub returns-in-Err-Away-clause-tried : goal.returns-in-Err-Away-clause-tried
returns-in-Err-Away-clause-tried g c =
    let some = lay-some c.args.mount.now c.args.file c.args.seen c.args.from c.args.to c.args.pass.now c.requires.can in
    refused-writes c.args.mount.now c.args.file c.args.by c.args.from c.args.to c.args.pass.now c.store_once.new.pass c.args.iov.now c.store_once.new.iov c.in-Err-Away.field-0 _ some c.in-Err-Away.ensures.came

pub returns-in-Err-Stale-clause-tried : goal.returns-in-Err-Stale-clause-tried
returns-in-Err-Stale-clause-tried g c =
    let some = lay-some c.args.mount.now c.args.file c.args.seen c.args.from c.args.to c.args.pass.now c.requires.can in
    refused-writes c.args.mount.now c.args.file c.args.by c.args.from c.args.to c.args.pass.now c.store_once.new.pass c.args.iov.now c.store_once.new.iov c.in-Err-Stale.field-0 _ some c.in-Err-Stale.ensures.came

pub returns-in-Err-clause-tried : goal.returns-in-Err-clause-tried
returns-in-Err-clause-tried g c =
    let some = lay-some c.args.mount.now c.args.file c.args.seen c.args.from c.args.to c.args.pass.now c.requires.can in
    wanting-writes c.args.mount.now c.args.file c.args.by c.args.from c.args.to c.args.pass.now c.store_once.new.pass c.args.iov.now c.store_once.new.iov c.in-Err.field-0 _ some c.in-Err.ensures.came
