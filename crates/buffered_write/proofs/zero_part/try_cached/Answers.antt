use Rattle.std.proofs.Common.{subst}
use Rattle.buffered_write.specs.Zeroes.{RefusedZeros}
use Rattle.buffered_write.proofs.UnderLemmas.{under-some}
use Rattle.buffered_write.proofs.ZeroPartLemmas.{refused-zeroes, wanting-zeroes, warm-zeroes}
use Rattle.buffered_write.proofs.zero_part.try_cached.Goals as goal

pub warm-requires-clause-block : goal.warm-requires-clause-block
warm-requires-clause-block g c = (c.in-Err-Cold.ensures.came.block c.in-Err-Cold.block c.in-Err-Cold.field-0-is).exists

pub returns-in-Ok-clause-tried : goal.returns-in-Ok-clause-tried
returns-in-Ok-clause-tried g c = c.in-Ok.ensures.came _

pub returns-in-Err-Cold-clause-tried : goal.returns-in-Err-Cold-clause-tried
returns-in-Err-Cold-clause-tried g c =
    let some = under-some c.args.mount.now c.args.file c.args.seen c.args.from c.args.to c.args.pass.now c.requires.under in
    warm-zeroes c.args.mount.now c.args.file c.args.by c.requires.mode c.args.from c.args.to c.in-Err-Cold.block _ _ c.args.pass.now c.zero_once.new.pass c.warm.new.pass c.warm.result.1 c.warm.result.0 some
    (subst (RefusedZeros c.args.mount.now c.args.file c.args.by c.args.from c.args.to c.args.pass.now c.zero_once.new.pass) c.in-Err-Cold.field-0-is c.in-Err-Cold.ensures.came) c.warm.ensures.warmed

pub returns-in-Err-Away-clause-tried : goal.returns-in-Err-Away-clause-tried
returns-in-Err-Away-clause-tried g c =
    let some = under-some c.args.mount.now c.args.file c.args.seen c.args.from c.args.to c.args.pass.now c.requires.under in
    refused-zeroes c.args.mount.now c.args.file c.args.by c.args.from c.args.to c.args.pass.now c.zero_once.new.pass c.in-Err-Away.field-0 _ some c.in-Err-Away.ensures.came

pub returns-in-Err-Stale-clause-tried : goal.returns-in-Err-Stale-clause-tried
returns-in-Err-Stale-clause-tried g c =
    let some = under-some c.args.mount.now c.args.file c.args.seen c.args.from c.args.to c.args.pass.now c.requires.under in
    refused-zeroes c.args.mount.now c.args.file c.args.by c.args.from c.args.to c.args.pass.now c.zero_once.new.pass c.in-Err-Stale.field-0 _ some c.in-Err-Stale.ensures.came

pub returns-in-Err-clause-tried : goal.returns-in-Err-clause-tried
returns-in-Err-clause-tried g c =
    let some = under-some c.args.mount.now c.args.file c.args.seen c.args.from c.args.to c.args.pass.now c.requires.under in
    wanting-zeroes c.args.mount.now c.args.file c.args.by c.args.from c.args.to c.args.pass.now c.zero_once.new.pass c.in-Err.field-0 _ some c.in-Err.ensures.came
