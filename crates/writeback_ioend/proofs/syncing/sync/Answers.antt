use Rattle.std.proofs.Common.{refl}
use Rattle.range_core.proofs.StopLemmas.{never_some}
use Rattle.writeback_ioend.proofs.SyncLemmas.{stopped-leaves, stopped-syncs, whole-leaves, whole-syncs}
use Rattle.writeback_ioend.proofs.WriteOuts.{of-begun, shares-begun}
use Rattle.writeback_ioend.proofs.syncing.sync.Goals as goal

pub write_range-written-requires-clause-of : goal.write_range-written-requires-clause-of
write_range-written-requires-clause-of g c = of-begun c.args.mount.now c.args.call c.args.pass.now c.start_call.new.self c.start_call.ensures.pass c.requires.may.of

pub write_range-written-requires-clause-shares : goal.write_range-written-requires-clause-shares
write_range-written-requires-clause-shares g c = shares-begun c.args.mount.now c.args.file c.args.call c.args.pass.now c.start_call.new.self c.start_call.ensures.pass c.requires.may

pub returns-in-Some-clause-synced : goal.returns-in-Some-clause-synced
returns-in-Some-clause-synced g c = stopped-syncs c.args.mount.now c.args.file c.args.call c.blocks-blocks.result _ _ c.args.pass.now c.start_call.new.self c.write_range-written.new.pass c.write_range-written.result c.args.seen.now c.start_call.ensures.pass c.blocks-blocks.ensures c.write_range-written.ensures.written c.in-Some.fault c.in-Some.is _ refl refl

pub returns-in-Some-clause-pass : goal.returns-in-Some-clause-pass
returns-in-Some-clause-pass g c = stopped-leaves c.args.mount.now c.args.file c.args.call c.blocks-blocks.result _ _ c.args.pass.now c.start_call.new.self c.write_range-written.new.pass c.write_range-written.result c.args.seen.now c.start_call.ensures.pass c.blocks-blocks.ensures c.write_range-written.ensures.written c.in-Some.fault c.in-Some.is c.requires.may

pub returns-clause-synced : goal.returns-clause-synced
returns-clause-synced g c =
    whole-syncs c.args.mount.now c.args.file c.args.call c.blocks-blocks.result _ _ c.args.pass.now c.start_call.new.self c.write_range-written.new.pass c.write_range-written.result c.args.seen.now c.start_call.ensures.pass c.blocks-blocks.ensures c.write_range-written.ensures.written
    c.count_errors-found.new.pass c.count_errors-found.result (never_some c.write_range-written.result.fault c.in_default.not-Some) c.count_errors-found.ensures.counted
    (of-begun c.args.mount.now c.args.call c.args.pass.now c.start_call.new.self c.start_call.ensures.pass c.requires.may.of) c.tell-told.result c.tell-told.new.self _ c.tell-told.ensures.told c.tell-told.ensures.counts
    c.compared.ensures refl

pub returns-clause-pass : goal.returns-clause-pass
returns-clause-pass g c =
    whole-leaves c.args.mount.now c.args.file c.args.call c.blocks-blocks.result _ _ c.args.pass.now c.start_call.new.self c.write_range-written.new.pass c.write_range-written.result c.args.seen.now c.start_call.ensures.pass c.blocks-blocks.ensures c.write_range-written.ensures.written
    c.count_errors-found.new.pass c.count_errors-found.result (never_some c.write_range-written.result.fault c.in_default.not-Some) c.count_errors-found.ensures.counted c.requires.may
