use Rattle.buffered_write.proofs.AllocCalls.{hold-kept, locked-allocated, locked-tickets}
use Rattle.buffered_write.proofs.space.allocate_locked.Goals as goal

pub leave_exclusive-requires-clause-hold : goal.leave_exclusive-requires-clause-hold
leave_exclusive-requires-clause-hold g c =
    hold-kept c.args.mount.now c.args.file c.args.from c.args.to c.args.pass.now c.exclusive-hold.new.pass c.allocate_run-came.new.pass c.allocate_run-came.new.pass c.allocate_run-came.result c.exclusive-hold.result
    c.allocate_run-came.ensures.allocated c.exclusive-hold.ensures.hold

pub returns-clause-allocated : goal.returns-clause-allocated
returns-clause-allocated g c =
    locked-allocated c.args.mount.now c.args.file c.args.from c.args.to c.args.pass.now c.exclusive-hold.new.pass c.allocate_run-came.new.pass c.leave_exclusive.new.pass c.allocate_run-came.result c.exclusive-hold.result
    c.allocate_run-came.ensures.allocated c.exclusive-hold.ensures.hold c.exclusive-hold.ensures.won c.leave_exclusive.ensures.left

pub returns-clause-tickets : goal.returns-clause-tickets
returns-clause-tickets g c =
    locked-tickets c.args.mount.now c.args.file c.args.from c.args.to c.args.pass.now c.exclusive-hold.new.pass c.allocate_run-came.new.pass c.leave_exclusive.new.pass c.allocate_run-came.result c.exclusive-hold.result
    c.allocate_run-came.ensures.allocated c.exclusive-hold.ensures.tickets c.leave_exclusive.ensures.tickets
