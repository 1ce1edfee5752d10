use Rattle.buffered_write.proofs.LaidLemmas.{free-after, held-after}
use Rattle.buffered_write.proofs.PwriteLemmas.{goes-taken, locked-so}
use Rattle.buffered_write.proofs.writing.write_locked.Goals as goal

pub write_any-came-requires-clause-goes : goal.write_any-came-requires-clause-goes
write_any-came-requires-clause-goes g c = goes-taken c.args.mount.now c.args.file c.args.by c.args.pass.now c.exclusive-hold.new.pass c.exclusive-hold.result c.exclusive-hold.ensures.won c.exclusive-hold.ensures.of c.requires.goes

pub leave_exclusive-requires-clause-of : goal.leave_exclusive-requires-clause-of
leave_exclusive-requires-clause-of g c = c.write_any-came.ensures.written.of

pub leave_exclusive-requires-clause-hold : goal.leave_exclusive-requires-clause-hold
leave_exclusive-requires-clause-hold g c =
    let w = c.write_any-came.ensures.written in
    held-after c.exclusive-hold.new.pass c.write_any-came.new.pass w.acts c.exclusive-hold.result w.did.acted w.also.0 c.exclusive-hold.ensures.hold

pub returns-clause-free : goal.returns-clause-free
returns-clause-free g c =
    let w = c.write_any-came.ensures.written in
    free-after c.args.file c.write_any-came.new.pass c.leave_exclusive.new.pass c.exclusive-hold.result c.args.mount.now c.exclusive-hold.ensures.won.file_is
    (held-after c.exclusive-hold.new.pass c.write_any-came.new.pass w.acts c.exclusive-hold.result w.did.acted w.also.0 c.exclusive-hold.ensures.hold) c.leave_exclusive.ensures.left

pub returns-clause-written : goal.returns-clause-written
returns-clause-written g c =
    locked-so c.args.mount.now c.args.file c.args.by c.args.from c.args.to _ _ c.args.iov.now c.write_any-came.new.iov c.write_any-came.result c.args.pass.now c.exclusive-hold.new.pass c.write_any-came.new.pass c.leave_exclusive.new.pass c.exclusive-hold.result
    c.exclusive-hold.ensures.won c.exclusive-hold.ensures.tickets c.exclusive-hold.ensures.hold c.write_any-came.ensures.written c.leave_exclusive.ensures.left c.leave_exclusive.ensures.of c.leave_exclusive.ensures.tickets
