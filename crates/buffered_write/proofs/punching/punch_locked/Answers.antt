use Rattle.buffered_write.proofs.PunchLemmas.{locked-punched, still-held}
use Rattle.buffered_write.proofs.LaidLemmas.{free-after}
use Rattle.buffered_write.proofs.punching.punch_locked.Goals as goal

pub leave_exclusive-requires-clause-hold : goal.leave_exclusive-requires-clause-hold
leave_exclusive-requires-clause-hold g c =
    still-held c.args.mount.now c.args.file c.args.by c.args.from c.args.to _ _ c.args.pass.now c.exclusive-hold.new.pass c.clear_range-came.new.pass c.clear_range-came.new.pass c.exclusive-hold.result c.clear_range-came.result c.clear_range-came.ensures.cleared c.exclusive-hold.ensures.hold

pub returns-clause-free : goal.returns-clause-free
returns-clause-free g c =
    free-after c.args.file c.clear_range-came.new.pass c.leave_exclusive.new.pass c.exclusive-hold.result c.args.mount.now c.exclusive-hold.ensures.won.file_is (still-held c.args.mount.now c.args.file c.args.by c.args.from c.args.to _ _ c.args.pass.now c.exclusive-hold.new.pass c.clear_range-came.new.pass c.clear_range-came.new.pass c.exclusive-hold.result c.clear_range-came.result c.clear_range-came.ensures.cleared c.exclusive-hold.ensures.hold) c.leave_exclusive.ensures.left

pub returns-clause-punched : goal.returns-clause-punched
returns-clause-punched g c =
    locked-punched c.args.mount.now c.args.file c.args.by c.args.from c.args.to _ _ c.args.pass.now c.exclusive-hold.new.pass c.clear_range-came.new.pass c.leave_exclusive.new.pass c.exclusive-hold.result c.clear_range-came.result c.clear_range-came.ensures.cleared c.exclusive-hold.ensures.hold
    c.exclusive-hold.ensures.won c.exclusive-hold.ensures.tickets c.leave_exclusive.ensures.left c.leave_exclusive.ensures.of c.leave_exclusive.ensures.tickets
