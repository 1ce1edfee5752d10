use Rattle.buffered_write.proofs.UnderLemmas.{taken-at}
use Rattle.buffered_write.proofs.LaidLemmas.{free-after, held-after}
use Rattle.buffered_write.proofs.TruncLemmas.{cut-locked}
use Rattle.buffered_write.proofs.truncating.cut_locked.Goals as goal

pub cut_unlocked-came-requires-clause-goes : goal.cut_unlocked-came-requires-clause-goes
cut_unlocked-came-requires-clause-goes g c = taken-at c.args.mount.now c.args.file c.args.by c.args.pass.now c.exclusive-hold.new.pass c.exclusive-hold.result c.exclusive-hold.ensures.won c.exclusive-hold.ensures.of c.requires.goes

pub leave_exclusive-requires-clause-of : goal.leave_exclusive-requires-clause-of
leave_exclusive-requires-clause-of g c = c.cut_unlocked-came.ensures.cleared.of

pub leave_exclusive-requires-clause-hold : goal.leave_exclusive-requires-clause-hold
leave_exclusive-requires-clause-hold g c =
    let w = c.cut_unlocked-came.ensures.cleared in
    held-after c.exclusive-hold.new.pass c.cut_unlocked-came.new.pass w.acts c.exclusive-hold.result w.did.acted w.also.0.0 c.exclusive-hold.ensures.hold

pub returns-clause-free : goal.returns-clause-free
returns-clause-free g c =
    let w = c.cut_unlocked-came.ensures.cleared in
    free-after c.args.file c.cut_unlocked-came.new.pass c.leave_exclusive.new.pass c.exclusive-hold.result c.args.mount.now c.exclusive-hold.ensures.won.file_is
    (held-after c.exclusive-hold.new.pass c.cut_unlocked-came.new.pass w.acts c.exclusive-hold.result w.did.acted w.also.0.0 c.exclusive-hold.ensures.hold) c.leave_exclusive.ensures.left

pub returns-clause-cut : goal.returns-clause-cut
returns-clause-cut g c =
    cut-locked c.args.mount.now c.args.file c.args.by c.args.size _ _ c.args.pass.now c.exclusive-hold.new.pass c.cut_unlocked-came.new.pass c.leave_exclusive.new.pass c.exclusive-hold.result c.cut_unlocked-came.result
    c.exclusive-hold.ensures.won c.exclusive-hold.ensures.tickets c.exclusive-hold.ensures.hold c.cut_unlocked-came.ensures c.leave_exclusive.ensures.left c.leave_exclusive.ensures.of c.leave_exclusive.ensures.tickets
