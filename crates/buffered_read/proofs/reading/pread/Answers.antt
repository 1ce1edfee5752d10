use Rattle.buffered_read.proofs.PreadLemmas.{held-caller, held-shares, pread-leaves, pread-so, still-held}
use Rattle.buffered_read.proofs.reading.pread.Goals as goal

pub read_held-answer-requires-clause-caller : goal.read_held-answer-requires-clause-caller
read_held-answer-requires-clause-caller g c = held-caller c.args.mount.now c.args.file c.args.call c.args.pass.now c.start_call-by.new.self c.cached-hold.new.pass c.cached-hold.result c.requires.may c.start_call-by.ensures.pass c.cached-hold.ensures.won c.start_call-by.result c.start_call-by.ensures.tag

pub read_held-answer-requires-clause-shares : goal.read_held-answer-requires-clause-shares
read_held-answer-requires-clause-shares g c = held-shares c.args.mount.now c.args.file c.args.call c.args.pass.now c.start_call-by.new.self c.cached-hold.new.pass c.cached-hold.result c.requires.may c.start_call-by.ensures.pass c.cached-hold.ensures.won

pub leave_cached-requires-clause-hold : goal.leave_cached-requires-clause-hold
leave_cached-requires-clause-hold g c = still-held c.args.mount.now c.args.file c.args.call c.args.pass.now c.start_call-by.new.self c.cached-hold.new.pass c.cached-hold.result c.requires.may c.start_call-by.ensures.pass c.cached-hold.ensures.won c.args.off _ _ c.read_held-answer.new.pass c.args.iov.now c.read_held-answer.new.iov c.read_held-answer.result c.start_call-by.result c.start_call-by.ensures.tag c.read_held-answer.ensures.read c.cached-hold.ensures.hold

pub returns-clause-read : goal.returns-clause-read
returns-clause-read g c = pread-so c.args.mount.now c.args.file c.args.call c.args.pass.now c.start_call-by.new.self c.cached-hold.new.pass c.cached-hold.result c.requires.may c.start_call-by.ensures.pass c.cached-hold.ensures.won c.args.off _ _ c.read_held-answer.new.pass c.args.iov.now c.read_held-answer.new.iov c.read_held-answer.result c.start_call-by.result c.start_call-by.ensures.tag c.read_held-answer.ensures.read c.leave_cached.new.pass (still-held c.args.mount.now c.args.file c.args.call c.args.pass.now c.start_call-by.new.self c.cached-hold.new.pass c.cached-hold.result c.requires.may c.start_call-by.ensures.pass c.cached-hold.ensures.won c.args.off _ _ c.read_held-answer.new.pass c.args.iov.now c.read_held-answer.new.iov c.read_held-answer.result c.start_call-by.result c.start_call-by.ensures.tag c.read_held-answer.ensures.read c.cached-hold.ensures.hold) c.leave_cached.ensures.left

pub returns-clause-pass : goal.returns-clause-pass
returns-clause-pass g c =
    pread-leaves c.args.mount.now c.args.file c.args.call c.args.pass.now c.start_call-by.new.self c.cached-hold.new.pass c.cached-hold.result c.requires.may c.start_call-by.ensures.pass c.cached-hold.ensures.won c.args.off _ _ c.read_held-answer.new.pass c.args.iov.now c.read_held-answer.new.iov c.read_held-answer.result c.start_call-by.result c.start_call-by.ensures.tag c.read_held-answer.ensures.read c.leave_cached.new.pass (still-held c.args.mount.now c.args.file c.args.call c.args.pass.now c.start_call-by.new.self c.cached-hold.new.pass c.cached-hold.result c.requires.may c.start_call-by.ensures.pass c.cached-hold.ensures.won c.args.off _ _ c.read_held-answer.new.pass c.args.iov.now c.read_held-answer.new.iov c.read_held-answer.result c.start_call-by.result c.start_call-by.ensures.tag c.read_held-answer.ensures.read c.cached-hold.ensures.hold) c.leave_cached.ensures.left
    c.leave_cached.ensures.of c.cached-hold.ensures.tickets c.read_held-answer.ensures.tickets c.leave_cached.ensures.tickets
