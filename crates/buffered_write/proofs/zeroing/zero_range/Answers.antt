use Rattle.std.proofs.Common.{refl, sym, ◌∙◌, subst, arith}
use Rattle.mini_fs.specs.Holds.{HoldsNone}
use Rattle.buffered_write.proofs.UnderLemmas.{called-at}
use Rattle.buffered_write.proofs.ZeroCallLemmas.{leaves-untouched, zeroes-empty, zeroes-far, zeroes-from, zeroes-leave}
use Rattle.buffered_write.proofs.zeroing.zero_range.Goals as goal

pub zero_locked-came-requires-clause-goes : goal.zero_locked-came-requires-clause-goes
zero_locked-came-requires-clause-goes g c = called-at c.args.mount.now c.args.file c.start_call-by.result c.args.call c.args.pass.now c.start_call-by.new.self c.requires.may c.start_call-by.ensures.pass c.start_call-by.ensures.tag

pub zero_locked-came-requires-clause-free : goal.zero_locked-came-requires-clause-free
zero_locked-came-requires-clause-free g c = subst (λ v. HoldsNone v c.args.file) (sym c.start_call-by.ensures.pass) c.requires.may.free

pub returns-then-length-eq0-clause-zeroed : goal.returns-then-length-eq0-clause-zeroed
returns-then-length-eq0-clause-zeroed g c =
    zeroes-empty c.args.mount.now c.args.file c.args.call c.args.off c.args.length _ _ c.args.pass.now c.start_call-by.new.self c.answer.result c.requires.may c.file_end-end.ensures.blocks c.file_end-end.result
    c.file_end-end.ensures.is refl c.start_call-by.ensures.pass c.answer.ensures.bios c.if-length-eq0.true c.answer.ensures.reply

pub returns-then-end-off-clause-zeroed : goal.returns-then-end-off-clause-zeroed
returns-then-end-off-clause-zeroed g c =
    zeroes-far c.args.mount.now c.args.file c.args.call c.args.off c.args.length _ _ c.args.pass.now c.start_call-by.new.self c.answer-then-end-off.result c.requires.may c.file_end-end.ensures.blocks c.file_end-end.result
    c.file_end-end.ensures.is refl c.start_call-by.ensures.pass c.answer-then-end-off.ensures.bios (λ e. omega (arith, e)) c.if-end-off.true c.answer-then-end-off.ensures.reply

pub returns-then-length-eq0-clause-pass : goal.returns-then-length-eq0-clause-pass
returns-then-length-eq0-clause-pass g c = leaves-untouched c.args.mount.now c.args.file c.args.call c.args.pass.now c.start_call-by.new.self c.requires.may c.start_call-by.ensures.pass

pub returns-then-end-off-clause-pass : goal.returns-then-end-off-clause-pass
returns-then-end-off-clause-pass g c = leaves-untouched c.args.mount.now c.args.file c.args.call c.args.pass.now c.start_call-by.new.self c.requires.may c.start_call-by.ensures.pass

pub returns-clause-zeroed : goal.returns-clause-zeroed
returns-clause-zeroed g c =
    zeroes-from c.args.mount.now c.args.file c.args.call c.args.off c.args.length _ _ c.args.pass.now c.zero_locked-came.new.pass c.answer-2.result c.requires.may c.file_end-end.ensures.blocks c.start_call-by.result c.start_call-by.new.self
    c.file_end-end.result c.read_to-to.result c.zero_locked-came.result c.start_call-by.ensures.tag c.start_call-by.ensures.pass c.file_end-end.ensures.is c.read_to-to.ensures (λ e. omega (arith, e)) c.if-end-off.false
    c.zero_locked-came.ensures.zeroed c.zero_locked-came.ensures.fault c.zero_locked-came.ensures.ends (c.answer-2.ensures.reply ∙ c.read_reply.ensures) c.answer-2.ensures.bios

pub returns-clause-pass : goal.returns-clause-pass
returns-clause-pass g c =
    zeroes-leave c.args.mount.now c.args.file c.args.call c.args.off c.args.length _ _ c.args.pass.now c.zero_locked-came.new.pass c.answer-2.result c.requires.may c.file_end-end.ensures.blocks c.start_call-by.result c.start_call-by.new.self
    c.file_end-end.result c.read_to-to.result c.zero_locked-came.result c.start_call-by.ensures.tag c.start_call-by.ensures.pass c.file_end-end.ensures.is c.read_to-to.ensures (λ e. omega (arith, e)) c.if-end-off.false
    c.zero_locked-came.ensures.zeroed c.zero_locked-came.ensures.fault c.zero_locked-came.ensures.ends (c.answer-2.ensures.reply ∙ c.read_reply.ensures) c.answer-2.ensures.bios c.zero_locked-came.ensures.free
