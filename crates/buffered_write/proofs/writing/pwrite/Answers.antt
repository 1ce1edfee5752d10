use Rattle.std.proofs.Common.{◌≡◌, ◌-◌, ◌≤◌, length, refl, sym, ◌∙◌, subst, arith}
use Rattle.mini_fs.specs.Holds.{HoldsNone}
use Rattle.buffered_write.proofs.PwriteLemmas.{call-goes, leaves-from, next-all, pwrites-empty, pwrites-far, pwrites-from}
use Rattle.buffered_write.proofs.writing.pwrite.Goals as goal

pub write_locked-came-requires-clause-goes : goal.write_locked-came-requires-clause-goes
write_locked-came-requires-clause-goes g c = call-goes c.args.mount.now c.args.file c.args.call c.args.pass.now c.start_call-by.new.self c.start_call-by.result c.requires.may c.requires.mode c.start_call-by.ensures.pass c.start_call-by.ensures.tag

pub write_locked-came-requires-clause-free : goal.write_locked-came-requires-clause-free
write_locked-came-requires-clause-free g c = subst (λ v. HoldsNone v c.args.file) (sym c.start_call-by.ensures.pass) c.requires.may.free

pub write_locked-came-requires-clause-room : goal.write_locked-came-requires-clause-room
write_locked-came-requires-clause-room g c =
    let counted = c.count-asked.ensures.count in
    let to = c.read_to-to.ensures in
    let few : c.read_to-to.result - c.args.off ≤ length c.args.iov.now.bytes = omega (arith, counted, to, c.requires.start) in
    next-all c.args.iov.now (c.read_to-to.result - c.args.off) c.requires.start c.requires.home few

pub returns-then-asked-eq0-clause-written : goal.returns-then-asked-eq0-clause-written
returns-then-asked-eq0-clause-written g c =
    let counted = c.count-asked.ensures.count in
    let start = c.requires.start in
    let asked : c.count-asked.result ≡ length c.args.iov.now.bytes = omega (arith, counted, start) in
    pwrites-empty c.args.mount.now c.args.file c.args.call c.args.off _ _ c.args.pass.now c.start_call-by.new.self c.args.iov.now c.args.iov.now c.answer.result c.requires.may c.requires.start c.file_end-end.ensures.blocks c.file_end-end.result c.count-asked.result
    c.file_end-end.ensures.is asked refl c.start_call-by.ensures.pass refl c.answer.ensures.bios c.if-asked-eq0.true c.answer.ensures.reply

pub returns-then-end-off-clause-written : goal.returns-then-end-off-clause-written
returns-then-end-off-clause-written g c =
    let counted = c.count-asked.ensures.count in
    let start = c.requires.start in
    let asked : c.count-asked.result ≡ length c.args.iov.now.bytes = omega (arith, counted, start) in
    pwrites-far c.args.mount.now c.args.file c.args.call c.args.off _ _ c.args.pass.now c.start_call-by.new.self c.args.iov.now c.args.iov.now c.answer-then-end-off.result c.requires.may c.requires.start c.file_end-end.ensures.blocks c.file_end-end.result c.count-asked.result
    c.file_end-end.ensures.is asked refl c.start_call-by.ensures.pass refl c.answer-then-end-off.ensures.bios (λ e. omega (arith, e)) c.if-end-off.true c.answer-then-end-off.ensures.reply

pub returns-clause-written : goal.returns-clause-written
returns-clause-written g c =
    let counted = c.count-asked.ensures.count in
    let start = c.requires.start in
    let asked : c.count-asked.result ≡ length c.args.iov.now.bytes = omega (arith, counted, start) in
    pwrites-from c.args.mount.now c.args.file c.args.call c.args.off _ _ c.args.pass.now c.write_locked-came.new.pass c.args.iov.now c.write_locked-came.new.iov c.answer-2.result c.requires.may c.requires.start c.file_end-end.ensures.blocks c.start_call-by.result c.start_call-by.new.self
    c.file_end-end.result c.count-asked.result c.read_to-to.result c.write_locked-came.result c.start_call-by.ensures.tag c.start_call-by.ensures.pass c.file_end-end.ensures.is asked c.read_to-to.ensures (λ e. omega (arith, e)) c.if-end-off.false
    c.write_locked-came.ensures.written c.write_locked-came.ensures.ends (c.answer-2.ensures.reply ∙ c.read_reply.ensures) c.answer-2.ensures.bios

pub returns-clause-pass : goal.returns-clause-pass
returns-clause-pass g c =
    let counted = c.count-asked.ensures.count in
    let start = c.requires.start in
    let asked : c.count-asked.result ≡ length c.args.iov.now.bytes = omega (arith, counted, start) in
    leaves-from c.args.mount.now c.args.file c.args.call c.args.off _ _ c.args.pass.now c.write_locked-came.new.pass c.args.iov.now c.write_locked-came.new.iov c.answer-2.result c.requires.may c.requires.start c.file_end-end.ensures.blocks c.start_call-by.result c.start_call-by.new.self
    c.file_end-end.result c.count-asked.result c.read_to-to.result c.write_locked-came.result c.start_call-by.ensures.tag c.start_call-by.ensures.pass c.file_end-end.ensures.is asked c.read_to-to.ensures (λ e. omega (arith, e)) c.if-end-off.false
    c.write_locked-came.ensures.written c.write_locked-came.ensures.ends (c.answer-2.ensures.reply ∙ c.read_reply.ensures) c.answer-2.ensures.bios c.write_locked-came.ensures.free
