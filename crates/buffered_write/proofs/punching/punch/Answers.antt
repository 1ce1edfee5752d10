use Rattle.std.proofs.Common.{refl}
use Rattle.buffered_write.proofs.PunchLemmas.{leaves-from, none-punches, punches-from}
use Rattle.buffered_write.proofs.punching.punch.Goals as goal

pub returns-then-to-off-clause-punched : goal.returns-then-to-off-clause-punched
returns-then-to-off-clause-punched g c =
    none-punches c.args.mount.now c.args.file c.args.call c.args.off c.args.length _ _ c.args.pass.now c.start_call-by.new.self _ c.requires.may c.file_end.ensures.blocks c.start_call-by.result c.start_call-by.new.self c.file_end.result c.read_to-to.result c.start_call-by.ensures.tag
    c.start_call-by.ensures.pass c.file_end.ensures.is c.read_to-to.ensures c.if-to-off.true refl c.start_call-by.ensures.pass c.read_reply.ensures refl

pub returns-clause-punched : goal.returns-clause-punched
returns-clause-punched g c =
    punches-from c.args.mount.now c.args.file c.args.call c.args.off c.args.length _ _ c.args.pass.now c.punch_locked-came.new.pass _ c.requires.may c.file_end.ensures.blocks c.start_call-by.result c.start_call-by.new.self c.file_end.result c.read_to-to.result c.start_call-by.ensures.tag
    c.start_call-by.ensures.pass c.file_end.ensures.is c.read_to-to.ensures c.punch_locked-came.result c.if-to-off.false c.punch_locked-came.ensures.fault c.punch_locked-came.ensures.punched c.punch_locked-came.ensures.ends c.read_reply-2.ensures refl

pub returns-clause-pass : goal.returns-clause-pass
returns-clause-pass g c =
    leaves-from c.args.mount.now c.args.file c.args.call c.args.off c.args.length _ _ c.args.pass.now c.punch_locked-came.new.pass (record { reply = c.read_reply-2.result; bios = c.punch_locked-came.result.bios }) c.requires.may c.file_end.ensures.blocks c.start_call-by.result c.start_call-by.new.self
    c.file_end.result c.read_to-to.result c.start_call-by.ensures.tag c.start_call-by.ensures.pass c.file_end.ensures.is c.read_to-to.ensures c.punch_locked-came.result c.if-to-off.false c.punch_locked-came.ensures.fault c.punch_locked-came.ensures.punched c.punch_locked-came.ensures.ends
    c.read_reply-2.ensures refl c.punch_locked-came.ensures.free
