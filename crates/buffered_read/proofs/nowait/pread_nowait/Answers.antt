use Rattle.std.proofs.Common.{◌≡◌, length, refl, ap, ◌∙◌, arith}
use Rattle.call_parts.specs.Parts.{read_to}
use Rattle.call_parts.proofs.NumberLemmas.{tickets-numbered}
use Rattle.buffered_read.proofs.NoWaitLemmas.{keeps-pass, tries-from}
use Rattle.buffered_read.proofs.nowait.pread_nowait.Goals as goal

pub returns-clause-read : goal.returns-clause-read
returns-clause-read c =
    let counted = c.count-asked.ensures.count in
    let start = c.requires.start in
    let asked : c.count-asked.result ≡ length c.args.iov.now.bytes = omega (arith, counted, start) in
    tries-from c.args.mount.now c.args.file c.args.call c.args.off c.try_parts-at.result.0 c.args.pass.now c.try_parts-at.new.pass c.args.iov.now c.try_parts-at.new.iov c.try_parts-at.result.1 (record { reply = c.read_reply.result; bios = 0 })
    c.start_call-by.result c.start_call-by.new.self c.count-asked.result c.read_to-to.result
    c.file_end.ensures.blocks c.file_end.ensures.folios c.count-asked.ensures.valid.joined c.try_parts-at.ensures.reached
    c.start_call-by.ensures.tag c.start_call-by.ensures.pass asked
    (c.read_to-to.ensures ∙ ap (λ n. read_to n c.args.off c.count-asked.result) c.file_end.ensures.is)
    c.try_parts-at.ensures.tried c.read_reply.ensures refl

pub returns-clause-pass : goal.returns-clause-pass
returns-clause-pass c =
    keeps-pass c.args.mount.now c.args.file c.args.call c.args.off c.try_parts-at.result.0 c.args.pass.now c.try_parts-at.new.pass c.args.iov.now c.try_parts-at.new.iov c.try_parts-at.result.1 (record { reply = c.read_reply.result; bios = 0 })
    c.start_call-by.new.self c.start_call-by.ensures.pass c.try_parts-at.ensures.rest c.requires.of c.try_parts-at.ensures.of (returns-clause-read c)

pub returns-clause-tickets : goal.returns-clause-tickets
returns-clause-tickets c = λ t is. c.try_parts-at.ensures.tickets t (tickets-numbered c.args.pass.now c.start_call-by.new.self c.args.call t c.start_call-by.ensures.pass is)
