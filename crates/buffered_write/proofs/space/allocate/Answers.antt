use Rattle.std.proofs.Common.{◌<◌, ◌≤◌, ap, subst, ◌∙◌}
use Rattle.iob_base.specs.declared.answer.Fault.TheVariants.{TooFar}
use Rattle.iob_base.specs.declared.answer.Reply.TheVariants as replied
use Rattle.mini_fs.proofs.MapBlocks.{size-some}
use Rattle.buffered_write.specs.Allocates.{blocks_end, first_block}
use Rattle.buffered_write.proofs.AllocCalls.{far-allocated, locked-over, none-asked, range-allocated, range-leaves}
use Rattle.buffered_write.proofs.space.allocate.Goals as goal

pub returns-then-length-eq0-clause-allocated : goal.returns-then-length-eq0-clause-allocated
returns-then-length-eq0-clause-allocated g c =
    none-asked c.args.mount.now c.args.file c.args.call c.args.off c.args.length c.args.pass.now c.start_call.new.self c.start_call.ensures.pass c.unsent.result c.unsent.ensures.bios c.if-length-eq0.true
    (c.unsent.ensures.reply ∙ c.count_reply.ensures)

pub returns-then-off-end-clause-allocated : goal.returns-then-off-end-clause-allocated
returns-then-off-end-clause-allocated g c =
    far-allocated c.args.mount.now c.args.file c.args.call c.args.off c.args.length c.args.pass.now c.start_call.new.self c.start_call.ensures.pass c.unsent-then-off-end.result c.unsent-then-off-end.ensures.bios c.if-length-eq0.false
    (subst (λ k. k ≤ c.args.off) c.file_end-end.ensures.is c.if-off-end.true)
    (c.unsent-then-off-end.ensures.reply ∙ c.count_reply-then-off-end.ensures ∙ ap (λ k. replied.Err (TooFar c.args.off k) 0) c.file_end-end.ensures.is)

pub returns-clause-allocated : goal.returns-clause-allocated
returns-clause-allocated g c =
    let locked = locked-over c.args.mount.now c.args.file c.blocks_of-first.result.0 c.blocks_of-first.result.1 (first_block c.args.mount.now c.args.off) (blocks_end c.args.mount.now c.args.file c.args.off c.args.length)
    c.start_call.new.self c.allocate_locked.new.pass c.allocate_locked.result c.blocks_of-first.ensures.first c.blocks_of-first.ensures.end c.allocate_locked.ensures.allocated in
    range-allocated c.args.mount.now c.args.file c.args.call c.args.off c.args.length c.args.pass.now c.start_call.new.self c.allocate_locked.new.pass c.start_call.ensures.pass c.allocate_locked.result locked c.unsent-2.result
    (size-some c.args.mount.now.geometry.block_size c.file_end-end.ensures.blocks) c.if-length-eq0.false (subst (λ k. c.args.off < k) c.file_end-end.ensures.is c.if-off-end.false)
    c.unsent-2.ensures.bios (c.unsent-2.ensures.reply ∙ c.count_reply-2.ensures)

pub returns-clause-pass : goal.returns-clause-pass
returns-clause-pass g c =
    let locked = locked-over c.args.mount.now c.args.file c.blocks_of-first.result.0 c.blocks_of-first.result.1 (first_block c.args.mount.now c.args.off) (blocks_end c.args.mount.now c.args.file c.args.off c.args.length)
    c.start_call.new.self c.allocate_locked.new.pass c.allocate_locked.result c.blocks_of-first.ensures.first c.blocks_of-first.ensures.end c.allocate_locked.ensures.allocated in
    range-leaves c.args.mount.now c.args.file c.args.call c.args.off c.args.length c.args.pass.now c.start_call.new.self c.allocate_locked.new.pass c.start_call.ensures.pass c.allocate_locked.result locked
    c.allocate_locked.ensures.of c.allocate_locked.ensures.tickets
