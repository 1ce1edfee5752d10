use Rattle.std.proofs.Common.{refl, sym, subst}
use Rattle.mini_fs.specs.Holds.{HoldsNone}
use Rattle.call_parts.proofs.ReadyLemmas.{some-bytes}
use Rattle.buffered_write.proofs.UnderLemmas.{called-at}
use Rattle.buffered_write.proofs.TruncCalls.{cut-far, cut-from, cut-leaves}
use Rattle.buffered_write.proofs.truncating.truncate.Goals as goal

pub cut_locked-came-requires-clause-goes : goal.cut_locked-came-requires-clause-goes
cut_locked-came-requires-clause-goes g c = called-at c.args.mount.now c.args.file c.start_call-by.result c.args.call c.args.pass.now c.start_call-by.new.self c.requires.may c.start_call-by.ensures.pass c.start_call-by.ensures.tag

pub cut_locked-came-requires-clause-free : goal.cut_locked-came-requires-clause-free
cut_locked-came-requires-clause-free g c = subst (λ v. HoldsNone v c.args.file) (sym c.start_call-by.ensures.pass) c.requires.may.free

pub returns-then-end-size-clause-truncated : goal.returns-then-end-size-clause-truncated
returns-then-end-size-clause-truncated g c =
    cut-far c.args.mount.now c.args.file c.args.call c.args.size _ _ c.args.pass.now c.start_call-by.new.self _ c.start_call-by.result c.start_call-by.new.self c.file_end-end.result c.start_call-by.ensures.tag c.start_call-by.ensures.pass c.file_end-end.ensures.is
    (some-bytes c.args.mount.now.geometry.block_size c.file_end-end.ensures.blocks) c.if-end-size.true refl refl refl

pub returns-clause-truncated : goal.returns-clause-truncated
returns-clause-truncated g c =
    cut-from c.args.mount.now c.args.file c.args.call c.args.size _ _ c.args.pass.now c.cut_locked-came.new.pass c.cleared.result c.start_call-by.result c.start_call-by.new.self c.file_end-end.result c.start_call-by.ensures.tag c.start_call-by.ensures.pass c.file_end-end.ensures.is
    (some-bytes c.args.mount.now.geometry.block_size c.file_end-end.ensures.blocks) c.cut_locked-came.result c.if-end-size.false c.cut_locked-came.ensures.cut c.cleared.ensures.reply c.cleared.ensures.bios

pub returns-clause-pass : goal.returns-clause-pass
returns-clause-pass g c =
    cut-leaves c.args.mount.now c.args.file c.args.call c.args.size _ _ c.args.pass.now c.cut_locked-came.new.pass c.cleared.result c.start_call-by.result c.start_call-by.new.self c.file_end-end.result c.start_call-by.ensures.tag c.start_call-by.ensures.pass c.file_end-end.ensures.is
    (some-bytes c.args.mount.now.geometry.block_size c.file_end-end.ensures.blocks) c.cut_locked-came.result c.cut_locked-came.ensures.cut c.cut_locked-came.ensures.free
