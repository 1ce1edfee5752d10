use Rattle.std.proofs.Common.{sym, subst}
use Rattle.size_core.specs.declared.entry.SizeEvent.TheVariants.{See}
use Rattle.buffered_write.specs.Truncates.{CutsUnlocked}
use Rattle.buffered_write.proofs.TruncLemmas.{cut-seen, cut-unseen, sized-at}
use Rattle.buffered_write.proofs.truncating.cut_unlocked.Goals as goal

pub cut_up_to-requires-clause-goes : goal.cut_up_to-requires-clause-goes
cut_up_to-requires-clause-goes g c = sized-at c.args.mount.now c.args.file c.args.by c.args.pass.now c.see_size.new.pass (See c.args.by c.see_size.result) c.see_size.ensures.seen.turned c.see_size.ensures.of c.requires.goes

pub returns-in-Ok : goal.returns-in-Ok
returns-in-Ok g c =
    cut-seen c.args.mount.now c.args.file c.args.by c.args.size c.in-Ok.found c.cut_end-to.result _ _ c.args.pass.now c.see_size.new.pass c.cut_up_to.new.pass c.cut_up_to.result c.requires.sized c.in-Ok.ensures.seen c.see_size.ensures.tickets c.cut_end-to.ensures.is
    c.cut_up_to.ensures.cut c.cut_up_to.ensures.fault c.cut_up_to.ensures.stops

pub returns-in-Err : goal.returns-in-Err
returns-in-Err g c =
    subst (CutsUnlocked c.args.mount.now c.args.file c.args.by c.args.size _ _ c.args.pass.now c.see_size.new.pass) (sym c.wanting.ensures)
    (cut-unseen c.args.mount.now c.args.file c.args.by c.args.size _ c.args.pass.now c.see_size.new.pass c.in-Err.field-0 c.requires.sized c.in-Err.ensures.seen c.see_size.ensures.of c.see_size.ensures.tickets)
