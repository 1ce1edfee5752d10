use Rattle.std.proofs.Common.{sym, ◌∙◌}
use Rattle.buffered_write.proofs.PwriteLemmas.{sizeless-so}
use Rattle.buffered_write.proofs.WriteLemmas.{not-there}
use Rattle.buffered_write.proofs.writing.write_any.Goals as goal

pub returns-clause-written : goal.returns-clause-written
returns-clause-written g c =
    sizeless-so c.args.mount.now c.args.file c.args.by c.args.from c.args.to _ _ c.args.iov.now c.write_range.new.iov c.write_range.result c.args.pass.now c.write_range.new.pass (not-there _ (sym c.sized.ensures ∙ c.if-sized.false)) c.write_range.ensures.written
