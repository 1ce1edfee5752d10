use Rattle.std.proofs.Common.{None}
use Rattle.buffered_write.proofs.TruncLemmas.{cleared-none}
use Rattle.buffered_write.proofs.truncating.clear_any.Goals as goal

pub returns-then-from-to-clause-cleared : goal.returns-then-from-to-clause-cleared
returns-then-from-to-clause-cleared g c = cleared-none c.args.mount.now c.args.file c.args.by c.args.from c.args.to _ c.args.pass.now None tt c.requires.goes.of
