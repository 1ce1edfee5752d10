use Rattle.std.proofs.Common.{◌≡◌, ap, sym, ◌∙◌}
use Rattle.inode_lock.specs.declared.word.Class.TheVariants.{Cached}
use Rattle.worked_calls.proofs.Trying.{stays-tried}
use Rattle.worked_calls.proofs.nowait.try_read.Goals as goal

pub returns : goal.returns
returns g c = stays-tried c.args.mount.now c.args.pass.now c.cached-hold.new.pass c.pread_nowait-answer.new.pass c.leave_cached.new.pass c.is_laid_out.ensures c.requires c.cached-hold.result c.cached-hold.ensures.won c.pread_nowait-answer.ensures.hold c.pread_nowait-answer.ensures.read.acts c.pread_nowait-answer.ensures.read.did.acted c.pread_nowait-answer.ensures.pass.shares c.leave_cached.ensures.left c.leave_cached.ensures.of
