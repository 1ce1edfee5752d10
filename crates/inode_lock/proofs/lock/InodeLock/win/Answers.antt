use Rattle.inode_lock.specs.View.{view_of}
use Rattle.inode_lock.proofs.Tries.{tried_again}
use Rattle.inode_lock.proofs.lock.InodeLock.win.Goals as goal

pub loop-preserved : goal.loop-preserved
loop-preserved g c = (
  tt,
  tt,
  tried_again c.args.class (view_of c.args.seat.now) (view_of c.loop.seat) (view_of c.attempt.new.seat) c.in-Err.refusal.read c.in-Err.refusal.found c.loop.invariant.2 c.in-Err.ensures.err,
)
