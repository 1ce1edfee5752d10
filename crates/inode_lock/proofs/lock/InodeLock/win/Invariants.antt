use Rattle.inode_lock.specs.View.{view_of}
use Rattle.inode_lock.specs.Calls.{HasTried}
use Rattle.inode_lock.proofs.lock.InodeLock.win.Given as goal

-- only refused tries so far
abbrev pub invariant-loop : goal.invariant-loop
invariant-loop g l =
    (goal.iterator-loop g).can_next l.iterator' × (goal.iterator-loop g).is_finite l.iterator'
    × HasTried l.class (view_of l.initial.seat) (view_of l.seat)
