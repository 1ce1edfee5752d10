use Rattle.std.proofs.Common.{rules}
use Rattle.inode_lock.proofs.Keeps.{looks}
use Rattle.inode_lock.proofs.lock.InodeLock.look.Goals as goal

pub load-requires : goal.load-requires
load-requires c = (search rules, search rules, looks _ _ _)
