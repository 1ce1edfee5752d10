use Rattle.std.proofs.Common.{rules}
use Rattle.inode_lock.proofs.Keeps.{forks}
use Rattle.inode_lock.proofs.lock.InodeLock.split.Goals as goal

pub split_seat-requires : goal.split_seat-requires
split_seat-requires c = (search rules, search rules, forks _ _)
