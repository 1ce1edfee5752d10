use Rattle.inode_lock.proofs.Keeps.{starts}
use Rattle.inode_lock.proofs.lock.InodeLock.start.Goals as goal

pub of_words-requires : goal.of_words-requires
of_words-requires c = starts
