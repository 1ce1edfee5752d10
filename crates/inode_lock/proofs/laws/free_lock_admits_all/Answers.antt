use Rattle.inode_lock.proofs.Meaning.{free_lock_admits_all}
use Rattle.inode_lock.proofs.laws.free_lock_admits_all.Goals as goal

pub returns : goal.returns
returns c = free_lock_admits_all
