use Rattle.inode_lock.proofs.Meaning.{exclusive_is_alone}
use Rattle.inode_lock.proofs.laws.exclusive_is_alone.Goals as goal

pub returns : goal.returns
returns c = exclusive_is_alone
