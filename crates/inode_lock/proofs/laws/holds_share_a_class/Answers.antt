use Rattle.inode_lock.proofs.Meaning.{holds_share_a_class}
use Rattle.inode_lock.proofs.laws.holds_share_a_class.Goals as goal

pub returns : goal.returns
returns c = holds_share_a_class
