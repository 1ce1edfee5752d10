use Rattle.inode_lock.proofs.Meaning.{word_tells_the_holds}
use Rattle.inode_lock.proofs.laws.word_tells_the_holds.Goals as goal

pub returns : goal.returns
returns c = word_tells_the_holds
