use Rattle.inode_lock.proofs.Found.{each_word_was_found}
use Rattle.inode_lock.proofs.laws.each_word_was_found.Goals as goal

pub returns : goal.returns
returns c = each_word_was_found
