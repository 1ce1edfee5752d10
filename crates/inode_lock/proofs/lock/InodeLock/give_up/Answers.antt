use Rattle.std.proofs.Common.{rules, ◌∙◌, ap, Some}
use Rattle.inode_lock.specs.declared.word.Class.{Class}
use Rattle.inode_lock.specs.declared.word.Class.TheVariants.{Cached, Direct, Exclusive}
use Rattle.inode_lock.proofs.Keeps.{leaves}
use Rattle.inode_lock.proofs.lock.InodeLock.give_up.Goals as goal

pub fetch_sub-requires : goal.fetch_sub-requires
fetch_sub-requires c = (search rules, search rules, leaves Cached _ _ _ (c.requires.holds ∙ ap (λ (k : Class). Some k) c.in-Cached.is))

pub fetch_sub-requires-in-Direct : goal.fetch_sub-requires-in-Direct
fetch_sub-requires-in-Direct c = (search rules, search rules, leaves Direct _ _ _ (c.requires.holds ∙ ap (λ (k : Class). Some k) c.in-Direct.is))

pub fetch_sub-requires-in-Exclusive : goal.fetch_sub-requires-in-Exclusive
fetch_sub-requires-in-Exclusive c = (search rules, search rules, leaves Exclusive _ _ _ (c.requires.holds ∙ ap (λ (k : Class). Some k) c.in-Exclusive.is))
