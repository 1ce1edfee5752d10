use Rattle.std.proofs.Common.{◌≡◌, rules, subst, false, ◌∙◌, ap, ◌+◌}
use Rattle.inode_lock.specs.declared.word.Class.{Class}
use Rattle.inode_lock.specs.declared.word.Class.TheVariants.{Cached, Direct, Exclusive}
use Rattle.inode_lock.specs.Word.{holds_in, word_of, excludes}
use Rattle.inode_lock.proofs.Keeps.{asks}
use Rattle.inode_lock.proofs.lock.InodeLock.ask.Goals as goal

pub compare_exchange-requires : goal.compare_exchange-requires
compare_exchange-requires c = (
  search rules,
  search rules,
  asks Cached _ _ _ _ _ c.requires.idle (subst (λ (k : Class). excludes k c.args.read ≡ false) c.in-Cached.is c.requires.admits)
      (c.joined-joined.ensures ∙ ap (λ (k : Class). word_of k (holds_in c.args.read + 1)) c.in-Cached.is),
)

pub compare_exchange-requires-in-Direct : goal.compare_exchange-requires-in-Direct
compare_exchange-requires-in-Direct c = (
  search rules,
  search rules,
  asks Direct _ _ _ _ _ c.requires.idle (subst (λ (k : Class). excludes k c.args.read ≡ false) c.in-Direct.is c.requires.admits)
      (c.joined-joined.ensures ∙ ap (λ (k : Class). word_of k (holds_in c.args.read + 1)) c.in-Direct.is),
)

pub compare_exchange-requires-in-Exclusive : goal.compare_exchange-requires-in-Exclusive
compare_exchange-requires-in-Exclusive c = (
  search rules,
  search rules,
  asks Exclusive _ _ _ _ _ c.requires.idle (subst (λ (k : Class). excludes k c.args.read ≡ false) c.in-Exclusive.is c.requires.admits)
      (c.joined-joined.ensures ∙ ap (λ (k : Class). word_of k (holds_in c.args.read + 1)) c.in-Exclusive.is),
)
