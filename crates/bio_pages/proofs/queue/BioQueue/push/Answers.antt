use Rattle.bio_pages.proofs.QueueKeeps.{puts, learns}
use Rattle.bio_pages.proofs.queue.BioQueue.push.Goals as goal

pub push_as-requires-clause-rule : goal.push_as-requires-clause-rule
push_as-requires-clause-rule g c = (puts _ _ _ _, learns _ _)
