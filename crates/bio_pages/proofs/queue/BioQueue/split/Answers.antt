use Rattle.bio_pages.proofs.QueueKeeps.{forks}
use Rattle.bio_pages.proofs.queue.BioQueue.split.Goals as goal

pub another-pass-requires-clause-rule : goal.another-pass-requires-clause-rule
another-pass-requires-clause-rule g c = forks _ _
