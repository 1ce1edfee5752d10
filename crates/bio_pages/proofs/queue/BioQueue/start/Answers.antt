use Rattle.bio_pages.proofs.QueueKeeps.{begins}
use Rattle.bio_pages.proofs.queue.BioQueue.start.Goals as goal

pub ruled-requires-clause-rule : goal.ruled-requires-clause-rule
ruled-requires-clause-rule g c = begins
