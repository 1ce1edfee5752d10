use Rattle.mini_fs.proofs.CallEnds.{acted-locks, acted-shares}
use Rattle.mini_fs.proofs.acts.acts_keep_shares.Goals as goal

pub returns-clause-shares : goal.returns-clause-shares
returns-clause-shares c = acted-shares

pub returns-clause-locks : goal.returns-clause-locks
returns-clause-locks c = acted-locks
