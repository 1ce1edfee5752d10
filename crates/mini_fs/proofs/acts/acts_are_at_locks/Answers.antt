use Rattle.mini_fs.proofs.PassActs.{acted-lock}
use Rattle.mini_fs.proofs.acts.acts_are_at_locks.Goals as goal

pub returns : goal.returns
returns c = acted-lock
