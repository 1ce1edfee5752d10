use Rattle.mini_fs.proofs.PassActs.{acted-size}
use Rattle.mini_fs.proofs.acts.acts_are_seen_at_sizes.Goals as goal

pub returns : goal.returns
returns c = acted-size
