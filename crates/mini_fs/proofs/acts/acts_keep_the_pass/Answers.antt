use Rattle.mini_fs.proofs.PassActs.{acted-pass}
use Rattle.mini_fs.proofs.acts.acts_keep_the_pass.Goals as goal

pub returns : goal.returns
returns c = acted-pass
