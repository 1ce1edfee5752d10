use Rattle.mini_fs.proofs.ActLemmas.{acted-more, acted-then}
use Rattle.mini_fs.proofs.acts.acts_add_up.Goals as goal

pub returns-clause-one : goal.returns-clause-one
returns-clause-one c = acted-more

pub returns-clause-all : goal.returns-clause-all
returns-clause-all c = acted-then
