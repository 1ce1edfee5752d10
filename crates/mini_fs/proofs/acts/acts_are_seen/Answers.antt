use Rattle.mini_fs.proofs.ActLemmas.{acted-seat}
use Rattle.mini_fs.proofs.acts.acts_are_seen.Goals as goal

pub returns : goal.returns
returns c = acted-seat
