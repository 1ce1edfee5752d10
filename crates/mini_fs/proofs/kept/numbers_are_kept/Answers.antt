use Rattle.mini_fs.proofs.KeptNumbers.{numbers-kept}
use Rattle.mini_fs.proofs.kept.numbers_are_kept.Goals as goal

pub returns : goal.returns
returns c = numbers-kept
