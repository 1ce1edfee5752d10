use Rattle.range_core.proofs.ClosingLemmas.{loan_comes_home}
use Rattle.range_core.proofs.laws.loan_comes_home.Goals as goal

pub returns : goal.returns
returns c = loan_comes_home
