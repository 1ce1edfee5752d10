use Rattle.range_core.proofs.LoanLemmas.{return_frees_claim}
use Rattle.range_core.proofs.laws.return_frees_claim.Goals as goal

pub returns : goal.returns
returns c = return_frees_claim
