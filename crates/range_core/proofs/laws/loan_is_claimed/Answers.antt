use Rattle.range_core.proofs.LoanLemmas.{loan_is_claimed}
use Rattle.range_core.proofs.laws.loan_is_claimed.Goals as goal

pub returns : goal.returns
returns c = loan_is_claimed
