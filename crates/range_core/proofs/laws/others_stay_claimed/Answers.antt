use Rattle.range_core.proofs.LoanLemmas.{others_stay_claimed}
use Rattle.range_core.proofs.laws.others_stay_claimed.Goals as goal

pub returns : goal.returns
returns c = others_stay_claimed
