use Rattle.call_parts.proofs.BudgetLemmas.{loans-few}
use Rattle.call_parts.proofs.budget.loans_are_few.Goals as goal

pub returns : goal.returns
returns c = loans-few
