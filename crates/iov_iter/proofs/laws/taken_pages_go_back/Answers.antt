use Rattle.iov_iter.proofs.LawLemmas.{taken_pages_back, taken_pages_fit}
use Rattle.iov_iter.proofs.laws.taken_pages_go_back.Goals as goal

pub returns-clause-fit : goal.returns-clause-fit
returns-clause-fit c = taken_pages_fit

pub returns-clause-back : goal.returns-clause-back
returns-clause-back c = taken_pages_back
