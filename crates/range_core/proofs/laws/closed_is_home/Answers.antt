use Rattle.range_core.proofs.ClosingLemmas.{closed_is_home, closed_keeps_share}
use Rattle.range_core.proofs.laws.closed_is_home.Goals as goal

pub returns-clause-home : goal.returns-clause-home
returns-clause-home c = closed_is_home

pub returns-clause-share : goal.returns-clause-share
returns-clause-share c = closed_keeps_share
