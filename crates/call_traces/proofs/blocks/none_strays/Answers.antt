use Rattle.call_traces.proofs.OneCallLemmas.{none_strays, one_calls_stray_not, quiet_stray_not}
use Rattle.call_traces.proofs.blocks.none_strays.Goals as goal

pub returns-clause-history : goal.returns-clause-history
returns-clause-history c = none_strays

pub returns-clause-call : goal.returns-clause-call
returns-clause-call c = one_calls_stray_not

pub returns-clause-quiet : goal.returns-clause-quiet
returns-clause-quiet c = quiet_stray_not
