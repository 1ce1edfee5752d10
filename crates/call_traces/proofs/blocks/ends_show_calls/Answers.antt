use Rattle.call_traces.proofs.EndLemmas.{ends_convert, ends_keep_space}
use Rattle.call_traces.proofs.blocks.ends_show_calls.Goals as goal

pub returns-clause-space : goal.returns-clause-space
returns-clause-space c = ends_keep_space

pub returns-clause-writes : goal.returns-clause-writes
returns-clause-writes c = ends_convert
