use Rattle.call_traces.proofs.SpaceLemmas.{allocated_is_kept, calls_keep_allocated}
use Rattle.call_traces.proofs.blocks.allocated_is_kept.Goals as goal

pub returns-clause-entries : goal.returns-clause-entries
returns-clause-entries c = allocated_is_kept

pub returns-clause-calls : goal.returns-clause-calls
returns-clause-calls c = calls_keep_allocated
