use Rattle.call_traces.proofs.ToldCallLemmas.{alloc-told, punch-is-told, read-told, trunc-told, unstamped-are-told, write-told, zero-is-told}
use Rattle.call_traces.proofs.contents.calls_are_told.Goals as goal

pub returns-clause-read : goal.returns-clause-read
returns-clause-read c = read-told

pub returns-clause-write : goal.returns-clause-write
returns-clause-write c = write-told

pub returns-clause-zero : goal.returns-clause-zero
returns-clause-zero c = zero-is-told

pub returns-clause-punch : goal.returns-clause-punch
returns-clause-punch c = punch-is-told

pub returns-clause-alloc : goal.returns-clause-alloc
returns-clause-alloc c = alloc-told

pub returns-clause-trunc : goal.returns-clause-trunc
returns-clause-trunc c = trunc-told

pub returns-clause-unstamped : goal.returns-clause-unstamped
returns-clause-unstamped c = unstamped-are-told
