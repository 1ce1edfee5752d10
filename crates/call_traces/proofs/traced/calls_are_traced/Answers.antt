use Rattle.call_traces.proofs.TracedLemmas.{alloc-traced, punch-traced, read-traced, trunc-traced, write-traced, zero-traced}
use Rattle.call_traces.proofs.traced.calls_are_traced.Goals as goal

pub returns-clause-read : goal.returns-clause-read
returns-clause-read c = read-traced

pub returns-clause-write : goal.returns-clause-write
returns-clause-write c = write-traced

pub returns-clause-zero : goal.returns-clause-zero
returns-clause-zero c = zero-traced

pub returns-clause-punch : goal.returns-clause-punch
returns-clause-punch c = punch-traced

pub returns-clause-alloc : goal.returns-clause-alloc
returns-clause-alloc c = alloc-traced

pub returns-clause-trunc : goal.returns-clause-trunc
returns-clause-trunc c = trunc-traced
