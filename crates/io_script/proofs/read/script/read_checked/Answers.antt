use Rattle.io_script.proofs.Walking.{has_come-line, refused_fault}
use Rattle.io_script.specs.Grammar.{next_said}
use Rattle.io_script.specs.Reading.{said}
use Rattle.io_script.proofs.read.script.read_checked.Goals as goal

pub loop-piece-preserved : goal.loop-piece-preserved
loop-piece-preserved c =
    let taken = c.in_default-take_line.ensures in
    has_come-line _ _ c.in-Some.piece.now _ c.loop-piece.line c.loop-piece.reader c.take_line.new.r c.loop-piece.invariant c.in-Some.ensures.pieces c.in-Some.ensures.shorter taken.0 taken.1 taken.2

pub returns-in-Err-clause-fault : goal.returns-in-Err-clause-fault
returns-in-Err-clause-fault c =
    refused_fault c.args.bytes.now c.loop-piece.left.now c.in-Some.piece.now c.in-Some.after.now c.loop-piece.line c.loop-piece.reader c.take_line.new.r (next_said (said c.loop-piece.reader) c.in-Some.piece.now) c.in-Err.fault c.fault_at.result c.if-bytes-gt-TEXT_LIMIT.false c.loop-piece.invariant
    c.in-Some.ensures.pieces c.in-Err.ensures c.fault_at.ensures
