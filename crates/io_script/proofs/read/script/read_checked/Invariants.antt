use Rattle.std.proofs.Common.{length}
use Rattle.io_script.proofs.Walking.{HasCome}
use Rattle.io_script.proofs.read.script.read_checked.Given as goal

abbrev pub invariant-loop-piece : goal.invariant-loop-piece
invariant-loop-piece l = HasCome l.bytes l.left l.line l.reader

abbrev pub decreases-loop-piece : goal.decreases-loop-piece
decreases-loop-piece l = length l.left
