use Rattle.std.proofs.Common.{drop}
use Rattle.io_model.specs.RunText.{lane_lines}
use Rattle.io_script.proofs.Appended.{HasLeft}
use Rattle.io_script.proofs.run.append_lanes.Given as goal

abbrev pub invariant-loop-n : goal.invariant-loop-n
invariant-loop-n l = HasLeft (lane_lines 0 l.lanes) (lane_lines l.n (drop l.n l.lanes)) l.initial.text.items l.text.items
