use Rattle.std.proofs.Common.{drop}
use Rattle.io_model.specs.RunText.{close_lines}
use Rattle.io_script.proofs.Appended.{HasLeft}
use Rattle.io_script.proofs.calls.append_closes.Given as goal

abbrev pub invariant-loop-i : goal.invariant-loop-i
invariant-loop-i l = HasLeft (close_lines l.names l.closes) (close_lines (drop l.i l.names) (drop l.i l.closes)) l.initial.text.items l.text.items
