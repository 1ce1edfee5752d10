use Rattle.std.proofs.Common.{◌+◌, drop}
use Rattle.io_model.specs.RunText.{call_lines}
use Rattle.io_script.proofs.Appended.{HasLeft}
use Rattle.io_script.proofs.calls.append_calls.Given as goal

abbrev pub invariant-loop-i : goal.invariant-loop-i
invariant-loop-i l = HasLeft (call_lines 1 l.calls l.ends) (call_lines (l.i + 1) (drop l.i l.calls) (drop l.i l.ends)) l.initial.text.items l.text.items
