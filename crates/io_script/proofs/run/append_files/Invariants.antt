use Rattle.std.proofs.Common.{drop}
use Rattle.io_model.specs.RunText.{files_lines}
use Rattle.io_script.proofs.Appended.{HasLeft}
use Rattle.io_script.proofs.run.append_files.Given as goal

abbrev pub invariant-loop-i : goal.invariant-loop-i
invariant-loop-i l = HasLeft (files_lines l.image l.names l.ends) (files_lines l.image (drop l.i l.names) (drop l.i l.ends)) l.initial.text.items l.text.items
