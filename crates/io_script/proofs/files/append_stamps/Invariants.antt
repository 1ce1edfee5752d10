use Rattle.std.proofs.Common.{drop}
use Rattle.io_model.specs.RunText.{stamps_text}
use Rattle.io_script.proofs.Appended.{HasLeft}
use Rattle.io_script.proofs.files.append_stamps.Given as goal

abbrev pub invariant-loop-stamp : goal.invariant-loop-stamp
invariant-loop-stamp l = HasLeft (stamps_text l.stamps) (stamps_text (drop l.stamp-index l.stamps)) l.initial.text.items l.text.items
