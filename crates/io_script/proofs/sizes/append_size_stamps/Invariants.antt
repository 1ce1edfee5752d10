use Rattle.std.proofs.Common.{drop}
use Rattle.io_model.specs.SizeText.{size_stamps_text}
use Rattle.io_script.proofs.Appended.{HasLeft}
use Rattle.io_script.proofs.sizes.append_size_stamps.Given as goal

abbrev pub invariant-loop-stamp : goal.invariant-loop-stamp
invariant-loop-stamp l = HasLeft (size_stamps_text l.stamps) (size_stamps_text (drop l.stamp-index l.stamps)) l.initial.text.items l.text.items
