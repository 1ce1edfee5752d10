use Rattle.std.proofs.Common.{◌+◌, drop}
use Rattle.io_script.specs.Image.{mapped_lines}
use Rattle.io_script.proofs.Appended.{HasLeft}
use Rattle.io_script.proofs.image.append_mapped.Given as goal

abbrev pub invariant-loop-i : goal.invariant-loop-i
invariant-loop-i l = HasLeft (mapped_lines l.name l.first l.blocks) (mapped_lines l.name (l.first + l.i) (drop l.i l.blocks)) l.initial.text.items l.text.items
