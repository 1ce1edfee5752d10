use Rattle.std.proofs.Common.{drop}
use Rattle.io_model.specs.RunText.{map_lines}
use Rattle.io_script.proofs.Appended.{HasLeft}
use Rattle.io_script.proofs.files.append_extents.Given as goal

abbrev pub invariant-loop-extent : goal.invariant-loop-extent
invariant-loop-extent l = HasLeft (map_lines l.name l.extents) (map_lines l.name (drop l.extent-index l.extents)) l.initial.text.items l.text.items
