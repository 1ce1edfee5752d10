use Rattle.std.proofs.Common.{◌≡◌, ◌+◌, IsTrue, drop, length}
use Rattle.io_model.specs.Fitting.{is_merged_from}
use Rattle.io_model.specs.RunText.{image_lines}
use Rattle.io_script.proofs.Appended.{HasLeft}
use Rattle.io_script.proofs.image.append_image.Given as goal

abbrev pub invariant-loop-extent : goal.invariant-loop-extent
invariant-loop-extent l = record {
  merged : IsTrue (is_merged_from l.first (length l.blocks) (drop l.extent-index l.extents));
  count : l.first + length l.left ≡ length l.blocks;
  lines : HasLeft (image_lines l.name l.extents 0 l.blocks) (image_lines l.name (drop l.extent-index l.extents) l.first l.left) l.initial.text.items l.text.items;
}
