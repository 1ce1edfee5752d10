use Rattle.std.proofs.Common.{◌≡◌, ◌+◌, ◌*◌, ◌≤◌, drop}
use Rattle.file_stripes.specs.Files.{blocks_of_files}
use Rattle.mount_parts.proofs.laying.count_blocks.Given as goal

abbrev pub invariant-loop-i : goal.invariant-loop-i
invariant-loop-i l = record {
  counted : l.blocks + blocks_of_files (drop l.i l.files) ≡ blocks_of_files l.files;
  few : l.blocks ≤ l.i * 65536;
}
