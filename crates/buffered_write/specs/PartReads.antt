-- How often a call reads blocks into the cache since it covers them in part.
use Rattle.std.specs.Prelude.{ℕ, ◌+◌, ◌/◌, ◌<◌, ◌≤◌, Option, List}
use Rattle.iob_base.specs.declared.answer.Fault.{Fault}
use Rattle.iob_base.specs.declared.stamp.FileId.{FileId}
use Rattle.io_model.specs.Parts.{blocks_met, span}
use Rattle.range_core.specs.Refusals.{covers_in_part}
use Rattle.mount_parts.specs.MountView.{MountView}
use Rattle.mini_fs.specs.Acts.{Act}
use Rattle.mini_fs.specs.CallActs.{loans_in}
use Rattle.mini_fs.specs.PassView.{PassView}
use Rattle.call_parts.specs.Budgets.{HasHappenedTo, IsAlone, LendsFew, how_many}

-- only blocks that bytes from one place of a file up to another cover in part are lent to be read, and once a read failed only those before it
abbrev pub ReadsInPart : MountView → FileId → ℕ → ℕ → Option Fault → List Act → Type 0
ReadsInPart m file from to fault acts = LendsFew m file (covers_in_part m.geometry.block_size from to) (from / m.geometry.block_size) (blocks_met m.geometry.block_size (span from to)) fault acts

-- how many blocks bytes from one place up to another cover in part
abbrev pub blocks_in_part : ℕ → ℕ → ℕ → ℕ
blocks_in_part size from to = how_many (covers_in_part size from to) (from / size) (blocks_met size (span from to))

-- no more bios are sent than a range has blocks that it covers in part, where no entry of anybody else stands between those of the acts
abbrev pub KeepsBudget : MountView → FileId → ℕ → ℕ → PassView → List Act → Type 0
KeepsBudget m file from to p acts =
    IsAlone acts → ((b : ℕ) → from / m.geometry.block_size ≤ b → b < from / m.geometry.block_size + blocks_met m.geometry.block_size (span from to) → HasHappenedTo m file p acts b) → loans_in acts ≤ blocks_in_part m.geometry.block_size from to
