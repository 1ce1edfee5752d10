-- What becomes of a bio that is run.
use Rattle.std.specs.Prelude.{◌≡◌, ◌≤◌, ℕ, true, nat_lt, length}
use Rattle.iob_base.specs.Counts.{Rose}
use Rattle.fault_device.specs.LaneView.{LaneView}
use Rattle.fault_device.specs.Ran.{Ran}
use Rattle.fault_device.specs.declared.lane.Done.{Done}
use Rattle.fault_device.specs.Transfer.{parts_after}
use Rattle.bio_pages.specs.declared.bio.Bio.{Bio}

-- The bio is as it was, after the one transfer that its `Done` tells: its parts are moved as far as they landed, and all else stays
pub record IsRun {T : Type 0} (before after : Bio T) (done : Done) : Type 0 where
  pub bio : after ≡ record before { parts = after.parts }
  pub parts : after.parts ≡ parts_after before.op done.landed before.parts
  pub blocks : done.blocks ≡ length before.parts
  pub landed : done.landed ≤ length before.parts
  pub failed : done.failed ≡ nat_lt done.landed (length before.parts)
  pub rose : done.failed ≡ true → Rose done.before done.after

-- a lane made some judgements, and nothing else became of it
abbrev pub HasRun : LaneView → LaneView → Type 0
HasRun old new = (n : ℕ) × Ran n old new
