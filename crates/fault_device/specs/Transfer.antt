use Rattle.std.specs.Prelude.{◌≡◌, ℕ, ◌<◌, ◌≤◌, true, nat_lt, List, ◌++◌, length, take, drop, map, All, IfSome}
use Rattle.iob_base.specs.Counts.{Rose}
use Rattle.iob_base.specs.declared.stamp.Op.{Op}
use Rattle.iob_base.specs.declared.stamp.Op.TheVariants.{Read, Write}
use Rattle.fault_device.specs.LaneView.{LaneView}
use Rattle.fault_device.specs.Ran.{Ran}
use Rattle.fault_device.specs.Telling.{is_next_armed}
use Rattle.fault_device.specs.declared.lane.Done.{Done}
use Rattle.iob_base.specs.declared.part.Part.{Part}

-- the page has a block's length
abbrev pub IsWhole : Part → Type 0
IsWhole p = length p.page.bytes ≡ length p.sector.bytes

-- parts that one transfer can move: 1 to 16, with whole pages
pub record CanTransfer (parts : List Part) : Type 0 where
  pub some : 0 < length parts
  pub few : length parts ≤ 16
  pub whole : All IsWhole parts

-- a part whose block was moved to its page
abbrev pub block_read : Part → Part
block_read p = record p { page = record p.page { bytes = p.sector.bytes } }

-- a part whose page was moved to its block
abbrev pub block_written : Part → Part
block_written p = record p { sector = record p.sector { bytes = p.page.bytes } }

-- the parts after a read of which so many blocks landed: all other bytes and all numbers stay
abbrev pub parts_read : ℕ → List Part → List Part
parts_read landed parts = map block_read (take landed parts) ++ drop landed parts

-- the parts after a write of which so many blocks landed: all other bytes and all numbers stay
abbrev pub parts_written : ℕ → List Part → List Part
parts_written landed parts = map block_written (take landed parts) ++ drop landed parts

-- what a transfer of n blocks tells of itself, from the lane as it was to the lane as it is: one
-- judgement was made, and it failed exactly where not all blocks landed, only where the count rose,
-- and as the fate told
pub record Tells (n : ℕ) (old : LaneView) (done : Done) (new : LaneView) : Type 0 where
  pub lane : done.lane ≡ old.number
  pub blocks : done.blocks ≡ n
  pub landed : done.landed ≤ n
  pub failed : done.failed ≡ nat_lt done.landed n
  pub before : done.before ≡ old.count
  pub after : done.after ≡ new.count
  pub rose : done.failed ≡ true → Rose done.before done.after
  pub told : IfSome old.tells (λ t. done.failed ≡ is_next_armed t)
  pub ran : Ran 1 old new

-- the parts after a transfer in this direction, of which so many blocks landed
abbrev pub parts_after : Op → ℕ → List Part → List Part
parts_after Read landed parts = parts_read landed parts
parts_after Write landed parts = parts_written landed parts
