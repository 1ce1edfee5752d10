use Rattle.std.specs.Prelude.{ℕ, zero, suc, ◌+◌, Bool, ◌&&◌, nat_le, nat_lt, List, [], ◌∷◌, Option, Some, None, if◌then◌else◌}
use Rattle.iob_base.specs.DeviceBlock.{DeviceBlock, device_block}
use Rattle.iob_base.specs.declared.answer.Answer.{Answer}
use Rattle.iob_base.specs.declared.answer.Reply.TheVariants.{Ok}
use Rattle.iob_base.specs.declared.answer.Stop.TheVariants.{Whole}
use Rattle.iob_base.specs.declared.stamp.Mark.TheVariants.{Done}
use Rattle.iob_base.specs.declared.stamp.Stamp.{Stamp}
use Rattle.io_model.specs.Contents.{Content}
use Rattle.io_model.specs.declared.file.BlockEnd.{BlockEnd}
use Rattle.io_model.specs.declared.file.FileEnd.{FileEnd}
use Rattle.io_model.specs.declared.run.CallEnd.{CallEnd}
use Rattle.io_model.specs.declared.run.LaneEnd.{LaneEnd}
use Rattle.io_model.specs.declared.run.Run.{Run}

-- a close that had nothing to do
abbrev pub quiet_close : Answer
quiet_close = record { reply = Ok 0 Whole; bios = 0 }

-- the run of a script of one call on one file
abbrev pub one_run : CallEnd → FileEnd → List DeviceBlock → List LaneEnd → Run
one_run call file free lanes = record { calls = call ∷ []; closes = quiet_close ∷ []; ends = record { files = file ∷ []; free = free }; lanes = lanes }

-- the stamp that the one call leaves
abbrev pub read_stamp : Stamp
read_stamp = record { caller = 0; call = 1; mark = Done }

-- what a function gives for so many numbers from one on
abbrev pub tabulated : {A : Type 0} → (ℕ → A) → ℕ → ℕ → List A
tabulated f n zero = []
tabulated f n (suc m) = f n ∷ tabulated f (n + 1) m

-- the sector of a block that is mapped to a device of these contents
abbrev pub sector_with : (ℕ → Content) → Option ℕ → Option DeviceBlock
sector_with content None = None
sector_with content (Some d) = Some (device_block d (content d))

-- a block is one of so many from one on
abbrev pub is_among : ℕ → ℕ → ℕ → Bool
is_among first n b = nat_le first b && nat_lt b (first + n)

-- the end of a block that was only read: its sector as it was, and stamps where it was read
abbrev pub read_end : (ℕ → Content) → (ℕ → Option ℕ) → (ℕ → Bool) → List Stamp → ℕ → BlockEnd
read_end content mapped read stamps b = record { sector = sector_with content (mapped b); dirty = None; journal = if read b then stamps else [] }
