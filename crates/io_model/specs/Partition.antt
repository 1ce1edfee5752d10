use Rattle.std.specs.Prelude.{ℕ, zero, suc, Bool, true, ◌&&◌, ◌==◌, ◌+◌, List, [], ◌∷◌, Option, Some, None, if◌then◌else◌, IsTrue}
use Rattle.iob_base.specs.DeviceBlock.{DeviceBlock}
use Rattle.io_model.specs.declared.file.BlockEnd.{BlockEnd}
use Rattle.io_model.specs.declared.file.FileEnd.{FileEnd}
use Rattle.io_model.specs.declared.run.Run.{Run}
use Rattle.io_model.specs.declared.script.Script.{Script}

-- how often a number is that of one of these device blocks
abbrev pub times_held : ℕ → List DeviceBlock → ℕ
times_held d [] = 0
times_held d (sector ∷ sectors) = (if sector.number == d then 1 else 0) + times_held d sectors

abbrev pub onto_sectors : Option DeviceBlock → List DeviceBlock → List DeviceBlock
onto_sectors None sectors = sectors
onto_sectors (Some sector) sectors = sector ∷ sectors

-- the sectors of blocks, before others
abbrev pub sectors_of : List BlockEnd → List DeviceBlock → List DeviceBlock
sectors_of [] others = others
sectors_of (block ∷ blocks) others = onto_sectors block.sector (sectors_of blocks others)

-- all sectors of a run: those of the files' blocks, and the free ones
abbrev pub all_sectors : List FileEnd → List DeviceBlock → List DeviceBlock
all_sectors [] free = free
all_sectors (file ∷ files) free = sectors_of file.blocks (all_sectors files free)

abbrev pub count_of : List DeviceBlock → ℕ
count_of [] = 0
count_of (sector ∷ sectors) = 1 + count_of sectors

-- a test of each number below this one
abbrev pub each_below : (ℕ → Bool) → ℕ → Bool
each_below test zero = true
each_below test (suc n) = test n && each_below test n

-- the device is parted: each of its numbers is that of exactly one sector, of a block or free, and there
-- are no other sectors
pub record IsPartition (script : Script) (run : Run) : Type 0 where
  pub once : IsTrue (each_below (λ d. times_held d (all_sectors run.ends.files run.ends.free) == 1) script.device_blocks)
  pub none_beside : IsTrue (count_of (all_sectors run.ends.files run.ends.free) == script.device_blocks)
