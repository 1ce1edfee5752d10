-- The stamps of a range as runs.
use Rattle.std.specs.Prelude.{ℕ, ◌+◌, ◌<◌, ◌==◌, Bool, true, false, ◌&&◌, ◌||◌, List, [], ◌∷◌, ◌++◌, if◌then◌else◌}
use Rattle.iob_base.specs.declared.stamp.Mark.{Mark}
use Rattle.iob_base.specs.declared.stamp.Mark.TheVariants.{Done, Landed, Missed}
use Rattle.iob_base.specs.declared.stamp.Stamp.{Stamp}
use Rattle.range_core.specs.Stamps.{stamps_from}
use Rattle.range_core.specs.declared.stamp_run.StampRun.{StampRun}

-- the stamps of a range with their blocks, in the order of the events that left them, how many runs they take, and for how many runs there is room
pub record LogView : Type 0 where
  pub items : List (ℕ × Stamp)
  pub used : ℕ
  pub capacity : ℕ

-- the stamps of runs: one for each block of each run, in order
abbrev pub expanded : List StampRun → List (ℕ × Stamp)
expanded [] = []
expanded (r ∷ runs) = stamps_from r.first r.count r.stamp ++ expanded runs

-- a run has at least one block
abbrev pub HasBlocks : StampRun → Type 0
HasBlocks r = 0 < r.count

-- two marks are the same
abbrev pub equal_marks : Mark → Mark → Bool
equal_marks Done Done = true
equal_marks Landed Landed = true
equal_marks Missed Missed = true
equal_marks _ _ = false

-- two stamps are the same
abbrev pub equal_stamps : Stamp → Stamp → Bool
equal_stamps s t = (s.caller == t.caller) && ((s.call == t.call) && equal_marks s.mark t.mark)

-- the last stamp of a log is the same one, on the block before b
abbrev pub goes_on : ℕ → Stamp → List (ℕ × Stamp) → Bool
goes_on b stamp [] = false
goes_on b stamp (e ∷ []) = (e.0 + 1 == b) && equal_stamps e.1 stamp
goes_on b stamp (e ∷ d ∷ log) = goes_on b stamp (d ∷ log)

-- how many runs more a log takes for one stamp of each of n blocks from b on: none where they go on with its last one
abbrev pub runs_more : ℕ → ℕ → Stamp → List (ℕ × Stamp) → ℕ
runs_more b n stamp log = if (n == 0) || goes_on b stamp log then 0 else 1
