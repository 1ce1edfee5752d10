use Rattle.std.specs.Prelude.{ℕ, zero, suc, ◌+◌, ◌==◌, Option, Some, None, List, [], ◌∷◌, ◌++◌, if◌then◌else◌}
use Rattle.std.specs.List.{filter_map}
use Rattle.iob_base.specs.declared.stamp.Mark.TheVariants.{Done}
use Rattle.iob_base.specs.declared.stamp.Stamp.{Stamp}
use Rattle.iob_base.specs.declared.stamp.Tag.{Tag}
use Rattle.io_model.specs.declared.file.BlockEnd.{BlockEnd}
use Rattle.range_core.specs.declared.cell.Cell.{Cell}

-- the stamp of a call that did its part
abbrev pub done_by : Tag → Stamp
done_by by = record { caller = by.caller; call = by.call; mark = Done }

-- one stamp for each of n blocks from b on
abbrev pub stamps_from : ℕ → ℕ → Stamp → List (ℕ × Stamp)
stamps_from b zero stamp = []
stamps_from b (suc n) stamp = (b, stamp) ∷ stamps_from (b + 1) n stamp

-- the stamp of an entry of the log, where it is of this block
abbrev pub stamp_at : ℕ → ℕ × Stamp → Option Stamp
stamp_at b entry = if entry.0 == b then Some entry.1 else None

-- the stamps that a log has for a block, in order
abbrev pub stamps_at : ℕ → List (ℕ × Stamp) → List Stamp
stamps_at b log = filter_map (stamp_at b) log

-- the end of a block on which no stamp was left: its sector, and its page where that is dirty
abbrev pub bare_end : Cell → BlockEnd
bare_end c = record { sector = c.sector; dirty = if c.dirty then c.page else None; journal = [] }

-- the ends of blocks from b on, with the stamps that a log has for each
abbrev pub journaled : ℕ → List (ℕ × Stamp) → List BlockEnd → List BlockEnd
journaled b log [] = []
journaled b log (e ∷ ends) = record e { journal = e.journal ++ stamps_at b log } ∷ journaled (b + 1) log ends

-- the ends with one stamp more at a place
abbrev pub stamp_added : ℕ → Stamp → List BlockEnd → List BlockEnd
stamp_added at stamp [] = []
stamp_added zero stamp (e ∷ ends) = record e { journal = e.journal ++ stamp ∷ [] } ∷ ends
stamp_added (suc n) stamp (e ∷ ends) = e ∷ stamp_added n stamp ends
