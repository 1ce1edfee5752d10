-- The stamps that the entries of a history leave.
use Rattle.std.specs.Prelude.{ℕ, ◌+◌, ◌-◌, ◌/◌, Bool, true, List, [], ◌∷◌, ◌++◌, length, if◌then◌else◌}
use Rattle.iob_base.specs.declared.stamp.Mark.TheVariants.{Landed, Missed}
use Rattle.iob_base.specs.declared.stamp.Op.{Op}
use Rattle.iob_base.specs.declared.stamp.Op.TheVariants.{Write}
use Rattle.iob_base.specs.declared.stamp.Stamp.{Stamp}
use Rattle.iob_base.specs.declared.stamp.Tag.{Tag}
use Rattle.fault_device.specs.declared.lane.Done.{Done}
use Rattle.io_model.specs.declared.file.Kind.{Kind}
use Rattle.range_core.specs.Kinds.{is_mapped}
use Rattle.range_core.specs.Spots.{blocks_met}
use Rattle.range_core.specs.Stamps.{done_by, stamps_from}
use Rattle.range_core.specs.declared.entry.Entry.{Entry}
use Rattle.range_core.specs.declared.entry.Event.{Event}
use Rattle.range_core.specs.declared.entry.Event.TheVariants.{Fetch, Store, StoreZeros, LendDirect, DirectBack, PartBack, DirectNow, Wipe, DaxGet, DaxPut, DaxZero}
use Rattle.range_core.specs.declared.entry.Outcome.{Outcome}
use Rattle.range_core.specs.declared.entry.Outcome.TheVariants.{Counted, Took, Finished}

-- the stamps of a call that failed: its bytes are in the block's sector all the same, or it left the block as it was
abbrev pub landed_by : Tag → Stamp
landed_by by = record { caller = by.caller; call = by.call; mark = Landed }

abbrev pub missed_by : Tag → Stamp
missed_by by = record { caller = by.caller; call = by.call; mark = Missed }

-- one stamp for each block that has bytes from one place up to another
abbrev pub stamps_met : ℕ → Tag → ℕ → ℕ → List (ℕ × Stamp)
stamps_met size by from to = stamps_from (from / size) (blocks_met size from to) (done_by by)

-- of a direct transfer that failed: a write of mapped blocks has landed on the first blocks, and nothing else has
abbrev pub failed_stamps : Tag → Op → ℕ → ℕ → Bool → ℕ → List (ℕ × Stamp)
failed_stamps by Write block n true landed = stamps_from block landed (landed_by by) ++ stamps_from (block + landed) (n - landed) (missed_by by)
failed_stamps by _ block n _ landed = stamps_from block n (missed_by by)

abbrev pub direct_stamps : Tag → Op → ℕ → Kind → ℕ → Done → List (ℕ × Stamp)
direct_stamps by op block kind n done = if done.failed then failed_stamps by op block n (is_mapped kind) done.landed else stamps_from block n (done_by by)

-- the stamps of an event that came about
abbrev pub stamps_by : ℕ → Event → Outcome → List (ℕ × Stamp)
stamps_by size (Fetch by from to) Finished = stamps_met size by from to
stamps_by size (Store by seen from to bytes) Finished = stamps_met size by from to
stamps_by size (StoreZeros by seen from to) Finished = stamps_met size by from to
stamps_by size (LendDirect by seen op block n) Finished = stamps_from block n (done_by by)
stamps_by size (DirectBack by op ticket block kind pages done) Finished = direct_stamps by op block kind (length pages) done
stamps_by size (PartBack by ticket block kind from to bytes done) Finished = direct_stamps by Write block kind 1 done
stamps_by size (DirectNow by block most) (Counted n) = stamps_from block n (done_by by)
stamps_by size (Wipe by block n) (Counted changed) = stamps_from block n (done_by by)
stamps_by size (DaxGet by seen from to) Finished = stamps_met size by from to
stamps_by size (DaxPut by seen from to bytes) (Took sectors) = stamps_met size by from to
stamps_by size (DaxZero by seen from to) Finished = stamps_met size by from to
stamps_by size _ _ = []

abbrev pub stamps_of : ℕ → Entry → List (ℕ × Stamp)
stamps_of size e = stamps_by size e.event e.outcome

-- the stamps that a history left, in order
abbrev pub stamps_in : ℕ → List Entry → List (ℕ × Stamp)
stamps_in size [] = []
stamps_in size (e ∷ history) = stamps_of size e ++ stamps_in size history
