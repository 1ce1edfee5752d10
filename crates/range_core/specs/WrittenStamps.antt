-- The stamps that the calls of an entry leave, block by block.
use Rattle.std.specs.Prelude.{◌≡◌, ℕ, ◌-◌, ◌<◌, ◌≤◌, nat_lt, Bool, ◌&&◌, List, [], ◌∷◌, length, if◌then◌else◌}
use Rattle.iob_base.specs.declared.stamp.Op.TheVariants.{Write}
use Rattle.iob_base.specs.declared.stamp.Stamp.{Stamp}
use Rattle.iob_base.specs.declared.stamp.Tag.{Tag}
use Rattle.fault_device.specs.declared.lane.Done.{Done}
use Rattle.io_model.specs.declared.file.Kind.{Kind}
use Rattle.range_core.specs.EntryStamps.{landed_by, missed_by, stamps_of}
use Rattle.range_core.specs.Kinds.{is_mapped}
use Rattle.range_core.specs.Spots.{in_run, is_met}
use Rattle.range_core.specs.Stamps.{done_by, stamps_at}
use Rattle.range_core.specs.declared.entry.Entry.{Entry}
use Rattle.range_core.specs.declared.entry.Event.{Event}
use Rattle.range_core.specs.declared.entry.Event.TheVariants.{Store, StoreZeros, DirectBack, PartBack, Wipe, DaxPut, DaxZero}
use Rattle.range_core.specs.declared.entry.Outcome.{Outcome}
use Rattle.range_core.specs.declared.entry.Outcome.TheVariants.{Counted, Took, Finished}

-- exactly one stamp where the call met the block, and none elsewhere
abbrev pub one_where_met : Bool → Stamp → List Stamp
one_where_met met stamp = if met then stamp ∷ [] else []

-- the stamp on the i-th block of a direct write that came back: done where it did not fail; where it failed, landed on a mapped block up to where it came, and else missed
abbrev pub written_stamp : Tag → Kind → Done → ℕ → Stamp
written_stamp by kind done i = if done.failed then (if is_mapped kind && nat_lt i done.landed then landed_by by else missed_by by) else done_by by

-- what a write that came about stamps: each block that has some of its bytes, or is one of its blocks, once, with the mark that tells what became of it there
abbrev pub StampsOfWrite : ℕ → ℕ → Event → Outcome → List Stamp → Type 0
StampsOfWrite size b (Store by seen from to bytes) Finished left = from < to → left ≡ one_where_met (is_met size from to b) (done_by by)
StampsOfWrite size b (StoreZeros by seen from to) Finished left = from < to → left ≡ one_where_met (is_met size from to b) (done_by by)
StampsOfWrite size b (DirectBack by Write ticket block kind pages done) Finished left = done.landed ≤ length pages → left ≡ one_where_met (in_run block (length pages) b) (written_stamp by kind done (b - block))
StampsOfWrite size b (PartBack by ticket block kind from to bytes done) Finished left = done.landed ≤ 1 → left ≡ one_where_met (in_run block 1 b) (written_stamp by kind done (b - block))
StampsOfWrite size b (Wipe by block n) (Counted changed) left = left ≡ one_where_met (in_run block n b) (done_by by)
StampsOfWrite size b (DaxPut by seen from to bytes) (Took sectors) left = from < to → left ≡ one_where_met (is_met size from to b) (done_by by)
StampsOfWrite size b (DaxZero by seen from to) Finished left = from < to → left ≡ one_where_met (is_met size from to b) (done_by by)
StampsOfWrite size b _ _ left = Unit {0}

-- in each entry of a write that came about, each block that it answered has its stamp, and no other block has one
abbrev pub WritesAreStamped : Type 0
WritesAreStamped = (size b : ℕ) (e : Entry) → 0 < size → StampsOfWrite size b e.event e.outcome (stamps_at b (stamps_of size e))
