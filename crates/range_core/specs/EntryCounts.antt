-- What of the entries of a history is counted.
use Rattle.std.specs.Prelude.{ℕ, Bool, true, false, ◌&&◌, not, nat_lt, ◌==◌, length, if◌then◌else◌}
use Rattle.iob_base.specs.declared.stamp.Op.{Op}
use Rattle.iob_base.specs.declared.stamp.Op.TheVariants.{Write}
use Rattle.range_core.specs.Kinds.{is_unwritten, is_mapped}
use Rattle.range_core.specs.declared.entry.Entry.{Entry}
use Rattle.range_core.specs.declared.entry.Event.{Event}
use Rattle.range_core.specs.declared.entry.Event.TheVariants.{Reserve, Unreserve, Attach, Preallocate, WrittenBack, DirectBack, PartBack, Wipe, DaxPut}
use Rattle.range_core.specs.declared.entry.Outcome.{Outcome}
use Rattle.range_core.specs.declared.entry.Outcome.TheVariants.{Sampled, Counted, Took, Lending, Finished}

abbrev pub one_where : Bool → ℕ
one_where t = if t then 1 else 0

abbrev pub is_write_back : Op → Bool → Bool
is_write_back Write false = true
is_write_back _ _ = false

-- the event changed the kind of at least one block
abbrev pub has_changed : Event → Outcome → Bool
has_changed (Reserve seen blocks) (Sampled sample) = true
has_changed (Unreserve block blocks) (Counted n) = nat_lt 0 n
has_changed (Attach block blocks) (Took sectors) = nat_lt 0 (length sectors)
has_changed (Preallocate block blocks) (Took sectors) = nat_lt 0 (length sectors)
has_changed (WrittenBack ticket block kind n done) (Counted m) = is_unwritten kind && not done.failed
has_changed (DirectBack by op ticket block kind pages done) Finished = is_unwritten kind && is_write_back op done.failed
has_changed (PartBack by ticket block kind from to bytes done) Finished = is_unwritten kind && is_write_back Write done.failed
has_changed (Wipe by block blocks) (Counted n) = nat_lt 0 n
has_changed (DaxPut by seen from to bytes) (Took sectors) = not (is_mapped seen.extent.kind)
has_changed _ _ = false

abbrev pub changes : Entry → ℕ
changes e = one_where (has_changed e.event e.outcome)

-- the event lent blocks
abbrev pub has_lent : Outcome → Bool
has_lent (Lending ticket n) = true
has_lent _ = false

abbrev pub lendings : Entry → ℕ
lendings e = one_where (has_lent e.outcome)

-- a writeback that failed came back
abbrev pub has_failed_back : Event → Outcome → Bool
has_failed_back (WrittenBack ticket block kind n done) (Counted m) = done.failed
has_failed_back _ _ = false

abbrev pub failures : Entry → ℕ
failures e = one_where (has_failed_back e.event e.outcome)

-- the seat with this caller number made it
abbrev pub made_as : ℕ → Entry → ℕ
made_as caller e = one_where (e.caller == caller)
