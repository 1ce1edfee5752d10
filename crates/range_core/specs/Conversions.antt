-- What makes a block mapped.
use Rattle.std.specs.Prelude.{◌≡◌, ℕ, Bool, true, false, ◌&&◌, not, length}
use Rattle.iob_base.specs.declared.stamp.Op.TheVariants.{Write}
use Rattle.range_core.specs.BlockStates.{BlockState, state_after}
use Rattle.range_core.specs.Kinds.{is_mapped}
use Rattle.range_core.specs.Spots.{in_run, is_met}
use Rattle.range_core.specs.declared.entry.Entry.{Entry}
use Rattle.range_core.specs.declared.entry.Event.{Event}
use Rattle.range_core.specs.declared.entry.Event.TheVariants.{DaxPut, DirectBack, PartBack, WrittenBack}
use Rattle.range_core.specs.declared.entry.Outcome.{Outcome}
use Rattle.range_core.specs.declared.entry.Outcome.TheVariants.{Counted, Finished, Took}

-- A block is written to the device: its page in the cache or a caller's own came back from a write that did not fail, or bytes went straight to its sector, which they do once a judgement has passed
abbrev pub writes_out : ℕ → ℕ → Event → Outcome → Bool
writes_out size b (WrittenBack ticket block kind n done) (Counted m) = in_run block n b && not done.failed
writes_out size b (DirectBack by Write ticket block kind pages done) Finished = in_run block (length pages) b && not done.failed
writes_out size b (PartBack by ticket block kind from to bytes done) Finished = in_run block 1 b && not done.failed
writes_out size b (DaxPut by seen from to bytes) (Took sectors) = is_met size from to b
writes_out size b _ _ = false

-- a block becomes mapped only where it is written to the device
abbrev pub IsConverted : ℕ → ℕ → BlockState → Entry → Type 0
IsConverted size b s e = is_mapped s.kind ≡ false → is_mapped (state_after size b s e).kind ≡ true → writes_out size b e.event e.outcome ≡ true

-- whatever the entry is
abbrev pub OnlyWritesMap : Type 0
OnlyWritesMap = (size b : ℕ) (s : BlockState) (e : Entry) → IsConverted size b s e
