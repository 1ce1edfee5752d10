-- What of a block lasts through a history that can have happened.
use Rattle.std.specs.Prelude.{◌≡◌, ℕ, Bool, true, false, ◌&&◌, ◌||◌, not, None, List, [], ◌∷◌, length}
use Rattle.std.specs.List.{fold}
use Rattle.iob_base.specs.declared.stamp.Op.TheVariants.{Write}
use Rattle.io_model.specs.Kinds.{device_number}
use Rattle.io_model.specs.declared.file.Kind.{Kind}
use Rattle.range_core.specs.BlockStates.{BlockState, states_replayed}
use Rattle.range_core.specs.Happened.{lawful_from}
use Rattle.range_core.specs.Kinds.{has_space, is_mapped}
use Rattle.range_core.specs.Spots.{in_run, is_met}
use Rattle.range_core.specs.declared.entry.Entry.{Entry}
use Rattle.range_core.specs.declared.entry.Event.{Event}
use Rattle.range_core.specs.declared.entry.Event.TheVariants.{Store, DirectBack, PartBack, Wipe, DaxPut}
use Rattle.range_core.specs.declared.entry.Outcome.{Outcome}
use Rattle.range_core.specs.declared.entry.Outcome.TheVariants.{Counted, Took, Finished}

-- block b is wiped
abbrev pub wipes : ℕ → Event → Outcome → Bool
wipes b (Wipe by block blocks) (Counted n) = in_run block blocks b
wipes b _ _ = false

-- a call writes to block b: bytes were stored in its page, a caller's own page came back from a write that did not fail, or bytes went straight to its sector
abbrev pub writes_to : ℕ → ℕ → Event → Outcome → Bool
writes_to size b (Store by seen from to bytes) Finished = is_met size from to b
writes_to size b (DirectBack by Write ticket block kind pages done) Finished = in_run block (length pages) b && not done.failed
writes_to size b (PartBack by ticket block kind from to bytes done) Finished = in_run block 1 b && not done.failed
writes_to size b (DaxPut by seen from to bytes) (Took sectors) = is_met size from to b
writes_to size b _ _ = false

-- a block counts as written from a call that writes to it until a wipe
abbrev pub written_after : ℕ → ℕ → Bool → Entry → Bool
written_after size b before e = not (wipes b e.event e.outcome) && (writes_to size b e.event e.outcome || before)

abbrev pub is_written : ℕ → ℕ → Bool → List Entry → Bool
is_written size b before history = fold (written_after size b) before history

-- Of a block that was clean and at home: where it is mapped after a history, it was mapped at first and never wiped, or a call wrote to it since it was wiped last
abbrev pub MappedWasWritten : Type 0
MappedWasWritten = (size b : ℕ) (s : BlockState) (history : List Entry) → lawful_from size b s history ≡ true → s.dirty ≡ false → s.away ≡ None
    → is_mapped (states_replayed size b s history).kind ≡ true → is_written size b (is_mapped s.kind) history ≡ true

abbrev pub is_unwiped : ℕ → List Entry → Bool
is_unwiped b [] = true
is_unwiped b (e ∷ history) = not (wipes b e.event e.outcome) && is_unwiped b history

-- a block keeps its sector, and is mapped where it was
pub record KeepsSector (before after : Kind) : Type 0 where
  pub number : device_number after ≡ device_number before
  pub mapped : is_mapped before ≡ true → is_mapped after ≡ true

-- A block that has a sector keeps it until it is wiped
abbrev pub SectorsLast : Type 0
SectorsLast = (size b : ℕ) (s : BlockState) (history : List Entry) → lawful_from size b s history ≡ true → is_unwiped b history ≡ true → has_space s.kind ≡ true → KeepsSector s.kind (states_replayed size b s history).kind
