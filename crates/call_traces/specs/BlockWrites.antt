-- What was written of a block that is mapped.
use Rattle.std.specs.Prelude.{◌≡◌, ℕ, ◌+◌, ◌<◌, Bool, true, false, ◌&&◌, ◌||◌, not, is_some, None, List, All, slice_get}
use Rattle.std.specs.List.{fold}
use Rattle.io_model.specs.Contents.{extents_of}
use Rattle.io_model.specs.Conversion.{has_good_writeback, is_converted}
use Rattle.io_model.specs.Kinds.{kind_at, mapped_number}
use Rattle.io_model.specs.Ranges.{ranged_calls}
use Rattle.io_model.specs.declared.run.Run.{Run}
use Rattle.io_model.specs.declared.script.Script.{Script}
use Rattle.turn_cell.specs.Stakes.{total}
use Rattle.range_core.specs.BlockStates.{BlockState, states_replayed}
use Rattle.range_core.specs.Conversions.{writes_out}
use Rattle.range_core.specs.EntryCounts.{failures}
use Rattle.range_core.specs.Happened.{lawful_from}
use Rattle.range_core.specs.Kinds.{is_mapped}
use Rattle.range_core.specs.Lasting.{wipes}
use Rattle.range_core.specs.declared.entry.Entry.{Entry}
use Rattle.call_traces.specs.BlockCalls.{IsOfCalls, returns, writebacks}
use Rattle.call_traces.specs.Journals.{journal_of}

-- a block counts as written to the device from the write that did it until a wipe
abbrev pub put_after : ℕ → ℕ → Bool → Entry → Bool
put_after size b before e = not (wipes b e.event e.outcome) && (writes_out size b e.event e.outcome || before)

abbrev pub is_put : ℕ → ℕ → Bool → List Entry → Bool
is_put size b before history = fold (put_after size b) before history

-- A block that is mapped after a history was mapped at first and never wiped, or since it was wiped last it was written to the device by a write that did not fail
abbrev pub MappedWasPut : Type 0
MappedWasPut = (size b : ℕ) (s : BlockState) (history : List Entry) → is_mapped (states_replayed size b s history).kind ≡ true → is_put size b (is_mapped s.kind) history ≡ true

-- the writebacks that came back are those that failed and those that did not
abbrev pub ReturnsAddUp : Type 0
ReturnsAddUp = (history : List Entry) → total returns history ≡ total failures history + total writebacks history

-- Of a block that was clean and at home, with the kind that its script gives it: where its history is the work of the calls of a run in which a writeback that did not fail shows, and it is mapped after it, the run shows that it was converted
abbrev pub CallsConvert : Type 0
CallsConvert = (script : Script) (run : Run) (f b : ℕ) (s : BlockState) (history : List Entry) → lawful_from script.geometry.block_size b s history ≡ true → s.dirty ≡ false → s.away ≡ None
    → s.kind ≡ kind_at (extents_of (slice_get script.files f)) b → All (IsOfCalls script.geometry.block_size f b (ranged_calls script run)) history
    → (0 < total writebacks history → has_good_writeback script run f ≡ true)
    → (not (is_some (mapped_number (states_replayed script.geometry.block_size b s history).kind)) || is_converted script run f b (journal_of script.geometry.block_size b history)) ≡ true
