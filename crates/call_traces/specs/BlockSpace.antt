-- How a block comes by space, and how it keeps it.
use Rattle.std.specs.Prelude.{◌≡◌, ℕ, Bool, true, false, ◌&&◌, ◌||◌, not, None, List, ◌∷◌, ◌++◌, All}
use Rattle.std.specs.List.{fold, list_any}
use Rattle.io_model.specs.Conversion.{is_wipe}
use Rattle.io_model.specs.Ranges.{Ranged}
use Rattle.io_model.specs.Space.{keeps_space}
use Rattle.range_core.specs.BlockStates.{BlockState, states_replayed}
use Rattle.range_core.specs.Happened.{lawful_from}
use Rattle.range_core.specs.Kinds.{has_space, is_hole}
use Rattle.range_core.specs.Lasting.{is_unwiped, wipes}
use Rattle.range_core.specs.declared.entry.Entry.{Entry}
use Rattle.call_traces.specs.BlockCalls.{IsOfCalls, gives_space, preallocates}
use Rattle.call_traces.specs.Journals.{journal_of}

-- a block counts as given space from an allocation of its run, or a call that writes to it, until a wipe
abbrev pub given_after : ℕ → ℕ → Bool → Entry → Bool
given_after size b before e = not (wipes b e.event e.outcome) && (gives_space size b e.event e.outcome || before)

abbrev pub is_given : ℕ → ℕ → Bool → List Entry → Bool
is_given size b before history = fold (given_after size b) before history

-- Of a block that was clean and at home: where it has space after a history, it had space at first and was never wiped, or since it was wiped last its run was allocated or a call wrote to it
abbrev pub SpaceWasGiven : Type 0
SpaceWasGiven = (size b : ℕ) (s : BlockState) (history : List Entry) → lawful_from size b s history ≡ true → s.dirty ≡ false → s.away ≡ None
    → has_space (states_replayed size b s history).kind ≡ true → is_given size b (has_space s.kind) history ≡ true

-- and where it is dirty after it, it is no hole
abbrev pub DirtyIsNoHole : Type 0
DirtyIsNoHole = (size b : ℕ) (s : BlockState) (history : List Entry) → lawful_from size b s history ≡ true → s.dirty ≡ false → s.away ≡ None
    → (states_replayed size b s history).dirty ≡ true → is_hole (states_replayed size b s history).kind ≡ false

-- and where its history is the work of calls, it keeps its space as far as they do not give it back, and has other space only by them
abbrev pub CallsKeepSpace : Type 0
CallsKeepSpace = (size f b : ℕ) (calls : List Ranged) (s : BlockState) (history : List Entry) → lawful_from size b s history ≡ true → s.dirty ≡ false → s.away ≡ None
    → All (IsOfCalls size f b calls) history → keeps_space size calls f b s.kind (states_replayed size b s history).kind (journal_of size b history) ≡ true

-- A block whose run was allocated has space after the history, unless it was wiped by an entry behind that one
abbrev pub AllocatedIsKept : Type 0
AllocatedIsKept = (size b : ℕ) (s : BlockState) (earlier : List Entry) (e : Entry) (later : List Entry) → lawful_from size b s (earlier ++ e ∷ later) ≡ true
    → preallocates b e.event e.outcome ≡ true → is_unwiped b later ≡ true → has_space (states_replayed size b s (earlier ++ e ∷ later)).kind ≡ true

-- that is, unless a call that gives it back left its stamp behind that entry
abbrev pub CallsKeepAllocated : Type 0
CallsKeepAllocated = (size f b : ℕ) (calls : List Ranged) (s : BlockState) (earlier : List Entry) (e : Entry) (later : List Entry) → lawful_from size b s (earlier ++ e ∷ later) ≡ true
    → preallocates b e.event e.outcome ≡ true → All (IsOfCalls size f b calls) later
    → (has_space (states_replayed size b s (earlier ++ e ∷ later)).kind || list_any (is_wipe size calls b) (journal_of size b later)) ≡ true
