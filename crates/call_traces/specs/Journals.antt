-- The journal of a block, and what the calls of a run have in it.
use Rattle.std.specs.Prelude.{◌≡◌, ℕ, ◌<◌, ◌==◌, ◌&&◌, if◌then◌else◌, List, [], Some, slice_get}
use Rattle.iob_base.specs.declared.stamp.FileId.{FileId}
use Rattle.iob_base.specs.declared.stamp.Stamp.{Stamp}
use Rattle.io_model.specs.Parts.{meets}
use Rattle.turn_cell.specs.Stakes.{total}
use Rattle.turn_cell.specs.Views.{SeatView}
use Rattle.range_core.specs.EntryCounts.{one_where}
use Rattle.range_core.specs.EntryStamps.{stamps_in, stamps_of}
use Rattle.range_core.specs.Stamps.{done_by, stamps_at}
use Rattle.range_core.specs.declared.entry.Entry.{Entry}
use Rattle.mount_parts.specs.MountView.{HasBlock, HasFile, IsLaidOut, MountView, stripe_at}
use Rattle.mini_fs.specs.CallActs.{tag_of}
use Rattle.mini_fs.specs.PassView.{PassView}
use Rattle.call_traces.specs.Orders.{StandsBefore, times_stamped}
use Rattle.call_traces.specs.SeatTraces.{ComesBefore, IsWithin, all_calls}
use Rattle.call_traces.specs.Traces.{IsTraced, Phases, Traced}

-- the journal that a history leaves of a block
abbrev pub journal_of : ℕ → ℕ → List Entry → List Stamp
journal_of size b history = stamps_at b (stamps_in size history)

-- what the stamps weigh that an entry left on a block, and how many of a call it left there
abbrev pub weight_left : ℕ → ℕ → (Stamp → ℕ) → Entry → ℕ
weight_left size b f e = total f (stamps_at b (stamps_of size e))

abbrev pub stamps_left : ℕ → ℕ → ℕ → Entry → ℕ
stamps_left size b n e = times_stamped n (stamps_at b (stamps_of size e))

-- 1 for a call of this number that answered a block of a file
abbrev pub answers : ℕ → FileId → ℕ → ℕ → Traced → ℕ
answers size file b n c = one_where ((c.number == n) && ((c.file.0 == file.0) && meets size c.answered b))

-- what a call's stamp weighs where it answered a block of a file
abbrev pub answer_weight : ℕ → FileId → ℕ → (Stamp → ℕ) → Traced → ℕ
answer_weight size file b f c = if (c.file.0 == file.0) && meets size c.answered b then f (done_by (tag_of c.before c.number)) else 0

-- A seat has seen a whole history and made all of it, from one that had seen and made nothing: the history that calls left at the stripe of a block
pub record IsWholeAt (s t : SeatView Entry) : Type 0 where
  pub seen : s.seen ≡ []
  pub made : s.made ≡ []
  pub once : (f : Entry → ℕ) → total f t.seen ≡ total f t.made

-- At the end of all phases the journal of each block weighs what the stamps of the calls weigh that answered the block, however stamps are weighed
abbrev pub JournalsWeighCalls : Type 0
JournalsWeighCalls = (m : MountView) → IsLaidOut m → 0 < m.geometry.block_size → (phases : List (List (List Traced))) (p q : PassView) → Phases m phases p q → (file : FileId) (b : ℕ) → HasFile m file → HasBlock m file b
    → (s t : SeatView Entry) → slice_get p.stripes (stripe_at m file b) ≡ Some s → slice_get q.stripes (stripe_at m file b) ≡ Some t → IsWholeAt s t
    → (f : Stamp → ℕ) → total f (journal_of m.geometry.block_size b t.seen) ≡ total (answer_weight m.geometry.block_size file b f) (all_calls phases)

-- So it has as many stamps of a number as calls of that number answered the block
abbrev pub JournalsHoldCalls : Type 0
JournalsHoldCalls = (m : MountView) → IsLaidOut m → 0 < m.geometry.block_size → (phases : List (List (List Traced))) (p q : PassView) → Phases m phases p q → (file : FileId) (b : ℕ) → HasFile m file → HasBlock m file b
    → (s t : SeatView Entry) → slice_get p.stripes (stripe_at m file b) ≡ Some s → slice_get q.stripes (stripe_at m file b) ≡ Some t → IsWholeAt s t
    → (n : ℕ) → times_stamped n (journal_of m.geometry.block_size b t.seen) ≡ total (answers m.geometry.block_size file b n) (all_calls phases)

-- And where one call comes before another at the stripe of a block, and each is the only one of its number, its stamps stand before the other's in the journal of the block
abbrev pub JournalsKeepOrder : Type 0
JournalsKeepOrder = (m : MountView) → IsLaidOut m → 0 < m.geometry.block_size → (file : FileId) (b : ℕ) → HasFile m file → HasBlock m file b → (s t : SeatView Entry) (c later : Traced)
    → IsTraced m c → IsTraced m later → IsWithin (stripe_at m file b) s t c → IsWithin (stripe_at m file b) s t later → ComesBefore (stripe_at m file b) c later
    → times_stamped c.number (journal_of m.geometry.block_size b t.seen) ≡ answers m.geometry.block_size file b c.number c
    → times_stamped later.number (journal_of m.geometry.block_size b t.seen) ≡ answers m.geometry.block_size file b later.number later
    → StandsBefore c.number later.number (journal_of m.geometry.block_size b t.seen)
