-- What the calls of a run leave of the bytes of a block.
use Rattle.std.specs.Prelude.{◌≡◌, ℕ, List, Some, All, length, slice_get}
use Rattle.std.specs.List.{fold}
use Rattle.iob_base.specs.DeviceBlock.{DeviceBlock}
use Rattle.iob_base.specs.Layout.{Layout}
use Rattle.iob_base.specs.declared.stamp.FileId.{FileId}
use Rattle.io_model.specs.Contents.{Content}
use Rattle.io_model.specs.Effects.{effect}
use Rattle.io_model.specs.Finals.{final_content}
use Rattle.io_model.specs.Kinds.{kind_at, mapped_number}
use Rattle.io_model.specs.Ranges.{Ranged}
use Rattle.io_model.specs.declared.file.BlockEnd.{BlockEnd}
use Rattle.io_model.specs.declared.file.FileEnd.{FileEnd}
use Rattle.io_model.specs.declared.file.FileSpec.{FileSpec}
use Rattle.io_model.specs.declared.file.Unmounted.{Unmounted}
use Rattle.turn_cell.specs.Stakes.{Begins}
use Rattle.turn_cell.specs.Views.{SeatView}
use Rattle.range_core.specs.BlockContents.{replayed}
use Rattle.range_core.specs.declared.entry.Entry.{Entry}
use Rattle.mount_parts.specs.MountView.{HasBlock, IsLaidOut, MountView, stripe_at}
use Rattle.mount_parts.specs.OpeningContents.{first_content}
use Rattle.mini_fs.specs.Acts.{made_in}
use Rattle.mini_fs.specs.PassView.{PassView}
use Rattle.call_traces.specs.Changes.{ChangesAsTold}
use Rattle.call_traces.specs.Journals.{IsWholeAt, journal_of}
use Rattle.call_traces.specs.Runs.{IsRun}
use Rattle.call_traces.specs.SeatTraces.{all_calls}
use Rattle.call_traces.specs.ToldCalls.{AreTold}
use Rattle.call_traces.specs.Traces.{IsTraced, Phases, Traced}

-- what a call made at a stripe changes a block as its stamps there say
abbrev pub IsToldAt : ℕ → List Ranged → ℕ → ℕ → Traced → Type 0
IsToldAt size calls b stripe c = All (ChangesAsTold size calls b) (made_in stripe c.acts)

-- Where all entries of a call at this file change its blocks as told, so do those that it made at the stripe of one of them; and a call at another file made none there
abbrev pub TracedIsTold : Type 0
TracedIsTold = (m : MountView) → IsLaidOut m → (file : FileId) (b : ℕ) → HasBlock m file b → (calls : List Ranged) (c : Traced) → IsTraced m c
    → (c.file.0 ≡ file.0 → AreTold m.geometry.block_size calls b c.acts) → IsToldAt m.geometry.block_size calls b (stripe_at m file b) c

-- Where each call that a run made at a stripe is told, every beginning of the history there leaves of the block's bytes what the effects of its stamps leave, in their order
abbrev pub CallsTellContent : Type 0
CallsTellContent = (m : MountView) (phases : List (List (List Traced))) (p q : PassView) → Phases m phases p q → (stripe : ℕ) (s t : SeatView Entry)
    → slice_get p.stripes stripe ≡ Some s → slice_get q.stripes stripe ≡ Some t → IsWholeAt s t
    → (size : ℕ) (calls : List Ranged) (b : ℕ) → All (IsToldAt size calls b stripe) (all_calls phases)
    → (history : List Entry) → Begins history t.seen → (opening : Content) → length opening ≡ size
    → replayed size b opening history ≡ fold (effect size calls b) opening (journal_of size b history)

-- Where each call of a run at a file changes a block of it as told, the block's bytes at the end are what the effects of the stamps in its journal leave of those that it had at first
abbrev pub RunsTellContent : Type 0
RunsTellContent = (geometry : Layout) (cookie : ℕ) (sectors : List DeviceBlock) (files : List FileSpec) (phases : List (List (List Traced))) (u : Unmounted) (run : IsRun geometry cookie sectors files phases u)
    (k b : ℕ) (spec : FileSpec) (end : FileEnd) (block : BlockEnd) → slice_get files k ≡ Some spec → slice_get u.files k ≡ Some end → slice_get end.blocks b ≡ Some block
    → (calls : List Ranged) → All (λ c. c.file.0 ≡ k → AreTold geometry.block_size calls b c.acts) (all_calls phases) → length (first_content geometry.block_size sectors spec b) ≡ geometry.block_size
    → final_content geometry.block_size (mapped_number (kind_at end.extents b)) block.sector block.dirty ≡ fold (effect geometry.block_size calls b) (first_content geometry.block_size sectors spec b) block.journal
