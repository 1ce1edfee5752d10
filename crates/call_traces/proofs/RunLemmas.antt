-- The journals that a run leaves.
use Rattle.std.proofs.Common.{◌≡◌, ℕ, zero, suc, ◌+◌, ◌*◌, ◌-◌, ◌/◌, ◌%◌, ◌<◌, min, ◌^◌, List, [], ◌∷◌, ◌++◌, length, map, get_or, Some, refl, sym, ap, ◌∙◌, arith}
use Rattle.std.specs.Prelude.{slice_get}
use Rattle.std.proofs.lemmas.Option.{get_or_from_slice_get, none-some}
use Rattle.atomic_table.specs.Seated.{TableId}
use Rattle.iob_base.specs.DeviceBlock.{DeviceBlock}
use Rattle.iob_base.specs.Layout.{Layout}
use Rattle.iob_base.specs.declared.stamp.Stamp.{Stamp}
use Rattle.io_model.specs.declared.file.BlockEnd.{BlockEnd}
use Rattle.io_model.specs.declared.file.FileEnd.{FileEnd}
use Rattle.io_model.specs.declared.file.FileSpec.{FileSpec}
use Rattle.io_model.specs.declared.file.Unmounted.{Unmounted}
use Rattle.turn_cell.specs.Stakes.{total}
use Rattle.turn_cell.specs.Views.{CellView, SeatView}
use Rattle.range_core.specs.RangeView.{RangeView}
use Rattle.range_core.specs.declared.entry.Entry.{Entry}
use Rattle.range_core.specs.Stamps.{stamps_at}
use Rattle.range_core.specs.EntryStamps.{stamps_in}
use Rattle.mount_parts.specs.Ends.{SawAll}
use Rattle.mount_parts.specs.MountView.{HasBlock, HasFile, MountView, no_file, stripe_at}
use Rattle.mount_parts.specs.Pieces.{AreOpened, is_first_at}
use Rattle.mount_parts.specs.declared.file.FilePlace.{FilePlace}
use Rattle.mount_parts.proofs.Places.{all-at, map-there, there, within}
use Rattle.mini_fs.proofs.Layouts.{stripe-within}
use Rattle.call_traces.specs.Journals.{IsWholeAt, answer_weight, journal_of}
use Rattle.call_traces.specs.Orders.{is_stamp_of}
use Rattle.call_traces.specs.Runs.{IsRun, RunsHoldCalls, RunsWeighCalls, file_in}
use Rattle.call_traces.specs.SeatTraces.{PhasesInOrder, RanAt, all_calls}
use Rattle.call_traces.specs.Traces.{Traced}
use Rattle.call_traces.proofs.JournalLemmas.{all-answer, weigh-calls}
use Rattle.call_traces.proofs.SeatTraceLemmas.{phases-at}

-- a range was opened without stamps
opened-bare : (geometry : Layout) (cookie : ℕ) (pool : TableId) (share : ℕ) (ps : _) (os : List RangeView) → AreOpened geometry cookie pool share ps os → (k : ℕ) (o : RangeView) → slice_get os k ≡ Some o → o.log ≡ []
opened-bare geometry cookie pool share [] os are k o at = absurd (none-some o (ap (λ l. slice_get l k) (sym are) ∙ at))
opened-bare geometry cookie pool share (p ∷ ps) [] are k o at = absurd are
opened-bare geometry cookie pool share (p ∷ ps) (x ∷ os) (one, rest) zero o at =
    let same : x ≡ o = cc in
    ap (λ (r : RangeView). r.log) (sym same) ∙ ap (λ (r : RangeView). r.log) one.opening_is
opened-bare geometry cookie pool share (p ∷ ps) (x ∷ os) (one, rest) (suc k) o at = opened-bare geometry cookie pool (share - 1) ps os rest k o at

module _ (geometry : Layout) (cookie : ℕ) (sectors : List DeviceBlock) (files : List FileSpec) (phases : List (List (List Traced))) (u : Unmounted) (run : IsRun geometry cookie sectors files phases u) where
  -- What a run left of the journal of a block: the one that the history has which the last pass saw at the block's stripe, and this is what the calls made there, in order
  pub record LeftAt (k b : ℕ) (block : BlockEnd) : Type 0 where
    pub exists : HasFile run.mount (file_in k)
    pub has : HasBlock run.mount (file_in k) b
    pub before : SeatView Entry
    pub after : SeatView Entry
    pub first_at : slice_get run.first.stripes (stripe_at run.mount (file_in k) b) ≡ Some before
    pub last_at : slice_get run.last.stripes (stripe_at run.mount (file_in k) b) ≡ Some after
    pub whole : IsWholeAt before after
    pub ran : RanAt (stripe_at run.mount (file_in k) b) (all_calls phases) before after
    pub orders : PhasesInOrder (stripe_at run.mount (file_in k) b) phases
    pub journal_is : block.journal ≡ journal_of run.mount.geometry.block_size b after.seen

  pub left-at : (k b : ℕ) (file : FilePlace) (end : FileEnd) (block : BlockEnd) → slice_get run.mount.files k ≡ Some file → slice_get u.files k ≡ Some end → slice_get end.blocks b ≡ Some block → LeftAt k b block
  left-at k b file end block file_at end_at block_at =
      let m : MountView = run.mount in
      let place : get_or m.files k no_file ≡ file = get_or_from_slice_get m.files k file no_file file_at in
      let exists : HasFile m (file_in k) = within m.files k file file_at in
      let ends = run.left.files k file end file_at end_at in
      let below : b < file.blocks = (let w : b < length end.blocks = within end.blocks b block block_at in let c : length end.blocks ≡ file.blocks = ends.count in omega (arith, w, c)) in
      let has : HasBlock m (file_in k) b = (let e : (get_or m.files k no_file).blocks ≡ file.blocks = ap (λ (f : FilePlace). f.blocks) place in omega (arith, below, e)) in
      let stripe : stripe_at m (file_in k) b ≡ file.stripe + b / 64 = ap (λ (f : FilePlace). f.stripe + b / 64) place in
      let cell = there m.stripes (stripe_at m (file_in k) b) (stripe-within m (file_in k) b run.laid has) in
      let cell_at : slice_get m.stripes (file.stripe + b / 64) ≡ Some cell.0 = ap (slice_get m.stripes) (sym stripe) ∙ cell.1 in
      let first_at : slice_get run.first.stripes (stripe_at m (file_in k) b) ≡ Some (is_first_at cell.0) =
      ap (λ l. slice_get l (stripe_at m (file_in k) b)) run.started.stripe_seats ∙ map-there is_first_at m.stripes (stripe_at m (file_in k) b) cell.0 cell.1 in
      let last = phases-at m phases run.first run.last run.did (stripe_at m (file_in k) b) (is_first_at cell.0) first_at in
      let last_at : slice_get run.last.stripes (file.stripe + b / 64) ≡ Some last.0 = ap (slice_get run.last.stripes) (sym stripe) ∙ last.1 in
      let saw : SawAll last.0 = all-at SawAll run.last.stripes (file.stripe + b / 64) last.0 run.left.saw last_at in
      let is = run.laid.stripes k file (b / 64) cell.0 file_at (omega (arith, below)) cell_at in
      let was = there cell.0.opening.cells (b % 64) (let l : length cell.0.opening.cells ≡ min 64 (file.blocks - b / 64 * 64) = is.blocks in omega (arith, l, below)) in
      let bare : cell.0.opening.log ≡ [] =
      opened-bare geometry cookie m.pool.cell (2 ^ 63) run.started.stripes.pieces (map (λ (c : CellView RangeView). c.opening) m.stripes) run.started.stripes.opened (file.stripe + b / 64) cell.0.opening
      (map-there (λ (c : CellView RangeView). c.opening) m.stripes (file.stripe + b / 64) cell.0 cell_at) in
      let left = ends.blocks b cell.0 last.0 was.0 block cell_at last_at was.1 block_at in
      record {
        exists = exists;
        has = has;
        before = is_first_at cell.0;
        after = last.0;
        first_at = first_at;
        last_at = last.1;
        whole = record { seen = refl; made = refl; once = saw.once };
        ran = last.2;
        orders = last.3;
        journal_is = left.journal_is ∙ ap (λ l. stamps_at b (l ++ stamps_in m.geometry.block_size last.0.seen)) bare;
      }

  pub run-calls : (k b : ℕ) (file : FilePlace) (end : FileEnd) (block : BlockEnd) → slice_get run.mount.files k ≡ Some file → slice_get u.files k ≡ Some end → slice_get end.blocks b ≡ Some block
      → (f : Stamp → ℕ) → total f block.journal ≡ total (answer_weight run.mount.geometry.block_size (file_in k) b f) (all_calls phases)
  run-calls k b file end block file_at end_at block_at f =
      let left = left-at k b file end block file_at end_at block_at in
      ap (total f) left.journal_is ∙ weigh-calls run.mount run.laid run.some phases run.first run.last run.did (file_in k) b left.exists left.has left.before left.after left.first_at left.last_at left.whole f

pub runs-weigh-calls : RunsWeighCalls
runs-weigh-calls geometry cookie sectors files phases u run = run-calls geometry cookie sectors files phases u run

pub runs-hold-calls : RunsHoldCalls
runs-hold-calls geometry cookie sectors files phases u run k b file end block file_at end_at block_at n =
    run-calls geometry cookie sectors files phases u run k b file end block file_at end_at block_at (is_stamp_of n) ∙ all-answer run.mount.geometry.block_size (file_in k) b n (all_calls phases)
