-- What a run shows of each of its blocks.
use Rattle.std.proofs.Common.{◌≡◌, ℕ, ◌+◌, ◌*◌, ◌-◌, ◌/◌, ◌%◌, ◌<◌, min, Bool, true, List, [], length, map, get_or, Some, sym, ap, subst, ◌∙◌, arith}
use Rattle.std.specs.Prelude.{◌||◌, is_some, not, slice_get}
use Rattle.std.proofs.lemmas.Option.{get_or_from_slice_get}
use Rattle.iob_base.specs.DeviceBlock.{DeviceBlock}
use Rattle.iob_base.specs.Layout.{Layout}
use Rattle.io_model.specs.Contents.{extents_of}
use Rattle.io_model.specs.Conversion.{is_converted}
use Rattle.io_model.specs.Kinds.{kind_at, mapped_number}
use Rattle.io_model.specs.Lists.{each_from}
use Rattle.io_model.specs.Ranges.{ranged_calls}
use Rattle.io_model.specs.Space.{keeps_block}
use Rattle.io_model.specs.declared.file.BlockEnd.{BlockEnd}
use Rattle.io_model.specs.declared.file.FileEnd.{FileEnd}
use Rattle.io_model.specs.declared.file.FileSpec.{FileSpec}
use Rattle.io_model.specs.declared.run.Run.{Run}
use Rattle.io_model.specs.declared.script.Script.{Script}
use Rattle.turn_cell.specs.Stakes.{total}
use Rattle.turn_cell.specs.Views.{CellView}
use Rattle.range_core.specs.BlockStates.{state_of}
use Rattle.range_core.specs.Happened.{lawful_from}
use Rattle.range_core.specs.RangeView.{RangeView}
use Rattle.range_core.specs.declared.cell.Cell.{Cell}
use Rattle.range_core.specs.declared.entry.Entry.{Entry}
use Rattle.mount_parts.specs.Ends.{EndsBlock}
use Rattle.mount_parts.specs.FilePlaces.{places_from}
use Rattle.mount_parts.specs.MountView.{HasBlock, MountView, no_file, stripe_at}
use Rattle.mount_parts.specs.declared.file.FilePlace.{FilePlace}
use Rattle.mount_parts.proofs.Places.{map-there, there, within}
use Rattle.mini_fs.proofs.Layouts.{stripe-within}
use Rattle.call_traces.specs.BlockCalls.{strays, writebacks}
use Rattle.call_traces.specs.BlockEnds.{RanOn}
use Rattle.call_traces.specs.RunBlocks.{CallsStrayNot, IsOpened, RunsConvert, RunsKeepSpace, WritebacksShow}
use Rattle.call_traces.specs.Runs.{IsRun, file_in}
use Rattle.call_traces.specs.SeatTraces.{all_calls, own_weight}
use Rattle.call_traces.specs.Traces.{Traced}
use Rattle.call_traces.proofs.EndLemmas.{ends_convert, ends_keep_space}
use Rattle.call_traces.proofs.OneCallLemmas.{none_strays}
use Rattle.call_traces.proofs.OpenedBlocks.{opened, place-of}
use Rattle.call_traces.proofs.RunLemmas.{LeftAt, left-at}
use Rattle.call_traces.proofs.TestLemmas.{each-from}

-- a test that holds of each block of each file, with what the file ends as, holds of all
each-end : (test : ℕ → FileEnd → ℕ → BlockEnd → Bool) (files : List FileEnd) → ((f b : ℕ) (end : FileEnd) (block : BlockEnd) → slice_get files f ≡ Some end → slice_get end.blocks b ≡ Some block → test f end b block ≡ true)
    → each_from (λ f end. each_from (test f end) 0 end.blocks) 0 files ≡ true
each-end test files holds =
    each-from (λ f end. each_from (test f end) 0 end.blocks) 0 files (λ f end at.
    each-from (test (0 + f) end) 0 end.blocks (λ b block here. (let e : 0 + f ≡ f = omega arith in let g : 0 + b ≡ b = omega arith in ap (λ k. test k end (0 + b) block) e ∙ ap (λ k. test f end k block) g) ∙ holds f b end block at here))

module _ (geometry : Layout) (cookie : ℕ) (sectors : List DeviceBlock) (script : Script) (run : Run) (phases : List (List (List Traced))) (did : IsRun geometry cookie sectors script.files phases run.ends)
    (sized : did.mount.geometry.block_size ≡ script.geometry.block_size) (works : CallsStrayNot script run (all_calls phases) did.mount) where
  -- The cell of a block and the one that it was opened with, and what the last pass saw at its stripe, by which the block ends so
  record CellRan (f b : ℕ) (end : FileEnd) (block : BlockEnd) : Type 0 where
    left : LeftAt geometry cookie sectors script.files phases run.ends did f b block
    cell : CellView RangeView
    was : Cell
    first : cell.opening.first + b % 64 ≡ b
    sizes : cell.opening.geometry ≡ did.mount.geometry
    opens : (spec : FileSpec) × (slice_get script.files f ≡ Some spec) × IsOpened spec b was
    ends : EndsBlock did.mount.geometry.block_size b was [] left.after.seen (kind_at end.extents b) block
    happened : lawful_from cell.opening.geometry.block_size (cell.opening.first + b % 64) (state_of was) left.after.seen ≡ true

  cell-ran : (f b : ℕ) (end : FileEnd) (block : BlockEnd) → slice_get run.ends.files f ≡ Some end → slice_get end.blocks b ≡ Some block → CellRan f b end block
  cell-ran f b end block end_at block_at =
      let m : MountView = did.mount in
      let place = there m.files f (let w = within run.ends.files f end end_at in let c = did.left.count in omega (arith, w, c)) in
      let file : FilePlace = place.0 in
      let left = left-at geometry cookie sectors script.files phases run.ends did f b file end block place.1 end_at block_at in
      let own : get_or m.files f no_file ≡ file = get_or_from_slice_get m.files f file no_file place.1 in
      let below : b < file.blocks = (let e : (get_or m.files f no_file).blocks ≡ file.blocks = ap (λ (g : FilePlace). g.blocks) own in let h = left.has in omega (arith, e, h)) in
      let stripe : stripe_at m (file_in f) b ≡ file.stripe + b / 64 = ap (λ (g : FilePlace). g.stripe + b / 64) own in
      let cell = there m.stripes (stripe_at m (file_in f) b) (stripe-within m (file_in f) b did.laid left.has) in
      let cell_at : slice_get m.stripes (file.stripe + b / 64) ≡ Some cell.0 = ap (slice_get m.stripes) (sym stripe) ∙ cell.1 in
      let last_at : slice_get did.last.stripes (file.stripe + b / 64) ≡ Some left.after = ap (slice_get did.last.stripes) (sym stripe) ∙ left.last_at in
      let is = did.laid.stripes f file (b / 64) cell.0 place.1 (omega (arith, below)) cell_at in
      let was = there cell.0.opening.cells (b % 64) (let l : length cell.0.opening.cells ≡ min 64 (file.blocks - b / 64 * 64) = is.blocks in omega (arith, l, below)) in
      let placed : slice_get (places_from 0 0 script.files) f ≡ Some file = ap (λ l. slice_get l f) (sym did.started.files_are) ∙ place.1 in
      let spec = place-of 0 0 script.files f file placed in
      let opens = opened geometry cookie sectors m.idle script.files (map (λ (c : CellView RangeView). c.opening) m.stripes) m.pool did.started.stripes f b spec.spec file cell.0.opening was.0 spec.there placed
      (let e = spec.blocks in omega (arith, below, e)) (map-there (λ (c : CellView RangeView). c.opening) m.stripes (file.stripe + b / 64) cell.0 cell_at) was.1 in
      let ends = (did.left.files f file end place.1 end_at).blocks b cell.0 left.after was.0 block cell_at last_at was.1 block_at in
      record {
        left = left;
        cell = cell.0;
        was = was.0;
        first = (let g = is.first in omega (arith, g));
        sizes = is.sizes;
        opens = (spec.spec, spec.there, opens.1);
        ends = subst (λ log. EndsBlock m.geometry.block_size b was.0 log left.after.seen (kind_at end.extents b) block) opens.0 ends;
        happened = did.left.happened (file.stripe + b / 64) cell.0 left.after cell_at last_at (b % 64) was.0 was.1;
      }

  -- However entries are weighed, what the last pass saw at the stripe of a block weighs what the calls made there
  left-weighs : (f b : ℕ) (block : BlockEnd) (left : LeftAt geometry cookie sectors script.files phases run.ends did f b block) (w : Entry → ℕ)
      → total w left.after.seen ≡ total (own_weight (stripe_at did.mount (file_in f) b) w) (all_calls phases)
  left-weighs f b block left w =
      let once = left.whole.once w in
      let made = left.ran.weighs w in
      let none : total w left.before.made ≡ 0 = ap (total w) left.whole.made in
      omega (arith, once, made, none)

  -- What happened to a block that ends so
  record BlockRan (f b : ℕ) (end : FileEnd) (block : BlockEnd) : Type 0 where
    was : Cell
    history : List Entry
    has : HasBlock did.mount (file_in f) b
    ran : RanOn script f b (ranged_calls script run) was history
    ends : EndsBlock script.geometry.block_size b was [] history (kind_at end.extents b) block
    weighs : (w : Entry → ℕ) → total w history ≡ total (own_weight (stripe_at did.mount (file_in f) b) w) (all_calls phases)

  block-ran : (f b : ℕ) (end : FileEnd) (block : BlockEnd) → CellRan f b end block → BlockRan f b end block
  block-ran f b end block c = record {
    was = c.was;
    history = history;
    has = c.left.has;
    ran = record { clean = c.opens.2.clean; here = c.opens.2.here; kind = c.opens.2.kind ∙ ap (λ o. kind_at (extents_of o) b) (sym c.opens.1); happened = lawful; works = none_strays size f b (ranged_calls script run) history none };
    ends = subst (λ n. EndsBlock n b c.was [] history (kind_at end.extents b) block) sized c.ends;
    weighs = left-weighs f b block c.left;
  }
    where
      size : ℕ
      size = script.geometry.block_size

      history : List Entry
      history = c.left.after.seen

      lawful : lawful_from size b (state_of c.was) history ≡ true
      lawful =
          ap (λ n. lawful_from size n (state_of c.was) history) (sym c.first)
          ∙ ap (λ n. lawful_from n (c.cell.opening.first + b % 64) (state_of c.was) history) (sym (ap (λ (g : Layout). g.block_size) c.sizes ∙ sized))
          ∙ c.happened

      none : total (strays size f b (ranged_calls script run)) history ≡ 0
      none =
          ap (λ n. total (strays n f b (ranged_calls script run)) history) (sym sized)
          ∙ left-weighs f b block c.left (strays did.mount.geometry.block_size f b (ranged_calls script run))
          ∙ works f b c.left.has

  pub space-kept : (f b : ℕ) (end : FileEnd) (block : BlockEnd) → slice_get run.ends.files f ≡ Some end → slice_get end.blocks b ≡ Some block → keeps_block script (ranged_calls script run) f end.extents b block ≡ true
  space-kept f b end block end_at block_at =
      let r = block-ran f b end block (cell-ran f b end block end_at block_at) in
      ends_keep_space script f b (ranged_calls script run) r.was r.history r.ran end.extents block r.ends

  pub converts : WritebacksShow script run (all_calls phases) did.mount → (f b : ℕ) (end : FileEnd) (block : BlockEnd) → slice_get run.ends.files f ≡ Some end → slice_get end.blocks b ≡ Some block
      → (not (is_some (mapped_number (kind_at end.extents b))) || is_converted script run f b block.journal) ≡ true
  converts show f b end block end_at block_at =
      let r = block-ran f b end block (cell-ran f b end block end_at block_at) in
      let w = r.weighs writebacks in
      ends_convert script run f b r.was r.history r.ran (λ some. show f b r.has (omega (arith, some, w))) end.extents block r.ends

pub runs_keep_space : RunsKeepSpace
runs_keep_space geometry cookie sectors script run phases did sized works =
    each-end (λ f end b block. keeps_block script (ranged_calls script run) f end.extents b block) run.ends.files (space-kept geometry cookie sectors script run phases did sized works)

pub runs_convert : RunsConvert
runs_convert geometry cookie sectors script run phases did sized works show =
    each-end (λ f end b block. not (is_some (mapped_number (kind_at end.extents b))) || is_converted script run f b block.journal) run.ends.files (converts geometry cookie sectors script run phases did sized works show)
