-- The bytes that a run leaves of a block.
use Rattle.std.proofs.Common.{◌≡◌, ℕ, zero, suc, ◌+◌, ◌*◌, ◌-◌, ◌/◌, ◌%◌, ◌<◌, min, List, [], ◌∷◌, length, get_or, Some, refl, sym, ap, ◌∙◌, subst, arith}
use Rattle.std.specs.Prelude.{All, slice_get}
use Rattle.std.specs.List.{fold}
use Rattle.std.proofs.lemmas.Option.{get_or_from_slice_get, none-some}
use Rattle.iob_base.specs.DeviceBlock.{DeviceBlock}
use Rattle.iob_base.specs.Layout.{Layout}
use Rattle.io_model.specs.Effects.{effect}
use Rattle.io_model.specs.Finals.{final_content}
use Rattle.io_model.specs.Kinds.{kind_at, mapped_number}
use Rattle.io_model.specs.Ranges.{Ranged}
use Rattle.io_model.specs.declared.file.BlockEnd.{BlockEnd}
use Rattle.io_model.specs.declared.file.FileEnd.{FileEnd}
use Rattle.io_model.specs.declared.file.FileSpec.{FileSpec}
use Rattle.io_model.specs.declared.file.Unmounted.{Unmounted}
use Rattle.turn_cell.specs.Views.{CellView}
use Rattle.turn_cell.proofs.Beginnings.{begins-self}
use Rattle.range_core.specs.BlockContents.{opening_bytes, replayed}
use Rattle.range_core.specs.RangeView.{RangeView}
use Rattle.mount_parts.specs.FilePlaces.{place_of, places_from, sized_at}
use Rattle.mount_parts.specs.MountView.{MountView, no_file, size_cells, stripe_at, stripes_of}
use Rattle.mount_parts.specs.OpeningContents.{first_content}
use Rattle.mount_parts.specs.declared.file.FilePlace.{FilePlace}
use Rattle.mount_parts.proofs.Places.{map-there, there, within}
use Rattle.mini_fs.proofs.Layouts.{stripe-within}
use Rattle.call_traces.specs.LeftContents.{IsToldAt, RunsTellContent}
use Rattle.call_traces.specs.Runs.{IsRun, file_in}
use Rattle.call_traces.specs.SeatTraces.{all_calls}
use Rattle.call_traces.specs.ToldCalls.{AreTold}
use Rattle.call_traces.specs.Traces.{Traced}
use Rattle.call_traces.proofs.JournalLemmas.{phases-traced}
use Rattle.call_traces.proofs.LeftContentLemmas.{calls-tell-content, traced-is-told}
use Rattle.call_traces.proofs.RunLemmas.{LeftAt, left-at}

-- a file lies in the mount with its own number of blocks
place-at : (files : List FileSpec) (stripe cell k : ℕ) (spec : FileSpec) → slice_get files k ≡ Some spec → (file : FilePlace) × (slice_get (places_from stripe cell files) k ≡ Some file) × (file.blocks ≡ spec.blocks)
place-at [] stripe cell k spec at = absurd (none-some spec at)
place-at (f ∷ fs) stripe cell zero spec at = (place_of f stripe cell, refl, (let same : f ≡ spec = cc in ap (λ (x : FileSpec). x.blocks) same))
place-at (f ∷ fs) stripe cell (suc k) spec at = place-at fs (stripe + stripes_of f.blocks) (cell + size_cells (sized_at f.size cell)) k spec at

module _ (geometry : Layout) (cookie : ℕ) (sectors : List DeviceBlock) (files : List FileSpec) (phases : List (List (List Traced))) (u : Unmounted) (run : IsRun geometry cookie sectors files phases u) where
  abbrev m : MountView
  m = run.mount

  -- What a run left of the bytes of a block: those that the history leaves which the last pass saw at the block's stripe
  record LeavesBytes (k b : ℕ) (spec : FileSpec) (end : FileEnd) (block : BlockEnd) : Type 0 where
    left : LeftAt geometry cookie sectors files phases u run k b block
    bytes_are : final_content m.geometry.block_size (mapped_number (kind_at end.extents b)) block.sector block.dirty ≡ replayed m.geometry.block_size b (first_content geometry.block_size sectors spec b) left.after.seen

  leaves-bytes : (k b : ℕ) (spec : FileSpec) (end : FileEnd) (block : BlockEnd) → slice_get files k ≡ Some spec → slice_get u.files k ≡ Some end → slice_get end.blocks b ≡ Some block → LeavesBytes k b spec end block
  leaves-bytes k b spec end block spec_at end_at block_at =
      let size : ℕ = m.geometry.block_size in
      let placed = place-at files 0 0 k spec spec_at in
      let file : FilePlace = placed.0 in
      let file_at : slice_get m.files k ≡ Some file = ap (λ l. slice_get l k) run.started.files_are ∙ placed.1 in
      let left = left-at geometry cookie sectors files phases u run k b file end block file_at end_at block_at in
      let place : get_or m.files k no_file ≡ file = get_or_from_slice_get m.files k file no_file file_at in
      let stripe : stripe_at m (file_in k) b ≡ file.stripe + b / 64 = ap (λ (f : FilePlace). f.stripe + b / 64) place in
      let cell = there m.stripes (stripe_at m (file_in k) b) (stripe-within m (file_in k) b run.laid left.has) in
      let cell_at : slice_get m.stripes (file.stripe + b / 64) ≡ Some cell.0 = ap (slice_get m.stripes) (sym stripe) ∙ cell.1 in
      let last_at : slice_get run.last.stripes (file.stripe + b / 64) ≡ Some left.after = ap (slice_get run.last.stripes) (sym stripe) ∙ left.last_at in
      let ends = run.left.files k file end file_at end_at in
      let below : b < file.blocks = (let w : b < length end.blocks = within end.blocks b block block_at in let c : length end.blocks ≡ file.blocks = ends.count in omega (arith, w, c)) in
      let is = run.laid.stripes k file (b / 64) cell.0 file_at (omega (arith, below)) cell_at in
      let was = there cell.0.opening.cells (b % 64) (let l : length cell.0.opening.cells ≡ min 64 (file.blocks - b / 64 * 64) = is.blocks in omega (arith, l, below)) in
      let sizes : size ≡ geometry.block_size = ap (λ (g : Layout). g.block_size) run.started.geometry_is in
      let opened : opening_bytes geometry.block_size (slice_get cell.0.opening.cells (b % 64)) ≡ first_content geometry.block_size sectors spec b =
      run.started.contents k b spec file cell.0.opening spec_at placed.1 (let e : file.blocks ≡ spec.blocks = placed.2 in omega (arith, below, e)) (map-there (λ (c : CellView RangeView). c.opening) m.stripes (file.stripe + b / 64) cell.0 cell_at) in
      record {
        left = left;
        bytes_are = (ends.blocks b cell.0 left.after was.0 block cell_at last_at was.1 block_at).content_is
            ∙ ap (λ x. replayed size b x left.after.seen) (ap (opening_bytes size) (sym was.1) ∙ ap (λ n. opening_bytes n (slice_get cell.0.opening.cells (b % 64))) sizes ∙ opened);
      }

  run-tells : (k b : ℕ) (spec : FileSpec) (end : FileEnd) (block : BlockEnd) → slice_get files k ≡ Some spec → slice_get u.files k ≡ Some end → slice_get end.blocks b ≡ Some block
      → (calls : List Ranged) → All (λ c. c.file.0 ≡ k → AreTold m.geometry.block_size calls b c.acts) (all_calls phases) → length (first_content geometry.block_size sectors spec b) ≡ m.geometry.block_size
      → final_content m.geometry.block_size (mapped_number (kind_at end.extents b)) block.sector block.dirty ≡ fold (effect m.geometry.block_size calls b) (first_content geometry.block_size sectors spec b) block.journal
  run-tells k b spec end block spec_at end_at block_at calls told long =
      let size : ℕ = m.geometry.block_size in
      let bytes = leaves-bytes k b spec end block spec_at end_at block_at in
      let left = bytes.left in
      let traced = phases-traced m phases run.first run.last run.did in
      let each : All (IsToldAt size calls b (stripe_at m (file_in k) b)) (all_calls phases) =
      λ i c lt. traced-is-told m run.laid (file_in k) b left.has calls (get_or (all_calls phases) i c) (traced i c lt) (told i c lt) in
      bytes.bytes_are
      ∙ calls-tell-content m phases run.first run.last run.did (stripe_at m (file_in k) b) left.before left.after left.first_at left.last_at left.whole size calls b each left.after.seen (begins-self left.after.seen) (first_content geometry.block_size sectors spec b) long
      ∙ ap (fold (effect size calls b) (first_content geometry.block_size sectors spec b)) (sym left.journal_is)

pub runs-tell-content : RunsTellContent
runs-tell-content geometry cookie sectors files phases u run k b spec end block spec_at end_at block_at calls told long =
    subst (λ size. All (λ c. c.file.0 ≡ k → AreTold size calls b c.acts) (all_calls phases) → length (first_content geometry.block_size sectors spec b) ≡ size
    → final_content size (mapped_number (kind_at end.extents b)) block.sector block.dirty ≡ fold (effect size calls b) (first_content geometry.block_size sectors spec b) block.journal)
    (ap (λ (g : Layout). g.block_size) run.started.geometry_is) (run-tells geometry cookie sectors files phases u run k b spec end block spec_at end_at block_at calls) told long
