use Rattle.std.proofs.Common.{List, map, refl, sym, subst, ap, ◌∙◌}
use Rattle.std.proofs.lemmas.Simd.{map-map}
use Rattle.crossbeam_utils.specs.Padded.{padded_value}
use Rattle.turn_cell.specs.Seats.{cell_view, seat_claims, seat_view}
use Rattle.turn_cell.specs.Views.{CellView}
use Rattle.space_pool.specs.Seats.{pool_cell}
use Rattle.range_core.specs.RangeView.{RangeView}
use Rattle.size_core.specs.SizesView.{SizesView}
use Rattle.io_model.specs.declared.file.FileSpec.{FileSpec}
use Rattle.mount_parts.specs.FilePlaces.{places_from}
use Rattle.mount_parts.specs.FirstSizes.{first_sizes}
use Rattle.mount_parts.specs.OpeningContents.{HaveContents}
use Rattle.mount_parts.specs.Pieces.{LaidStripes, is_first_at}
use Rattle.mini_fs.proofs.Starts.{firsts-of, fresh-homes, sizes-first, sizes-seen}
use Rattle.mini_fs.proofs.mount.Mount.start.Goals as goal

pub invariant_of-pass : goal.invariant_of-pass
invariant_of-pass c = (c.in_ok-laid.ensures.stripe_claims, sizes-first seat_claims c.in_ok-laid.laid.size_seats.items c.in_ok-laid.ensures.size_claims)

pub returns-clause-started : goal.returns-clause-started
returns-clause-started c =
    let laid = c.in_ok-laid.laid in
    let e = c.in_ok-laid.ensures in
    let files = c.as_slice.ensures.value in
    let pool = pool_cell laid.pool in
    let opened = sym (map-map (λ (v : CellView RangeView). v.opening) (λ k. cell_view (padded_value k)) laid.stripes.items) in
    let L : List RangeView → List FileSpec → Type 0 = λ os fs. LaidStripes c.args.geometry c.args.first_cookie c.args.sectors.items fs os pool laid.idle.items in
    let H : List RangeView → List FileSpec → Type 0 = λ os fs. HaveContents c.args.geometry.block_size c.args.sectors.items fs os in
    record {
      geometry_is = refl;
      files_are = e.files ∙ ap (places_from 0 0) files;
      stripes = subst (λ os. L os c.args.files.items) opened (subst (L (map (λ k. (cell_view (padded_value k)).opening) laid.stripes.items)) files e.stripes);
      contents = subst (λ os. H os c.args.files.items) opened (subst (H (map (λ k. (cell_view (padded_value k)).opening) laid.stripes.items)) files e.contents);
      sizes = map-map (λ (v : CellView SizesView). v.opening) (λ k. cell_view (padded_value k)) laid.sizes.items ∙ e.sizes ∙ ap (first_sizes c.args.geometry.block_size) files;
      stripe_seats = e.stripe_seats ∙ sym (map-map is_first_at (λ k. cell_view (padded_value k)) laid.stripes.items);
      size_seats = sizes-seen seat_view seat_claims laid.size_seats.items (map (λ k. cell_view (padded_value k)) laid.sizes.items) (e.size_seats ∙ sym (map-map is_first_at (λ k. cell_view (padded_value k)) laid.sizes.items)) e.size_claims;
      lock_seats = e.lock_seats;
      home = fresh-homes laid.locks.items laid.lock_seats.items e.lock_seats;
      caller = refl;
      spare = refl;
      last = refl;
      begun = refl;
      capacity = c.in_ok-queue.ensures.capacity;
      bios = c.in_ok-queue.ensures.seats;
    }

pub returns-clause-of : goal.returns-clause-of
returns-clause-of c =
    let laid = c.in_ok-laid.laid in
    let e = c.in_ok-laid.ensures in
    firsts-of _ _ (e.stripe_seats ∙ sym (map-map is_first_at (λ k. cell_view (padded_value k)) laid.stripes.items))
    (sizes-seen seat_view seat_claims laid.size_seats.items (map (λ k. cell_view (padded_value k)) laid.sizes.items) (e.size_seats ∙ sym (map-map is_first_at (λ k. cell_view (padded_value k)) laid.sizes.items)) e.size_claims)
    e.lock_seats c.in_ok-queue.ensures.seats

pub invariant_of-mount : goal.invariant_of-mount
invariant_of-mount c = c.in_ok-laid.ensures.laid c.in_ok-queue.queue
