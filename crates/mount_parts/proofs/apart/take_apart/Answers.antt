use Rattle.std.proofs.Common.{◌≡◌, length, map, refl, sym, ◌∙◌, ap, subst, arith}
use Rattle.std.proofs.lemmas.List.{length-map}
use Rattle.std.proofs.lemmas.Simd.{map-map}
use Rattle.crossbeam_utils.specs.Padded.{padded_value}
use Rattle.turn_cell.specs.Seats.{cell_view, seat_claims, seat_view}
use Rattle.space_pool.specs.Seats.{pool_cell}
use Rattle.range_core.specs.declared.end.RangeEnd.{RangeEnd}
use Rattle.mount_parts.specs.Ends.{RangeEndView, range_end}
use Rattle.bio_pages.specs.Queue.{QueueView}
use Rattle.mount_parts.specs.FileEnds.{AreFileEnds}
use Rattle.mount_parts.specs.MountView.{IsLaidOut, MountView}
use Rattle.mount_parts.specs.PoolEnds.{EndsPool, claimed, number_weight, share_of}
use Rattle.mount_parts.proofs.Lies.{some-file}
use Rattle.mount_parts.proofs.Places.{seen-long}
use Rattle.mount_parts.proofs.Unmountings.{at-pool, part_share, parts-few, parts-order, parts-runs, run_in, seats-all, seats-weigh, share-whole, space_weight, unmounts}
use Rattle.mount_parts.proofs.apart.take_apart.Goals as goal

-- a mount is laid out whatever queue its bios go through
in-queue : {m : MountView} (queue : QueueView) → IsLaidOut m → IsLaidOut (record m { queue = queue })
in-queue queue l = record { few = l.few; order = l.order; stripes = l.stripes; ends = l.ends; locks = l.locks; shares = l.shares; idle = l.idle }

-- what is seen of what is left of a range
abbrev view : RangeEnd → RangeEndView
view e = range_end e.extents e.blocks (seat_view e.seat) (seat_claims e.seat)

pub end_files-requires-clause-few : goal.end_files-requires-clause-few
end_files-requires-clause-few c =
    let long = seen-long (λ s. (seat_view s).cell) (λ p. (cell_view (padded_value p)).cell) seat_view (λ p. cell_view (padded_value p)) c.args.seats.items c.args.parts.stripes.items c.requires.cells in
    let runs = c.in_ok-runs.ensures.runs ∙ sym (map-map run_in view c.in_ok-ranges.ranges.items) in
    parts-few _ (map seat_view c.args.seats.items) (map view c.in_ok-ranges.ranges.items) c.requires.laid.1 long c.in_ok-ranges.ensures c.as_slice.result.now c.in_ok-runs.field-0.runs.items c.as_slice.ensures.value runs

pub end_files-requires-clause-order : goal.end_files-requires-clause-order
end_files-requires-clause-order c =
    let long = seen-long (λ s. (seat_view s).cell) (λ p. (cell_view (padded_value p)).cell) seat_view (λ p. cell_view (padded_value p)) c.args.seats.items c.args.parts.stripes.items c.requires.cells in
    let runs = c.in_ok-runs.ensures.runs ∙ sym (map-map run_in view c.in_ok-ranges.ranges.items) in
    parts-order _ (map seat_view c.args.seats.items) (map view c.in_ok-ranges.ranges.items) c.requires.laid.1 long c.in_ok-ranges.ensures c.as_slice.result.now c.in_ok-runs.field-0.runs.items c.as_slice.ensures.value runs c.in_ok-sizes.sizes.items c.in_ok-sizes.ensures.count

pub end_files-requires-clause-runs : goal.end_files-requires-clause-runs
end_files-requires-clause-runs c =
    let long = seen-long (λ s. (seat_view s).cell) (λ p. (cell_view (padded_value p)).cell) seat_view (λ p. cell_view (padded_value p)) c.args.seats.items c.args.parts.stripes.items c.requires.cells in
    let runs = c.in_ok-runs.ensures.runs ∙ sym (map-map run_in view c.in_ok-ranges.ranges.items) in
    parts-runs _ (map seat_view c.args.seats.items) (map view c.in_ok-ranges.ranges.items) c.requires.laid.1 long c.in_ok-ranges.ensures c.as_slice.result.now c.in_ok-runs.field-0.runs.items c.as_slice.ensures.value runs

pub end_pool-free-requires-clause-seats : goal.end_pool-free-requires-clause-seats
end_pool-free-requires-clause-seats c =
    let long = seen-long (λ s. (seat_view s).cell) (λ p. (cell_view (padded_value p)).cell) seat_view (λ p. cell_view (padded_value p)) c.args.seats.items c.args.parts.stripes.items c.requires.cells in
    let pool = (pool_cell c.args.parts.pool).cell in
    seats-all (λ e. e.seat) view (λ s. (seat_view s).cell ≡ pool) (λ v. v.seat.cell ≡ pool) c.in_ok-ranges.ranges.items c.in_ok-runs.field-0.seats.items (λ e at. at) c.in_ok-runs.ensures.seats
    (at-pool _ (map seat_view c.args.seats.items) (map view c.in_ok-ranges.ranges.items) c.requires.laid.1 long c.in_ok-ranges.ensures)

pub end_pool-free-requires-clause-whole : goal.end_pool-free-requires-clause-whole
end_pool-free-requires-clause-whole c some =
    let long = seen-long (λ s. (seat_view s).cell) (λ p. (cell_view (padded_value p)).cell) seat_view (λ p. cell_view (padded_value p)) c.args.seats.items c.args.parts.stripes.items c.requires.cells in
    let ranges = c.in_ok-ranges.ranges.items in
    let many : length c.in_ok-runs.field-0.seats.items ≡ length ranges = ap length c.in_ok-runs.ensures.seats ∙ length-map ranges (λ e. e.seat) in
    let ends : length ranges ≡ length (map (λ p. cell_view (padded_value p)) c.args.parts.stripes.items) = sym (length-map ranges view) ∙ c.in_ok-ranges.ensures.count in
    seats-weigh (λ e. e.seat) view share_of seat_view part_share ranges c.in_ok-runs.field-0.seats.items (λ e. refl) c.in_ok-runs.ensures.seats
    ∙ share-whole _ (map seat_view c.args.seats.items) (map view ranges) c.requires.laid.1 long c.in_ok-ranges.ensures
    ∙ c.requires.laid.1.shares (omega arith)

pub end_pool-free-requires-clause-idle : goal.end_pool-free-requires-clause-idle
end_pool-free-requires-clause-idle c some =
    let ranges = c.in_ok-ranges.ranges.items in
    let many : length c.in_ok-runs.field-0.seats.items ≡ length ranges = ap length c.in_ok-runs.ensures.seats ∙ length-map ranges (λ e. e.seat) in
    let ends : length ranges ≡ length (map (λ p. cell_view (padded_value p)) c.args.parts.stripes.items) = sym (length-map ranges view) ∙ c.in_ok-ranges.ensures.count in
    c.requires.laid.1.idle (some-file c.args.parts.files.items _ _ c.requires.laid.1.order (omega arith))

pub returns : goal.returns
returns c =
    let long = seen-long (λ s. (seat_view s).cell) (λ p. (cell_view (padded_value p)).cell) seat_view (λ p. cell_view (padded_value p)) c.args.seats.items c.args.parts.stripes.items c.requires.cells in
    let sizes_long = seen-long (λ s. (seat_view s).cell) (λ p. (cell_view (padded_value p)).cell) seat_view (λ p. cell_view (padded_value p)) c.args.size_seats.items c.args.parts.sizes.items c.requires.size_cells in
    let ranges = c.in_ok-ranges.ranges.items in
    let runs = c.in_ok-runs.ensures.runs ∙ sym (map-map run_in view ranges) in
    let many : length c.in_ok-runs.field-0.seats.items ≡ length ranges = ap length c.in_ok-runs.ensures.seats ∙ length-map ranges (λ e. e.seat) in
    let ends : length ranges ≡ length (map (λ p. cell_view (padded_value p)) c.args.parts.stripes.items) = sym (length-map ranges view) ∙ c.in_ok-ranges.ensures.count in
    λ queue.
    unmounts _ (map seat_view c.args.seats.items) (map view ranges) (in-queue queue c.requires.laid.1) long c.in_ok-ranges.ensures c.as_slice.result.now c.in_ok-runs.field-0.runs.items c.as_slice.ensures.value runs
    (map seat_view c.args.size_seats.items) sizes_long c.in_ok-sizes.sizes.items c.in_ok-sizes.ensures
    _ (subst (AreFileEnds c.as_slice.result.now c.in_ok-runs.field-0.runs.items c.in_ok-sizes.sizes.items) (sym c.from_vec.ensures) c.in_ok-ends.ensures)
    (λ f. claimed f (map seat_claims c.in_ok-runs.field-0.seats.items))
    (λ f. seats-weigh (λ e. e.seat) view (number_weight f) seat_claims (space_weight f) ranges c.in_ok-runs.field-0.seats.items (λ e. refl) c.in_ok-runs.ensures.seats)
    (λ some. subst (EndsPool (pool_cell c.args.parts.pool).opening (λ f. claimed f (map seat_claims c.in_ok-runs.field-0.seats.items))) (sym c.from_vec-2.ensures) (c.end_pool-free.ensures.pool (omega arith)))
    (λ none. c.from_vec-2.ensures ∙ c.end_pool-free.ensures.idle (omega arith))
