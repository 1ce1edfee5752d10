use Rattle.std.proofs.Common.{◌≡◌, ◌++◌, All, map, drop}
use Rattle.crossbeam_utils.specs.Padded.{padded_value}
use Rattle.turn_cell.specs.Seats.{cell_view, seat_claims, seat_view}
use Rattle.size_core.specs.ClaimsView.{first_claims}
use Rattle.mount_parts.specs.FirstSizes.{first_sizes}
use Rattle.mount_parts.specs.Pieces.{is_first_at}
use Rattle.mount_parts.proofs.first_sizes.open_sizes.Given as goal

abbrev pub invariant-loop-i : goal.invariant-loop-i
invariant-loop-i l = record {
  cells : map (λ c. (cell_view (padded_value c)).opening) l.opened.cells.items ++ first_sizes l.geometry.block_size (drop l.i l.files) ≡ first_sizes l.geometry.block_size l.files;
  seats : map seat_view l.opened.seats.items ≡ map (λ c. is_first_at (cell_view (padded_value c))) l.opened.cells.items;
  own : All (λ s. seat_claims s ≡ first_claims) l.opened.seats.items;
}
