use Rattle.std.proofs.Common.{◌≡◌, length, arith}
use Rattle.turn_cell.specs.Stakes.{total}
use Rattle.turn_cell.proofs.Sums.{total-count}
use Rattle.worked_cells.proofs.pool.plain.Goals as goal

pub returns-in-Ok-clause-free : goal.returns-in-Ok-clause-free
returns-in-Ok-clause-free c =
    let free = c.in_ok-geometry.free.items in
    let now = c.in-Ok.both.0.free in
    let same : total (λ _. 1) now ≡ total (λ _. 1) free = c.in-Ok.ensures.free (λ _. 1) in
    let count : length free ≡ c.args.blocks = c.in_ok-geometry.ensures.count in
    omega (arith, same, total-count now, total-count free)
