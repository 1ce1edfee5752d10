use Rattle.std.proofs.Common.{length, arith, ap, length-append, length-drop, length-take}
use Rattle.iov_iter.specs.IovView.{IovView}
use Rattle.worked_cells.proofs.iovs.moves_at.Goals as goal

pub read_at-requires-clause-within : goal.read_at-requires-clause-within
read_at-requires-clause-within g c =
    let long = simp (length-append, length-take, length-drop) at (ap (λ (v : IovView). length v.bytes) c.write_at.ensures) in
    omega (arith, long, c.requires.long)
