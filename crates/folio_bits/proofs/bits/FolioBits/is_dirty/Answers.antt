use Rattle.std.proofs.Common.{arith}
use Rattle.folio_bits.proofs.Folios.{length-dirty}
use Rattle.folio_bits.proofs.bits.FolioBits.is_dirty.Goals as goal

pub contains-requires-clause-inside : goal.contains-requires-clause-inside
contains-requires-clause-inside c =
    let inside = c.self.inside in
    let wide = length-dirty inside.blocks inside.uptodate inside.dirty c.args.self.now c.self.view_is in
    omega arith
