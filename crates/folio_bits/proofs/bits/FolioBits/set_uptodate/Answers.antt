use Rattle.std.proofs.Common.{true, arith}
use Rattle.folio_bits.proofs.Folios.{length-uptodate, with_uptodate}
use Rattle.folio_bits.proofs.bits.FolioBits.set_uptodate.Goals as goal

pub with-self-inside-requires : goal.with-self-inside-requires
with-self-inside-requires c =
    let inside = c.self.inside in
    let wide = length-uptodate inside.blocks inside.uptodate inside.dirty c.args.self.now c.self.view_is in
    omega arith

pub returns : goal.returns
returns c =
    let inside = c.self.inside in
    let wide = length-uptodate inside.blocks inside.uptodate inside.dirty c.args.self.now c.self.view_is in
    with_uptodate inside.blocks inside.uptodate inside.dirty c.args.self.now c.self.view_is c.with-self-inside.result c.args.from c.args.n true
    (c.with-self-inside.ensures inside.blocks (omega arith) c.self.invariant)
