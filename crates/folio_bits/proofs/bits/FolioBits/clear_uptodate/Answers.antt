use Rattle.std.proofs.Common.{false, arith}
use Rattle.folio_bits.proofs.Folios.{length-uptodate, with_uptodate}
use Rattle.folio_bits.proofs.bits.FolioBits.clear_uptodate.Goals as goal

pub without-self-inside-requires : goal.without-self-inside-requires
without-self-inside-requires c =
    let inside = c.self.inside in
    let wide = length-uptodate inside.blocks inside.uptodate inside.dirty c.args.self.now c.self.view_is in
    omega arith

pub returns : goal.returns
returns c =
    let inside = c.self.inside in
    let wide = length-uptodate inside.blocks inside.uptodate inside.dirty c.args.self.now c.self.view_is in
    with_uptodate inside.blocks inside.uptodate inside.dirty c.args.self.now c.self.view_is c.without-self-inside.result c.args.from c.args.n false
    (c.without-self-inside.ensures inside.blocks (omega arith) c.self.invariant)
