use Rattle.std.proofs.Common.{◌∙◌, arith}
use Rattle.io_script.proofs.Hexes.{decoded}
use Rattle.io_script.proofs.read.segments.decode.Goals as goal

pub returns : goal.returns
returns c =
    c.from_vec.ensures ∙ decoded c.args.word.now c.pairs.bytes.items c.pairs.i
    (omega (arith, c.pairs-test.false, c.pairs.invariant.1, c.len-i-end.ensures, c.in_ok-bytes.ensures.len))
    (omega (arith, c.pairs-test.false, c.pairs.invariant.1, c.len-i-end.ensures, c.in_ok-bytes.ensures.len)) c.pairs.invariant.0
