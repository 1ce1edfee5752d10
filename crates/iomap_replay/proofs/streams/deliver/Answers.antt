use Rattle.std.proofs.Common.{arith}
use Rattle.std.proofs.lemmas.List.{length-take, length-drop}
use Rattle.iomap_replay.proofs.Written.{took-more}
use Rattle.iomap_replay.proofs.streams.deliver.Goals as goal

pub loop-at-preserved : goal.loop-at-preserved
loop-at-preserved g c = (
  omega (arith, c.in_ok-at.ensures.cause.never_falls),
  (let within = simp (length-take, length-drop) at c.in_ok-at.ensures.bound.within in omega (arith, within)),
  took-more _ _ _ c.args.text.now c.loop-at.at c.in_ok-at.field-0 c.loop-at.invariant.2 c.in_ok-at.ensures.bytes,
)
