use Rattle.std.proofs.Common.{refl, ap, ◌∙◌, arith}
use Rattle.call_parts.specs.Parts.{part_end}
use Rattle.buffered_read.proofs.SoFarLemmas.{hindered-then, read-none, so-far-then, turned-then}
use Rattle.buffered_read.proofs.nowait.try_parts.Goals as goal

pub loop-at-init : goal.loop-at-init
loop-at-init c = record {
  of = c.requires.of;
  rest = refl;
  tickets = λ t is. is;
  low = omega arith;
  high = c.requires.order;
  room = c.requires.room;
  read = read-none c.args.mount.now c.args.file c.args.by c.args.to c.args.from c.args.pass.now c.args.iov.now;
}

pub returns-in-Some-clause-tried : goal.returns-in-Some-clause-tried
returns-in-Some-clause-tried c =
    hindered-then c.args.mount.now c.args.file c.args.by c.args.to c.args.from c.loop-at.at c.args.pass.now c.loop-at.pass c.try_part.new.pass c.args.iov.now c.loop-at.iov c.try_part.new.iov c.in-Some.fault
    c.loop-at.invariant.read c.in-Some.ensures.tried

pub loop-at-preserved : goal.loop-at-preserved
loop-at-preserved c =
    let next = c.part_end-at.ensures ∙ ap (λ g. part_end g c.args.to c.loop-at.at) c.sizes.ensures.is in
    let more = so-far-then c.args.mount.now c.args.file c.args.by c.args.to c.args.from c.loop-at.at c.part_end-at.result c.args.pass.now c.loop-at.pass c.try_part.new.pass c.args.iov.now c.loop-at.iov c.try_part.new.iov
    next c.sizes.ensures.blocks c.sizes.ensures.folios c.requires.of c.loop-at.invariant.of c.loop-at.invariant.low c.loop-at-test.true c.requires.room c.loop-at.invariant.room c.loop-at.invariant.read c.in-None.ensures.tried in
    record {
      of = c.try_part.ensures.of;
      rest = turned-then c.args.pass.now c.loop-at.pass c.try_part.new.pass c.loop-at.invariant.rest c.try_part.ensures.rest;
      tickets = λ t is. c.try_part.ensures.tickets t (c.loop-at.invariant.tickets t is);
      low = more.low;
      high = more.high;
      room = more.room;
      read = more.read;
    }
