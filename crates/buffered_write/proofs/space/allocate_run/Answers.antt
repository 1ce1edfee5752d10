use Rattle.std.proofs.Common.{◌+◌, sym, subst, arith}
use Rattle.buffered_write.specs.Allocates.{HasAllocated}
use Rattle.buffered_write.proofs.AllocLemmas.{more-allocated, none-allocated, run-allocated, run-refused}
use Rattle.buffered_write.proofs.space.allocate_run.Goals as goal

pub loop-at-init : goal.loop-at-init
loop-at-init g c = record {
  of = c.requires.of;
  low = omega arith;
  high = c.requires.order;
  allocated = none-allocated c.args.mount.now c.args.file c.args.to c.args.from c.args.pass.now c.requires.of;
}

pub overflow_add-count : goal.overflow_add-count
overflow_add-count g c =
    let few = c.loop-at.invariant.allocated.few in
    let more = c.in-Ok.ensures.allocated.part.2 in
    let fits = c.ranges.to.fits in
    let below = c.loop-at-test.true in
    omega (arith, few, more, fits, below)

pub loop-at-preserved : goal.loop-at-preserved
loop-at-preserved g c =
    let next = c.stripe_end-at.ensures in
    let low = c.loop-at.invariant.low in
    let below = c.loop-at-test.true in
    record {
      of = c.allocate_part.ensures.of;
      low = omega (arith, next, low, below);
      high = omega (arith, next);
      allocated = subst (λ k. HasAllocated c.args.mount.now c.args.file c.args.to c.args.from k c.args.pass.now c.allocate_part.new.pass (c.loop-at.count + c.in-Ok.more)) (sym next)
          (more-allocated c.args.mount.now c.args.file c.args.to c.args.from c.loop-at.at c.loop-at.count c.in-Ok.more c.args.pass.now c.loop-at.pass c.allocate_part.new.pass low below c.loop-at.invariant.allocated c.in-Ok.ensures.allocated);
    }

pub returns-in-Err-clause-allocated : goal.returns-in-Err-clause-allocated
returns-in-Err-clause-allocated g c =
    run-refused c.args.mount.now c.args.file c.args.to c.args.from c.loop-at.at c.loop-at.count c.args.pass.now c.loop-at.pass c.allocate_part.new.pass c.in-Err.fault c.loop-at.invariant.allocated c.in-Err.ensures.allocated

pub returns-clause-allocated : goal.returns-clause-allocated
returns-clause-allocated g c =
    let high = c.loop-at.invariant.high in
    let ends = c.loop-at-test.false in
    run-allocated c.args.mount.now c.args.file c.args.to c.args.from c.loop-at.at c.loop-at.count c.args.pass.now c.loop-at.pass (omega (arith, high, ends)) c.loop-at.invariant.allocated
