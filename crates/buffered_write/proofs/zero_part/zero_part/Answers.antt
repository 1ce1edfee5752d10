use Rattle.std.proofs.Common.{refl, subst, ◌∙◌}
use Rattle.buffered_write.specs.Zeroes.{Zeroes}
use Rattle.buffered_write.proofs.StoredLemmas.{again-then}
use Rattle.buffered_write.proofs.UnderLemmas.{under-after, under-some}
use Rattle.buffered_write.proofs.ZeroPartLemmas.{none-zeroes, zero-tries}
use Rattle.buffered_write.proofs.zero_part.zero_part.Goals as goal

pub loop-init : goal.loop-init
loop-init g c = record {
  goes = c.requires.goes;
  begun = refl;
  under = c.requires.under;
  zeroes = none-zeroes c.args.mount.now c.args.file c.args.by c.args.from c.args.to _ c.args.pass.now (under-some c.args.mount.now c.args.file c.args.seen c.args.from c.args.to c.args.pass.now c.requires.under) c.requires.goes.of;
}

pub loop-preserved : goal.loop-preserved
loop-preserved g c =
    let some = under-some c.args.mount.now c.args.file c.args.seen c.args.from c.args.to c.args.pass.now c.requires.under in
    let tried = c.try_zero-tried.ensures.tried in
    record {
      goes = c.try_zero-tried.ensures.goes;
      begun = c.try_zero-tried.ensures.begun ∙ c.loop.invariant.begun;
      under = under-after c.args.mount.now c.args.file c.args.seen c.args.from c.args.to c.loop.pass c.try_zero-tried.new.pass tried.laid.acts tried.laid.steps.did.acted c.loop.invariant.under;
      zeroes = subst (Zeroes c.args.mount.now c.args.file c.args.by c.args.from c.args.to _ _ c.args.pass.now c.try_zero-tried.new.pass)
          (again-then c.args.mount.now c.args.file c.args.by c.args.from c.args.to c.loop.bios c.try_zero-tried.result.1 c.try_zero-tried.result.0 c.came_of.result c.followed-came.result c.in-Again.is c.came_of.ensures c.followed-came.ensures)
          (zero-tries c.args.mount.now c.args.file c.args.by c.args.from c.args.to _ _ _ c.args.pass.now c.loop.pass c.try_zero-tried.new.pass c.loop.bios c.try_zero-tried.result.1 c.try_zero-tried.result.0 c.came_of.result c.followed-came.result
          some c.came_of.ensures c.followed-came.ensures c.loop.invariant.zeroes tried);
    }

pub returns-in-Stored-clause-zeroed : goal.returns-in-Stored-clause-zeroed
returns-in-Stored-clause-zeroed g c =
    zero-tries c.args.mount.now c.args.file c.args.by c.args.from c.args.to _ _ _ c.args.pass.now c.loop.pass c.try_zero-tried.new.pass c.loop.bios c.try_zero-tried.result.1 c.try_zero-tried.result.0 c.came_of.result c.followed-came.result
    (under-some c.args.mount.now c.args.file c.args.seen c.args.from c.args.to c.args.pass.now c.requires.under) c.came_of.ensures c.followed-came.ensures c.loop.invariant.zeroes c.try_zero-tried.ensures.tried

pub returns-in-Stale-clause-zeroed : goal.returns-in-Stale-clause-zeroed
returns-in-Stale-clause-zeroed g c =
    zero-tries c.args.mount.now c.args.file c.args.by c.args.from c.args.to _ _ _ c.args.pass.now c.loop.pass c.try_zero-tried.new.pass c.loop.bios c.try_zero-tried.result.1 c.try_zero-tried.result.0 c.came_of.result c.followed-came.result
    (under-some c.args.mount.now c.args.file c.args.seen c.args.from c.args.to c.args.pass.now c.requires.under) c.came_of.ensures c.followed-came.ensures c.loop.invariant.zeroes c.try_zero-tried.ensures.tried

pub returns-in-Stopped-clause-zeroed : goal.returns-in-Stopped-clause-zeroed
returns-in-Stopped-clause-zeroed g c =
    zero-tries c.args.mount.now c.args.file c.args.by c.args.from c.args.to _ _ _ c.args.pass.now c.loop.pass c.try_zero-tried.new.pass c.loop.bios c.try_zero-tried.result.1 c.try_zero-tried.result.0 c.came_of.result c.followed-came.result
    (under-some c.args.mount.now c.args.file c.args.seen c.args.from c.args.to c.args.pass.now c.requires.under) c.came_of.ensures c.followed-came.ensures c.loop.invariant.zeroes c.try_zero-tried.ensures.tried
