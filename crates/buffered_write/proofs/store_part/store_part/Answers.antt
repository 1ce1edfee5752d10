use Rattle.std.proofs.Common.{refl, subst, ◌∙◌}
use Rattle.buffered_write.specs.Pwrites.{Writes}
use Rattle.buffered_write.proofs.StoredLemmas.{again-same, again-then, can-lay-after, lay-some, none-writes, tries-then}
use Rattle.buffered_write.proofs.store_part.store_part.Goals as goal

pub loop-init : goal.loop-init
loop-init g c = record {
  goes = c.requires.goes;
  begun = refl;
  can = c.requires.can;
  same = refl;
  writes = none-writes c.args.mount.now c.args.file c.args.by c.args.from c.args.to _ c.args.pass.now c.args.iov.now (lay-some c.args.mount.now c.args.file c.args.seen c.args.from c.args.to c.args.pass.now c.requires.can) c.requires.goes.of;
}

pub loop-preserved : goal.loop-preserved
loop-preserved g c =
    let some = lay-some c.args.mount.now c.args.file c.args.seen c.args.from c.args.to c.args.pass.now c.requires.can in
    let tried = c.try_store-tried.ensures.tried in
    record {
      goes = c.try_store-tried.ensures.goes;
      begun = c.try_store-tried.ensures.begun ∙ c.loop.invariant.begun;
      can = can-lay-after c.args.mount.now c.args.file c.args.seen c.args.from c.args.to c.loop.pass c.try_store-tried.new.pass tried.laid.acts tried.laid.steps.did.acted c.loop.invariant.can;
      same = again-same c.args.mount.now c.args.file c.args.by c.args.from c.args.to _ _ c.loop.pass c.try_store-tried.new.pass c.args.iov.now c.loop.iov c.try_store-tried.new.iov c.try_store-tried.result.1 c.try_store-tried.result.0 c.in-Again.is c.loop.invariant.same tried;
      writes = subst (Writes c.args.mount.now c.args.file c.args.by c.args.from c.args.to _ _ c.args.pass.now c.try_store-tried.new.pass c.args.iov.now c.try_store-tried.new.iov)
          (again-then c.args.mount.now c.args.file c.args.by c.args.from c.args.to c.loop.bios c.try_store-tried.result.1 c.try_store-tried.result.0 c.came_of.result c.followed-came.result c.in-Again.is c.came_of.ensures c.followed-came.ensures)
          (tries-then c.args.mount.now c.args.file c.args.by c.args.from c.args.to _ _ _ c.args.pass.now c.loop.pass c.try_store-tried.new.pass c.args.iov.now c.loop.iov c.try_store-tried.new.iov c.loop.bios c.try_store-tried.result.1 c.try_store-tried.result.0 c.came_of.result c.followed-came.result
          some c.came_of.ensures c.followed-came.ensures c.loop.invariant.writes tried);
    }

pub returns-in-Stored-clause-written : goal.returns-in-Stored-clause-written
returns-in-Stored-clause-written g c =
    tries-then c.args.mount.now c.args.file c.args.by c.args.from c.args.to _ _ _ c.args.pass.now c.loop.pass c.try_store-tried.new.pass c.args.iov.now c.loop.iov c.try_store-tried.new.iov c.loop.bios c.try_store-tried.result.1 c.try_store-tried.result.0 c.came_of.result c.followed-came.result
    (lay-some c.args.mount.now c.args.file c.args.seen c.args.from c.args.to c.args.pass.now c.requires.can) c.came_of.ensures c.followed-came.ensures c.loop.invariant.writes c.try_store-tried.ensures.tried

pub returns-in-Stale-clause-written : goal.returns-in-Stale-clause-written
returns-in-Stale-clause-written g c =
    tries-then c.args.mount.now c.args.file c.args.by c.args.from c.args.to _ _ _ c.args.pass.now c.loop.pass c.try_store-tried.new.pass c.args.iov.now c.loop.iov c.try_store-tried.new.iov c.loop.bios c.try_store-tried.result.1 c.try_store-tried.result.0 c.came_of.result c.followed-came.result
    (lay-some c.args.mount.now c.args.file c.args.seen c.args.from c.args.to c.args.pass.now c.requires.can) c.came_of.ensures c.followed-came.ensures c.loop.invariant.writes c.try_store-tried.ensures.tried

pub returns-in-Stopped-clause-written : goal.returns-in-Stopped-clause-written
returns-in-Stopped-clause-written g c =
    tries-then c.args.mount.now c.args.file c.args.by c.args.from c.args.to _ _ _ c.args.pass.now c.loop.pass c.try_store-tried.new.pass c.args.iov.now c.loop.iov c.try_store-tried.new.iov c.loop.bios c.try_store-tried.result.1 c.try_store-tried.result.0 c.came_of.result c.followed-came.result
    (lay-some c.args.mount.now c.args.file c.args.seen c.args.from c.args.to c.args.pass.now c.requires.can) c.came_of.ensures c.followed-came.ensures c.loop.invariant.writes c.try_store-tried.ensures.tried
