use Rattle.std.proofs.Common.{refl}
use Rattle.writeback_ioend.proofs.Drops.{cache-dropped, cache-leaves}
use Rattle.writeback_ioend.proofs.clean_pages.drop_cache.Goals as goal

pub returns-clause-dropped : goal.returns-clause-dropped
returns-clause-dropped g c = cache-dropped c.args.mount.now c.args.file c.args.call c.args.pass.now c.start_call.new.self c.drop_stripes-count.new.pass c.drop_stripes-count.result _ c.start_call.ensures.pass c.drop_stripes-count.ensures.dropped refl

pub returns-clause-pass : goal.returns-clause-pass
returns-clause-pass g c = cache-leaves c.args.mount.now c.args.file c.args.call c.args.pass.now c.start_call.new.self c.drop_stripes-count.new.pass c.drop_stripes-count.result c.requires c.start_call.ensures.pass c.drop_stripes-count.ensures.dropped c.drop_stripes-count.ensures.of c.drop_stripes-count.ensures.tickets
