use Rattle.worked_mounts.proofs.Mapped.{seen-is}
use Rattle.worked_mounts.proofs.mount_stores.store.Goals as goal

pub seen-seen-requires : goal.seen-seen-requires
seen-seen-requires g c = c.requires.mapping.unended.same

pub store_turn-requires-clause-seen : goal.store_turn-requires-clause-seen
store_turn-requires-clause-seen g c = seen-is c.args.mount.now c.args.iomap.now.file c.args.pass.now c.seen-seen.result c.args.pass.now.begun c.requires.mapping.seen c.seen-seen.ensures
