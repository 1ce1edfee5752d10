use Rattle.worked_mounts.proofs.Going.{alone-goes, share-goes}
use Rattle.worked_mounts.proofs.Mapped.{goes-end}
use Rattle.worked_mounts.proofs.mount_maps.end.Goals as goal

pub end-requires-clause-unended : goal.end-requires-clause-unended
end-requires-clause-unended g c = c.requires.mapping.unended

pub returns-clause-alone : goal.returns-clause-alone
returns-clause-alone g c = alone-goes c.args.mount.now c.args.pass.now c.end.new.pass c.requires.alone c.end.ensures.of (goes-end c.args.mount.now c.args.pass.now c.end.new.pass c.args.iomap c.args.written c.end.ensures.ended)

pub returns-clause-share : goal.returns-clause-share
returns-clause-share g c = share-goes c.args.pass.now c.end.new.pass (goes-end c.args.mount.now c.args.pass.now c.end.new.pass c.args.iomap c.args.written c.end.ensures.ended)
