use Rattle.std.proofs.Common.{inl, inr, refl}
use Rattle.worked_mounts.proofs.Going.{alone-goes, share-goes}
use Rattle.worked_mounts.proofs.Mapped.{begin-maps, goes-begin}
use Rattle.worked_mounts.proofs.mount_maps.begin.Goals as goal

pub begin-requires-clause-allowed : goal.begin-requires-clause-allowed
begin-requires-clause-allowed g c = inr (inl (inl refl, c.requires.cached))

pub returns-clause-alone : goal.returns-clause-alone
returns-clause-alone g c = alone-goes c.args.mount.now c.args.pass.now c.begin.new.pass c.requires.alone c.begin.ensures.of (goes-begin c.args.mount.now c.args.file c.args.pass.now c.begin.new.pass c.args.pos c.args.length c.begin.result c.begin.ensures.began)

pub returns-clause-share : goal.returns-clause-share
returns-clause-share g c = share-goes c.args.pass.now c.begin.new.pass (goes-begin c.args.mount.now c.args.file c.args.pass.now c.begin.new.pass c.args.pos c.args.length c.begin.result c.begin.ensures.began)

pub returns-clause-mapping : goal.returns-clause-mapping
returns-clause-mapping g c = begin-maps c.args.mount.now c.args.file c.args.pass.now c.begin.new.pass c.args.pos c.args.length c.requires.cached c.begin.result c.begin.ensures.began c.begin.ensures.unended c.begin.ensures.mapping
