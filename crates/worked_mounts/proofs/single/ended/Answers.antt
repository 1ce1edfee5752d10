use Rattle.worked_mounts.proofs.Going.{alone-whole}
use Rattle.worked_mounts.proofs.single.ended.Goals as goal

pub unmount-requires-clause-whole : goal.unmount-requires-clause-whole
unmount-requires-clause-whole c = alone-whole c.args.mount c.args.pass c.requires.alone c.requires.whole
