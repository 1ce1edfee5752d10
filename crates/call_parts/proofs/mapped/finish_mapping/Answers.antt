use Rattle.call_parts.proofs.MapLemmas.{ends-mapping}
use Rattle.call_parts.proofs.mapped.finish_mapping.Goals as goal

pub returns-clause-ended : goal.returns-clause-ended
returns-clause-ended g c = (ends-mapping c.args.mount.now c.args.iter.now.file c.args.iomap c.args.iter.now.done c.args.pass.now c.finish.new.pass c.requires.file c.requires.open c.finish.ensures.ended).ends

pub returns-clause-back : goal.returns-clause-back
returns-clause-back g c = ends-mapping c.args.mount.now c.args.iter.now.file c.args.iomap c.args.iter.now.done c.args.pass.now c.finish.new.pass c.requires.file c.requires.open c.finish.ensures.ended
