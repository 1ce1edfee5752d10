use Rattle.space_pool.proofs.Parting.{part-keeps}
use Rattle.space_pool.proofs.chronicle.PartCutPoolState.cut.Goals as goal

pub returns-clause-truth : goal.returns-clause-truth
returns-clause-truth c opening value history stakes number made stands =
    part-keeps stands c.split.new.self c.split.result c.args.self.now.held.now c.args.self.now.cap c.requires c.split.ensures.kept c.split.ensures.given
