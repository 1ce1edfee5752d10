use Rattle.fault_device.proofs.Serving.{served}
use Rattle.fault_device.proofs.lane.Lane.judge.Goals as goal

pub returns-clause-serves : goal.returns-clause-serves
returns-clause-serves g c = λ o s. served c.args.blocks o _ _ c.ask.result c.ask.ensures s
