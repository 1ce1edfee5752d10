use Rattle.io_script.proofs.Cutting.{first_found, none_found}
use Rattle.io_script.proofs.read.words.first_at.Goals as goal

pub returns-in-Some-clause-place : goal.returns-in-Some-clause-place
returns-in-Some-clause-place c = first_found c.args.separator c.args.bytes.now c.in-Some.at c.in-Some.ensures

pub returns-in-None-clause-place : goal.returns-in-None-clause-place
returns-in-None-clause-place c = none_found c.args.separator c.args.bytes.now c.in-None.ensures
