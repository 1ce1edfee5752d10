use Rattle.io_script.proofs.Asking.{generated-journals, generated-stamps}
use Rattle.io_script.proofs.stripes.generated_journals_are_known.Goals as goal

pub returns-clause-journals : goal.returns-clause-journals
returns-clause-journals c = generated-journals

pub returns-clause-stamps : goal.returns-clause-stamps
returns-clause-stamps c = generated-stamps
