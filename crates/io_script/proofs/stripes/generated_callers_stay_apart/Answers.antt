use Rattle.io_script.proofs.Meeting.{generated-one_order}
use Rattle.io_script.proofs.stripes.generated_callers_stay_apart.Goals as goal

pub returns : goal.returns
returns c = generated-one_order
