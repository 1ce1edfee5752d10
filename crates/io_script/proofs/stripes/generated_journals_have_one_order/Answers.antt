use Rattle.io_script.proofs.Meeting.{generated-in_order}
use Rattle.io_script.proofs.stripes.generated_journals_have_one_order.Goals as goal

pub returns : goal.returns
returns c = generated-in_order
