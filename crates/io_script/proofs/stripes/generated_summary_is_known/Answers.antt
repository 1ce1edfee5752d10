use Rattle.io_script.proofs.Giving.{generated-summary}
use Rattle.io_script.proofs.stripes.generated_summary_is_known.Goals as goal

pub returns : goal.returns
returns c = generated-summary
