use Rattle.io_script.specs.Generated.{CALLS_GENERATED}
use Rattle.io_script.proofs.Keeping.{generated_calls-keep, generated_calls-many}
use Rattle.io_script.proofs.stripes.generated_calls_keep_to_stripes.Goals as goal

pub returns-clause-many : goal.returns-clause-many
returns-clause-many c seed = generated_calls-many CALLS_GENERATED 0 seed 0

pub returns-clause-kept : goal.returns-clause-kept
returns-clause-kept c seed = generated_calls-keep CALLS_GENERATED 0 seed 0
