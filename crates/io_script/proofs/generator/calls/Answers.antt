use Rattle.std.proofs.Common.{arith}
use Rattle.std.proofs.lemmas.Grind.{common_steps}
use Rattle.io_script.specs.Generated.{CALLS_GENERATED}
use Rattle.io_script.proofs.Generating.{generated_calls-next, generated_calls-none}
use Rattle.io_script.proofs.generator.calls.Goals as goal

pub loop-n-preserved : goal.loop-n-preserved
loop-n-preserved c =
    let next = generated_calls-next CALLS_GENERATED c.loop-n.n c.loop-n.state c.loop-n.page (omega arith) in
    record {
      calls = grind (arith, common_steps, next);
      pages = omega arith;
    }

pub returns : goal.returns
returns c =
    let none = generated_calls-none c.loop-n.n c.loop-n.state c.loop-n.page in
    grind (arith, common_steps, none)
