use Rattle.std.proofs.Common.{◌≡◌, ◌≤◌, ◌*◌, ◌-◌, ◌++◌}
use Rattle.io_script.specs.Generated.{CALLS_GENERATED, generated_calls}
use Rattle.io_script.proofs.generator.calls.Given as goal

abbrev pub invariant-loop-n : goal.invariant-loop-n
invariant-loop-n l = record {
  calls : l.all ++ generated_calls (CALLS_GENERATED - l.n) l.n l.state l.page ≡ generated_calls CALLS_GENERATED 0 l.fn.seed 0;
  pages : l.page ≤ 8 * l.n;
}
