use Rattle.std.proofs.Common.{arith, drop, take, length, ◌-◌, length-drop}
use Rattle.std.proofs.lemmas.List.{length-take}
use Rattle.range_core.proofs.SampleLemmas.{run_length-within}
use Rattle.range_core.proofs.range.direct_now.now_run.Goals as goal

pub slice_bounds-clean_run-end-2 : goal.slice_bounds-clean_run-end-2
slice_bounds-clean_run-end-2 c =
    let rest = drop c.args.at c.args.cells.now in
    let within = run_length-within rest c.args.most in
    omega (
      arith,
      within.0,
      length-drop c.args.at c.args.cells.now,
      length-take (length c.args.cells.now - c.args.at) rest,
      length-take c.run_at-run.result (take (length c.args.cells.now - c.args.at) rest),
    )
