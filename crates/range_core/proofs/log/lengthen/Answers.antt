use Rattle.std.proofs.Common.{◌≡◌, ℕ, suc, ◌-◌, List, length, arith}
use Rattle.range_core.specs.declared.stamp_run.StampRun.{StampRun}
use Rattle.range_core.proofs.StampRunLemmas.{goes_on-some, lengthened}
use Rattle.range_core.proofs.log.lengthen.Goals as goal

pub overflow_add-run : goal.overflow_add-run
overflow_add-run c =
    let runs : List StampRun = c.args.runs.now.items in
    let at : ℕ = c.len-last.result - 1 in
    let is : length runs ≡ suc at = omega (arith, goes_on-some c.args.block c.args.stamp runs c.requires.goes_on, c.len-last.ensures, c.args.runs.now.ok.0) in
    let end = (lengthened c.args.block c.args.n c.args.stamp runs at c.index_mut-run.result.now is c.index_mut-run.ensures.value c.requires.blocks c.requires.goes_on).0 in
    omega (arith, end, c.requires.fits)

pub returns-clause-items : goal.returns-clause-items
returns-clause-items c =
    let runs : List StampRun = c.args.runs.now.items in
    let at : ℕ = c.len-last.result - 1 in
    let is : length runs ≡ suc at = omega (arith, goes_on-some c.args.block c.args.stamp runs c.requires.goes_on, c.len-last.ensures, c.args.runs.now.ok.0) in
    (lengthened c.args.block c.args.n c.args.stamp runs at c.index_mut-run.result.now is c.index_mut-run.ensures.value c.requires.blocks c.requires.goes_on).1
