use Rattle.std.proofs.Common.{◌≡◌, arith}
use Rattle.range_core.specs.FindDues.{is_calm}
use Rattle.range_core.specs.Runs.{leading}
use Rattle.range_core.proofs.LeadingLemmas.{leading-within}
use Rattle.range_core.proofs.range.find_due.first_due.Goals as goal

pub overflow_add-result : goal.overflow_add-result
overflow_add-result c =
    let calm : c.leading_run-calm.result ≡ leading (λ _ x. is_calm x) 0 c.args.cells.now c.args.most = c.leading_run-calm.ensures in
    let within = leading-within (λ _ x. is_calm x) 0 c.args.cells.now c.args.most in
    omega (arith, calm, within.0, c.requires.few, c.requires.place)
