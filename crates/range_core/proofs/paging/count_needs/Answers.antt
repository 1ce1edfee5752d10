use Rattle.std.proofs.Common.{◌≡◌, ℕ, suc, ◌+◌, ◌<◌, Bool, List, length, get_or, ap, ◌∙◌, arith, refl}
use Rattle.range_core.specs.EntryCounts.{one_where}
use Rattle.range_core.specs.OnRun.{count_on}
use Rattle.range_core.specs.declared.cell.Cell.{Cell}
use Rattle.range_core.proofs.OnRunLemmas.{count_on-more, count_on-none}
use Rattle.range_core.proofs.paging.count_needs.Goals as goal

pub loop-i-init : goal.loop-i-init
loop-i-init g c = record { count = count_on-none (g.T.Needs.needs c.args.test.now) c.args.low c.args.cells.now.items; few = omega arith }

pub loop-i-preserved : goal.loop-i-preserved
loop-i-preserved g c =
    let needs : Cell → Bool = g.T.Needs.needs c.args.test.now in
    let i : ℕ = c.loop-i.i in
    let low : ℕ = c.args.low in
    let cells : List Cell = c.args.cells.now.items in
    let cell : Cell = c.index.result.now in
    let within : low + i < length cells = omega (arith, c.args.cells.now.ok.0, c.requires) in
    let one : suc i ≡ i + 1 = omega arith in
    let here : c.one_needed-count.result ≡ one_where (needs (get_or cells (low + i) cell)) = c.one_needed-count.ensures.count ∙ ap (λ x. one_where (needs x)) c.index.ensures in
    record {
      count = (let p = c.loop-i.invariant.count in let q = count_on-more needs low i (low + i) cells cell refl within in omega (arith, here, p, q)) ∙ ap (λ k. count_on needs low k cells) one;
      few = omega (arith, c.loop-i.invariant.few, c.one_needed-count.ensures.few);
    }
