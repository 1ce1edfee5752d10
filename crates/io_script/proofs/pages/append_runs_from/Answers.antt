use Rattle.std.proofs.Common.{◌+◌, ◌++◌, ◌∙◌, sym, ap, arith, drop, slice_index_or, codes}
use Rattle.std.proofs.lemmas.List.{at_drop_more, at_drop_all}
use Rattle.io_model.specs.RunText.{runs_text}
use Rattle.io_script.proofs.Runs.{runs_from, runs_text-ended, page_runs-from}
use Rattle.io_script.proofs.pages.append_runs_from.Goals as goal

pub loop-next-preserved : goal.loop-next-preserved
loop-next-preserved c =
    let i = c.loop-next.next-index in
    let first = c.loop-next.first in
    let count = c.loop-next.count in
    let page = slice_index_or c.args.more.now i 0 in
    let after = drop (i + 1) c.args.more.now in
    let here = at_drop_more (runs_from first count) c.args.more.now i 0 c.loop-next-test.true in
    record {
      short = omega arith;
      left = λ rest.
          c.in_ok-append_word.ensures (runs_text 0 (runs_from page 1 after) rest)
          ∙ c.in_ok-append_run.ensures (codes "," ++ runs_text 0 (runs_from page 1 after) rest)
          ∙ ap (λ t. c.loop-next.text.items ++ t) (sym (runs_text-ended first count page after rest (sym c.goes_on.ensures ∙ c.if-goes_on.false)))
          ∙ ap (λ runs. c.loop-next.text.items ++ runs_text 0 runs rest) (sym here)
          ∙ c.loop-next.invariant.left rest;
    }

pub returns : goal.returns
returns c rest =
    let more = c.args.more.now in
    c.in_ok-append_run-2.ensures rest
    ∙ ap (λ runs. c.loop-next.text.items ++ runs_text 0 runs rest) (sym (at_drop_all (runs_from c.loop-next.first c.loop-next.count) more c.loop-next.next-index c.loop-next-test.false))
    ∙ c.loop-next.invariant.left rest
    ∙ ap (λ runs. c.args.text.now.items ++ runs_text 0 runs rest) (sym (page_runs-from c.args.page more))
