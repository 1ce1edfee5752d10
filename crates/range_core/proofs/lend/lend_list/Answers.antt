use Rattle.std.proofs.Common.{◌≡◌, ℕ, List, length, drop, arith, sym, ap, ◌∙◌, subst}
use Rattle.iob_base.specs.Parting.{pages_of}
use Rattle.iob_base.specs.declared.part.Part.{Part}
use Rattle.iob_base.proofs.PartLemmas.{many_pages}
use Rattle.range_core.specs.Lends.{HaveSectors, lent_cell, parts_of}
use Rattle.range_core.specs.OnRun.{on_run}
use Rattle.range_core.proofs.LendLemmas.{length-parts_of}
use Rattle.range_core.proofs.DirectNowLemmas.{refill-whole}
use Rattle.range_core.proofs.lend.lend_list.Goals as goal

pub lend_run-requires-clause-within : goal.lend_run-requires-clause-within
lend_run-requires-clause-within c = omega (arith, ap length c.as_mut_slice.ensures.value, many_pages c.args.pages, c.requires.within)

pub lend_run-requires-clause-here : goal.lend_run-requires-clause-here
lend_run-requires-clause-here c =
    let H : ℕ → Type 0 = λ n. HaveSectors c.args.cells.now.items c.args.low n in
    let many : length (pages_of c.args.pages) ≡ length c.as_mut_slice.result.now = many_pages c.args.pages ∙ ap length (sym c.as_mut_slice.ensures.value) in
    subst H many c.requires.here

pub returns-clause-cells : goal.returns-clause-cells
returns-clause-cells c =
    c.lend_run.ensures.cells
    ∙ ap (λ n. on_run (lent_cell c.args.away) c.args.low n c.args.cells.now.items) (ap length c.as_mut_slice.ensures.value ∙ sym (many_pages c.args.pages))

pub returns-clause-parts : goal.returns-clause-parts
returns-clause-parts c =
    let is : c.lend_run.new.parts ≡ parts_of (drop c.args.low c.args.cells.now.items) (pages_of c.args.pages) =
    c.lend_run.ensures.parts ∙ ap (λ (ps : List Part). parts_of (drop c.args.low c.args.cells.now.items) (pages_of ps)) c.as_mut_slice.ensures.value in
    let many : length c.lend_run.new.parts ≡ length c.args.pages =
    ap length is ∙ length-parts_of c.args.low c.args.cells.now.items (pages_of c.args.pages) (omega (arith, c.requires.within, c.args.cells.now.ok.0)) ∙ many_pages c.args.pages in
    refill-whole c.args.pages c.lend_run.new.parts many ∙ is
