use Rattle.std.proofs.Common.{◌≡◌, List, length, arith, sym, ap, ◌∙◌}
use Rattle.iob_base.specs.Parting.{pages_of}
use Rattle.iob_base.specs.declared.part.Part.{Part}
use Rattle.iob_base.proofs.PartLemmas.{many_pages}
use Rattle.range_core.specs.LendReads.{filled_of, paged_of}
use Rattle.range_core.specs.Lends.{home_of}
use Rattle.range_core.specs.OnRun.{on_each}
use Rattle.range_core.proofs.LendReadLemmas.{filled_back}
use Rattle.range_core.proofs.OnRunLemmas.{length-on_each}
use Rattle.range_core.proofs.range.lend_read.fill_run_back.Goals as goal

pub put_pages-requires : goal.put_pages-requires
put_pages-requires c =
    let many : length c.bring_home-pages.result ≡ length c.args.parts = sym (many_pages c.bring_home-pages.result) ∙ ap length c.bring_home-pages.ensures.pages ∙ many_pages c.args.parts in
    let same : length c.bring_home-pages.new.cells.items ≡ length c.args.cells.now.items = ap length c.bring_home-pages.ensures.cells ∙ length-on_each (home_of c.args.parts) 0 c.args.low _ c.args.cells.now.items in
    omega (arith, ap length c.as_mut_slice.ensures.value, many, same, c.requires, c.args.cells.now.ok.0, c.bring_home-pages.new.cells.ok.0)

pub returns-clause-cells : goal.returns-clause-cells
returns-clause-cells c =
    let pages : List Part = c.bring_home-pages.result in
    let many : length pages ≡ length c.args.parts = sym (many_pages pages) ∙ ap length c.bring_home-pages.ensures.pages ∙ many_pages c.args.parts in
    filled_back c.args.parts (pages_of pages) c.args.low (length pages) (length c.args.parts) c.args.cells.now.items c.bring_home-pages.new.cells.items c.put_pages.new.cells.items
    c.bring_home-pages.ensures.pages many c.bring_home-pages.ensures.cells
    (c.put_pages.ensures.cells ∙ ap (λ (ps : List Part). on_each (paged_of (pages_of ps)) 0 c.args.low (length ps) c.bring_home-pages.new.cells.items) c.as_mut_slice.ensures.value)
    ∙ ap (λ t. on_each (filled_of t c.args.parts) 0 c.args.low (length c.args.parts) c.args.cells.now.items) (sym c.if-failed.false)
