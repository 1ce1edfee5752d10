use Rattle.std.proofs.Common.{◌≡◌, length, arith, sym, ap, ◌∙◌}
use Rattle.range_core.specs.Lends.{home_of, written_cell}
use Rattle.range_core.specs.OnRun.{on_each, on_run}
use Rattle.range_core.specs.LendWritebacks.{dirtied_cell, ended_of}
use Rattle.range_core.proofs.OnRunLemmas.{length-on_each}
use Rattle.range_core.proofs.LendWritebackLemmas.{dirtied_back, mapped_back}
use Rattle.range_core.proofs.range.lend_writeback.write_run_back.Goals as goal

pub mark_run_dirty-requires : goal.mark_run_dirty-requires
mark_run_dirty-requires c =
    let same : length c.bring_home-pages.new.cells.items ≡ length c.args.cells.now.items = ap length c.bring_home-pages.ensures.cells ∙ length-on_each (home_of c.args.parts) 0 c.args.low _ c.args.cells.now.items in
    omega (arith, same, c.requires, c.args.cells.now.ok.0, c.bring_home-pages.new.cells.ok.0, c.len-n.ensures.count)

pub mark_run_written-requires : goal.mark_run_written-requires
mark_run_written-requires c =
    let same : length c.bring_home-pages.new.cells.items ≡ length c.args.cells.now.items = ap length c.bring_home-pages.ensures.cells ∙ length-on_each (home_of c.args.parts) 0 c.args.low _ c.args.cells.now.items in
    omega (arith, same, c.requires, c.args.cells.now.ok.0, c.bring_home-pages.new.cells.ok.0, c.len-n.ensures.count)

pub returns-then-failed-clause-cells : goal.returns-then-failed-clause-cells
returns-then-failed-clause-cells c =
    dirtied_back c.args.parts c.args.low c.args.cells.now.items c.bring_home-pages.new.cells.items c.mark_run_dirty.new.cells.items c.bring_home-pages.ensures.cells
    (c.mark_run_dirty.ensures ∙ ap (λ n. on_run dirtied_cell c.args.low n c.bring_home-pages.new.cells.items) c.len-n.ensures.count) ∙ ap (λ t. on_each (ended_of t c.args.parts) 0 c.args.low (length c.args.parts) c.args.cells.now.items) (sym c.if-failed.true)

pub returns-clause-cells : goal.returns-clause-cells
returns-clause-cells c =
    mapped_back c.args.parts c.args.low c.args.cells.now.items c.bring_home-pages.new.cells.items c.mark_run_written.new.cells.items c.bring_home-pages.ensures.cells
    (c.mark_run_written.ensures ∙ ap (λ n. on_run written_cell c.args.low n c.bring_home-pages.new.cells.items) c.len-n.ensures.count) ∙ ap (λ t. on_each (ended_of t c.args.parts) 0 c.args.low (length c.args.parts) c.args.cells.now.items) (sym c.if-failed.false)
