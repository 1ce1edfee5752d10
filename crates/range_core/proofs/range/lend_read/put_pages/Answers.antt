use Rattle.std.proofs.Common.{◌≡◌, ℕ, ◌+◌, ◌<◌, Some, List, length, get_or, set, arith, refl, sym, ap, ◌∙◌}
use Rattle.std.specs.Prelude.{slice_get}
use Rattle.std.proofs.lemmas.List.Edits.{map_over_more}
use Rattle.std.proofs.lemmas.Option.{slice_get-get_or}
use Rattle.iob_base.specs.Parting.{pages_of, without_page}
use Rattle.iob_base.specs.declared.part.Part.{Part}
use Rattle.iob_base.specs.declared.sector.Page.{Page}
use Rattle.iob_base.proofs.PartLemmas.{read_rest}
use Rattle.range_core.specs.LendReads.{paged_cell, paged_of}
use Rattle.range_core.specs.declared.cell.Cell.{Cell}
use Rattle.range_core.proofs.OnRunLemmas.{each_more, on_each-none}
use Rattle.range_core.proofs.PartRuns.{page_at}
use Rattle.range_core.proofs.range.lend_read.put_pages.Goals as goal

pub loop-part-init : goal.loop-part-init
loop-part-init c = record {
  at = omega arith;
  cells = on_each-none (paged_of (pages_of c.args.parts.now)) 0 c.args.low c.args.cells.now.items;
  many = refl;
  parts = refl;
}

pub loop-part-preserved : goal.loop-part-preserved
loop-part-preserved c =
    let low : ℕ = c.args.low in
    let i : ℕ = c.loop-part.part-index in
    let first : List Cell = c.args.cells.now.items in
    let now : List Cell = c.loop-part.cells.items in
    let parts : List Part = c.loop-part.parts in
    let initial : List Part = c.args.parts.now in
    let cell : Cell = c.index_mut.result.now in
    let part : Part = c.part-item.result in
    let inv = c.loop-part.invariant in
    let less : i < length initial = c.loop-part-test.true in
    let within : low + i < length first = omega (arith, c.args.cells.now.ok.0, c.requires) in
    let rest : part ≡ get_or initial i part = read_rest without_page initial parts i part less inv.parts c.part-item.is in
    let there : slice_get initial i ≡ Some part = slice_get-get_or initial i part less ∙ ap Some (sym rest) in
    let page : c.take_page-page.result ≡ part.page = c.take_page-page.ensures.page ∙ ap (λ (q : Part). q.page) (sym c.part-item.is) in
    record {
      at = omega (arith, inv.at);
      cells = ap (λ n. set now n c.put_page.new.cell) inv.at
          ∙ each_more (paged_of (pages_of initial)) low i first now cell c.put_page.new.cell inv.cells (c.index_mut.ensures.value ∙ ap (λ n. get_or now n cell) inv.at) within
          (c.put_page.ensures ∙ ap (λ (g : Page). paged_cell (Some g) cell) page ∙ ap (λ o. paged_cell o cell) (sym (page_at i initial part there)));
      many = inv.many;
      parts = ap (λ p. set parts i p) (c.take_page-page.ensures.rest ∙ ap without_page (sym c.part-item.is))
          ∙ map_over_more without_page initial parts i part less inv.parts c.part-item.is;
    }
