use Rattle.std.proofs.Common.{◌≡◌, ℕ, ◌+◌, List, [], ◌∷◌, ◌++◌, length, get_or, map, take, drop, arith, sym, ap, ◌∙◌, length-drop}
use Rattle.std.proofs.lemmas.List.{get_or-drop, length_push, map_push, take_more}
use Rattle.iob_base.specs.Parting.{bare_part, pages_of}
use Rattle.iob_base.specs.declared.part.Part.{Part}
use Rattle.iob_base.specs.declared.sector.Page.{Page}
use Rattle.range_core.specs.LendWritebacks.{page_copy}
use Rattle.range_core.specs.declared.cell.Cell.{Cell}
use Rattle.range_core.proofs.range.lend_writeback.add_copies.Goals as goal

pub loop-i-preserved : goal.loop-i-preserved
loop-i-preserved c =
    let page : Page = c.in-Ok.page in
    let parts : List Part = c.loop-i.parts in
    let low : ℕ = c.args.low in
    let i : ℕ = c.loop-i.i in
    let cells : List Cell = c.args.cells.now in
    let cell : Cell = c.index-cells-low.result in
    let here : get_or (drop low cells) i cell ≡ cell = get_or-drop low cells i cell ∙ sym c.index-cells-low.is in
    let more : map page_copy (take (i + 1) (drop low cells)) ≡ map page_copy (take i (drop low cells)) ++ page_copy cell ∷ [] =
    ap (map page_copy) (take_more (drop low cells) i cell (omega (arith, length-drop low cells, c.requires.within, c.loop-i-test.true)))
    ∙ map_push page_copy (take i (drop low cells)) (get_or (drop low cells) i cell)
    ∙ ap (λ x. map page_copy (take i (drop low cells)) ++ page_copy x ∷ []) here in
    record {
      many = ap length c.push_page.ensures ∙ omega (arith, length_push parts (bare_part page), c.loop-i.invariant.many);
      pages = ap pages_of c.push_page.ensures ∙ map_push (λ (p : Part). p.page) parts (bare_part page)
          ∙ ap (λ ps. ps ++ page ∷ []) c.loop-i.invariant.pages ∙ ap (λ p. map page_copy (take i (drop low cells)) ++ p ∷ []) c.in-Ok.ensures ∙ sym more;
    }
