use Rattle.std.proofs.Common.{◌≡◌, ℕ, ◌+◌, ◌-◌, ◌<◌, Bool, true, Option, Some, List, Vec, length, get_or, set, take, replicate, refl, sym, ◌∙◌, ap, subst, arith}
use Rattle.std.proofs.lemmas.List.{length-replicate, set-get_or}
use Rattle.iob_base.specs.declared.sector.Page.{Page}
use Rattle.range_core.specs.Pages.{zero_page}
use Rattle.range_core.specs.Paging.{filled_where}
use Rattle.range_core.specs.declared.cell.Cell.{Cell}
use Rattle.range_core.proofs.OnRunLemmas.{count_on-none, length-on_each, on_each-none}
use Rattle.range_core.proofs.PagingLemmas.{IsFilling, Takes, keep_page, take_page}
use Rattle.range_core.proofs.paging.give_pages.Goals as goal
use Rattle.range_core.proofs.paging.give_pages.Goals.{then-needs+in-Some-1, then-needs+in-None-1, else-needs}

abbrev items : {A B : Type 0} → Vec A B → List A
items v = v.items

pub loop-i-init : goal.loop-i-init
loop-i-init g c =
    let needs : Cell → Bool = g.T.Needs.needs c.args.test.now in
    let first : List Cell = c.args.cells.now.items in
    let none = count_on-none needs c.args.low first in
    let many : length c.in_ok-stock.stock.items ≡ c.count_needs-count.result = ap length c.in_ok-stock.ensures ∙ length-replicate c.count_needs-count.result (zero_page c.args.size) in
    record {
      filling = record {
        cells = on_each-none (λ _ x. filled_where needs c.args.size x) 0 c.args.low first;
        stock_is = c.in_ok-stock.ensures ∙ ap (λ k. replicate k (zero_page c.args.size)) (sym many);
        left = omega (arith, many, none, c.count_needs-count.ensures.count);
      };
      many = refl;
    }

-- a block that took the last page of the stock has it
taken : (needs : Cell → Bool) (size low n i len : ℕ) (first now cells : List Cell) (stock rest : List Page) (cell : Cell) (page : Option Page) → Takes needs size low n i first now stock cell → len ≡ length stock
    → (0 < len → page ≡ Some (get_or stock (len - 1) (zero_page size))) → cells ≡ set now (low + i) (record cell { page = page }) → rest ≡ take (len - 1) stock → IsFilling needs size low n (i + 1) first cells rest
taken needs size low n i len first now cells stock rest cell page t long last are left =
    let some = t.some in
    let is : page ≡ Some (zero_page size) = last (omega arith) ∙ ap (λ k. Some (get_or stock (k - 1) (zero_page size))) long ∙ ap Some t.page in
    let C : List Cell → Type 0 = λ xs. IsFilling needs size low n (i + 1) first xs rest in
    let S : List Page → Type 0 = λ xs. IsFilling needs size low n (i + 1) first (set now (low + i) (record cell { page = Some (zero_page size) })) xs in
    subst C (sym (are ∙ ap (λ p. set now (low + i) (record cell { page = p })) is)) (subst S (sym (left ∙ ap (λ k. take (k - 1) stock) long)) t.filling)

pub loop-i-preserved : goal.loop-i-preserved
loop-i-preserved g c =
    let needs : Cell → Bool = g.T.Needs.needs c.args.test.now in
    let size : ℕ = c.args.size in
    let low : ℕ = c.args.low in
    let i : ℕ = c.loop-i.i in
    let n : ℕ = c.args.blocks in
    let first : List Cell = c.args.cells.now.items in
    let now : List Cell = c.loop-i.cells.items in
    let stock : List Page = c.loop-i.stock.items in
    let cell : Cell = c.index_mut-cell.result.now in
    let inv = c.loop-i.invariant in
    let many : length now ≡ length first = omega (arith, inv.many, c.loop-i.cells.ok.0, c.args.cells.now.ok.0) in
    let within : low + i < length first = omega (arith, c.args.cells.now.ok.0, c.requires) in
    let takes = λ (e : needs cell ≡ true). take_page needs size low n i first now stock cell inv.filling c.index_mut-cell.ensures.value within many c.loop-i-test.true e in
    let filling : IsFilling needs size low n (i + 1) first c.if-needs.cells.items c.if-needs.stock.items =
    elim c.if-needs.branch [
      | then-needs+in-Some-1 w ↦ taken needs size low n i _ first now _ stock _ cell w.pop.result (takes (sym c.needs.ensures ∙ w.if-needs.true)) c.loop-i.stock.ok.0 (w.pop.ensures.value (zero_page size)) (ap items w.cells-is) (ap items w.stock-is ∙ w.pop.ensures.rest)
      | then-needs+in-None-1 w ↦ taken needs size low n i _ first now _ stock _ cell w.pop.result (takes (sym c.needs.ensures ∙ w.if-needs.true)) c.loop-i.stock.ok.0 (w.pop.ensures.value (zero_page size)) (ap items w.cells-is) (ap items w.stock-is ∙ w.pop.ensures.rest)
      | else-needs w ↦
          let same : set now (low + i) cell ≡ now = ap (set now (low + i)) c.index_mut-cell.ensures.value ∙ set-get_or now (low + i) cell in
          let cells : c.if-needs.cells.items ≡ now = ap items w.cells-is ∙ same in
          let stays : c.if-needs.stock.items ≡ stock = ap items w.stock-is in
          let C : List Cell → Type 0 = λ xs. IsFilling needs size low n (i + 1) first xs c.if-needs.stock.items in
          let S : List Page → Type 0 = λ xs. IsFilling needs size low n (i + 1) first now xs in
          subst C (sym cells) (subst S (sym stays) (keep_page needs size low n i first now stock cell inv.filling c.index_mut-cell.ensures.value within many (sym c.needs.ensures ∙ w.if-needs.false)))
    ] in
    let long : length c.if-needs.cells.items ≡ length first = ap length filling.cells ∙ length-on_each (λ _ x. filled_where needs size x) 0 low (i + 1) first in
    record { filling = filling; many = omega (arith, long, c.if-needs.cells.ok.0, c.args.cells.now.ok.0) }
