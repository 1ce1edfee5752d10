use Rattle.std.proofs.Common.{◌≡◌, ℕ, ◌+◌, ◌<◌, ◌++◌, ◌∷◌, List, length, drop, get_or, set, take, arith, refl, ap, ◌∙◌, length-set}
use Rattle.std.proofs.lemmas.List.{drop-set-lt, drop_more, take_more_set}
use Rattle.iob_base.specs.Parting.{pages_of}
use Rattle.iob_base.specs.declared.part.Part.{Part}
use Rattle.iob_base.specs.declared.sector.Page.{Page}
use Rattle.range_core.specs.Lends.{lent_cell, part_of, parts_of}
use Rattle.range_core.specs.declared.cell.Cell.{Cell}
use Rattle.range_core.proofs.LendLemmas.{has_sector, parts_of-more}
use Rattle.range_core.proofs.OnRunLemmas.{each_more, on_each-next, on_each-none}
use Rattle.range_core.proofs.PartRuns.{same_item, same_rest}
use Rattle.range_core.proofs.lend.lend_run.Goals as goal

pub loop-part-init : goal.loop-part-init
loop-part-init c =
    let z : c.args.low + 0 ≡ c.args.low = omega arith in
    record {
      at = omega arith;
      cells = on_each-none (λ _. lent_cell c.args.away) 0 c.args.low c.args.cells.now.items;
      many = refl;
      long = refl;
      rest = refl;
      parts = ap (λ n. parts_of (drop n c.args.cells.now.items) (pages_of c.args.parts.now)) z;
    }

pub lend_one-requires : goal.lend_one-requires
lend_one-requires c =
    let low : ℕ = c.args.low in
    let i : ℕ = c.loop-part.part-index in
    let first : List Cell = c.args.cells.now.items in
    let cell : Cell = c.index_mut.result.now in
    let less : i < length c.args.parts.now = c.loop-part-test.true in
    let within : low + i < length first = omega (arith, c.args.cells.now.ok.0, c.requires.within) in
    let is : cell ≡ get_or first (low + i) cell =
    c.index_mut.ensures.value ∙ ap (λ n. get_or c.loop-part.cells.items n cell) c.loop-part.invariant.at
    ∙ ap (λ l. get_or l (low + i) cell) c.loop-part.invariant.cells ∙ on_each-next (λ _. lent_cell c.args.away) 0 low i (low + i) first cell refl within in
    has_sector first low _ i cell c.requires.here less within is

pub loop-part-preserved : goal.loop-part-preserved
loop-part-preserved c =
    let low : ℕ = c.args.low in
    let i : ℕ = c.loop-part.part-index in
    let at : ℕ = c.loop-part.at in
    let first : List Cell = c.args.cells.now.items in
    let now : List Cell = c.loop-part.cells.items in
    let parts : List Part = c.loop-part.parts in
    let initial : List Part = c.args.parts.now in
    let cell : Cell = c.index_mut.result.now in
    let part : Part = c.part-item.result in
    let inv = c.loop-part.invariant in
    let less : i < length initial = c.loop-part-test.true in
    let within : low + i < length first = omega (arith, c.args.cells.now.ok.0, c.requires.within) in
    let here : i < length parts = omega (arith, inv.long) in
    let there : at < length now = omega (arith, inv.at, inv.many, c.args.cells.now.ok.0, c.loop-part.cells.ok.0, c.requires.within) in
    let same : get_or parts i part ≡ get_or initial i part = same_item parts initial i part inv.rest in
    let page : Page = (get_or initial i part).page in
    let made : c.lend_one.new.part ≡ part_of cell page = c.lend_one.ensures.part ∙ ap (λ (q : Part). part_of cell q.page) same in
    let pages : pages_of (drop i initial) ≡ page ∷ pages_of (drop (i + 1) initial) = ap pages_of (drop_more initial i part less) in
    let known : take i parts ++ parts_of (drop at now) (pages_of (drop i initial)) ≡ parts_of (drop low first) (pages_of initial) =
    ap (λ n. take i parts ++ parts_of (drop n now) (pages_of (drop i initial))) inv.at ∙ inv.parts in
    record {
      at = omega (arith, inv.at);
      cells = ap (λ n. set now n c.lend_one.new.cell) inv.at
          ∙ each_more (λ _. lent_cell c.args.away) low i first now cell c.lend_one.new.cell inv.cells (c.index_mut.ensures.value ∙ ap (λ n. get_or now n cell) inv.at) within c.lend_one.ensures.cell;
      many = inv.many;
      long = length-set parts i c.lend_one.new.part ∙ inv.long;
      rest = drop-set-lt (i + 1) parts i c.lend_one.new.part (omega arith) ∙ same_rest parts initial i inv.rest;
      parts = parts_of-more now at low i cell c.lend_one.new.cell (pages_of (drop i initial)) (pages_of (drop (i + 1) initial)) page (take i parts) (take (i + 1) (set parts i c.lend_one.new.part)) _ c.lend_one.new.part
          inv.at there c.index_mut.ensures.value made pages (take_more_set parts i c.lend_one.new.part here) known;
    }
