use Rattle.std.proofs.Common.{◌≡◌, ◌<◌, ℕ, List, ap, sym, subst, ◌∙◌, arith, drop, get_or, length}
use Rattle.std.proofs.lemmas.List.{get_or-map}
use Rattle.iob_base.specs.declared.part.Part.{Part}
use Rattle.iob_base.proofs.PartLemmas.{many_pages}
use Rattle.range_core.specs.BlockTruth.{IsWholePage}
use Rattle.range_core.specs.DirectNows.{filled_part, parts_filled}
use Rattle.range_core.proofs.DirectNowLemmas.{fills_more, parts_filled-next}
use Rattle.range_core.proofs.range.direct_now.fill_parts.Goals as goal

pub fill_part-requires-clause-whole : goal.fill_part-requires-clause-whole
fill_part-requires-clause-whole c =
    let i : ℕ = c.loop-i.i in
    let parts : List Part = c.args.parts.now in
    let d : Part = c.index-parts-i.result in
    let is : get_or c.loop-i.parts i d ≡ get_or parts i d = ap (λ l. get_or l i d) c.loop-i.invariant ∙ parts_filled-next c.args.size i (drop c.args.low c.args.cells.now.items) parts d in
    let within : i < length parts = omega arith in
    let whole = subst (IsWholePage c.args.size) (get_or-map (λ (p : Part). p.page) parts i d d.page within) (c.requires.whole i d.page (omega (arith, many_pages parts, within))) in
    ap (λ (p : Part). length p.page.bytes) is ∙ whole

pub loop-i-preserved : goal.loop-i-preserved
loop-i-preserved c =
    let F : Part → Type 0 = λ p. c.fill_part.new.part ≡ filled_part c.args.size c.index.result.now p in
    fills_more c.args.size c.args.low c.loop-i.i c.args.cells.now.items c.args.parts.now c.loop-i.parts c.index.result.now c.index-parts-i.result c.fill_part.new.part
    c.loop-i.invariant c.index.ensures c.index-parts-i.is (omega arith) (omega arith) (subst F (sym c.index-parts-i.is) c.fill_part.ensures)

pub returns : goal.returns
returns c = c.loop-i.invariant ∙ ap (λ n. parts_filled c.args.size n (drop c.args.low c.args.cells.now.items) c.args.parts.now) (omega arith)
