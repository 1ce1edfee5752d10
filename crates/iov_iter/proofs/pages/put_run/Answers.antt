use Rattle.std.proofs.Common.{◌≡◌, ◌+◌, ◌++◌, ◌∷◌, List, get_or, set, take, drop, arith, sym, ap, ◌∙◌, subst}
use Rattle.std.proofs.lemmas.List.{drop_more}
use Rattle.std.proofs.lemmas.List.Edits.{map_over_more}
use Rattle.iob_base.specs.Parting.{pages_of, without_page}
use Rattle.iob_base.specs.declared.part.Part.{Part}
use Rattle.iob_base.specs.declared.sector.Page.{Page}
use Rattle.iob_base.proofs.PartLemmas.{read_rest}
use Rattle.iov_iter.specs.Runs.{FitIn, slot_put, slots_put}
use Rattle.iov_iter.specs.Slots.{SlotView}
use Rattle.iov_iter.proofs.PutRuns.{fit_after, put_after}
use Rattle.iov_iter.proofs.pages.put_run.Goals as goal

pub loop-part-preserved : goal.loop-part-preserved
loop-part-preserved c =
    let rest : c.part-item.result ≡ get_or c.args.parts.now c.loop-part.part-index c.part-item.result =
    read_rest without_page c.args.parts.now c.loop-part.parts c.loop-part.part-index c.part-item.result c.loop-part-test.true c.loop-part.invariant.parts c.part-item.is in
    let page : c.take_page.result ≡ (get_or c.args.parts.now c.loop-part.part-index c.part-item.result).page =
    c.take_page.ensures.page ∙ ap (λ (p : Part). p.page) (sym c.part-item.is ∙ rest) in
    let more : pages_of (drop c.loop-part.part-index c.args.parts.now) ≡ c.take_page.result ∷ pages_of (drop (c.loop-part.part-index + 1) c.args.parts.now) =
    ap pages_of (drop_more c.args.parts.now c.loop-part.part-index c.part-item.result c.loop-part-test.true)
    ∙ ap (λ g. g ∷ pages_of (drop (c.loop-part.part-index + 1) c.args.parts.now)) (sym page) in
    let F : List Page → Type 0 = FitIn (drop c.loop-part.at c.loop-part.slots.items) in
    let fit : FitIn (drop c.loop-part.at c.loop-part.slots.items) (c.take_page.result ∷ pages_of (drop (c.loop-part.part-index + 1) c.args.parts.now)) = subst F more c.loop-part.invariant.fit in
    let put : c.put.new.self ≡ slot_put (get_or c.loop-part.slots.items c.loop-part.at c.index_mut.result.now) c.take_page.result =
    c.put.ensures ∙ ap (λ (s : SlotView). slot_put s c.take_page.result) c.index_mut.ensures.value in
    record {
      at = omega (arith, c.loop-part.invariant.at);
      fit = fit_after c.loop-part.at (c.loop-part.at + 1) c.loop-part.slots.items c.put.new.self c.take_page.result (pages_of (drop (c.loop-part.part-index + 1) c.args.parts.now)) (omega arith) fit;
      slots = put_after c.loop-part.at (c.loop-part.at + 1) c.loop-part.slots.items c.put.new.self c.index_mut.result.now c.take_page.result (pages_of (drop (c.loop-part.part-index + 1) c.args.parts.now)) (omega arith) fit put
          ∙ ap (λ gs. take c.loop-part.at c.loop-part.slots.items ++ slots_put (drop c.loop-part.at c.loop-part.slots.items) gs) (sym more)
          ∙ c.loop-part.invariant.slots;
      parts = ap (λ p. set c.loop-part.parts c.loop-part.part-index p) (c.take_page.ensures.rest ∙ ap without_page (sym c.part-item.is))
          ∙ map_over_more without_page c.args.parts.now c.loop-part.parts c.loop-part.part-index c.part-item.result c.loop-part-test.true c.loop-part.invariant.parts c.part-item.is;
    }
