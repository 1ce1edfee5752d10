use Rattle.std.proofs.Common.{◌≡◌, ◌+◌, ◌++◌, ◌<◌, List, [], ◌∷◌, length, map, take, drop, get_or, set, arith, sym, ap, ◌∙◌, append_assoc, length-drop}
use Rattle.std.proofs.lemmas.List.{get_or-drop, map_more, map_push}
use Rattle.iob_base.specs.Parting.{bare_part, bare_parts}
use Rattle.iob_base.specs.declared.part.Part.{Part}
use Rattle.iob_base.specs.declared.sector.Page.{Page}
use Rattle.iov_iter.specs.Runs.{page_in, slot_out}
use Rattle.iov_iter.specs.Slots.{SlotView}
use Rattle.iov_iter.proofs.RunLemmas.{in_at, run_at, run_more, same_page}
use Rattle.iov_iter.proofs.pages.take_run.Goals as goal

pub take-requires : goal.take-requires
take-requires c =
    let s = c.index_mut.result.now in
    let there : c.args.first + c.loop-i.i < length c.args.slots.now.items = omega (arith, c.requires.within, c.loop-i-test.true) in
    let is : c.index_mut.result.now ≡ get_or c.args.slots.now.items (c.args.first + c.loop-i.i) c.index_mut.result.now =
    c.index_mut.ensures.value ∙ ap (λ (l : List SlotView). get_or l (c.args.first + c.loop-i.i) c.index_mut.result.now) c.loop-i.invariant.slots
    ∙ run_at slot_out c.args.first c.loop-i.i c.args.slots.now.items c.index_mut.result.now there in
    in_at c.args.n c.loop-i.i (drop c.args.first c.args.slots.now.items) c.index_mut.result.now c.requires.home c.loop-i-test.true (is ∙ sym (get_or-drop c.args.first c.args.slots.now.items c.loop-i.i c.index_mut.result.now))

pub loop-i-preserved : goal.loop-i-preserved
loop-i-preserved c =
    let there : c.args.first + c.loop-i.i < length c.args.slots.now.items = omega (arith, c.requires.within, c.loop-i-test.true) in
    let is : c.index_mut.result.now ≡ get_or c.args.slots.now.items (c.args.first + c.loop-i.i) c.index_mut.result.now =
    c.index_mut.ensures.value ∙ ap (λ (l : List SlotView). get_or l (c.args.first + c.loop-i.i) c.index_mut.result.now) c.loop-i.invariant.slots
    ∙ run_at slot_out c.args.first c.loop-i.i c.args.slots.now.items c.index_mut.result.now there in
    let run : List SlotView = drop c.args.first c.args.slots.now.items in
    let inner : get_or (drop c.args.first c.args.slots.now.items) c.loop-i.i c.index_mut.result.now ≡ c.index_mut.result.now =
    get_or-drop c.args.first c.args.slots.now.items c.loop-i.i c.index_mut.result.now ∙ sym is in
    let more : map page_in (take (c.loop-i.i + 1) (drop c.args.first c.args.slots.now.items)) ≡ map page_in (take c.loop-i.i (drop c.args.first c.args.slots.now.items)) ++ c.take.result ∷ [] =
    map_more page_in (drop c.args.first c.args.slots.now.items) c.loop-i.i c.index_mut.result.now (omega (arith, length-drop c.args.first c.args.slots.now.items, c.loop-i-test.true, there))
    ∙ ap (λ (g : Page). map page_in (take c.loop-i.i (drop c.args.first c.args.slots.now.items)) ++ g ∷ []) (ap page_in inner ∙ sym (same_page c.take.result c.index_mut.result.now c.take.ensures.number c.take.ensures.bytes)) in
    record {
      pages = c.push_page.ensures ∙ ap (λ (ps : List Part). ps ++ bare_part c.take.result ∷ []) c.loop-i.invariant.pages
          ∙ append_assoc c.args.into.now (bare_parts (map page_in (take c.loop-i.i (drop c.args.first c.args.slots.now.items)))) (bare_part c.take.result ∷ [])
          ∙ ap (λ (ps : List Part). c.args.into.now ++ ps) (sym (map_push bare_part (map page_in (take c.loop-i.i (drop c.args.first c.args.slots.now.items))) c.take.result))
          ∙ ap (λ (gs : List Page). c.args.into.now ++ bare_parts gs) (sym more);
      slots = ap (λ (l : List SlotView). set l (c.args.first + c.loop-i.i) c.take.new.self) c.loop-i.invariant.slots
          ∙ run_more slot_out c.args.first c.loop-i.i c.args.slots.now.items c.take.new.self c.index_mut.result.now there (c.take.ensures.slot ∙ ap slot_out is);
    }
