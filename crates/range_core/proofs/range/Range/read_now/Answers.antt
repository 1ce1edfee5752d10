use Rattle.std.proofs.Common.{◌≡◌, None, Some, Option, refl, ℕ, ◌+◌, ◌-◌, ◌≤◌, List, ◌++◌, map, length, take, drop, All, sym, ◌∙◌, ap, subst, arith, length-drop}
use Rattle.std.specs.List.{refill}
use Rattle.iob_base.specs.Parting.{pages_of}
use Rattle.iob_base.specs.declared.part.Part.{Part}
use Rattle.iob_base.specs.declared.sector.Page.{Page}
use Rattle.iob_base.specs.declared.stamp.Stamp.{Stamp}
use Rattle.iob_base.proofs.PartLemmas.{many_pages}
use Rattle.turn_cell.specs.Seats.{seat_claims, seat_view}
use Rattle.range_core.specs.BlockTruth.{IsWholePage}
use Rattle.range_core.specs.DirectNows.{AreReady, CanReadNow, after_direct_now, now_count, now_length, pages_filled, part_sectors, parts_filled}
use Rattle.range_core.specs.Events.{page_shape}
use Rattle.range_core.specs.Kinds.{is_mapped}
use Rattle.range_core.specs.RangeView.{RangeView, cells_from, range_view}
use Rattle.range_core.specs.Refusals.{◌orElse◌, away, dirty, direct_now_refusal, first_that_stops}
use Rattle.range_core.specs.Runs.{begins_mapped}
use Rattle.range_core.specs.Stamps.{done_by, stamps_from}
use Rattle.range_core.specs.contracts.range.Range.read_now.F-FnMut.{words}
use Rattle.range_core.specs.declared.cell.Cell.{Cell}
use Rattle.range_core.specs.declared.fault.EventFault.{EventFault}
use Rattle.range_core.proofs.DirectNowLemmas.{begins-mapped, filled-shapes, now_length-ready, now_length-within, pages_of-filled, part_sectors-filled, read-gone, read_sound, refill-whole}
use Rattle.range_core.proofs.JudgeLemmas.{fails, passes, refuses, starves}
use Rattle.range_core.proofs.SoundLemmas.{gone-within}
use Rattle.range_core.proofs.range.Range.read_now.Goals as goal

-- how far the read goes
run_is : (cells seen : List Cell) (pages : List Page) (at n most : ℕ) → n ≡ now_length (drop at seen) most → seen ≡ cells → most ≡ length pages → n ≡ now_length (drop at cells) (length pages)
run_is cells seen pages at n most e f h = e ∙ ap (λ l. now_length (drop at l) most) f ∙ ap (now_length (drop at cells)) h

pub add-requires-clause-fits : goal.add-requires-clause-fits
add-requires-clause-fits g c =
    let cells : List Cell = c.self.inside.cells.items in
    let pages : List Page = pages_of c.args.pages.now in
    let at : ℕ = c.args.block - c.self.inside.first in
    let run = run_is cells c.deref-2.result.now pages at c.now_run-n.result c.len.result c.now_run-n.ensures c.deref-2.ensures.value c.len.ensures.pages in
    let within = now_length-within (drop at cells) (length pages) in
    let R : RangeView → Type 0 = λ v. CanReadNow v c.args.block pages in
    let can = subst R (sym c.self.view_is) c.requires.can in
    omega (arith, run, within.0, can.here.low, can.here.high, c.self.invariant.0.few, length-drop at cells)

pub overflow_cast-n : goal.overflow_cast-n
overflow_cast-n g c =
    let cells : List Cell = c.self.inside.cells.items in
    let pages : List Page = pages_of c.args.pages.now in
    let at : ℕ = c.args.block - c.self.inside.first in
    let run = run_is cells c.deref-2.result.now pages at c.now_run-n.result c.len.result c.now_run-n.ensures c.deref-2.ensures.value c.len.ensures.pages in
    let within = now_length-within (drop at cells) (length pages) in
    let few = c.self.invariant.0.few in
    omega (arith, run, within.0, few, length-drop at cells)

pub fill_parts-requires-clause-cells : goal.fill_parts-requires-clause-cells
fill_parts-requires-clause-cells g c =
    let cells : List Cell = c.self.inside.cells.items in
    let pages : List Page = pages_of c.args.pages.now in
    let at : ℕ = c.args.block - c.self.inside.first in
    let run = run_is cells c.deref-2.result.now pages at c.now_run-n.result c.len.result c.now_run-n.ensures c.deref-2.ensures.value c.len.ensures.pages in
    let within = now_length-within (drop at cells) (length pages) in
    let R : RangeView → Type 0 = λ v. CanReadNow v c.args.block pages in
    let can = subst R (sym c.self.view_is) c.requires.can in
    let low = can.here.low in
    let high = can.here.high in
    omega (arith, run, within.0, low, high, length-drop at cells, c.self.inside.cells.ok.0)

pub fill_parts-requires-clause-parts : goal.fill_parts-requires-clause-parts
fill_parts-requires-clause-parts g c =
    let cells : List Cell = c.self.inside.cells.items in
    let pages : List Page = pages_of c.args.pages.now in
    let at : ℕ = c.args.block - c.self.inside.first in
    let run = run_is cells c.deref-2.result.now pages at c.now_run-n.result c.len.result c.now_run-n.ensures c.deref-2.ensures.value c.len.ensures.pages in
    let within = now_length-within (drop at cells) (length pages) in
    omega (arith, run, within.1, many_pages c.args.pages.now, ap length c.as_mut_slice.ensures.value)

pub fill_parts-requires-clause-ready : goal.fill_parts-requires-clause-ready
fill_parts-requires-clause-ready g c =
    let cells : List Cell = c.self.inside.cells.items in
    let pages : List Page = pages_of c.args.pages.now in
    let at : ℕ = c.args.block - c.self.inside.first in
    let run = run_is cells c.deref-2.result.now pages at c.now_run-n.result c.len.result c.now_run-n.ensures c.deref-2.ensures.value c.len.ensures.pages in
    let N : ℕ → Type 0 = λ n. AreReady c.self.inside.geometry.block_size n (drop at cells) in
    let S : ℕ → Type 0 = λ size. AreReady size c.now_run-n.result (drop at cells) in
    subst S (sym c.block_size-size.ensures.value) (subst N (sym run) (now_length-ready c.self.inside.geometry.block_size at (length pages) cells c.self.invariant.0.places))

pub drop_mapped_run-requires : goal.drop_mapped_run-requires
drop_mapped_run-requires g c =
    let cells : List Cell = c.self.inside.cells.items in
    let pages : List Page = pages_of c.args.pages.now in
    let at : ℕ = c.args.block - c.self.inside.first in
    let run = run_is cells c.deref-2.result.now pages at c.now_run-n.result c.len.result c.now_run-n.ensures c.deref-2.ensures.value c.len.ensures.pages in
    let within = now_length-within (drop at cells) (length pages) in
    let R : RangeView → Type 0 = λ v. CanReadNow v c.args.block pages in
    let can = subst R (sym c.self.view_is) c.requires.can in
    let low = can.here.low in
    let high = can.here.high in
    omega (arith, run, within.0, low, high, length-drop at cells, c.self.inside.cells.ok.0)

pub invariant_of-self-2 : goal.invariant_of-self-2
invariant_of-self-2 g c =
    let r = c.self.inside in
    let cells : List Cell = r.cells.items in
    let pages : List Page = pages_of c.args.pages.now in
    let at : ℕ = c.args.block - r.first in
    let n : ℕ = c.now_run-n.result in
    let view : RangeView = range_view r.geometry r.mode r.first cells r.log.items r.cookie r.errors r.tickets (seat_view r.seat) (seat_claims r.seat).facts in
    let run = run_is cells c.deref-2.result.now pages at n c.len.result c.now_run-n.ensures c.deref-2.ensures.value c.len.ensures.pages in
    let within = now_length-within (drop at cells) (length pages) in
    let R : RangeView → Type 0 = λ v. CanReadNow v c.args.block pages in
    let can = subst R (sym c.self.view_is) c.requires.can in
    let low : r.first ≤ c.args.block = can.here.low in
    let high : c.args.block + 1 ≤ r.first + length cells = can.here.high in
    let joined : c.add.new.self.items ≡ c.reserve.new.self.items ++ stamps_from c.args.block n c.stamp_done.result = c.add.ensures.items in
    let room = c.self.invariant.1 in
    let gone = read-gone at n cells c.drop_mapped_run.new.cells.items c.drop_mapped_run.ensures in (
      read_sound view c.drop_mapped_run.new.cells.items c.reserve.new.self.items c.add.new.self.items c.args.block n c.stamp_done.result c.self.invariant.0 c.drop_mapped_run.ensures
          c.reserve.ensures.items joined low (omega (arith, run, within.0, low, high, length-drop at cells)),
      omega (arith, c.add.ensures.few, c.add.ensures.kept, c.reserve.ensures.used, c.in-Ok.ensures.ok, gone, room, gone-within cells, c.self.inside.cells.ok.0),
    )

pub fill_parts-requires-clause-whole : goal.fill_parts-requires-clause-whole
fill_parts-requires-clause-whole g c =
    let parts : List Part = c.args.pages.now in
    let R : RangeView → Type 0 = λ v. CanReadNow v c.args.block (pages_of parts) in
    let can = subst R (sym c.self.view_is) c.requires.can in
    let P : List Part → Type 0 = λ ps. All (IsWholePage c.block_size-size.result) (pages_of ps) in
    let Z : ℕ → Type 0 = λ z. All (IsWholePage z) (pages_of parts) in
    subst P (sym c.as_mut_slice.ensures.value) (subst Z (sym c.block_size-size.ensures.value) can.whole)

pub returns-in-Some : goal.returns-in-Some
returns-in-Some g c =
    let cells : List Cell = c.self.inside.cells.items in
    let block = c.args.block in
    let at : ℕ = block - c.self.inside.first in
    let one : at + 1 - at ≡ 1 = omega arith in
    let G : ℕ → List Cell → Option EventFault = λ n cs. first_that_stops away block (take n (drop at cs)) orElse first_that_stops dirty block (take n (drop at cs)) in
    let here : c.now_stop.result ≡ G 1 cells = c.now_stop.ensures ∙ ap (λ n. G n c.deref.result.now) one ∙ ap (G 1) c.deref.ensures.value in
    let V : RangeView → Type 0 = λ v. direct_now_refusal v block ≡ Some c.in-Some.fault in
    record {
      made = tt;
      count = tt;
      read = tt;
      state = tt;
      judged = record { answer = None; is_asked = refl };
      passed = tt;
      refused = refuses (direct_now_refusal c.args.self.now block) _ _ (subst V c.self.view_is (sym here ∙ c.in-Some.is));
      unchanged = refl;
      unfilled = refl;
      shapes = refl;
      sectors = refl;
    }

pub returns-in_default-reserve : goal.returns-in_default-reserve
returns-in_default-reserve g c =
    let r = c.self.inside in
    let cells : List Cell = r.cells.items in
    let block = c.args.block in
    let at : ℕ = block - r.first in
    let one : at + 1 - at ≡ 1 = omega arith in
    let G : ℕ → List Cell → Option EventFault = λ n cs. first_that_stops away block (take n (drop at cs)) orElse first_that_stops dirty block (take n (drop at cs)) in
    let here : c.now_stop.result ≡ G 1 cells = c.now_stop.ensures ∙ ap (λ n. G n c.deref.result.now) one ∙ ap (G 1) c.deref.ensures.value in
    let V : RangeView → Type 0 = λ v. direct_now_refusal v block ≡ None in
    let view : List (ℕ × Stamp) → RangeView = λ l. range_view r.geometry r.mode r.first cells l r.cookie r.errors r.tickets (seat_view r.seat) (seat_claims r.seat).facts in
    record {
      made = tt;
      count = tt;
      read = tt;
      state = tt;
      judged = record { answer = None; is_asked = refl };
      passed = tt;
      refused = starves (direct_now_refusal c.args.self.now block) _ (subst V c.self.view_is (sym here ∙ c.in_default.is));
      unchanged = ap view c.reserve.ensures.items ∙ c.self.view_is;
      unfilled = refl;
      shapes = refl;
      sectors = refl;
    }

pub returns-in-Err : goal.returns-in-Err
returns-in-Err g c =
    let r = c.self.inside in
    let cells : List Cell = r.cells.items in
    let pages : List Page = pages_of c.args.pages.now in
    let block = c.args.block in
    let at : ℕ = block - r.first in
    let one : at + 1 - at ≡ 1 = omega arith in
    let G : ℕ → List Cell → Option EventFault = λ n cs. first_that_stops away block (take n (drop at cs)) orElse first_that_stops dirty block (take n (drop at cs)) in
    let here : c.now_stop.result ≡ G 1 cells = c.now_stop.ensures ∙ ap (λ n. G n c.deref.result.now) one ∙ ap (G 1) c.deref.ensures.value in
    let V : RangeView → Type 0 = λ v. direct_now_refusal v block ≡ None in
    let view : List (ℕ × Stamp) → RangeView = λ l. range_view r.geometry r.mode r.first cells l r.cookie r.errors r.tickets (seat_view r.seat) (seat_claims r.seat).facts in
    let run = run_is cells c.deref-2.result.now pages at c.now_run-n.result c.len.result c.now_run-n.ensures c.deref-2.ensures.value c.len.ensures.pages in
    let N : RangeView → Type 0 = λ v. c.now_run-n.result ≡ now_count v block pages in
    let many = subst N c.self.view_is run in
    let R : RangeView → Type 0 = λ v. CanReadNow v block pages in
    let can = subst R (sym c.self.view_is) c.requires.can in
    let M : RangeView → Type 0 = λ v. c.is_mapped_kind.result ≡ begins_mapped (cells_from v block) in
    let mapped = subst M c.self.view_is (c.is_mapped_kind.ensures ∙ ap (λ (d : Cell). is_mapped d.kind) c.index.ensures ∙ sym (begins-mapped cells at c.index.result.now (omega (arith, can.here.low, can.here.high)))) in
    let told = fails (words g.row.F g.F.FnMut).step _ _ c.args.judge.now c.ask.new.judge _ _ (direct_now_refusal c.args.self.now block) c.in-Err.done many mapped (subst V c.self.view_is (sym here ∙ c.in_default.is)) c.in-Err.ensures in
    record {
      made = tt;
      count = tt;
      read = tt;
      state = tt;
      judged = told.0;
      passed = tt;
      refused = told.1;
      unchanged = ap view c.reserve.ensures.items ∙ c.self.view_is;
      unfilled = refl;
      shapes = refl;
      sectors = refl;
    }

pub returns : goal.returns
returns g c =
    let r = c.self.inside in
    let cells : List Cell = r.cells.items in
    let parts : List Part = c.args.pages.now in
    let pages : List Page = pages_of parts in
    let block = c.args.block in
    let at : ℕ = block - r.first in
    let n : ℕ = c.now_run-n.result in
    let size : ℕ = r.geometry.block_size in
    let one : at + 1 - at ≡ 1 = omega arith in
    let G : ℕ → List Cell → Option EventFault = λ n cs. first_that_stops away block (take n (drop at cs)) orElse first_that_stops dirty block (take n (drop at cs)) in
    let here : c.now_stop.result ≡ G 1 cells = c.now_stop.ensures ∙ ap (λ n. G n c.deref.result.now) one ∙ ap (G 1) c.deref.ensures.value in
    let V : RangeView → Type 0 = λ v. direct_now_refusal v block ≡ None in
    let view : List Cell × List (ℕ × Stamp) → RangeView = λ p. range_view r.geometry r.mode r.first p.0 p.1 r.cookie r.errors r.tickets (seat_view r.seat) (seat_claims r.seat).facts in
    let run = run_is cells c.deref-2.result.now pages at n c.len.result c.now_run-n.ensures c.deref-2.ensures.value c.len.ensures.pages in
    let N : RangeView → Type 0 = λ v. n ≡ now_count v block pages in
    let many = subst N c.self.view_is run in
    let R : RangeView → Type 0 = λ v. CanReadNow v block pages in
    let can = subst R (sym c.self.view_is) c.requires.can in
    let M : RangeView → Type 0 = λ v. c.is_mapped_kind.result ≡ begins_mapped (cells_from v block) in
    let mapped = subst M c.self.view_is (c.is_mapped_kind.ensures ∙ ap (λ (d : Cell). is_mapped d.kind) c.index.ensures ∙ sym (begins-mapped cells at c.index.result.now (omega (arith, can.here.low, can.here.high)))) in
    let told = passes (words g.row.F g.F.FnMut).step _ _ c.args.judge.now c.ask.new.judge _ _ tt many mapped c.in_default-ask.ensures in
    let A : ℕ → Type 0 = λ m. AreReady size m (drop at cells) in
    let ready : AreReady size n (drop at cells) = subst A (sym run) (now_length-ready size at (length pages) cells c.self.invariant.0.places) in
    let filled : c.fill_parts.new.parts ≡ parts_filled size n (drop at cells) parts =
    c.fill_parts.ensures ∙ ap (λ s. parts_filled s n (drop at cells) c.as_mut_slice.result.now) c.block_size-size.ensures.value ∙ ap (parts_filled size n (drop at cells)) c.as_mut_slice.ensures.value in
    let whole : refill (length parts) parts c.fill_parts.new.parts ≡ parts_filled size n (drop at cells) parts = refill-whole parts c.fill_parts.new.parts (c.fill_parts.auto.parts ∙ ap length c.as_mut_slice.ensures.value) ∙ filled in
    let P : RangeView → Type 0 = λ v. pages_of (refill (length parts) parts c.fill_parts.new.parts) ≡ pages_filled v.geometry.block_size n (cells_from v block) pages in
    let now_pages : pages_of (refill (length parts) parts c.fill_parts.new.parts) ≡ pages_filled size n (drop at cells) pages = ap pages_of whole ∙ pages_of-filled size n (drop at cells) parts in
    let S : RangeView → Type 0 = λ v. view (c.drop_mapped_run.new.cells.items, c.add.new.self.items) ≡ after_direct_now v c.args.by block n in
    let log = c.add.ensures.items ∙ ap (λ (st : Stamp). c.reserve.new.self.items ++ stamps_from block n st) c.stamp_done.ensures ∙ ap (λ l. l ++ stamps_from block n (done_by c.args.by)) c.reserve.ensures.items in
    let left = c.drop_mapped_run.ensures in
    record {
      made = subst V c.self.view_is (sym here ∙ c.in_default.is);
      count = many;
      read = subst P c.self.view_is now_pages;
      state = subst S c.self.view_is (λ i. view (left i, log i));
      judged = told.0;
      passed = told.1;
      refused = tt;
      unchanged = tt;
      unfilled = tt;
      shapes = ap (map page_shape) now_pages ∙ filled-shapes size n (drop at cells) pages ready can.whole;
      sectors = ap part_sectors whole ∙ part_sectors-filled size n (drop at cells) parts;
    }
