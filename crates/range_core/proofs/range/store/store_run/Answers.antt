use Rattle.std.proofs.Common.{◌≡◌, ℕ, suc, ◌+◌, ◌-◌, ◌<◌, List, length, get_or, refl, sym, ◌∙◌, ap, subst, arith}
use Rattle.io_model.specs.Effects.{overlay}
use Rattle.range_core.specs.ByteRuns.{HasNext}
use Rattle.range_core.specs.EntryCounts.{one_where}
use Rattle.range_core.specs.OnRun.{count_on, on_each}
use Rattle.range_core.specs.Paging.{HasWholePage, filled, lacks_page}
use Rattle.range_core.specs.Stores.{dirtied, next_bytes, past, stored}
use Rattle.range_core.specs.declared.cell.Cell.{Cell}
use Rattle.range_core.specs.declared.parts.BlockPart.{BlockPart}
use Rattle.range_core.proofs.ByteRunLemmas.{begun, begun-all, begun-none}
use Rattle.range_core.proofs.OnRunLemmas.{count_on-more, count_on-none, each_more, on_each-next, on_each-none}
use Rattle.range_core.proofs.PagingLemmas.{count_on-le}
use Rattle.range_core.proofs.StoreLemmas.{laid_part, past_more, room_past}
use Rattle.range_core.proofs.range.store.store_run.Goals as goal

pub loop-k-init : goal.loop-k-init
loop-k-init c =
    let run = c.args.run in
    let bytes : List ℕ = next_bytes c.args.iov.now (run.to - run.from) in
    let none = begun-none run c.requires.run in
    let place : c.args.iov.now.place ≡ c.args.iov.now.place + begun run 0 = omega arith in
    record {
      cells = on_each-none (stored run bytes) 0 (run.first - c.args.first) c.args.cells.now.items;
      many = refl;
      left = omega (arith, count_on-none lacks_page (run.first - c.args.first) c.args.cells.now.items);
      kept = c.requires.kept;
      iov = ap (λ m. record c.args.iov.now { place = m }) place;
    }

-- the next block is as it was
block_is : (f : ℕ → Cell → Cell) (low k : ℕ) (cells now : List Cell) (c : Cell) → c ≡ get_or now (low + k) c → low + k < length cells → now ≡ on_each f 0 low k cells → c ≡ get_or cells (low + k) c
block_is f low k cells now c at within are = at ∙ ap (λ l. get_or l (low + k) c) are ∙ on_each-next f 0 low k (low + k) cells c refl within

-- one more block is counted, where it has no page
one_more : (low k : ℕ) (cells : List Cell) (c : Cell) → c ≡ get_or cells (low + k) c → low + k < length cells → count_on lacks_page low (k + 1) cells ≡ count_on lacks_page low k cells + one_where (lacks_page c)
one_more low k cells c is within =
    let one : suc k ≡ k + 1 = omega arith in
    sym (ap (λ j. count_on lacks_page low j cells) one) ∙ count_on-more lacks_page low k (low + k) cells c refl within
    ∙ ap (λ x. count_on lacks_page low k cells + one_where (lacks_page x)) (sym is)

pub store_part-requires-clause-own : goal.store_part-requires-clause-own
store_part-requires-clause-own c =
    let run = c.args.run in
    let bytes : List ℕ = next_bytes c.args.iov.now (run.to - run.from) in
    let cell : Cell = c.index_mut.result.now in
    let low = c.requires.low in
    let at : ℕ = run.first - c.args.first + c.loop-k.k in
    let l = c.loop-k-test.true in
    let within : at < length c.args.cells.now.items = omega (arith, c.requires.high, c.args.cells.now.ok.0) in
    let is = block_is (stored run bytes) (run.first - c.args.first) c.loop-k.k c.args.cells.now.items c.loop-k.cells.items cell c.index_mut.ensures.value within c.loop-k.invariant.cells in
    let W : Cell → Type 0 = λ x. HasWholePage run.size x in
    subst W (sym is) (c.requires.pages at cell within)

pub store_part-requires-clause-some : goal.store_part-requires-clause-some
store_part-requires-clause-some c =
    let run = c.args.run in
    let bytes : List ℕ = next_bytes c.args.iov.now (run.to - run.from) in
    let cell : Cell = c.index_mut.result.now in
    let low = c.requires.low in
    let at : ℕ = run.first - c.args.first + c.loop-k.k in
    let l = c.loop-k-test.true in
    let within : at < length c.args.cells.now.items = omega (arith, c.requires.high, c.args.cells.now.ok.0) in
    let is = block_is (stored run bytes) (run.first - c.args.first) c.loop-k.k c.args.cells.now.items c.loop-k.cells.items cell c.index_mut.ensures.value within c.loop-k.invariant.cells in
    let more = one_more (run.first - c.args.first) c.loop-k.k c.args.cells.now.items cell is within in
    let few = count_on-le lacks_page (run.first - c.args.first) (c.loop-k.k + 1) run.blocks c.args.cells.now.items (omega arith) in
    λ e. let one : one_where (lacks_page cell) ≡ 1 = ap one_where e in omega (arith, more, few, one, c.loop-k.invariant.left, c.requires.stock)

pub store_part-requires-clause-room : goal.store_part-requires-clause-room
store_part-requires-clause-room c =
    let P : BlockPart → Type 0 = λ p. HasNext c.loop-k.iov p.length in
    subst P (sym c.block_part-part.ensures.part) (room_past c.args.run c.requires.run c.loop-k.k c.loop-k-test.true c.args.iov.now c.loop-k.iov c.requires.room c.loop-k.invariant.iov)

pub loop-k-preserved : goal.loop-k-preserved
loop-k-preserved c =
    let run = c.args.run in
    let k : ℕ = c.loop-k.k in
    let bytes : List ℕ = next_bytes c.args.iov.now (run.to - run.from) in
    let cell : Cell = c.index_mut.result.now in
    let low = c.requires.low in
    let l = c.loop-k-test.true in
    let within : run.first - c.args.first + k < length c.args.cells.now.items = omega (arith, c.requires.high, c.args.cells.now.ok.0) in
    let is = block_is (stored run bytes) (run.first - c.args.first) k c.args.cells.now.items c.loop-k.cells.items cell c.index_mut.ensures.value within c.loop-k.invariant.cells in
    let more = one_more (run.first - c.args.first) k c.args.cells.now.items cell is within in
    let written : c.store_part.new.cell ≡ stored run bytes k cell =
    c.store_part.ensures.cell ∙ ap (λ (p : BlockPart). dirtied (overlay p.at (next_bytes c.loop-k.iov p.length)) (filled run.size cell)) c.block_part-part.ensures.part ∙ laid_part run c.requires.run k l c.args.iov.now c.loop-k.iov (filled run.size cell) c.loop-k.invariant.iov in
    record {
      cells = each_more (stored run bytes) (run.first - c.args.first) k c.args.cells.now.items c.loop-k.cells.items cell c.store_part.new.cell c.loop-k.invariant.cells c.index_mut.ensures.value within written;
      many = c.loop-k.invariant.many;
      left = omega (arith, more, c.store_part.ensures.left, c.loop-k.invariant.left);
      kept = c.store_part.ensures.rest;
      iov = past_more run c.requires.run k l c.args.iov.now c.loop-k.iov c.store_part.new.iov c.loop-k.invariant.iov (c.store_part.ensures.iov ∙ ap (λ (p : BlockPart). past c.loop-k.iov p.length) c.block_part-part.ensures.part);
    }

pub returns-clause-iov : goal.returns-clause-iov
returns-clause-iov c =
    let all : c.loop-k.k ≡ c.args.run.blocks = omega (arith, c.loop-k.auto.k-end, c.loop-k-test.false) in
    c.loop-k.invariant.iov ∙ ap (λ k. past c.args.iov.now (begun c.args.run k)) all ∙ ap (past c.args.iov.now) (begun-all c.args.run c.requires.run)
