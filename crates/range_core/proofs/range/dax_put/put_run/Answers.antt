use Rattle.std.proofs.Common.{◌≡◌, ℕ, ◌+◌, ◌-◌, ◌<◌, ◌≤◌, List, length, refl, sym, ◌∙◌, ap, subst, arith}
use Rattle.io_model.specs.Effects.{overlay}
use Rattle.range_core.specs.ByteRuns.{HasNext}
use Rattle.range_core.specs.DaxPuts.{put}
use Rattle.range_core.specs.Stores.{next_bytes, past}
use Rattle.range_core.specs.Through.{made_mapped, through}
use Rattle.range_core.specs.declared.cell.Cell.{Cell}
use Rattle.range_core.specs.declared.parts.BlockPart.{BlockPart}
use Rattle.range_core.proofs.ByteRunLemmas.{begun, begun-all, begun-none}
use Rattle.range_core.proofs.DaxPutLemmas.{full_part, put_part-is}
use Rattle.range_core.proofs.OnRunLemmas.{each_more, on_each-none}
use Rattle.range_core.proofs.StoreLemmas.{past_more, room_past}
use Rattle.range_core.proofs.range.dax_put.put_run.Goals as goal

pub loop-k-init : goal.loop-k-init
loop-k-init c =
    let run = c.args.run in
    let bytes : List ℕ = next_bytes c.args.iov.now (run.to - run.from) in
    let none = begun-none run c.requires.run in
    let place : c.args.iov.now.place ≡ c.args.iov.now.place + begun run 0 = omega arith in
    record {
      cells = on_each-none (put run bytes) 0 (run.first - c.args.first) c.args.cells.now.items;
      many = refl;
      iov = ap (λ m. record c.args.iov.now { place = m }) place;
    }

pub put_part-requires-clause-sector : goal.put_part-requires-clause-sector
put_part-requires-clause-sector c =
    let run = c.args.run in
    let bytes : List ℕ = next_bytes c.args.iov.now (run.to - run.from) in
    let low = c.requires.low in
    let within : run.first - c.args.first + run.blocks ≤ length c.args.cells.now.items = omega (arith, c.requires.high, c.args.cells.now.ok.0) in
    full_part run c.args.first (put run bytes) c.args.cells.now.items c.loop-k.cells.items c.loop-k.k c.index_mut.result.now c.block_part.result.at c.block_part.result.length c.requires.full c.loop-k-test.true within c.loop-k.invariant.cells c.index_mut.ensures.value c.block_part.ensures.within

pub put_part-requires-clause-room : goal.put_part-requires-clause-room
put_part-requires-clause-room c =
    let P : BlockPart → Type 0 = λ p. HasNext c.loop-k.iov p.length in
    subst P (sym c.block_part.ensures.part) (room_past c.args.run c.requires.run c.loop-k.k c.loop-k-test.true c.args.iov.now c.loop-k.iov c.requires.room c.loop-k.invariant.iov)

pub loop-k-preserved : goal.loop-k-preserved
loop-k-preserved c =
    let run = c.args.run in
    let k : ℕ = c.loop-k.k in
    let bytes : List ℕ = next_bytes c.args.iov.now (run.to - run.from) in
    let cell : Cell = c.index_mut.result.now in
    let low = c.requires.low in
    let l = c.loop-k-test.true in
    let within : run.first - c.args.first + k < length c.args.cells.now.items = omega (arith, c.requires.high, c.args.cells.now.ok.0) in
    let written : c.put_part.new.cell ≡ put run bytes k cell =
    c.put_part.ensures.cell ∙ ap (λ (p : BlockPart). through (overlay p.at (next_bytes c.loop-k.iov p.length)) (made_mapped cell)) c.block_part.ensures.part ∙ put_part-is run c.requires.run k l c.args.iov.now c.loop-k.iov cell c.loop-k.invariant.iov in
    record {
      cells = each_more (put run bytes) (run.first - c.args.first) k c.args.cells.now.items c.loop-k.cells.items cell c.put_part.new.cell c.loop-k.invariant.cells c.index_mut.ensures.value within written;
      many = c.loop-k.invariant.many;
      iov = past_more run c.requires.run k l c.args.iov.now c.loop-k.iov c.put_part.new.iov c.loop-k.invariant.iov (c.put_part.ensures.iov ∙ ap (λ (p : BlockPart). past c.loop-k.iov p.length) c.block_part.ensures.part);
    }

pub returns-clause-iov : goal.returns-clause-iov
returns-clause-iov c =
    let all : c.loop-k.k ≡ c.args.run.blocks = omega (arith, c.loop-k.auto.k-end, c.loop-k-test.false) in
    c.loop-k.invariant.iov ∙ ap (λ k. past c.args.iov.now (begun c.args.run k)) all ∙ ap (past c.args.iov.now) (begun-all c.args.run c.requires.run)
