use Rattle.std.proofs.Common.{◌+◌, ◌≤◌, length, sym, ◌∙◌, ap, subst, arith}
use Rattle.iov_iter.specs.IovView.{written_on}
use Rattle.range_core.specs.ByteRuns.{HasNext, part_bytes}
use Rattle.range_core.specs.Paging.{bytes_of}
use Rattle.range_core.specs.declared.parts.BlockPart.{BlockPart}
use Rattle.range_core.proofs.FetchLemmas.{copied_more, part_room}
use Rattle.range_core.proofs.range.fetch.copy_run.Goals as goal

pub copy_part-requires-clause-room : goal.copy_part-requires-clause-room
copy_part-requires-clause-room c =
    let high : c.args.run.first + c.args.run.blocks ≤ c.args.first + length c.args.cells.now.items = omega (arith, c.args.cells.now.ok.0, c.requires.high) in
    let P : BlockPart → Type 0 = λ p. HasNext c.loop-k.iov p.length in
    subst P (sym c.block_part.ensures.part)
    (part_room c.args.run c.args.first c.args.cells.now.items c.requires.run c.requires.low high c.requires.pages c.index.result.now c.args.iov.now c.loop-k.iov c.loop-k.k c.loop-k-test.true c.requires.room c.loop-k.invariant)

pub loop-k-preserved : goal.loop-k-preserved
loop-k-preserved c =
    let high : c.args.run.first + c.args.run.blocks ≤ c.args.first + length c.args.cells.now.items = omega (arith, c.args.cells.now.ok.0, c.requires.high) in
    copied_more c.args.run c.args.first c.args.cells.now.items c.requires.run c.requires.low high c.requires.pages c.index.result.now c.args.iov.now c.loop-k.iov c.copy_part.new.iov c.loop-k.k c.loop-k-test.true c.requires.room c.loop-k.invariant c.index.ensures
    (c.copy_part.ensures ∙ ap (λ p. written_on (part_bytes p (bytes_of c.index.result.now.page)) c.loop-k.iov) c.block_part.ensures.part)
