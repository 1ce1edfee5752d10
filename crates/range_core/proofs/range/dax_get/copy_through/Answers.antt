use Rattle.std.proofs.Common.{◌≡◌, ℕ, ◌+◌, ◌-◌, ◌≤◌, Some, length, sym, ◌∙◌, ap, subst, arith}
use Rattle.std.specs.Prelude.{slice_get}
use Rattle.std.proofs.lemmas.Option.{slice_get-get_or}
use Rattle.io_model.specs.Contents.{Content}
use Rattle.iov_iter.specs.IovView.{written_on}
use Rattle.range_core.specs.ByteRuns.{HasNext, part_at, part_bytes}
use Rattle.range_core.specs.DaxGets.{stored_at}
use Rattle.range_core.specs.DirectNows.{stored_bytes}
use Rattle.range_core.specs.declared.parts.BlockPart.{BlockPart}
use Rattle.range_core.proofs.DaxGetLemmas.{gather_more, gather_room, stored-block, stored-whole}
use Rattle.range_core.proofs.range.dax_get.copy_through.Goals as goal

pub copy_stored-requires-clause-room : goal.copy_stored-requires-clause-room
copy_stored-requires-clause-room c =
    let run = c.args.run in
    let cells = c.args.cells.now.items in
    let k : ℕ = c.loop-k.k in
    let contents : ℕ → Content = stored_at run.size c.args.first cells in
    let high : run.first + run.blocks ≤ c.args.first + length cells = omega (arith, c.args.cells.now.ok.0, c.requires.high) in
    let whole = stored-whole run c.args.first cells c.requires.low high c.requires.ready c.index.result.now in
    let P : BlockPart → Type 0 = λ p. HasNext c.loop-k.iov p.length in
    subst P (sym c.block_part.ensures.part) (gather_room run contents c.requires.run whole c.args.iov.now c.loop-k.iov k c.loop-k-test.true c.requires.room c.loop-k.invariant)

pub loop-k-preserved : goal.loop-k-preserved
loop-k-preserved c =
    let run = c.args.run in
    let cells = c.args.cells.now.items in
    let k : ℕ = c.loop-k.k in
    let contents : ℕ → Content = stored_at run.size c.args.first cells in
    let high : run.first + run.blocks ≤ c.args.first + length cells = omega (arith, c.args.cells.now.ok.0, c.requires.high) in
    let whole = stored-whole run c.args.first cells c.requires.low high c.requires.ready c.index.result.now in
    let at : slice_get cells (run.first - c.args.first + k) ≡ Some c.index.result.now = slice_get-get_or cells (run.first - c.args.first + k) c.index.result.now (omega arith) ∙ ap Some (sym c.index.ensures) in
    let copied = c.copy_stored.ensures ∙ ap (λ p. written_on (part_bytes p (stored_bytes run.size c.index.result.now)) c.loop-k.iov) c.block_part.ensures.part
    ∙ ap (λ x. written_on (part_bytes (part_at run (run.first + k)) x) c.loop-k.iov) (sym (stored-block run c.args.first cells c.requires.low k c.index.result.now at)) in
    gather_more run contents c.requires.run whole c.args.iov.now c.loop-k.iov c.copy_stored.new.iov k c.loop-k-test.true c.requires.room c.loop-k.invariant copied
