use Rattle.std.proofs.Common.{sym, ap, ◌∙◌, ◌≡◌, subst, arith}
use Rattle.call_parts.specs.Parts.{part_end}
use Rattle.buffered_write.specs.Pwrites.{Writes}
use Rattle.call_parts.specs.declared.progress.Progress.{Progress}
use Rattle.buffered_write.proofs.WriteLemmas.{HasWritten, part-of, part-then, whole-part, written-none, written-on}
use Rattle.buffered_write.proofs.writing.write_mapping.Goals as goal

pub loop-came-init : goal.loop-came-init
loop-came-init g c = written-none c.args.mount.now c.args.file c.args.by c.args.seen c.args.from c.args.to _ c.args.pass.now c.args.iov.now c.requires.goes c.requires.can c.requires.room

pub store_part-part-requires-clause-folio : goal.store_part-part-requires-clause-folio
store_part-part-requires-clause-folio g c =
    (part-of c.args.mount.now c.sizes-geometry.ensures.blocks c.sizes-geometry.ensures.folios c.args.to c.loop-came.came.at c.part_end-next.result (c.part_end-next.ensures ∙ ap (λ g. part_end g c.args.to c.loop-came.came.at) c.sizes-geometry.ensures.is) c.loop-came-test.true).in_folio

pub returns-then-not-goes_on-clause-written : goal.returns-then-not-goes_on-clause-written
returns-then-not-goes_on-clause-written g c =
    let part = part-of c.args.mount.now c.sizes-geometry.ensures.blocks c.sizes-geometry.ensures.folios c.args.to c.loop-came.came.at c.part_end-next.result (c.part_end-next.ensures ∙ ap (λ g. part_end g c.args.to c.loop-came.came.at) c.sizes-geometry.ensures.is) c.loop-came-test.true in
    subst (Writes c.args.mount.now c.args.file c.args.by c.args.from c.args.to _ _ c.args.pass.now c.store_part-part.new.pass c.args.iov.now c.store_part-part.new.iov) (sym c.followed-came.ensures)
    (part-then c.args.mount.now c.args.file c.args.by c.args.seen c.args.from c.args.to _ _ _ c.args.pass.now c.loop-came.pass c.store_part-part.new.pass c.args.iov.now c.loop-came.iov c.store_part-part.new.iov c.loop-came.came c.store_part-part.result.came c.part_end-next.result
    c.loop-came-test.true part c.loop-came.invariant c.store_part-part.ensures.written)

pub loop-came-smaller : goal.loop-came-smaller
loop-came-smaller g c =
    let part = part-of c.args.mount.now c.sizes-geometry.ensures.blocks c.sizes-geometry.ensures.folios c.args.to c.loop-came.came.at c.part_end-next.result (c.part_end-next.ensures ∙ ap (λ g. part_end g c.args.to c.loop-came.came.at) c.sizes-geometry.ensures.is) c.loop-came-test.true in
    let some = part.some in
    let within = part.within in
    let reached = (whole-part c.args.mount.now.geometry.block_size c.loop-came.came.at c.part_end-next.result c.store_part-part.result.came c.store_part-part.result.stale (sym c.goes_on.ensures ∙ c.if-not-goes_on.false) c.store_part-part.ensures.ends).1 in
    let at : c.followed-came.result.at ≡ c.store_part-part.result.came.at = ap (λ (v : Progress). v.at) c.followed-came.ensures in
    omega (arith, some, within, reached, at)

pub loop-came-preserved : goal.loop-came-preserved
loop-came-preserved g c =
    let part = part-of c.args.mount.now c.sizes-geometry.ensures.blocks c.sizes-geometry.ensures.folios c.args.to c.loop-came.came.at c.part_end-next.result (c.part_end-next.ensures ∙ ap (λ g. part_end g c.args.to c.loop-came.came.at) c.sizes-geometry.ensures.is) c.loop-came-test.true in
    let whole = whole-part c.args.mount.now.geometry.block_size c.loop-came.came.at c.part_end-next.result c.store_part-part.result.came c.store_part-part.result.stale (sym c.goes_on.ensures ∙ c.if-not-goes_on.false) c.store_part-part.ensures.ends in
    subst (HasWritten c.args.mount.now c.args.file c.args.by c.args.seen c.args.from c.args.to _ _ c.args.pass.now c.store_part-part.new.pass c.args.iov.now c.store_part-part.new.iov) (sym c.followed-came.ensures)
    (written-on c.args.mount.now c.args.file c.args.by c.args.seen c.args.from c.args.to _ _ _ c.args.pass.now c.loop-came.pass c.store_part-part.new.pass c.args.iov.now c.loop-came.iov c.store_part-part.new.iov c.loop-came.came c.store_part-part.result.came c.part_end-next.result
    c.loop-came-test.true part whole.0 whole.1 c.loop-came.invariant c.store_part-part.ensures.written c.store_part-part.ensures.goes c.store_part-part.ensures.begun)
