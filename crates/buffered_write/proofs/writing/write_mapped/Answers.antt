use Rattle.std.proofs.Common.{◌+◌, ◌<◌, ap, ◌∙◌, subst}
use Rattle.iomap_core.specs.IterView.{IterView}
use Rattle.buffered_write.specs.Lays.{EndsAt}
use Rattle.mini_fs.specs.Mappings.{file_end}
use Rattle.call_parts.specs.Maps.{EndsMapping}
use Rattle.buffered_write.proofs.WriteLemmas.{begins-within, end-some, ended-goes, ended-step, mapped-goes, mapped-some, writes-mapped, writes-quiet}
use Rattle.buffered_write.proofs.writing.write_mapped.Goals as goal

pub returns-clause-goes : goal.returns-clause-goes
returns-clause-goes g c =
    let ended = subst (λ f. EndsMapping c.args.mount.now f c.marked.result.flags.new c.write_mapping-written.new.pass c.finish_mapping.new.pass) (ap (λ (v : IterView). v.file) c.advance.ensures ∙ c.requires.file) c.finish_mapping.ensures.ended in
    ended-goes c.args.mount.now c.args.file c.args.by c.marked.result.flags.new c.write_mapping-written.new.pass c.finish_mapping.new.pass ended c.write_mapping-written.ensures.goes

pub returns-clause-written : goal.returns-clause-written
returns-clause-written g c =
    let ended = subst (λ f. EndsMapping c.args.mount.now f c.marked.result.flags.new c.write_mapping-written.new.pass c.finish_mapping.new.pass) (ap (λ (v : IterView). v.file) c.advance.ensures ∙ c.requires.file) c.finish_mapping.ensures.ended in
    writes-quiet c.args.mount.now c.args.file c.args.by c.args.iter.now.pos (c.args.iter.now.pos + c.args.iter.now.left) _ _ _ c.args.pass.now c.write_mapping-written.new.pass c.finish_mapping.new.pass c.args.iov.now c.write_mapping-written.new.iov c.write_mapping-written.result.came
    (writes-mapped c.args.mount.now c.args.file c.args.by c.pos-from.result c.args.iter.now.pos c.args.iter.now.left c.mapped_end-to.result _ _ c.args.pass.now c.write_mapping-written.new.pass c.args.pass.now c.args.iov.now c.write_mapping-written.new.iov c.write_mapping-written.result.came
    c.args.iomap c.pos-from.ensures (end-some c.args.mount.now c.args.file c.args.iter.now.pos (subst (λ f. c.args.iter.now.pos < file_end c.args.mount.now f) c.requires.file (begins-within c.args.mount.now c.args.iter.now c.args.iov.now c.requires.range c.requires.some)))
    (mapped-some c.args.mount.now c.args.file c.args.by c.args.iter.now.pos c.args.iter.now.left c.mapped_end-to.result c.args.pass.now c.args.iomap c.requires.mapped c.requires.some c.mapped_end-to.ensures) c.requires.mapped c.mapped_end-to.ensures c.write_mapping-written.ensures.written)
    (ended-step c.args.mount.now c.args.file c.args.by c.marked.result.flags.new c.write_mapping-written.new.pass c.finish_mapping.new.pass _ ended)

pub returns-clause-ends : goal.returns-clause-ends
returns-clause-ends g c =
    mapped-goes c.args.mount.now c.args.file c.args.by c.args.iter.now.pos c.args.iter.now.left c.mapped_end-to.result c.args.pass.now c.args.iomap c.write_mapping-written.result.came c.write_mapping-written.result.stale c.requires.mapped c.mapped_end-to.ensures
    (subst (λ n. EndsAt c.args.mount.now.geometry.block_size n c.mapped_end-to.result c.write_mapping-written.result.came.at c.write_mapping-written.result.came.fault c.write_mapping-written.result.stale) c.pos-from.ensures c.write_mapping-written.ensures.ends)
