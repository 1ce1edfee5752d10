use Rattle.std.proofs.Common.{◌+◌, ◌<◌, ap, ◌∙◌, subst}
use Rattle.iomap_core.specs.IterView.{IterView}
use Rattle.iomap_core.specs.declared.mapping.Iomap.{Iomap}
use Rattle.buffered_write.specs.Lays.{EndsAt}
use Rattle.mini_fs.specs.Mappings.{file_end}
use Rattle.buffered_write.proofs.WriteLemmas.{end-some}
use Rattle.call_parts.specs.Maps.{EndsMapping}
use Rattle.buffered_write.proofs.MappedLemmas.{begun-goes}
use Rattle.buffered_write.proofs.ZeroLemmas.{ended-goes-at, ended-step-zero, starts-within, zeroes-mapped, zeroes-quiet}
use Rattle.buffered_write.proofs.zeroing.zero_mapped.Goals as goal

pub returns-clause-goes : goal.returns-clause-goes
returns-clause-goes g c =
    let ended = subst (λ f. EndsMapping c.args.mount.now f c.marked.result.flags.new c.zero_mapping-zeroed.new.pass c.finish_mapping.new.pass) (ap (λ (v : IterView). v.file) c.advance.ensures ∙ c.requires.file) c.finish_mapping.ensures.ended in
    ended-goes-at c.args.mount.now c.args.file c.args.by c.marked.result.flags.new c.zero_mapping-zeroed.new.pass c.finish_mapping.new.pass ended c.zero_mapping-zeroed.ensures.goes

pub returns-clause-zeroed : goal.returns-clause-zeroed
returns-clause-zeroed g c =
    let ended = subst (λ f. EndsMapping c.args.mount.now f c.marked.result.flags.new c.zero_mapping-zeroed.new.pass c.finish_mapping.new.pass) (ap (λ (v : IterView). v.file) c.advance.ensures ∙ c.requires.file) c.finish_mapping.ensures.ended in
    zeroes-quiet c.args.mount.now c.args.file c.args.by c.args.iter.now.pos (c.args.iter.now.pos + c.args.iter.now.left) _ _ _ c.args.pass.now c.zero_mapping-zeroed.new.pass c.finish_mapping.new.pass c.zero_mapping-zeroed.result.came
    (zeroes-mapped c.args.mount.now c.args.file c.args.by c.pos-from.result c.args.iter.now.pos c.args.iter.now.left c.mapped_end-to.result _ _ c.args.pass.now c.zero_mapping-zeroed.new.pass c.args.pass.now c.zero_mapping-zeroed.result.came c.args.iomap c.pos-from.ensures
    (end-some c.args.mount.now c.args.file c.args.iter.now.pos (subst (λ f. c.args.iter.now.pos < file_end c.args.mount.now f) c.requires.file (starts-within c.args.mount.now c.args.iter.now c.requires.range c.requires.some))) c.requires.some c.requires.mapped c.mapped_end-to.ensures
    c.zero_mapping-zeroed.ensures.zeroed)
    (ended-step-zero c.args.mount.now c.args.file c.args.by c.marked.result.flags.new c.zero_mapping-zeroed.new.pass c.finish_mapping.new.pass _ (ap (λ (i : Iomap). i.flags.new) c.marked.ensures ∙ c.requires.promised) ended)

pub returns-clause-ends : goal.returns-clause-ends
returns-clause-ends g c =
    begun-goes c.args.mount.now c.args.file c.args.iter.now.pos c.args.iter.now.left c.mapped_end-to.result c.args.pass.now c.args.iomap c.zero_mapping-zeroed.result.came c.zero_mapping-zeroed.result.stale c.requires.mapped c.mapped_end-to.ensures
    (subst (λ n. EndsAt c.args.mount.now.geometry.block_size n c.mapped_end-to.result c.zero_mapping-zeroed.result.came.at c.zero_mapping-zeroed.result.came.fault c.zero_mapping-zeroed.result.stale) c.pos-from.ensures c.zero_mapping-zeroed.ensures.ends)
