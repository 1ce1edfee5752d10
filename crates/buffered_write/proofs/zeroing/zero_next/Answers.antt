use Rattle.std.proofs.Common.{◌+◌, false, subst}
use Rattle.iomap_core.specs.IterView.{began}
use Rattle.call_parts.specs.Maps.{Maps}
use Rattle.buffered_write.proofs.WriteLemmas.{end-some}
use Rattle.buffered_write.proofs.ZeroLemmas.{begun-goes-at, begun-step, starts-within, zeroes-behind, zeroes-in}
use Rattle.buffered_write.proofs.zeroing.zero_next.Goals as goal

pub zero_mapped-requires-clause-goes : goal.zero_mapped-requires-clause-goes
zero_mapped-requires-clause-goes g c =
    let found = rw c.in-Ok-Some.field-0-is at c.in-Ok-Some.ensures.none in
    begun-goes-at c.args.mount.now c.args.file c.args.by c.args.iter.now.pos c.args.pass.now c.next_mapping.new.pass c.in-Ok-Some.iomap
    (subst (λ f. Maps c.args.mount.now f c.args.iter.now.pos false c.args.pass.now c.next_mapping.new.pass c.in-Ok-Some.iomap) c.requires.file found.3) c.requires.goes

pub returns-clause-zeroed : goal.returns-clause-zeroed
returns-clause-zeroed g c =
    let found = rw c.in-Ok-Some.field-0-is at c.in-Ok-Some.ensures.none in
    zeroes-behind c.args.mount.now c.args.file c.args.by c.args.iter.now.pos (c.args.iter.now.pos + c.args.iter.now.left) _ _ _ c.args.pass.now c.next_mapping.new.pass c.zero_mapped.new.pass c.zero_mapped.result
    (end-some c.args.mount.now c.args.iter.now.file c.args.iter.now.pos (starts-within c.args.mount.now c.args.iter.now c.requires.range c.requires.some))
    (begun-step c.args.mount.now c.args.file c.args.by c.args.iter.now.pos c.args.pass.now c.next_mapping.new.pass c.in-Ok-Some.iomap _
    (subst (λ f. Maps c.args.mount.now f c.args.iter.now.pos false c.args.pass.now c.next_mapping.new.pass c.in-Ok-Some.iomap) c.requires.file found.3))
    (zeroes-in c.args.mount.now c.args.file c.args.by c.next_mapping.new.iter (began c.args.iter.now c.in-Ok-Some.iomap) found.2 c.zero_mapped.ensures.zeroed)
