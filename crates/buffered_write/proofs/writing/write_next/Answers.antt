use Rattle.std.proofs.Common.{◌+◌, true, refl, subst}
use Rattle.iomap_core.specs.IterView.{began}
use Rattle.call_parts.specs.Maps.{Maps, MapsNone}
use Rattle.buffered_write.proofs.WriteLemmas.{begins-within, end-some, maps-goes, maps-step, none-begun, none-goes, writes-behind, writes-in}
use Rattle.buffered_write.proofs.writing.write_next.Goals as goal

pub write_mapped-requires-clause-goes : goal.write_mapped-requires-clause-goes
write_mapped-requires-clause-goes g c =
    let found = rw c.in-Ok-Some.field-0-is at c.in-Ok-Some.ensures.none in
    maps-goes c.args.mount.now c.args.file c.args.by c.args.iter.now.pos c.args.pass.now c.next_mapping.new.pass c.in-Ok-Some.iomap
    (subst (λ f. Maps c.args.mount.now f c.args.iter.now.pos true c.args.pass.now c.next_mapping.new.pass c.in-Ok-Some.iomap) c.requires.file found.3) c.requires.goes

pub returns-in-Ok-Some-clause-written : goal.returns-in-Ok-Some-clause-written
returns-in-Ok-Some-clause-written g c =
    let found = rw c.in-Ok-Some.field-0-is at c.in-Ok-Some.ensures.none in
    writes-behind c.args.mount.now c.args.file c.args.by c.args.iter.now.pos (c.args.iter.now.pos + c.args.iter.now.left) _ _ _ c.args.pass.now c.next_mapping.new.pass c.write_mapped.new.pass c.args.iov.now c.args.iov.now c.write_mapped.new.iov c.write_mapped.result
    (end-some c.args.mount.now c.args.iter.now.file c.args.iter.now.pos (begins-within c.args.mount.now c.args.iter.now c.args.iov.now c.requires.range c.requires.some)) refl
    (maps-step c.args.mount.now c.args.file c.args.by c.args.iter.now.pos c.args.pass.now c.next_mapping.new.pass c.in-Ok-Some.iomap _
    (subst (λ f. Maps c.args.mount.now f c.args.iter.now.pos true c.args.pass.now c.next_mapping.new.pass c.in-Ok-Some.iomap) c.requires.file found.3))
    (writes-in c.args.mount.now c.args.file c.args.by c.next_mapping.new.iter (began c.args.iter.now c.in-Ok-Some.iomap) found.2 c.write_mapped.ensures.written)

pub returns-in-Err-clause-goes : goal.returns-in-Err-clause-goes
returns-in-Err-clause-goes g c =
    none-goes c.args.mount.now c.args.file c.args.by c.args.pass.now c.next_mapping.new.pass c.in-Err.fault
    (subst (λ f. MapsNone c.args.mount.now f true c.args.pass.now c.next_mapping.new.pass c.in-Err.fault) c.requires.file c.in-Err.ensures.err.2) c.requires.goes

pub returns-in-Err-clause-written : goal.returns-in-Err-clause-written
returns-in-Err-clause-written g c =
    none-begun c.args.mount.now c.args.file c.args.by c.args.iter.now.pos (c.args.iter.now.pos + c.args.iter.now.left) c.pos-at.result c.args.pass.now c.next_mapping.new.pass c.args.iov.now c.in-Err.fault _ c.pos-at.ensures
    (end-some c.args.mount.now c.args.iter.now.file c.args.iter.now.pos (begins-within c.args.mount.now c.args.iter.now c.args.iov.now c.requires.range c.requires.some))
    (subst (λ f. MapsNone c.args.mount.now f true c.args.pass.now c.next_mapping.new.pass c.in-Err.fault) c.requires.file c.in-Err.ensures.err.2)
