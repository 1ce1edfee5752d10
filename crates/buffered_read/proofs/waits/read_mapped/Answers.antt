use Rattle.std.proofs.Common.{◌-◌, ◌≤◌, None, inl, refl, sym, ap, ◌∙◌, subst, arith}
use Rattle.fault_device.specs.LaneView.{lane_of}
use Rattle.iomap_core.specs.IterView.{IterView, advanced, finished, rest_in}
use Rattle.iomap_core.specs.Mappings.{IsSameMapping}
use Rattle.mount_parts.specs.MountView.{file_at}
use Rattle.mini_fs.specs.Calls.{HasShares}
use Rattle.mini_fs.specs.Mappings.{file_end}
use Rattle.buffered_read.proofs.RangeLemmas.{came-within, done-to, mapping-read, reach-so, unended-kept}
use Rattle.buffered_read.proofs.AimLemmas.{next-fewer, some-size}
use Rattle.buffered_read.proofs.waits.read_mapped.Goals as goal

pub mapped_to-to-requires-clause-covers : goal.mapped_to-to-requires-clause-covers
mapped_to-to-requires-clause-covers g c = c.requires.mapped.begun.to

pub mapped_to-to-requires-clause-fits : goal.mapped_to-to-requires-clause-fits
mapped_to-to-requires-clause-fits g c = c.requires.mapped.begun.fits

pub read_mapping-came-requires-clause-of : goal.read_mapping-came-requires-clause-of
read_mapping-came-requires-clause-of g c = c.requires.open.of

pub read_mapping-came-requires-clause-caller : goal.read_mapping-came-requires-clause-caller
read_mapping-came-requires-clause-caller g c = c.requires.caller

pub read_mapping-came-requires-clause-mode : goal.read_mapping-came-requires-clause-mode
read_mapping-came-requires-clause-mode g c = ap (λ f. (file_at c.args.mount.now f).mode) c.requires.mapped.begun.file_is ∙ c.requires.mode

pub read_mapping-came-requires-clause-some : goal.read_mapping-came-requires-clause-some
read_mapping-came-requires-clause-some g c = (reach-so c.args.mount.now c.args.iter.now.file c.args.iomap c.args.iter.now.pos c.args.iter.now.left c.pos-from.result c.mapped_to-to.result c.requires.some c.requires.mapped c.pos-from.ensures c.mapped_to-to.ensures).some

pub read_mapping-came-requires-clause-within : goal.read_mapping-came-requires-clause-within
read_mapping-came-requires-clause-within g c = subst (λ f. c.mapped_to-to.result ≤ file_end c.args.mount.now f) (sym c.requires.mapped.begun.file_is) (reach-so c.args.mount.now c.args.iter.now.file c.args.iomap c.args.iter.now.pos c.args.iter.now.left c.pos-from.result c.mapped_to-to.result c.requires.some c.requires.mapped c.pos-from.ensures c.mapped_to-to.ensures).within

pub read_mapping-came-requires-clause-room : goal.read_mapping-came-requires-clause-room
read_mapping-came-requires-clause-room g c =
    let range = (reach-so c.args.mount.now c.args.iter.now.file c.args.iomap c.args.iter.now.pos c.args.iter.now.left c.pos-from.result c.mapped_to-to.result c.requires.some c.requires.mapped c.pos-from.ensures c.mapped_to-to.ensures).range in
    next-fewer c.args.iov.now c.args.iter.now.left (c.mapped_to-to.result - c.pos-from.result) (omega (arith, range)) c.requires.room

pub read_mapping-came-requires-clause-shares : goal.read_mapping-came-requires-clause-shares
read_mapping-came-requires-clause-shares g c = subst (λ f. HasShares c.args.mount.now f 2 c.args.pass.now) (sym c.requires.mapped.begun.file_is) c.requires.shares

pub advance-requires-clause-mapping : goal.advance-requires-clause-mapping
advance-requires-clause-mapping g c =
    let reach = reach-so c.args.mount.now c.args.iter.now.file c.args.iomap c.args.iter.now.pos c.args.iter.now.left c.pos-from.result c.mapped_to-to.result c.requires.some c.requires.mapped c.pos-from.ensures c.mapped_to-to.ensures in
    let high = reach.mapped in
    let most = came-within c.args.mount.now c.args.iomap.file c.args.by (some-size c.args.mount.now c.args.iter.now.file c.pos-from.result c.mapped_to-to.result reach.some reach.within) c.pos-from.result c.mapped_to-to.result _ _ c.args.pass.now c.read_mapping-came.new.pass c.args.iov.now c.read_mapping-came.new.iov c.read_mapping-came.result c.read_mapping-came.ensures.read in
    let from = c.pos-from.ensures in
    subst (λ o. c.read_mapping-came.result.at - c.pos-from.result ≤ rest_in o c.args.iter.now.pos) (sym c.requires.unfinished) (omega (arith, high, most, from))

pub advance-requires-clause-range : goal.advance-requires-clause-range
advance-requires-clause-range g c =
    let reach = reach-so c.args.mount.now c.args.iter.now.file c.args.iomap c.args.iter.now.pos c.args.iter.now.left c.pos-from.result c.mapped_to-to.result c.requires.some c.requires.mapped c.pos-from.ensures c.mapped_to-to.ensures in
    let high = reach.range in
    let most = came-within c.args.mount.now c.args.iomap.file c.args.by (some-size c.args.mount.now c.args.iter.now.file c.pos-from.result c.mapped_to-to.result reach.some reach.within) c.pos-from.result c.mapped_to-to.result _ _ c.args.pass.now c.read_mapping-came.new.pass c.args.iov.now c.read_mapping-came.new.iov c.read_mapping-came.result c.read_mapping-came.ensures.read in
    omega (arith, high, most)

pub finish_mapping-requires-clause-mapping : goal.finish_mapping-requires-clause-mapping
finish_mapping-requires-clause-mapping g c = subst (λ o. IsSameMapping o c.args.iomap) (sym (ap (λ (v : IterView). v.unfinished) c.advance.ensures ∙ c.requires.unfinished)) (inl refl)

pub finish_mapping-requires-clause-open : goal.finish_mapping-requires-clause-open
finish_mapping-requires-clause-open g c = unended-kept c.args.mount.now c.args.pass.now c.read_mapping-came.new.pass c.args.iomap c.read_mapping-came.ensures.of c.read_mapping-came.ensures.begun c.requires.open

pub finish_mapping-requires-clause-file : goal.finish_mapping-requires-clause-file
finish_mapping-requires-clause-file g c = c.requires.mapped.begun.file_is ∙ sym (ap (λ (v : IterView). v.file) c.advance.ensures)

pub returns-clause-of : goal.returns-clause-of
returns-clause-of g c = (c.finish_mapping.ensures.ended.steps (lane_of 0 0 None)).of

pub returns-clause-done : goal.returns-clause-done
returns-clause-done g c =
    let reach = reach-so c.args.mount.now c.args.iter.now.file c.args.iomap c.args.iter.now.pos c.args.iter.now.left c.pos-from.result c.mapped_to-to.result c.requires.some c.requires.mapped c.pos-from.ensures c.mapped_to-to.ensures in
    let high = reach.range in
    let most = came-within c.args.mount.now c.args.iomap.file c.args.by (some-size c.args.mount.now c.args.iter.now.file c.pos-from.result c.mapped_to-to.result reach.some reach.within) c.pos-from.result c.mapped_to-to.result _ _ c.args.pass.now c.read_mapping-came.new.pass c.args.iov.now c.read_mapping-came.new.iov c.read_mapping-came.result c.read_mapping-came.ensures.read in
    let from = c.pos-from.ensures in
    let begins = c.read_mapping-came.ensures.read.read.begins in
    done-to c.args.iter.now c.finish_mapping.new.iter c.read_mapping-came.result.at (omega (arith, from, begins)) (omega (arith, from, high, most))
    (c.finish_mapping.ensures.state ∙ ap finished c.advance.ensures ∙ ap (λ n. finished (advanced c.args.iter.now (c.read_mapping-came.result.at - n))) from)

pub returns-clause-read : goal.returns-clause-read
returns-clause-read g c =
    mapping-read c.args.mount.now c.args.iter.now.file c.args.by c.args.iomap c.args.iter.now.left c.mapped_to-to.result _ _ c.args.pass.now c.read_mapping-came.new.pass c.finish_mapping.new.pass c.args.iov.now c.read_mapping-came.new.iov c.read_mapping-came.result
    c.requires.mapped.old c.requires.open.of c.requires.room c.args.iomap.file c.advance.new.self.file c.args.iter.now.pos c.pos-from.result c.requires.mapped.begun.file_is (ap (λ (v : IterView). v.file) c.advance.ensures) c.pos-from.ensures
    (reach-so c.args.mount.now c.args.iter.now.file c.args.iomap c.args.iter.now.pos c.args.iter.now.left c.pos-from.result c.mapped_to-to.result c.requires.some c.requires.mapped c.pos-from.ensures c.mapped_to-to.ensures) c.read_mapping-came.ensures.read c.finish_mapping.ensures.ended
