use Rattle.std.proofs.Common.{◌-◌, sym, ap, ◌∙◌, refl, arith}
use Rattle.mini_fs.proofs.CallEnds.{acted-caller}
use Rattle.call_parts.specs.Parts.{part_end}
use Rattle.buffered_read.specs.Preads.{may_read}
use Rattle.buffered_read.proofs.ReadLemmas.{so-far-all, so-far-next, so-far-none, so-far-room, so-far-short}
use Rattle.buffered_read.proofs.AimLemmas.{next-fewer, next-part, some-size}
use Rattle.buffered_read.proofs.WarmLemmas.{shares-after}
use Rattle.buffered_read.proofs.waits.read_mapping.Goals as goal

pub loop-at-init : goal.loop-at-init
loop-at-init g c = record {
  of = c.requires.of;
  begun = refl;
  so = so-far-none c.args.mount.now c.args.file c.args.by c.args.from c.args.to (let less = c.requires.some in omega (arith, less)) _ c.args.pass.now c.args.iov.now c.requires.of;
}

pub read_part-came-requires-clause-caller : goal.read_part-came-requires-clause-caller
read_part-came-requires-clause-caller g c = let read = c.loop-at.invariant.so.read in c.requires.caller ∙ sym (acted-caller read.acts c.args.pass.now c.loop-at.pass read.steps.did.acted)

pub read_part-came-requires-clause-some : goal.read_part-came-requires-clause-some
read_part-came-requires-clause-some g c = (next-part c.args.mount.now c.args.to c.loop-at.at c.part_end-next.result c.sizes.ensures.blocks c.sizes.ensures.folios c.loop-at-test.true (c.part_end-next.ensures ∙ ap (λ v. part_end v c.args.to c.loop-at.at) c.sizes.ensures.is)).some

pub read_part-came-requires-clause-within : goal.read_part-came-requires-clause-within
read_part-came-requires-clause-within g c =
    let next = next-part c.args.mount.now c.args.to c.loop-at.at c.part_end-next.result c.sizes.ensures.blocks c.sizes.ensures.folios c.loop-at-test.true (c.part_end-next.ensures ∙ ap (λ v. part_end v c.args.to c.loop-at.at) c.sizes.ensures.is) in
    let high = next.within in
    let end = c.requires.within in
    omega (arith, high, end)

pub read_part-came-requires-clause-part : goal.read_part-came-requires-clause-part
read_part-came-requires-clause-part g c = (next-part c.args.mount.now c.args.to c.loop-at.at c.part_end-next.result c.sizes.ensures.blocks c.sizes.ensures.folios c.loop-at-test.true (c.part_end-next.ensures ∙ ap (λ v. part_end v c.args.to c.loop-at.at) c.sizes.ensures.is)).part

pub read_part-came-requires-clause-room : goal.read_part-came-requires-clause-room
read_part-came-requires-clause-room g c =
    let next = next-part c.args.mount.now c.args.to c.loop-at.at c.part_end-next.result c.sizes.ensures.blocks c.sizes.ensures.folios c.loop-at-test.true (c.part_end-next.ensures ∙ ap (λ v. part_end v c.args.to c.loop-at.at) c.sizes.ensures.is) in
    let high = next.within in
    next-fewer c.loop-at.iov (c.args.to - c.loop-at.at) (c.part_end-next.result - c.loop-at.at) (omega (arith, high))
    (so-far-room c.args.mount.now c.args.file c.args.by c.args.from c.args.to _ _ c.args.pass.now c.loop-at.pass c.args.iov.now c.loop-at.iov c.loop-at.at c.loop-at.bios c.requires.room c.loop-at.invariant.so)

pub read_part-came-requires-clause-shares : goal.read_part-came-requires-clause-shares
read_part-came-requires-clause-shares g c = let read = c.loop-at.invariant.so.read in shares-after c.args.mount.now c.args.file (may_read c.args.by) 2 c.args.pass.now c.loop-at.pass read.acts (omega arith) read.steps.did c.requires.shares

pub returns-in-Some-clause-read : goal.returns-in-Some-clause-read
returns-in-Some-clause-read g c =
    let next = next-part c.args.mount.now c.args.to c.loop-at.at c.part_end-next.result c.sizes.ensures.blocks c.sizes.ensures.folios c.loop-at-test.true (c.part_end-next.ensures ∙ ap (λ v. part_end v c.args.to c.loop-at.at) c.sizes.ensures.is) in
    so-far-short c.args.mount.now c.args.file c.args.by c.args.from c.args.to (some-size c.args.mount.now c.args.file c.args.from c.args.to c.requires.some c.requires.within) _ _ _ c.args.pass.now c.loop-at.pass c.read_part-came.new.pass c.args.iov.now c.loop-at.iov c.read_part-came.new.iov
    c.loop-at.at c.loop-at.bios c.part_end-next.result c.requires.of c.requires.room c.loop-at.invariant.so next.some next.within c.read_part-came.result c.read_part-came.ensures.read c.saturating_add-bios.result c.saturating_add-bios.ensures c.in-Some.fault c.in-Some.is

pub loop-at-preserved : goal.loop-at-preserved
loop-at-preserved g c =
    let next = next-part c.args.mount.now c.args.to c.loop-at.at c.part_end-next.result c.sizes.ensures.blocks c.sizes.ensures.folios c.loop-at-test.true (c.part_end-next.ensures ∙ ap (λ v. part_end v c.args.to c.loop-at.at) c.sizes.ensures.is) in
    let some = some-size c.args.mount.now c.args.file c.args.from c.args.to c.requires.some c.requires.within in
    record {
      of = c.read_part-came.ensures.of;
      begun = c.read_part-came.ensures.begun ∙ c.loop-at.invariant.begun;
      so = so-far-next c.args.mount.now c.args.file c.args.by c.args.from c.args.to some _ _ _ c.args.pass.now c.loop-at.pass c.read_part-came.new.pass c.args.iov.now c.loop-at.iov c.read_part-came.new.iov
          c.loop-at.at c.loop-at.bios c.part_end-next.result c.requires.of c.requires.room c.loop-at.invariant.so next.some next.within c.read_part-came.result c.read_part-came.ensures.read c.saturating_add-bios.result c.saturating_add-bios.ensures next.ends c.in-None.is;
    }

pub returns-clause-read : goal.returns-clause-read
returns-clause-read g c =
    let high = c.loop-at.invariant.so.high in
    let low = c.loop-at-test.false in
    so-far-all c.args.mount.now c.args.file c.args.by c.args.from c.args.to _ _ c.args.pass.now c.loop-at.pass c.args.iov.now c.loop-at.iov c.loop-at.at c.loop-at.bios (omega (arith, high, low)) c.loop-at.invariant.so
