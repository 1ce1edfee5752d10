use Rattle.std.proofs.Common.{◌≡◌, ◌+◌, ◌-◌, ◌≤◌, sym, ap, ◌∙◌, subst, arith}
use Rattle.range_core.specs.ByteRuns.{HasNext}
use Rattle.mount_parts.specs.MountView.{HasFile, file_at}
use Rattle.mini_fs.specs.Calls.{HasShares}
use Rattle.mini_fs.specs.Mappings.{file_end}
use Rattle.mini_fs.proofs.CallEnds.{acted-caller}
use Rattle.iomap_core.specs.IterView.{IterView}
use Rattle.buffered_read.specs.Preads.{may_read}
use Rattle.buffered_read.proofs.RangeLemmas.{range-fewer, range-first, range-left, range-more, range-short}
use Rattle.buffered_read.proofs.ReadLemmas.{so-far-ends, so-far-room}
use Rattle.buffered_read.proofs.WarmLemmas.{shares-after}
use Rattle.buffered_read.proofs.waits.read_range.Goals as goal

pub loop-by-init : goal.loop-by-init
loop-by-init g c = record {
  of = c.requires.of;
  file = ap (λ (v : IterView). v.file) c.new-iter.ensures;
  finished = ap (λ (v : IterView). v.unfinished) c.new-iter.ensures;
  end = ap (λ (v : IterView). v.pos + v.left) c.new-iter.ensures ∙ (let order = c.requires.order in let e : c.args.from + (c.args.to - c.args.from) ≡ c.args.to = omega (arith, order) in e);
  so = range-first c.args.mount.now c.args.file c.args.by c.args.from c.args.to _ c.args.pass.now c.args.iov.now c.new-iter.result c.new-iter.ensures c.requires.order c.requires.of;
}

pub loop-by-preserved : goal.loop-by-preserved
loop-by-preserved g c = record {
  of = c.read_next-came.ensures.of;
  file = c.read_next-came.ensures.done.file ∙ c.loop-by.invariant.file;
  finished = c.read_next-came.ensures.done.finished;
  end = c.read_next-came.ensures.done.end ∙ c.loop-by.invariant.end;
  so = range-more c.args.mount.now c.args.file c.args.by c.args.from c.args.to c.loop-by.iter c.read_next-came.new.iter _ _ _ c.args.pass.now c.loop-by.pass c.read_next-came.new.pass c.args.iov.now c.loop-by.iov c.read_next-came.new.iov c.loop-by.bios c.saturating_add-bios.result c.read_next-came.result c.requires.of c.requires.room (c.requires.within (range-left c.args.mount.now c.args.file c.args.by c.args.from c.args.to c.loop-by.iter _ _ c.args.pass.now c.loop-by.pass c.args.iov.now c.loop-by.iov c.loop-by.bios c.loop-by.invariant.end c.loop-by.invariant.so c.left.result c.left.ensures c.loop-by-test.true).0)
      c.loop-by.invariant.file c.loop-by.invariant.end c.loop-by.invariant.so c.read_next-came.ensures.done c.saturating_add-bios.ensures c.read_next-came.ensures.read c.in_default.is;
}

pub loop-by-smaller : goal.loop-by-smaller
loop-by-smaller g c = range-fewer c.args.mount.now c.args.file c.args.by c.args.from c.args.to c.loop-by.iter c.read_next-came.new.iter _ _ _ c.args.pass.now c.loop-by.pass c.read_next-came.new.pass c.args.iov.now c.loop-by.iov c.read_next-came.new.iov c.loop-by.bios c.saturating_add-bios.result c.read_next-came.result c.requires.of c.requires.room (c.requires.within (range-left c.args.mount.now c.args.file c.args.by c.args.from c.args.to c.loop-by.iter _ _ c.args.pass.now c.loop-by.pass c.args.iov.now c.loop-by.iov c.loop-by.bios c.loop-by.invariant.end c.loop-by.invariant.so c.left.result c.left.ensures c.loop-by-test.true).0)
    c.loop-by.invariant.file c.loop-by.invariant.end c.loop-by.invariant.so c.read_next-came.ensures.done c.saturating_add-bios.ensures c.read_next-came.ensures.read c.in_default.is

pub returns-in-Some-clause-read : goal.returns-in-Some-clause-read
returns-in-Some-clause-read g c = range-short c.args.mount.now c.args.file c.args.by c.args.from c.args.to c.loop-by.iter c.read_next-came.new.iter _ _ _ c.args.pass.now c.loop-by.pass c.read_next-came.new.pass c.args.iov.now c.loop-by.iov c.read_next-came.new.iov c.loop-by.bios c.saturating_add-bios.result c.read_next-came.result c.requires.of c.requires.room (c.requires.within (range-left c.args.mount.now c.args.file c.args.by c.args.from c.args.to c.loop-by.iter _ _ c.args.pass.now c.loop-by.pass c.args.iov.now c.loop-by.iov c.loop-by.bios c.loop-by.invariant.end c.loop-by.invariant.so c.left.result c.left.ensures c.loop-by-test.true).0)
    c.loop-by.invariant.file c.loop-by.invariant.end c.loop-by.invariant.so c.read_next-came.ensures.done c.saturating_add-bios.ensures c.read_next-came.ensures.read c.in-Some.fault c.in-Some.is

pub returns-clause-read : goal.returns-clause-read
returns-clause-read g c =
    let none = c.loop-by-test.false in
    let left = c.left.ensures in
    let end = c.loop-by.invariant.end in
    so-far-ends c.args.mount.now c.args.file c.args.by c.args.from c.args.to _ _ c.args.pass.now c.loop-by.pass c.args.iov.now c.loop-by.iov c.loop-by.iter.pos c.loop-by.bios c.pos.result c.pos.ensures (omega (arith, none, left, end)) c.loop-by.invariant.so

pub read_next-came-requires-clause-caller : goal.read_next-came-requires-clause-caller
read_next-came-requires-clause-caller g c = let read = c.loop-by.invariant.so.read in c.requires.caller ∙ sym (acted-caller read.acts c.args.pass.now c.loop-by.pass read.steps.did.acted)

pub read_next-came-requires-clause-exists : goal.read_next-came-requires-clause-exists
read_next-came-requires-clause-exists g c = subst (HasFile c.args.mount.now) (sym c.loop-by.invariant.file) c.requires.exists

pub read_next-came-requires-clause-mode : goal.read_next-came-requires-clause-mode
read_next-came-requires-clause-mode g c = ap (λ f. (file_at c.args.mount.now f).mode) c.loop-by.invariant.file ∙ c.requires.mode

pub read_next-came-requires-clause-finished : goal.read_next-came-requires-clause-finished
read_next-came-requires-clause-finished g c = c.loop-by.invariant.finished

pub read_next-came-requires-clause-some : goal.read_next-came-requires-clause-some
read_next-came-requires-clause-some g c = (let some = c.loop-by-test.true in let left = c.left.ensures in omega (arith, some, left))

pub read_next-came-requires-clause-within : goal.read_next-came-requires-clause-within
read_next-came-requires-clause-within g c =
    let high = (c.requires.within (range-left c.args.mount.now c.args.file c.args.by c.args.from c.args.to c.loop-by.iter _ _ c.args.pass.now c.loop-by.pass c.args.iov.now c.loop-by.iov c.loop-by.bios c.loop-by.invariant.end c.loop-by.invariant.so c.left.result c.left.ensures c.loop-by-test.true).0) in
    let end = c.loop-by.invariant.end in
    subst (λ f. c.loop-by.iter.pos + c.loop-by.iter.left ≤ file_end c.args.mount.now f) (sym c.loop-by.invariant.file) (omega (arith, high, end))

pub read_next-came-requires-clause-room : goal.read_next-came-requires-clause-room
read_next-came-requires-clause-room g c =
    let end = c.loop-by.invariant.end in
    let left : c.args.to - c.loop-by.iter.pos ≡ c.loop-by.iter.left = omega (arith, end) in
    subst (HasNext c.loop-by.iov) left
    (so-far-room c.args.mount.now c.args.file c.args.by c.args.from c.args.to _ _ c.args.pass.now c.loop-by.pass c.args.iov.now c.loop-by.iov c.loop-by.iter.pos c.loop-by.bios c.requires.room c.loop-by.invariant.so)

pub read_next-came-requires-clause-shares : goal.read_next-came-requires-clause-shares
read_next-came-requires-clause-shares g c =
    let read = c.loop-by.invariant.so.read in
    subst (λ f. HasShares c.args.mount.now f 2 c.loop-by.pass) (sym c.loop-by.invariant.file) (shares-after c.args.mount.now c.args.file (may_read c.args.by) 2 c.args.pass.now c.loop-by.pass read.acts (omega arith) read.steps.did c.requires.shares)
