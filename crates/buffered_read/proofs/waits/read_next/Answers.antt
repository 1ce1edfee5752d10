use Rattle.std.proofs.Common.{◌+◌, ◌<◌, false, None, inl, sym, ap, ◌∙◌, subst, arith}
use Rattle.fault_device.specs.LaneView.{lane_of}
use Rattle.iomap_core.specs.IterView.{IterView}
use Rattle.range_core.specs.ByteRuns.{HasNext}
use Rattle.mount_parts.specs.MountView.{file_at}
use Rattle.mini_fs.specs.Calls.{HasShares}
use Rattle.mini_fs.proofs.CallEnds.{acted-caller}
use Rattle.call_parts.specs.Maps.{maps}
use Rattle.buffered_read.specs.Preads.{IsMappedAt}
use Rattle.buffered_read.proofs.RangeLemmas.{done-begun, has-begun, mapped-at, never-none, never-refused, next-read}
use Rattle.buffered_read.proofs.AimLemmas.{some-size}
use Rattle.buffered_read.proofs.WarmLemmas.{shares-after}
use Rattle.buffered_read.proofs.waits.read_next.Goals as goal

pub next_mapping-requires-clause-within : goal.next_mapping-requires-clause-within
next_mapping-requires-clause-within g c = λ some. (let end = c.requires.within in omega (arith, some, end))

pub next_mapping-requires-clause-flags : goal.next_mapping-requires-clause-flags
next_mapping-requires-clause-flags g c = inl c.no_flags.ensures

pub next_mapping-requires-clause-allowed : goal.next_mapping-requires-clause-allowed
next_mapping-requires-clause-allowed g c = inl (inl c.no_flags.ensures)

pub read_mapped-requires-clause-open : goal.read_mapped-requires-clause-open
read_mapped-requires-clause-open g c = (has-begun c.args.mount.now c.no_flags.result c.args.iter.now c.next_mapping.new.iter c.args.pass.now c.next_mapping.new.pass c.in-Ok-Some.field-0 c.in-Ok-Some.iomap c.no_flags.ensures c.in-Ok-Some.field-0-is c.in-Ok-Some.ensures.none).maps.unended

pub read_mapped-requires-clause-caller : goal.read_mapped-requires-clause-caller
read_mapped-requires-clause-caller g c = let maps = (has-begun c.args.mount.now c.no_flags.result c.args.iter.now c.next_mapping.new.iter c.args.pass.now c.next_mapping.new.pass c.in-Ok-Some.field-0 c.in-Ok-Some.iomap c.no_flags.ensures c.in-Ok-Some.field-0-is c.in-Ok-Some.ensures.none).maps in c.requires.caller ∙ sym (acted-caller maps.acts c.args.pass.now c.next_mapping.new.pass (maps.steps (lane_of 0 0 None)).did.acted)

pub read_mapped-requires-clause-mode : goal.read_mapped-requires-clause-mode
read_mapped-requires-clause-mode g c = ap (λ (v : IterView). (file_at c.args.mount.now v.file).mode) (has-begun c.args.mount.now c.no_flags.result c.args.iter.now c.next_mapping.new.iter c.args.pass.now c.next_mapping.new.pass c.in-Ok-Some.field-0 c.in-Ok-Some.iomap c.no_flags.ensures c.in-Ok-Some.field-0-is c.in-Ok-Some.ensures.none).later_is ∙ c.requires.mode

pub read_mapped-requires-clause-unfinished : goal.read_mapped-requires-clause-unfinished
read_mapped-requires-clause-unfinished g c = ap (λ (v : IterView). v.unfinished) (has-begun c.args.mount.now c.no_flags.result c.args.iter.now c.next_mapping.new.iter c.args.pass.now c.next_mapping.new.pass c.in-Ok-Some.field-0 c.in-Ok-Some.iomap c.no_flags.ensures c.in-Ok-Some.field-0-is c.in-Ok-Some.ensures.none).later_is

pub read_mapped-requires-clause-mapped : goal.read_mapped-requires-clause-mapped
read_mapped-requires-clause-mapped g c =
    let begun = (has-begun c.args.mount.now c.no_flags.result c.args.iter.now c.next_mapping.new.iter c.args.pass.now c.next_mapping.new.pass c.in-Ok-Some.field-0 c.in-Ok-Some.iomap c.no_flags.ensures c.in-Ok-Some.field-0-is c.in-Ok-Some.ensures.none) in
    subst (λ (v : IterView). IsMappedAt c.args.mount.now v.file v.pos c.in-Ok-Some.iomap) (sym begun.later_is) (mapped-at c.args.mount.now c.args.iter.now.file c.args.iter.now.pos c.args.pass.now c.next_mapping.new.pass c.in-Ok-Some.iomap begun.begun begun.maps)

pub read_mapped-requires-clause-some : goal.read_mapped-requires-clause-some
read_mapped-requires-clause-some g c = subst (λ (v : IterView). 0 < v.left) (sym (has-begun c.args.mount.now c.no_flags.result c.args.iter.now c.next_mapping.new.iter c.args.pass.now c.next_mapping.new.pass c.in-Ok-Some.field-0 c.in-Ok-Some.iomap c.no_flags.ensures c.in-Ok-Some.field-0-is c.in-Ok-Some.ensures.none).later_is) c.requires.some

pub read_mapped-requires-clause-room : goal.read_mapped-requires-clause-room
read_mapped-requires-clause-room g c = subst (λ (v : IterView). HasNext c.args.iov.now v.left) (sym (has-begun c.args.mount.now c.no_flags.result c.args.iter.now c.next_mapping.new.iter c.args.pass.now c.next_mapping.new.pass c.in-Ok-Some.field-0 c.in-Ok-Some.iomap c.no_flags.ensures c.in-Ok-Some.field-0-is c.in-Ok-Some.ensures.none).later_is) c.requires.room

pub read_mapped-requires-clause-shares : goal.read_mapped-requires-clause-shares
read_mapped-requires-clause-shares g c =
    let begun = (has-begun c.args.mount.now c.no_flags.result c.args.iter.now c.next_mapping.new.iter c.args.pass.now c.next_mapping.new.pass c.in-Ok-Some.field-0 c.in-Ok-Some.iomap c.no_flags.ensures c.in-Ok-Some.field-0-is c.in-Ok-Some.ensures.none) in
    subst (λ (v : IterView). HasShares c.args.mount.now v.file 2 c.next_mapping.new.pass) (sym begun.later_is)
    (shares-after c.args.mount.now c.args.iter.now.file (maps false) 2 c.args.pass.now c.next_mapping.new.pass begun.maps.acts (omega arith) (begun.maps.steps (lane_of 0 0 None)).did c.requires.shares)

pub returns-clause-done : goal.returns-clause-done
returns-clause-done g c = done-begun c.args.iter.now c.next_mapping.new.iter c.read_mapped.new.iter c.in-Ok-Some.iomap c.read_mapped.result.at (has-begun c.args.mount.now c.no_flags.result c.args.iter.now c.next_mapping.new.iter c.args.pass.now c.next_mapping.new.pass c.in-Ok-Some.field-0 c.in-Ok-Some.iomap c.no_flags.ensures c.in-Ok-Some.field-0-is c.in-Ok-Some.ensures.none).later_is c.read_mapped.ensures.done

pub returns-clause-read : goal.returns-clause-read
returns-clause-read g c =
    let some = c.requires.some in
    next-read c.args.mount.now c.args.by c.args.iter.now c.next_mapping.new.iter c.in-Ok-Some.iomap _ _ c.args.pass.now c.next_mapping.new.pass c.read_mapped.new.pass c.args.iov.now c.read_mapped.new.iov c.read_mapped.result
    (some-size c.args.mount.now c.args.iter.now.file c.args.iter.now.pos (c.args.iter.now.pos + c.args.iter.now.left) (omega (arith, some)) c.requires.within) c.requires.of c.requires.room (has-begun c.args.mount.now c.no_flags.result c.args.iter.now c.next_mapping.new.iter c.args.pass.now c.next_mapping.new.pass c.in-Ok-Some.field-0 c.in-Ok-Some.iomap c.no_flags.ensures c.in-Ok-Some.field-0-is c.in-Ok-Some.ensures.none) c.read_mapped.ensures.read

pub unreachable-requires : goal.unreachable-requires
unreachable-requires g c = never-none c.args.mount.now c.no_flags.result c.args.iter.now c.next_mapping.new.iter c.args.pass.now c.next_mapping.new.pass c.in-Ok-None.field-0 c.requires.some c.in-Ok-None.field-0-is c.in-Ok-None.ensures.none

pub unreachable-requires-in-Err : goal.unreachable-requires-in-Err
unreachable-requires-in-Err g c = never-refused c.args.mount.now c.no_flags.result c.args.iter.now.file c.args.pass.now c.next_mapping.new.pass _ c.no_flags.ensures c.in-Err.ensures.err.2
