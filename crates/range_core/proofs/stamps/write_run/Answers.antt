use Rattle.std.proofs.Common.{◌≡◌, ◌+◌, length, sym, ◌∙◌, ap, arith}
use Rattle.range_core.specs.RangeView.{IsOfRange}
use Rattle.range_core.proofs.StampLemmas.{journaled-nil, length-journaled}
use Rattle.range_core.proofs.StampRunLemmas.{run-more, stamps_from-each}
use Rattle.range_core.proofs.stamps.write_run.Goals as goal

pub loop-i-init : goal.loop-i-init
loop-i-init c = sym (journaled-nil c.args.first c.args.ends.now.items)

pub overflow_sub-at : goal.overflow_sub-at
overflow_sub-at c =
    let begin : IsOfRange c.args.first (length c.args.ends.now.items) (c.args.stamped.first + 0, c.args.stamped.stamp) =
    stamps_from-each (IsOfRange c.args.first (length c.args.ends.now.items)) c.args.stamped.first c.args.stamped.count 0 c.args.stamped.stamp c.requires (omega (arith, c.loop-i-test.true)) in
    omega (arith, begin.low)

pub write_stamp-requires : goal.write_stamp-requires
write_stamp-requires c =
    let begin : IsOfRange c.args.first (length c.args.ends.now.items) (c.args.stamped.first + 0, c.args.stamped.stamp) =
    stamps_from-each (IsOfRange c.args.first (length c.args.ends.now.items)) c.args.stamped.first c.args.stamped.count 0 c.args.stamped.stamp c.requires (omega (arith, c.loop-i-test.true)) in
    let at : IsOfRange c.args.first (length c.args.ends.now.items) (c.args.stamped.first + c.loop-i.i, c.args.stamped.stamp) =
    stamps_from-each (IsOfRange c.args.first (length c.args.ends.now.items)) c.args.stamped.first c.args.stamped.count c.loop-i.i c.args.stamped.stamp c.requires c.loop-i-test.true in
    let as_many : length c.loop-i.ends.items ≡ length c.args.ends.now.items = ap length c.loop-i.invariant ∙ length-journaled _ _ c.args.ends.now.items in
    omega (arith, begin.low, at.high, c.loop-i.ends.ok.0)

pub overflow_add-at : goal.overflow_add-at
overflow_add-at c =
    let begin : IsOfRange c.args.first (length c.args.ends.now.items) (c.args.stamped.first + 0, c.args.stamped.stamp) =
    stamps_from-each (IsOfRange c.args.first (length c.args.ends.now.items)) c.args.stamped.first c.args.stamped.count 0 c.args.stamped.stamp c.requires (omega (arith, c.loop-i-test.true)) in
    let at : IsOfRange c.args.first (length c.args.ends.now.items) (c.args.stamped.first + c.loop-i.i, c.args.stamped.stamp) =
    stamps_from-each (IsOfRange c.args.first (length c.args.ends.now.items)) c.args.stamped.first c.args.stamped.count c.loop-i.i c.args.stamped.stamp c.requires c.loop-i-test.true in
    let as_many : length c.loop-i.ends.items ≡ length c.args.ends.now.items = ap length c.loop-i.invariant ∙ length-journaled _ _ c.args.ends.now.items in
    omega (arith, begin.low, at.high, c.loop-i.ends.ok.0, c.loop-i.ends.ok.1, c.loop-i.ends.small)

pub loop-i-preserved : goal.loop-i-preserved
loop-i-preserved c = run-more c.args.first c.args.stamped.first c.loop-i.i c.args.stamped.count c.args.stamped.stamp c.args.ends.now.items c.loop-i.ends.items _ c.requires c.loop-i-test.true c.loop-i.invariant c.in_ok-write_stamp.ensures
