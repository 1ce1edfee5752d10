use Rattle.std.proofs.Common.{List, subst, sym, arith}
use Rattle.io_model.specs.declared.file.Extent.{Extent}
use Rattle.io_model.specs.declared.file.Kind.TheVariants.{Hole}
use Rattle.file_stripes.proofs.RunsLemmas.{Merging, merging_more, merging_none, merging_short}
use Rattle.file_stripes.proofs.runs.merge_kinds.Goals as goal

pub loop-i-init : goal.loop-i-init
loop-i-init c =
    let M : List Extent → Type 0 = λ l. Merging c.args.first c.args.kinds.now 0 l in
    subst M (sym c.new-extents.ensures.items) (merging_none c.args.first c.args.kinds.now)

pub add_run-requires-clause-short : goal.add_run-requires-clause-short
add_run-requires-clause-short c = merging_short c.args.first c.loop-i.i c.args.kinds.now c.loop-i.extents.items c.loop-i.invariant (omega arith)

pub loop-i-preserved : goal.loop-i-preserved
loop-i-preserved c =
    merging_more c.args.first c.loop-i.i c.args.kinds.now c.loop-i.extents.items _ Hole c.loop-i-test.true c.requires.given c.loop-i.invariant
    c.in_ok-add_run.ensures
