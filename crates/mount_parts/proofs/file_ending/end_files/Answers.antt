use Rattle.std.proofs.Common.{length, get_or, refl, sym, subst, arith}
use Rattle.std.specs.Vec.Iter.{into_iter_items}
use Rattle.mount_parts.specs.FileEnds.{AreFileEnds, AreRunsOf, runs_of}
use Rattle.mount_parts.specs.MountView.{LieInOrder, no_file}
use Rattle.mount_parts.proofs.FileEndings.{ended-all, ended-more, ended-none, next-runs}
use Rattle.mount_parts.proofs.file_ending.end_files.Goals as goal

pub loop-i-init : goal.loop-i-init
loop-i-init c =
    ended-none c.args.files.now (into_iter_items c.into_iter-runs.result) (into_iter_items c.into_iter-sizes.result) c.new-ends.result.items
    (subst (λ r. LieInOrder 0 0 c.args.files.now (length r) (length (into_iter_items c.into_iter-sizes.result))) (sym c.into_iter-runs.ensures.rest) (subst (λ z. LieInOrder 0 0 c.args.files.now (length c.args.runs.items) (length z)) (sym c.into_iter-sizes.ensures.rest) c.requires.order))
    c.new-ends.ensures.items

pub end_file-requires-clause-runs : goal.end_file-requires-clause-runs
end_file-requires-clause-runs c =
    next-runs c.args.files.now (into_iter_items c.into_iter-runs.result) (into_iter_items c.into_iter-sizes.result) c.loop-i.i (into_iter_items c.loop-i.runs) (into_iter_items c.loop-i.sizes) c.loop-i.ends.items (get_or c.args.files.now c.loop-i.i no_file) c.loop-i.invariant c.loop-i-test.true refl
    (λ k f at. subst (λ r. AreRunsOf f (runs_of f r)) (sym c.into_iter-runs.ensures.rest) (c.requires.runs k f at))

pub loop-i-preserved : goal.loop-i-preserved
loop-i-preserved c =
    ended-more c.args.files.now (into_iter_items c.into_iter-runs.result) (into_iter_items c.into_iter-sizes.result) c.loop-i.i (into_iter_items c.loop-i.runs) (into_iter_items c.loop-i.sizes) c.loop-i.ends.items (get_or c.args.files.now c.loop-i.i no_file) c.loop-i.invariant c.loop-i-test.true refl
    c.in_ok-end.end _ _ _ c.in_ok-end.ensures.joined c.in_ok-end.ensures.size c.in_ok-end.ensures.runs_left c.in_ok-end.ensures.sizes_left c.in_ok-push.ensures.items

pub returns : goal.returns
returns c =
    subst (λ r. AreFileEnds c.args.files.now r c.args.sizes.items c.loop-i.ends.items) c.into_iter-runs.ensures.rest (subst (λ z. AreFileEnds c.args.files.now (into_iter_items c.into_iter-runs.result) z c.loop-i.ends.items) c.into_iter-sizes.ensures.rest
    (ended-all c.args.files.now (into_iter_items c.into_iter-runs.result) (into_iter_items c.into_iter-sizes.result) c.loop-i.i (into_iter_items c.loop-i.runs) (into_iter_items c.loop-i.sizes) c.loop-i.ends.items (omega arith) c.loop-i.invariant))
