use Rattle.std.proofs.Common.{subst, sym, arith}
use Rattle.io_model.specs.declared.file.Kind.{Kind}
use Rattle.io_model.specs.declared.file.Kind.TheVariants.{Hole}
use Rattle.extent_map.specs.Longest.{IsRunAt}
use Rattle.extent_map.proofs.Walking.{run_ends, run_more, run_one, run_within}
use Rattle.extent_map.proofs.walk.run_from.Goals as goal

pub loop-n-init : goal.loop-n-init
loop-n-init c =
    let P : Kind → Type 0 = λ k. IsRunAt c.args.kinds.now c.args.b k 1 in
    (subst P (sym c.kind_at-kind.ensures.kind) (run_one c.args.kinds.now c.args.b Hole c.requires.inside), c.kind_at-kind.ensures.fits)

pub goes_on-requires : goal.goes_on-requires
goes_on-requires c = run_within c.args.kinds.now c.args.b c.kind_at-kind.result c.loop-n.n (omega arith) c.loop-n.invariant.0

pub returns-then-not-goes_on : goal.returns-then-not-goes_on
returns-then-not-goes_on c =
    run_ends c.args.kinds.now c.args.b c.args.max c.kind_at-kind.result c.loop-n.n (omega arith) (omega arith) c.loop-n.invariant.1 c.loop-n.invariant.0
    (sym c.if-not-goes_on.ensures.test)

pub loop-n-preserved : goal.loop-n-preserved
loop-n-preserved c =
    (run_more c.args.kinds.now c.args.b c.kind_at-kind.result c.loop-n.n c.loop-n.invariant.0 (sym c.if-not-goes_on.ensures.test), c.if-not-goes_on.ensures.fits)
