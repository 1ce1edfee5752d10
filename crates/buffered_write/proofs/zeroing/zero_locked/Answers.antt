use Rattle.std.proofs.Common.{◌≡◌, ◌∙◌, [], false}
use Rattle.mini_fs.specs.CallActs.{size_acts}
use Rattle.buffered_write.specs.Pwrites.{IsPlain}
use Rattle.buffered_write.proofs.LaidLemmas.{free-after, held-after, laid-held}
use Rattle.buffered_write.proofs.WriteLemmas.{ends-high}
use Rattle.buffered_write.proofs.ZeroCallLemmas.{zeros-plain}
use Rattle.buffered_write.proofs.UnderLemmas.{taken-at}
use Rattle.buffered_write.proofs.zeroing.zero_locked.Goals as goal

pub zero_span-came-requires-clause-goes : goal.zero_span-came-requires-clause-goes
zero_span-came-requires-clause-goes g c = taken-at c.args.mount.now c.args.file c.args.by c.args.pass.now c.exclusive-hold.new.pass c.exclusive-hold.result c.exclusive-hold.ensures.won c.exclusive-hold.ensures.of c.requires.goes

pub leave_exclusive-requires-clause-of : goal.leave_exclusive-requires-clause-of
leave_exclusive-requires-clause-of g c = c.zero_span-came.ensures.zeroed.laid.steps.of

pub leave_exclusive-requires-clause-hold : goal.leave_exclusive-requires-clause-hold
leave_exclusive-requires-clause-hold g c =
    let z = c.zero_span-came.ensures.zeroed.laid in
    held-after c.exclusive-hold.new.pass c.zero_span-came.new.pass z.acts c.exclusive-hold.result z.steps.did.acted z.steps.locks c.exclusive-hold.ensures.hold

pub returns-clause-free : goal.returns-clause-free
returns-clause-free g c =
    let z = c.zero_span-came.ensures.zeroed.laid in
    free-after c.args.file c.zero_span-came.new.pass c.leave_exclusive.new.pass c.exclusive-hold.result c.args.mount.now c.exclusive-hold.ensures.won.file_is
    (held-after c.exclusive-hold.new.pass c.zero_span-came.new.pass z.acts c.exclusive-hold.result z.steps.did.acted z.steps.locks c.exclusive-hold.ensures.hold) c.leave_exclusive.ensures.left

pub returns-clause-zeroed : goal.returns-clause-zeroed
returns-clause-zeroed g c =
    let z = c.zero_span-came.ensures.zeroed in
    let high = ends-high c.args.mount.now.geometry.block_size c.args.from c.args.to c.zero_span-came.result.at c.zero_span-came.result.fault false c.zero_span-came.ensures.ends in
    let w = zeros-plain c.args.mount.now c.args.file c.args.by c.args.from c.args.to _ _ c.exclusive-hold.new.pass c.zero_span-came.new.pass c.zero_span-came.result high z in
    laid-held c.args.mount.now _ c.args.file c.args.by c.args.from c.args.to _ _ _ c.zero_span-came.result IsPlain (λ acts. size_acts acts ≡ []) c.args.pass.now c.exclusive-hold.new.pass c.zero_span-came.new.pass c.leave_exclusive.new.pass c.exclusive-hold.result
    c.exclusive-hold.ensures.won c.exclusive-hold.ensures.tickets c.exclusive-hold.ensures.hold w w.also.0 c.leave_exclusive.ensures.left c.leave_exclusive.ensures.of c.leave_exclusive.ensures.tickets (λ acts own sizes. sizes ∙ w.also.1)
