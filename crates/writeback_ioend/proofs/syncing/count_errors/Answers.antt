use Rattle.std.proofs.Common.{◌+◌, sym, subst}
use Rattle.writeback_ioend.specs.Syncs.{CountsErrors}
use Rattle.writeback_ioend.proofs.SyncLemmas.{more-counted, none-counted}
use Rattle.writeback_ioend.proofs.syncing.count_errors.Goals as goal

pub loop-stripe-init : goal.loop-stripe-init
loop-stripe-init g c = (c.requires.of, none-counted c.args.mount.now c.args.file c.args.pass.now c.requires.of)

pub loop-stripe-preserved : goal.loop-stripe-preserved
loop-stripe-preserved g c = (
  c.stripe_errors.ensures.of,
  subst (CountsErrors c.args.mount.now c.args.file (c.loop-stripe.stripe + 1) c.args.pass.now c.stripe_errors.new.pass) (sym c.saturating_add-errors.ensures)
      (more-counted c.args.mount.now c.args.file c.loop-stripe.stripe c.args.pass.now c.loop-stripe.pass c.stripe_errors.new.pass c.loop-stripe.errors c.stripe_errors.result c.requires.of c.loop-stripe.invariant.1 c.stripe_errors.ensures.looked),
)
