use Rattle.std.proofs.Common.{◌<◌, ◌*◌, arith}
use Rattle.mount_parts.specs.MountView.{file_at}
use Rattle.writeback_ioend.proofs.Drops.{more-dropped, none-dropped}
use Rattle.writeback_ioend.proofs.clean_pages.drop_stripes.Goals as goal

pub loop-stripe-init : goal.loop-stripe-init
loop-stripe-init g c = (c.requires.of, none-dropped c.args.mount.now c.args.file c.args.pass.now, λ t is. is)

pub loop-stripe-preserved : goal.loop-stripe-preserved
loop-stripe-preserved g c =
    let so = c.loop-stripe.invariant in
    let ends = c.div_ceil-stripe-end.ensures in
    let blocks = c.blocks-2.ensures in
    let more = c.loop-stripe-test.true in
    let below : c.loop-stripe.stripe * 64 < (file_at c.args.mount.now c.args.file).blocks = omega (arith, ends, blocks, more) in (
      c.drop_stripe-pages.ensures.of,
      more-dropped c.args.mount.now c.args.file c.loop-stripe.stripe c.args.pass.now c.loop-stripe.pass c.drop_stripe-pages.new.pass c.loop-stripe.pages c.drop_stripe-pages.result below so.1 c.drop_stripe-pages.ensures.dropped,
      λ t is. c.drop_stripe-pages.ensures.tickets t (so.2 t is),
    )
