use Rattle.writeback_ioend.proofs.Drops.{stripe-dropped, stripe-ready}
use Rattle.writeback_ioend.proofs.clean_pages.drop_stripe.Goals as goal

pub drop_clean-requires-clause-ready : goal.drop_clean-requires-clause-ready
drop_clean-requires-clause-ready g c = stripe-ready c.args.mount.now c.args.file c.args.stripe c.blocks_from-blocks.result 0 c.args.pass.now c.args.pass.now c.blocks_from-blocks.ensures c.requires.stripe c.is_laid_out.ensures

pub returns-clause-dropped : goal.returns-clause-dropped
returns-clause-dropped g c = stripe-dropped c.args.mount.now c.args.file c.args.stripe c.blocks_from-blocks.result c.drop_clean.result c.args.pass.now c.drop_clean.new.pass c.blocks_from-blocks.ensures c.requires.stripe c.drop_clean.ensures.turned
