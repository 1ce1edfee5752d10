use Rattle.writeback_ioend.proofs.SyncLemmas.{look-ready, looked-once}
use Rattle.writeback_ioend.proofs.syncing.stripe_errors.Goals as goal

pub sample-requires-clause-ready : goal.sample-requires-clause-ready
sample-requires-clause-ready g c = look-ready c.args.mount.now c.args.file c.args.stripe c.blocks_from-blocks.result c.args.pass.now c.args.pass.now c.blocks_from-blocks.ensures c.requires.stripe c.is_laid_out.ensures

pub returns-clause-looked : goal.returns-clause-looked
returns-clause-looked g c = looked-once c.args.mount.now c.args.file c.args.stripe c.blocks_from-blocks.result c.args.pass.now c.sample.new.pass c.blocks_from-blocks.ensures c.requires.stripe c.sample.result c.requires.of c.sample.ensures.turned
