use Rattle.buffered_write.proofs.WipeLemmas.{run-block, wipe-ready, wiped-goes, wiped-once}
use Rattle.buffered_write.proofs.clearing.wipe_once.Goals as goal

pub wipe-requires-clause-block : goal.wipe-requires-clause-block
wipe-requires-clause-block g c = run-block c.args.mount.now c.args.file c.args.by c.args.block c.args.blocks c.args.pass.now c.args.pass.now c.requires.run

pub wipe-requires-clause-ready : goal.wipe-requires-clause-ready
wipe-requires-clause-ready g c = wipe-ready c.args.mount.now c.args.file c.args.by c.args.block c.args.blocks c.args.pass.now c.args.pass.now c.is_laid_out.ensures c.requires.run

pub returns-clause-wiped : goal.returns-clause-wiped
returns-clause-wiped g c = wiped-once c.args.mount.now c.args.file c.args.by c.args.block c.args.blocks c.args.pass.now c.wipe.new.pass c.wipe.result c.requires.sized c.requires.run c.requires.goes.of c.wipe.ensures.turned

pub returns-clause-goes : goal.returns-clause-goes
returns-clause-goes g c = wiped-goes c.args.mount.now c.args.file c.args.by c.args.block c.args.blocks c.requires.sized c.args.pass.now c.wipe.new.pass c.wipe.result (returns-clause-wiped g c) c.requires.goes
