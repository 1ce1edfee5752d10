use Rattle.buffered_write.proofs.ClearParts.{part-stopped, part-wiped, run-fits}
use Rattle.buffered_write.proofs.clearing.wipe_part.Goals as goal
use Rattle.std.proofs.Common.{◌<◌, subst}

pub wipe_run-requires-clause-run : goal.wipe_run-requires-clause-run
wipe_run-requires-clause-run g c =
    run-fits c.args.mount.now c.args.file c.args.by c.args.to c.args.at (subst (λ n. 0 < n) c.block_size-size.ensures.is c.block_size-size.ensures.some) c.requires.within c.requires.some c.block_size-size.result c.whole_blocks-blocks.result c.block_size-size.ensures.is c.whole_blocks-blocks.ensures
    c.requires.covers

pub returns-in-None-clause-cleared : goal.returns-in-None-clause-cleared
returns-in-None-clause-cleared g c =
    part-wiped c.args.mount.now c.args.file c.args.by c.args.to c.args.at (subst (λ n. 0 < n) c.block_size-size.ensures.is c.block_size-size.ensures.some) c.requires.within c.requires.some c.block_size-size.result c.whole_blocks-blocks.result c.block_size-size.ensures.is c.whole_blocks-blocks.ensures
    c.requires.covers c.args.pass.now c.wipe_run.new.pass c.in-None.ensures.wiped

pub returns-in-Some-clause-cleared : goal.returns-in-Some-clause-cleared
returns-in-Some-clause-cleared g c =
    part-stopped c.args.mount.now c.args.file c.args.by c.args.to c.args.at (subst (λ n. 0 < n) c.block_size-size.ensures.is c.block_size-size.ensures.some) c.requires.within c.requires.some c.block_size-size.result c.whole_blocks-blocks.result c.block_size-size.ensures.is
    c.whole_blocks-blocks.ensures c.requires.covers c.args.pass.now c.wipe_run.new.pass c.in-Some.fault c.in-Some.ensures.wiped
