use Rattle.std.proofs.Common.{ap, arith}
use Rattle.mini_fs.proofs.Ready.{run-lies}
use Rattle.worked_mounts.specs.Alone.{only_file}
use Rattle.worked_mounts.proofs.Going.{goes-turn}
use Rattle.worked_calls.proofs.Standing.{stays-goes}
use Rattle.worked_calls.proofs.page_calls.wipe.Goals as goal

pub wipe-wiped-requires-clause-ready : goal.wipe-wiped-requires-clause-ready
wipe-wiped-requires-clause-ready g c = λ cell seat stand. run-lies c.args.mount.now only_file c.is_laid_out.ensures c.args.block 1 (omega arith) (omega arith) (omega arith) cell stand.cell_is

pub returns : goal.returns
returns g c = stays-goes c.args.mount.now c.args.pass.now c.wipe-wiped.new.pass c.requires c.wipe-wiped.ensures.of (goes-turn c.wipe-wiped.ensures.turned)
