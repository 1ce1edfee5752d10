use Rattle.std.proofs.Common.{◌-◌, ap}
use Rattle.buffered_write.proofs.AllocLemmas.{part-given, part-ready, part-refused}
use Rattle.buffered_write.proofs.space.allocate_part.Goals as goal

pub preallocate-requires-clause-ready : goal.preallocate-requires-clause-ready
preallocate-requires-clause-ready g c =
    part-ready c.args.mount.now c.args.file c.args.to c.args.at (c.stripe_end.result - c.args.at) c.args.pass.now c.args.pass.now (ap (λ k. k - c.args.at) c.stripe_end.ensures) c.requires.some c.requires.within c.is_laid_out.ensures

pub returns-in-Ok-clause-allocated : goal.returns-in-Ok-clause-allocated
returns-in-Ok-clause-allocated g c =
    part-given c.args.mount.now c.args.file c.args.to c.args.at (c.stripe_end.result - c.args.at) c.args.pass.now c.preallocate.new.pass (ap (λ k. k - c.args.at) c.stripe_end.ensures) c.requires.some c.requires.within
    c.in-Ok.count c.requires.of c.in-Ok.ensures.turned

pub returns-in-Err-clause-allocated : goal.returns-in-Err-clause-allocated
returns-in-Err-clause-allocated g c =
    part-refused c.args.mount.now c.args.file c.args.to c.args.at (c.stripe_end.result - c.args.at) c.args.pass.now c.preallocate.new.pass (ap (λ k. k - c.args.at) c.stripe_end.ensures) c.requires.some c.requires.within
    c.in-Err.refused c.space_fault.result c.space_fault.ensures c.requires.of c.in-Err.ensures.turned
