use Rattle.call_parts.proofs.MapLemmas.{next-found, next-refused}
use Rattle.call_parts.proofs.mapped.next_mapping.Goals as goal

pub returns-in-Ok-clause-none : goal.returns-in-Ok-clause-none
returns-in-Ok-clause-none g c =
    next-found c.args.mount.now c.args.flags c.args.iter.now c.next.new.self c.args.pass.now c.next.new.pass c.requires.of c.requires.within c.requires.flags c.in-Ok.found
    c.in-Ok.ensures.none c.in-Ok.ensures.mapping c.in-Ok.ensures.begun

pub returns-in-Err-clause-err : goal.returns-in-Err-clause-err
returns-in-Err-clause-err g c =
    next-refused c.args.mount.now c.args.flags c.args.iter.now c.next.new.self c.args.pass.now c.next.new.pass c.requires.of c.requires.within c.requires.flags c.in-Err.fault
    c.mapping_fault.result c.mapping_fault.ensures c.in-Err.ensures.err
