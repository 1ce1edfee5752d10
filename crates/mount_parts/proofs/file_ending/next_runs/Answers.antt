use Rattle.std.specs.Vec.Iter.{into_iter_items}
use Rattle.mount_parts.proofs.Fronts.{taken-drop, taken-more}
use Rattle.mount_parts.proofs.file_ending.next_runs.Goals as goal

pub loop-preserved : goal.loop-preserved
loop-preserved c =
    let l = c.loop in
    let all = into_iter_items c.args.runs.now in
    record {
      own = taken-more l.counter all (into_iter_items l.runs) l.own.items _ l.invariant.own l.invariant.rest c.in_ok-next_run.ensures.taken;
      rest = taken-drop l.counter all (into_iter_items l.runs) _ l.invariant.rest c.in_ok-next_run.ensures.rest;
    }
