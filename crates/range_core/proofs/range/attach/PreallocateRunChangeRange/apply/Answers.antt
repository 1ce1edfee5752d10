use Rattle.std.proofs.Common.{refl}
use Rattle.range_core.proofs.AttachTruth.{preallocate_turn}
use Rattle.range_core.proofs.range.attach.PreallocateRunChangeRange.apply.Goals as goal
use Rattle.range_core.proofs.StakeTruth.{works}

pub returns : goal.returns
returns g c s =
    let told = c.preallocate-answer.ensures in
    let turn = preallocate_turn c.args.self.now s.opening c.args.value.now c.preallocate-answer.new.self s.history s.stakes s.number c.args._claims.now s.made c.preallocate-answer.result told.refused told.unchanged told.made told.state c.is_kept.ensures s.stands.holds (works s.stands.here s.is_ready.own) s.is_ready.may.lies in
    record {
      entry = turn.entry;
      done = record { change = refl; claims_are = refl; ok = turn.told.0; err = turn.told.1 };
      holds = turn.holds;
    }
