use Rattle.std.proofs.Common.{refl}
use Rattle.range_core.proofs.DaxPutTruth.{can_put_dax, put_turn}
use Rattle.range_core.proofs.range.dax_put.DaxPutRunChangeRange.apply.Goals as goal
use Rattle.range_core.proofs.StakeTruth.{works}

pub put_through-answer-requires-clause-can : goal.put_through-answer-requires-clause-can
put_through-answer-requires-clause-can g c =
    let s = c.requires in
    let x = c.args.self.now in
    can_put_dax s.opening c.args.value.now s.history s.stakes x.seen x.from x.to s.stands.holds s.is_ready.may.bytes s.seen x.iov.now s.begins s.is_ready.may.given s.is_ready.may.room

pub returns : goal.returns
returns g c s =
    let x = c.args.self.now in
    let told = c.put_through-answer.ensures in
    let can = can_put_dax s.opening c.args.value.now s.history s.stakes x.seen x.from x.to s.stands.holds s.is_ready.may.bytes s.seen x.iov.now s.begins s.is_ready.may.given s.is_ready.may.room in
    let turn = put_turn x s.opening c.args.value.now c.put_through-answer.new.self s.history s.stakes s.number c.args._claims.now s.made c.put_through-answer.result told.answers.unchanged told.answers.made told.answers.state told.met c.is_kept.ensures can s.stands.holds (works s.stands.here s.is_ready.own) s.is_ready.may.bytes in
    record {
      entry = turn.entry;
      done = record {
        rt = refl;
        space = refl;
        by = refl;
        seen = refl;
        from = refl;
        to = refl;
        same_iov = refl;
        claims_are = refl;
        answers = told.answers;
        ok = turn.told.0;
        err = turn.told.1;
      };
      holds = turn.holds;
    }
