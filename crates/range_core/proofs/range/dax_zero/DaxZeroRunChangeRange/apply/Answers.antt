use Rattle.std.proofs.Common.{Result, refl}
use Rattle.range_core.specs.DaxZeros.{dax_zero_entry}
use Rattle.range_core.specs.declared.entry.Entry.{Entry}
use Rattle.range_core.specs.declared.fault.EventFault.{EventFault}
use Rattle.range_core.proofs.DaxZeroTruth.{can_zero_dax, dax_zero_keeps}
use Rattle.range_core.proofs.range.dax_zero.DaxZeroRunChangeRange.apply.Goals as goal
use Rattle.range_core.proofs.StakeTruth.{works}

pub zero_through-requires-clause-can : goal.zero_through-requires-clause-can
zero_through-requires-clause-can g c =
    let s = c.requires in
    let x = c.args.self.now in
    can_zero_dax s.opening c.args.value.now s.history s.stakes x.seen x.from x.to s.stands.holds s.is_ready.may.bytes s.seen s.begins s.is_ready.may.given

pub returns : goal.returns
returns g c s =
    let x = c.args.self.now in
    let claims = c.args._claims.now in
    let answer : Result (Unit {0}) EventFault = c.zero_through.result in
    let entry : Entry = dax_zero_entry claims x.by x.seen x.from x.to answer in
    let e = c.zero_through.ensures.answers in
    record {
      entry = entry;
      done = record {
        by = refl;
        seen = refl;
        from = refl;
        to = refl;
        claims_are = refl;
        answers = e;
        entry_is = refl;
      };
      holds = dax_zero_keeps s.opening c.args.value.now s.history s.stakes x.seen x.from x.to s.stands.holds s.is_ready.may.bytes s.number claims s.made x.by (works s.stands.here s.is_ready.own) c.zero_through.new.self c.zero_through.ensures.met answer e.unchanged e.state;
    }
