use Rattle.std.proofs.Common.{Result, refl}
use Rattle.range_core.specs.DaxGets.{dax_get_entry}
use Rattle.range_core.specs.declared.entry.Entry.{Entry}
use Rattle.range_core.specs.declared.fault.EventFault.{EventFault}
use Rattle.range_core.proofs.DaxGetTruth.{can_get_dax, dax_get_gives, dax_get_keeps}
use Rattle.range_core.proofs.range.dax_get.DaxGetRunChangeRange.apply.Goals as goal
use Rattle.range_core.proofs.StakeTruth.{works}

pub get_through-requires-clause-can : goal.get_through-requires-clause-can
get_through-requires-clause-can g c =
    let s = c.requires in
    let x = c.args.self.now in
    can_get_dax s.opening c.args.value.now s.history s.stakes x.seen x.from x.to s.stands.holds s.is_ready.may.bytes s.seen x.iov.now s.begins s.is_ready.may.given s.is_ready.may.room

pub returns : goal.returns
returns g c s =
    let x = c.args.self.now in
    let claims = c.args._claims.now in
    let answer : Result (Unit {0}) EventFault = c.get_through.result in
    let entry : Entry = dax_get_entry claims x.by x.seen x.from x.to answer in
    let e = c.get_through.ensures in
    let t = s.stands.holds in
    let bytes = s.is_ready.may.bytes in
    record {
      entry = entry;
      done = record {
        by = refl;
        seen = refl;
        from = refl;
        to = refl;
        same_iov = refl;
        claims_are = refl;
        answers = e;
        bytes = dax_get_gives s.opening c.args.value.now s.history s.stakes x.seen x.from x.to t bytes answer x.iov.now c.get_through.new.iov e.bytes;
        entry_is = refl;
      };
      holds = dax_get_keeps s.opening c.args.value.now s.history s.stakes x.seen x.from x.to t bytes s.number claims s.made x.by (works s.stands.here s.is_ready.own) c.get_through.new.self answer e.unchanged e.state;
    }
