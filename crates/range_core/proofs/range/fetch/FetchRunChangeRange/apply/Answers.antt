use Rattle.std.proofs.Common.{Result, refl}
use Rattle.range_core.specs.Fetches.{fetch_entry}
use Rattle.range_core.specs.declared.entry.Entry.{Entry}
use Rattle.range_core.specs.declared.fault.EventFault.{EventFault}
use Rattle.range_core.proofs.FetchTruth.{fetch_gives, fetch_keeps, pages_whole}
use Rattle.range_core.proofs.range.fetch.FetchRunChangeRange.apply.Goals as goal
use Rattle.range_core.proofs.StakeTruth.{works}

pub fetch-requires-clause-pages : goal.fetch-requires-clause-pages
fetch-requires-clause-pages c = pages_whole c.requires.opening c.args.value.now c.requires.history c.requires.stakes c.requires.stands.holds

pub returns : goal.returns
returns c s =
    let answer : Result (Unit {0}) EventFault = c.fetch.result in
    let x = c.args.self.now in
    let claims = c.args._claims.now in
    let entry : Entry = fetch_entry claims x answer in
    let e = c.fetch.ensures in
    record {
      entry = entry;
      done = record {
        by = refl;
        from = refl;
        to = refl;
        same_iov = refl;
        claims_are = refl;
        refused = e.refused;
        made = e.made;
        unchanged = e.unchanged;
        nothing = e.nothing;
        state = e.state;
        bytes = fetch_gives s.opening c.args.value.now c.fetch.new.self s.history s.stakes s.number claims s.made x.by x.from x.to s.stands.holds (works s.stands.here s.is_ready.own) s.is_ready.may.bytes answer x.iov.now c.fetch.new.iov e.made e.state e.bytes;
        entry_is = refl;
      };
      holds = fetch_keeps s.opening c.args.value.now c.fetch.new.self s.history s.stakes s.number claims s.made x.by x.from x.to s.stands.holds (works s.stands.here s.is_ready.own) s.is_ready.may.bytes e.met answer e.made e.unchanged e.state;
    }
