use Rattle.std.proofs.Common.{◌-◌, Result, refl}
use Rattle.range_core.specs.KnownSamples.{IsKnown}
use Rattle.range_core.specs.Stores.{store_entry, stored_bytes}
use Rattle.range_core.specs.declared.entry.Entry.{Entry}
use Rattle.range_core.specs.declared.fault.EventFault.{EventFault}
use Rattle.range_core.proofs.FetchTruth.{pages_whole}
use Rattle.range_core.proofs.SampleLemmas.{given_later, known_sample}
use Rattle.range_core.proofs.StoreLemmas.{length-next_bytes}
use Rattle.range_core.proofs.StoreTruth.{store_keeps}
use Rattle.range_core.proofs.range.store.StoreRunChangeRange.apply.Goals as goal
use Rattle.range_core.proofs.StakeTruth.{works}

pub store-requires-clause-pages : goal.store-requires-clause-pages
store-requires-clause-pages c = pages_whole c.requires.opening c.args.value.now c.requires.history c.requires.stakes c.requires.stands.holds

pub returns : goal.returns
returns c s =
    let answer : Result (Unit {0}) EventFault = c.store.result in
    let x = c.args.self.now in
    let claims = c.args._claims.now in
    let entry : Entry = store_entry claims x answer in
    let e = c.store.ensures in
    let can = s.is_ready.may.can in
    let known : IsKnown c.args.value.now x.seen = known_sample s.opening c.args.value.now s.history s.stakes x.seen s.stands.holds (given_later x.seen s.seen s.history s.begins s.is_ready.may.given) in
    record {
      entry = entry;
      done = record {
        by = refl;
        seen = refl;
        from = refl;
        to = refl;
        same_iov = refl;
        claims_are = refl;
        refused = e.refused;
        made = e.made;
        unchanged = e.unchanged;
        nothing = e.nothing;
        state = e.state;
        moved = e.moved;
        entry_is = refl;
      };
      holds =
          store_keeps s.opening c.args.value.now s.history s.stakes s.number claims s.made x.by x.seen x.from x.to (stored_bytes x) c.store.new.self s.stands.holds (works s.stands.here s.is_ready.own) can.bytes can.extent can.space
          (length-next_bytes x.iov.now (x.to - x.from) can.room) known e.met answer e.made e.unchanged e.state;
    }
