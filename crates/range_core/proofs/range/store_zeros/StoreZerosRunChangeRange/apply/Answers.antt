use Rattle.std.proofs.Common.{Result, refl}
use Rattle.range_core.specs.StoreZeros.{zero_entry}
use Rattle.range_core.specs.declared.entry.Entry.{Entry}
use Rattle.range_core.specs.declared.fault.EventFault.{EventFault}
use Rattle.range_core.proofs.FetchTruth.{pages_whole}
use Rattle.range_core.proofs.StoreZerosTruth.{zeros_keep}
use Rattle.range_core.proofs.range.store_zeros.StoreZerosRunChangeRange.apply.Goals as goal
use Rattle.range_core.proofs.StakeTruth.{works}

pub store_zeros-requires-clause-pages : goal.store_zeros-requires-clause-pages
store_zeros-requires-clause-pages c = pages_whole c.requires.opening c.args.value.now c.requires.history c.requires.stakes c.requires.stands.holds

pub returns : goal.returns
returns c s =
    let answer : Result (Unit {0}) EventFault = c.store_zeros.result in
    let x = c.args.self.now in
    let claims = c.args._claims.now in
    let entry : Entry = zero_entry claims x answer in
    let e = c.store_zeros.ensures in
    record {
      entry = entry;
      done = record { same = refl; claims_are = refl; refused = e.refused; made = e.made; unchanged = e.unchanged; state = e.state; entry_is = refl };
      holds = zeros_keep s.opening c.args.value.now s.history s.stakes s.number claims s.made x.by x.seen x.from x.to c.store_zeros.new.self s.stands.holds (works s.stands.here s.is_ready.own) s.is_ready.may.can.bytes e.met answer e.made e.unchanged e.state;
    }
