use Rattle.std.proofs.Common.{refl}
use Rattle.space_pool.specs.Pool.{PoolView}
use Rattle.space_pool.specs.Seats.{pool_cell}
use Rattle.range_core.specs.Reserves.{reserve_outcome}
use Rattle.range_core.specs.declared.entry.Event.TheVariants.{Reserve}
use Rattle.range_core.proofs.ReserveLemmas.{asks_now}
use Rattle.range_core.proofs.ReserveTruth.{reserve_turn, told_err, told_ok, reserve_lies}
use Rattle.range_core.proofs.SampleLemmas.{given_later, known_sample}
use Rattle.range_core.proofs.range.reserve.ReserveRunChangeRange.apply.Goals as goal
use Rattle.range_core.proofs.StakeTruth.{works}

pub reserve-requires-clause-known : goal.reserve-requires-clause-known
reserve-requires-clause-known g c =
    let s = c.requires in
    known_sample s.opening c.args.value.now s.history s.stakes c.args.self.now.seen s.stands.holds (given_later c.args.self.now.seen s.seen s.history s.begins s.is_ready.may.given)

pub returns : goal.returns
returns g c s =
    let was = c.args.value.now in
    let run = c.args.self.now in
    let claims = c.args._claims.now in
    let now = c.reserve.new.self in
    let answer = c.reserve.result in
    let told = c.reserve.ensures in
    let pool : PoolView = (pool_cell run.space.now).opening in
    let ok = told_ok pool was run.seen run.blocks now answer told.made told.some told.few told.sample told.state told.reserved in
    let err = told_err pool was run.seen run.blocks now answer told.refused told.unchanged in
    let known = known_sample s.opening was s.history s.stakes run.seen s.stands.holds (given_later run.seen s.seen s.history s.begins s.is_ready.may.given) in
    record {
      entry = record { caller = claims.caller; event = Reserve run.seen run.blocks; outcome = reserve_outcome answer };
      done = record { change = refl; claims_are = refl; ok = ok; err = err; entry_is = refl; lies = reserve_lies s.opening was now run.seen run.blocks pool answer s.is_ready.may.holes ok };
      holds = reserve_turn pool s.opening was now s.history s.stakes s.number claims s.made run.seen run.blocks answer ok err s.stands.holds (works s.stands.here s.is_ready.own) (asks_now s.opening was s.history s.stakes run.seen run.blocks s.stands.holds s.is_ready.may.holes) known;
    }
