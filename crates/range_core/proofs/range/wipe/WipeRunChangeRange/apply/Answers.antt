use Rattle.std.proofs.Common.{refl}
use Rattle.space_pool.specs.Pool.{PoolView}
use Rattle.space_pool.specs.Seats.{pool_cell}
use Rattle.range_core.specs.Wipes.{wipe_outcome}
use Rattle.range_core.specs.declared.entry.Event.TheVariants.{Wipe}
use Rattle.range_core.proofs.WipeTruth.{told_refused, wipe_turn}
use Rattle.range_core.proofs.range.wipe.WipeRunChangeRange.apply.Goals as goal
use Rattle.range_core.proofs.StakeTruth.{works}

pub returns : goal.returns
returns g c s =
    let was = c.args.value.now in
    let run = c.args.self.now in
    let claims = c.args._claims.now in
    let now = c.wipe-answer.new.self in
    let answer = c.wipe-answer.result in
    let told = c.wipe-answer.ensures in
    let pool : PoolView = (pool_cell run.space.now).opening in
    record {
      entry = record { caller = claims.caller; event = Wipe run.by run.block run.blocks; outcome = wipe_outcome answer };
      done = record { change = refl; claims_are = refl; made = told.made; ok = told.state; err = told_refused was now run.block run.blocks answer told.refused told.unchanged; entry_is = refl };
      holds = wipe_turn pool s.opening was now s.history s.stakes s.number claims s.made run.by run.block run.blocks answer told.made told.state told.unchanged c.is_kept.ensures s.stands.holds (works s.stands.here s.is_ready.own) s.is_ready.may.lies;
    }
