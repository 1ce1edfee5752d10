use Rattle.std.proofs.Common.{Some, [], ◌∷◌, ◌++◌, set, refl, sym, subst}
use Rattle.space_pool.specs.Seats.{pool_cell}
use Rattle.range_core.specs.PoolTurns.{UnreservesAt, place_of}
use Rattle.range_core.specs.RangeTruth.{RangeTruth}
use Rattle.range_core.specs.RangeView.{RangeView}
use Rattle.range_core.specs.declared.entry.Entry.{Entry}
use Rattle.range_core.specs.declared.entry.Event.TheVariants.{Unreserve}
use Rattle.range_core.specs.declared.entry.Outcome.TheVariants.{Counted}
use Rattle.range_core.proofs.PoolLemmas.{kept_for}
use Rattle.range_core.proofs.UnreserveTruth.{unreserve_truth}
use Rattle.range_core.proofs.range.reserve.UnreserveRunChangeRange.apply.Goals as goal
use Rattle.range_core.proofs.StakeTruth.{works}

pub returns : goal.returns
returns g c s =
    let was = c.args.value.now in
    let run = c.args.self.now in
    let claims = c.args._claims.now in
    let told = c.unreserve.ensures in
    let entry : Entry = record { caller = claims.caller; event = Unreserve run.block run.blocks; outcome = Counted c.unreserve.result } in
    let T : RangeView → Type 0 = λ r. RangeTruth s.opening r (s.history ++ entry ∷ []) (set s.stakes s.number (Some claims, s.made ++ entry ∷ [])) in
    record {
      entry = entry;
      done = record { change = refl; claims_are = refl; count = told.count; state = told.state; pool = told.pool; entry_is = refl };
      holds = subst T (sym told.state) (unreserve_truth s.opening was c.unreserve.new.self.seat s.history s.stakes s.number claims s.made run.block run.blocks c.unreserve.result s.stands.holds (works s.stands.here s.is_ready.own) s.is_ready.may.lies (kept_for c.unreserve.result (UnreservesAt (pool_cell run.space.now).opening c.unreserve.result) (λ _ _ t. t.keeps) (place_of was) (place_of c.unreserve.new.self) told.pool) told.count);
    }
