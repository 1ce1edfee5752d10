use Rattle.std.proofs.Common.{refl}
use Rattle.space_pool.specs.declared.entry.PoolEntry.{PoolEntry}
use Rattle.space_pool.specs.declared.entry.PoolEntry.TheVariants.{Reserve}
use Rattle.space_pool.proofs.Keeping.{keeps-turn}
use Rattle.space_pool.proofs.Moving.{reserve-moves}
use Rattle.space_pool.proofs.chronicle.ReserveTurnChangePoolState.apply.Goals as goal

pub returns : goal.returns
returns c s =
    let n = c.args.self.now.n in
    let entry : PoolEntry = Reserve n c.reserve.result in
    record {
      entry = entry;
      done = (c.reserve.ensures.reserved, record { entry_is = refl; found = s.stands.holds.told });
      holds = keeps-turn s.stands c.reserve.new.self c.reserve.new.claims entry
          (reserve-moves n c.args.value.now c.args.claims.now.facts c.reserve.result c.reserve.new.self c.reserve.new.claims.facts c.reserve.ensures.reserved s.stands.holds.enough s.is_ready);
    }
