use Rattle.std.proofs.Common.{refl}
use Rattle.space_pool.specs.declared.entry.PoolEntry.{PoolEntry}
use Rattle.space_pool.specs.declared.entry.PoolEntry.TheVariants.{ReserveSome}
use Rattle.space_pool.proofs.Keeping.{keeps-turn}
use Rattle.space_pool.proofs.Moving.{reserve_some-moves}
use Rattle.space_pool.proofs.chronicle.ReserveSomeTurnChangePoolState.apply.Goals as goal

pub returns : goal.returns
returns c s =
    let n = c.args.self.now.n in
    let entry : PoolEntry = ReserveSome n c.reserve_some.result in
    record {
      entry = entry;
      done = (c.reserve_some.ensures.reserved, record { entry_is = refl; found = s.stands.holds.told });
      holds = keeps-turn s.stands c.reserve_some.new.self c.reserve_some.new.claims entry
          (reserve_some-moves n c.args.value.now c.args.claims.now.facts c.reserve_some.result c.reserve_some.new.self c.reserve_some.new.claims.facts c.reserve_some.ensures.reserved s.stands.holds.enough s.is_ready.0);
    }
