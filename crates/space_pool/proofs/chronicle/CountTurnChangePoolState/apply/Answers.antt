use Rattle.std.proofs.Common.{refl}
use Rattle.space_pool.specs.declared.entry.PoolEntry.{PoolEntry}
use Rattle.space_pool.specs.declared.entry.PoolEntry.TheVariants.{Count}
use Rattle.space_pool.proofs.Keeping.{keeps-turn, stands-within}
use Rattle.space_pool.proofs.Moving.{stays}
use Rattle.space_pool.proofs.chronicle.CountTurnChangePoolState.apply.Goals as goal

pub returns : goal.returns
returns c s =
    let entry : PoolEntry = Count c.counts.result in
    record {
      entry = entry;
      done = (c.counts.ensures, refl, refl, record { entry_is = refl; found = s.stands.holds.told });
      holds = keeps-turn s.stands c.args.value.now c.args._claims.now entry (stays c.args.value.now c.args._claims.now.facts entry s.stands.holds.enough (stands-within s.stands) refl (λ f. refl));
    }
