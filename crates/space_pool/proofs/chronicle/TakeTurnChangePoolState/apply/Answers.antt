use Rattle.std.proofs.Common.{refl}
use Rattle.space_pool.specs.declared.entry.PoolEntry.{PoolEntry}
use Rattle.space_pool.specs.declared.entry.PoolEntry.TheVariants.{Take}
use Rattle.space_pool.proofs.Keeping.{keeps-turn, stands-claim, stands-within}
use Rattle.space_pool.proofs.Moving.{take-moves}
use Rattle.space_pool.proofs.chronicle.TakeTurnChangePoolState.apply.Goals as goal

pub take-requires-clause-claim : goal.take-requires-clause-claim
take-requires-clause-claim c = stands-claim c.requires.stands

pub returns : goal.returns
returns c s =
    let n = c.args.self.now.n in
    let taken = c.take.ensures.taken in
    let entry : PoolEntry = Take n taken.lowest.taken in
    record {
      entry = entry;
      done = ((taken, record { entry_is = refl; found = s.stands.holds.told }), c.take.ensures.kept, refl);
      holds = keeps-turn s.stands c.take.new.self c.take.new.claims entry
          (take-moves n c.args.value.now c.args.claims.now.facts c.args.self.now.into.now.items c.take.new.self c.take.new.claims.facts c.take.new.into.items taken s.stands.holds.enough (stands-within s.stands) (stands-claim s.stands) s.is_ready.0);
    }
