use Rattle.std.proofs.Common.{refl}
use Rattle.space_pool.specs.declared.entry.PoolEntry.{PoolEntry}
use Rattle.space_pool.specs.declared.entry.PoolEntry.TheVariants.{Unreserve}
use Rattle.space_pool.proofs.Keeping.{keeps-turn, stands-claim, stands-within}
use Rattle.space_pool.proofs.Moving.{unreserve-moves}
use Rattle.space_pool.proofs.chronicle.UnreserveTurnChangePoolState.apply.Goals as goal

pub unreserve-requires-clause-claim : goal.unreserve-requires-clause-claim
unreserve-requires-clause-claim c = stands-claim c.requires.stands

pub returns : goal.returns
returns c s =
    let n = c.args.self.now.n in
    let entry : PoolEntry = Unreserve n in
    record {
      entry = entry;
      done = (c.unreserve.ensures.unreserved, record { entry_is = refl; found = s.stands.holds.told });
      holds = keeps-turn s.stands c.unreserve.new.self c.unreserve.new.claims entry
          (unreserve-moves n c.args.value.now c.args.claims.now.facts c.unreserve.new.self c.unreserve.new.claims.facts c.unreserve.ensures.unreserved s.stands.holds.enough (stands-within s.stands) (stands-claim s.stands) s.is_ready);
    }
