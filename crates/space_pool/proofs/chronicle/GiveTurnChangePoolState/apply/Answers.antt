use Rattle.std.proofs.Common.{length, refl}
use Rattle.space_pool.specs.declared.entry.PoolEntry.{PoolEntry}
use Rattle.space_pool.specs.declared.entry.PoolEntry.TheVariants.{Give}
use Rattle.space_pool.proofs.Keeping.{keeps-turn, stands-claim, stands-within}
use Rattle.space_pool.proofs.Moving.{give-moves}
use Rattle.space_pool.proofs.chronicle.GiveTurnChangePoolState.apply.Goals as goal

pub give-requires-clause-claim : goal.give-requires-clause-claim
give-requires-clause-claim c = stands-claim c.requires.stands

pub returns : goal.returns
returns c s =
    let given = c.args.self.now.sectors.now.items in
    let entry : PoolEntry = Give (length given) given in
    record {
      entry = entry;
      done = ((c.give.ensures.given, record { entry_is = refl; found = s.stands.holds.told }), c.give.ensures.emptied, c.give.ensures.kept, refl);
      holds = keeps-turn s.stands c.give.new.self c.give.new.claims entry
          (give-moves given c.args.value.now c.args.claims.now.facts c.give.new.self c.give.new.claims.facts c.give.ensures.given s.stands.holds.enough (stands-within s.stands) s.is_ready);
    }
