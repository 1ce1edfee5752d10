use Rattle.std.proofs.Common.{refl}
use Rattle.size_core.specs.SizeTurns.{entry_by}
use Rattle.size_core.specs.declared.entry.SizeEvent.TheVariants.{See}
use Rattle.size_core.proofs.Keeping.{keeps-turn}
use Rattle.size_core.proofs.Turning.{sees}
use Rattle.size_core.proofs.turns.SeeSizeChangeSizes.apply.Goals as goal

pub returns : goal.returns
returns c s =
    let claims = c.args._claims.now in
    let entry = entry_by claims (See c.args.self.now.by c.see.result) in
    record {
      entry = entry;
      done = record { change = refl; claims_are = refl; ok = c.see.ensures.ok; err = c.see.ensures.err; enters = record { found = s.stands.holds.size_is_replay; entry_is = refl } };
      holds = keeps-turn s.stands c.see.new.self claims.rooms entry (sees c.args.value.now claims s.stands.holds.within c.args.self.now.by c.see.new.self c.see.result c.see.ensures.ok c.see.ensures.err);
    }
