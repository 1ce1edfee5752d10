use Rattle.std.proofs.Common.{[], ◌∷◌, ◌++◌, Some, set, refl}
use Rattle.size_core.specs.ClaimsView.{ClaimsView}
use Rattle.size_core.specs.SizesView.{SizesView}
use Rattle.size_core.specs.SizeTruth.{SizeTruth}
use Rattle.size_core.specs.SizeTurns.{entry_by}
use Rattle.size_core.specs.declared.entry.SizeEvent.TheVariants.{Ready}
use Rattle.size_core.proofs.Keeping.{keeps-turn, stands-promised}
use Rattle.size_core.proofs.Turning.{ready-either}
use Rattle.size_core.proofs.turns.ReadyRoomChangeSizes.apply.Goals as goal

pub ready-requires : goal.ready-requires
ready-requires c = stands-promised c.requires.stands

pub returns : goal.returns
returns c s =
    let claims = c.args.claims.now in
    let entry = entry_by claims (Ready c.ready.result) in
    let T : SizesView × ClaimsView → Type 0 = λ p. SizeTruth s.opening p.0 (s.history ++ entry ∷ []) (set s.stakes s.number (Some p.1, s.made ++ entry ∷ [])) in
    record {
      entry = entry;
      done = record { same = refl; ok = c.ready.ensures.ok; err = c.ready.ensures.err; enters = record { found = s.stands.holds.size_is_replay; entry_is = refl } };
      holds = ready-either c.args.value.now claims s.stands.holds.within T c.ready.new.self c.ready.new.claims c.ready.result c.ready.ensures.ok c.ready.ensures.err (λ next rooms. keeps-turn s.stands next rooms entry);
    }
