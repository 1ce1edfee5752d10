use Rattle.std.proofs.Common.{[], ◌∷◌, ◌++◌, Some, set, refl, sym, subst}
use Rattle.size_core.specs.ClaimsView.{ClaimsView}
use Rattle.size_core.specs.SizesView.{SizesView}
use Rattle.size_core.specs.SizeTruth.{SizeTruth}
use Rattle.size_core.specs.SizeTurns.{entry_by}
use Rattle.size_core.specs.declared.entry.SizeEvent.TheVariants.{Forget}
use Rattle.size_core.proofs.Keeping.{keeps-turn, stands-usable}
use Rattle.size_core.proofs.Turning.{forgets}
use Rattle.size_core.proofs.turns.ForgetRoomChangeSizes.apply.Goals as goal

pub forget-requires : goal.forget-requires
forget-requires c = stands-usable c.requires.stands c.requires.is_ready

pub returns : goal.returns
returns c s =
    let claims = c.args.claims.now in
    let entry = entry_by claims Forget in
    let T : SizesView × ClaimsView → Type 0 = λ p. SizeTruth s.opening p.0 (s.history ++ entry ∷ []) (set s.stakes s.number (Some p.1, s.made ++ entry ∷ [])) in
    let value = sym c.forget.ensures.state in
    let left = sym c.forget.ensures.claims in
    record {
      entry = entry;
      done = record { same = refl; value = c.forget.ensures.state; claims_are = c.forget.ensures.claims; enters = record { found = s.stands.holds.size_is_replay; entry_is = refl } };
      holds = subst T (λ i. (value i, left i)) (keeps-turn s.stands _ _ entry (forgets c.args.value.now claims s.stands.holds.within (stands-usable s.stands s.is_ready)));
    }
