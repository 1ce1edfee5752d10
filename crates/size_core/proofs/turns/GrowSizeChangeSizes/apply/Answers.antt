use Rattle.std.proofs.Common.{◌≤◌, [], ◌∷◌, ◌++◌, Some, set, refl, sym, subst, arith}
use Rattle.size_core.specs.ClaimsView.{ClaimsView}
use Rattle.size_core.specs.SizesView.{SizesView}
use Rattle.size_core.specs.SizeTruth.{SizeTruth}
use Rattle.size_core.specs.SizeTurns.{entry_by}
use Rattle.size_core.specs.declared.entry.SizeEvent.TheVariants.{Grow}
use Rattle.size_core.proofs.Keeping.{keeps-turn, stands-usable}
use Rattle.size_core.proofs.Turning.{grows}
use Rattle.size_core.proofs.turns.GrowSizeChangeSizes.apply.Goals as goal

pub grow-requires-clause-room : goal.grow-requires-clause-room
grow-requires-clause-room c = stands-usable c.requires.stands c.requires.is_ready.0

pub returns : goal.returns
returns c s =
    let claims = c.args.claims.now in
    let entry = entry_by claims (Grow c.args.self.now.by c.args.self.now.to) in
    let fits : c.args.self.now.to ≤ c.args.value.now.end = let e = s.stands.holds.same_end in let r = s.is_ready.1 in omega arith in
    let T : SizesView × ClaimsView → Type 0 = λ p. SizeTruth s.opening p.0 (s.history ++ entry ∷ []) (set s.stakes s.number (Some p.1, s.made ++ entry ∷ [])) in
    let value = sym c.grow.ensures.state in
    let left = sym c.grow.ensures.claims in
    record {
      entry = entry;
      done = record { change = refl; value = c.grow.ensures.state; claims_are = c.grow.ensures.claims; enters = record { found = s.stands.holds.size_is_replay; entry_is = refl } };
      holds = subst T (λ i. (value i, left i)) (keeps-turn s.stands _ _ entry (grows c.args.value.now claims s.stands.holds.within c.args.self.now.by c.args.self.now.to (stands-usable s.stands s.is_ready.0) fits));
    }
