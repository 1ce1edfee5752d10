-- The truth of a size that has no history yet.
use Rattle.std.proofs.Common.{◌≡◌, ℕ, ◌+◌, ◌<◌, ◌≤◌, ◌^◌, Bool, true, false, nat_eq, nat_le, Some, [], ◌∷◌, refl, arith}
use Rattle.std.proofs.lemmas.Bool.{eqb-true, leb-true}
use Rattle.size_core.specs.ClaimsView.{first_claims}
use Rattle.size_core.specs.History.{one_where}
use Rattle.size_core.specs.SizesView.{fresh_sizes}
use Rattle.size_core.specs.SizeTruth.{SizeTruth, IsApart}

-- each number but 0 is spare, and 0 is that of the first seat
first_apart : (caller : ℕ) → caller < 2 ^ 32 → IsApart caller [] ((Some first_claims, []) ∷ [])
first_apart caller h = at (nat_le 4294967296 (caller + 4294967295)) (nat_eq 0 caller) refl refl
  where
    at : (t u : Bool) → nat_le 4294967296 (caller + 4294967295) ≡ t → nat_eq 0 caller ≡ u → IsApart caller [] ((Some first_claims, []) ∷ [])
    at true true l e = absurd (let a = leb-true _ _ l in let b = eqb-true _ _ e in omega arith)
    at true false l e = record {
      one = rw (l, e) (omega arith);
      unused = λ _. rw e refl;
    }
    at false u l e = record {
      one = rw l (weighs_less u e);
      unused = λ more. absurd (let z : 0 < one_where false + 0 = rw l at more in omega arith);
    }
      where
        weighs_less : (u : Bool) → nat_eq 0 caller ≡ u → one_where false + 0 + (one_where (nat_eq 0 caller) + 0) ≤ 1
        weighs_less true e = rw e (omega arith)
        weighs_less false e = rw e (omega arith)

pub first_truth : (size end : ℕ) → size ≤ end → SizeTruth (fresh_sizes size end) (fresh_sizes size end) [] ((Some first_claims, []) ∷ [])
first_truth size end fits = record {
  same_end = refl;
  within = fits;
  journal_is_history = refl;
  size_is_replay = refl;
  looks_found_replays = refl;
  rooms_are_promised = refl;
  callers_are_apart = first_apart;
}
