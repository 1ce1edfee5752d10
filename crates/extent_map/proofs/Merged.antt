use Rattle.std.proofs.Common.{◌≡◌, ℕ, ◌+◌, true, not, ◌==◌, nat_lt, List, [], ◌∷◌, length, refl, sym, ap, subst, arith, zero-add}
use Rattle.std.proofs.lemmas.Bool.{and_from, eq-eqb, lt-ltb}
use Rattle.io_model.specs.Fitting.{could_be_joined, is_merged_from}
use Rattle.io_model.specs.declared.file.Extent.{Extent}
use Rattle.io_model.specs.declared.file.Kind.{Kind}
use Rattle.extent_map.specs.Expansion.{kinds_of}
use Rattle.extent_map.specs.Keeping.{Apart, FollowOn, IsKept}
use Rattle.extent_map.specs.Merged.{IsMergedList}
use Rattle.extent_map.proofs.Following.{length-kinds_of}

-- runs that follow on one another and are apart are a merged list
pub merged_from : (a b : ℕ) (runs : List Extent) → FollowOn a runs → Apart runs → a + length (kinds_of runs) ≡ b → is_merged_from a b runs ≡ true
merged_from a b [] f p e = eq-eqb a b (omega arith)
merged_from a b (e ∷ []) f p n =
    and_from (e.block == a) _ (eq-eqb e.block a f.0.at)
    (and_from (nat_lt 0 e.length) _ (lt-ltb 0 e.length f.0.some) (eq-eqb (e.block + e.length) b (omega (arith, f.0.at, length-kinds_of e []))))
merged_from a b (e ∷ next ∷ es) f p n =
    and_from (e.block == a) _ (eq-eqb e.block a f.0.at)
    (and_from (nat_lt 0 e.length) _ (lt-ltb 0 e.length f.0.some)
    (and_from (not (could_be_joined e next)) _ (ap not p.0) (merged_from (a + e.length) b (next ∷ es) f.1 p.1 (omega (arith, length-kinds_of e (next ∷ es))))))

pub merged_list : (runs : List Extent) → IsKept runs → IsMergedList (kinds_of runs) runs
merged_list runs k = record { kinds_are = refl; merged = merged_from 0 (length (kinds_of runs)) runs k.follow k.apart (zero-add (length (kinds_of runs))) }

-- a copy of the runs
pub merged_copy : (runs copy : List Extent) (kinds : List Kind) → IsKept runs → copy ≡ runs → kinds_of runs ≡ kinds → IsMergedList kinds copy
merged_copy runs copy kinds k c e =
    let P : List Extent → Type 0 = λ x. IsMergedList kinds x in
    let Q : List Kind → Type 0 = λ x. IsMergedList x runs in
    subst P (sym c) (subst Q e (merged_list runs k))
