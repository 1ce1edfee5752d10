use Rattle.std.proofs.Common.{◌≡◌, ℕ, zero, suc, ◌<◌, ◌^◌, List, [], ◌∷◌, refl, sym, ◌∙◌, ap, subst, arith}
use Rattle.std.specs.Prelude.{replicate}
use Rattle.std.proofs.lemmas.List.{append-nil}
use Rattle.io_model.specs.declared.file.Extent.{Extent}
use Rattle.io_model.specs.declared.file.Kind.TheVariants.{Hole}
use Rattle.extent_map.specs.Expansion.{run_of, kinds_of}
use Rattle.extent_map.specs.Keeping.{IsKept}
use Rattle.extent_map.proofs.Following.{length-kinds_of}

holes : (n : ℕ) → run_of Hole n ≡ replicate n Hole
holes zero = refl
holes (suc n) = ap (λ l. Hole ∷ l) (holes n)

-- the run of a map of holes
abbrev pub hole_run : ℕ → Extent
hole_run n = record { block = 0; length = n; kind = Hole }

pub one_hole : (n : ℕ) (runs : List Extent) → runs ≡ hole_run n ∷ [] → kinds_of runs ≡ replicate n Hole
one_hole n runs e = ap kinds_of e ∙ append-nil (run_of Hole n) ∙ holes n

kept : (n : ℕ) → 0 < n → n < 2 ^ 64 → IsKept (hole_run n ∷ [])
kept n some small =
    record {
      follow = (record { at = refl; some = some; fits = tt }, tt);
      apart = (refl, tt);
      short = omega (arith, length-kinds_of (hole_run n) []);
    }

pub kept_hole : (n : ℕ) (runs : List Extent) → runs ≡ hole_run n ∷ [] → 0 < n → n < 2 ^ 64 → IsKept runs
kept_hole n runs e some small = subst IsKept (sym e) (kept n some small)
