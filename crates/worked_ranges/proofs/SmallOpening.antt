-- The small range may be opened with its sectors.
use Rattle.std.proofs.Common.{◌≡◌, ℕ, zero, suc, ◌≤◌, List, [], ◌∷◌, refl, sym, subst, arith, lit≤, lit<}
use Rattle.std.specs.Prelude.{All}
use Rattle.std.proofs.lemmas.Bool.Decides.{nat_tests}
use Rattle.iob_base.specs.DeviceBlock.{DeviceBlock}
use Rattle.iob_base.specs.declared.TheConstants.{WORN}
use Rattle.turn_cell.proofs.Sums.{total-map}
use Rattle.space_pool.specs.Claims.{ClaimsView, claims_with, numbers_of}
use Rattle.space_pool.specs.Pool.{AreDistinct, HasSize}
use Rattle.range_core.specs.Opening.{CanOpen, ClaimsSectors, LiesIn}
use Rattle.worked_ranges.specs.SmallRanges.{OWN_NUMBERS, SMALL_EXTENTS}

both : {A : Type 0} (P : A → Type 0) (x y : A) → P x → P y → All P (x ∷ y ∷ [])
both P x y p q zero d h = p
both P x y p q (suc zero) d h = q
both P x y p q (suc (suc k)) d h = absurd (omega arith)

own_distinct : AreDistinct OWN_NUMBERS
own_distinct = grind (arith, nat_tests)

claims : (own : List DeviceBlock) → numbers_of own ≡ OWN_NUMBERS → ClaimsSectors 16 6 own (claims_with own 6 16)
claims own numbers = record {
  numbers = λ f. total-map f (λ (s : DeviceBlock). s.number) own;
  distinct = subst AreDistinct (sym numbers) own_distinct;
  reserved = refl;
  cap = refl;
  sized = refl;
}

pub small_opens : (own : List DeviceBlock) (space : ClaimsView) (cookie : ℕ) → numbers_of own ≡ OWN_NUMBERS → All (HasSize 16) own → space ≡ claims_with own 6 16 → cookie ≤ WORN
    → CanOpen 16 0 6 SMALL_EXTENTS own space cookie
small_opens own space cookie numbers sized is worn = record {
  some = lit< tt;
  few = lit≤ tt;
  inside = both (LiesIn 0 6) _ _
      (record { placed = search; low = lit≤ tt; high = lit≤ tt; numbers = lit≤ tt })
      (record { placed = search; low = lit≤ tt; high = lit≤ tt; numbers = lit≤ tt });
  sectors_are = numbers;
  whole = sized;
  space_is = subst (ClaimsSectors 16 6 own) (sym is) (claims own numbers);
  unworn = worn;
}
