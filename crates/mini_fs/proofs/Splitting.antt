-- A pass that is split: its seats before and after, and those of the new pass.
use Rattle.std.proofs.Common.{◌≡◌, ℕ, ◌-◌, ◌<◌, List, map, Some, refl, sym, ap, ◌∙◌, subst, arith}
use Rattle.std.specs.Prelude.{All}
use Rattle.std.proofs.lemmas.List.{length-map}
use Rattle.turn_cell.specs.Views.{SeatView}
use Rattle.range_core.specs.ClaimsView.{ClaimsView}
use Rattle.range_core.specs.declared.entry.Entry.{Entry}
use Rattle.size_core.specs.ClaimsView as size
use Rattle.size_core.specs.declared.entry.SizeEntry.{SizeEntry}
use Rattle.mini_fs.specs.PassView.{IsSizeSeat, SizeSeat, own_claims, size_claims, size_seat}
use Rattle.mini_fs.specs.Places.{CanGiveSize, CanGiveStripe, SizePlace, StripePlace, cell_of_size, cell_of_stripe, given_size_place, given_stripe_place, kept_size_place, kept_stripe_place, size_place, stripe_place}
use Rattle.mini_fs.specs.Splits.{given_share, given_size, given_stripe, kept_size, kept_stripe}
use Rattle.mount_parts.proofs.Places.{all-at, map-there, there, within}
use Rattle.mini_fs.proofs.Through.{all-from, made-of, map-map, seen-through}

module _ {S : Type 0} (view : S → SeatView Entry) (claims : S → ClaimsView) where
  abbrev see : S → StripePlace
  see s = stripe_place (view s) (claims s)

  pub stripe-cells : (ss : List S) → map cell_of_stripe (map (λ s. stripe_place (view s) (claims s)) ss) ≡ map (λ v. v.cell) (map view ss)
  stripe-cells ss = map-map cell_of_stripe see ss ∙ sym (map-map (λ (v : SeatView Entry). v.cell) view ss)

  pub stripes-can : (ss : List S) (caller spare : ℕ) → All (λ v. given_share < v.share) (map view ss) → All (λ s. claims s ≡ own_claims caller spare) ss → 0 < spare → All CanGiveStripe (map (λ s. stripe_place (view s) (claims s)) ss)
  stripes-can ss caller spare shares own some = all-from CanGiveStripe (map see ss) (λ k x at.
      let w = within (map see ss) k x at in
      let s = there ss k (omega (arith, length-map ss see)) in
      let both : Some x ≡ Some (see s.0) = sym at ∙ map-there see ss k s.0 s.1 in
      let same : x ≡ see s.0 = cc in
      let share = all-at (λ (v : SeatView Entry). given_share < v.share) (map view ss) k (view s.0) shares (map-there view ss k s.0 s.1) in
      let c : claims s.0 ≡ own_claims caller spare = all-at (λ s'. claims s' ≡ own_claims caller spare) ss k s.0 own s.1 in
      subst CanGiveStripe (sym same) (share, subst (λ (l : ClaimsView). 0 < l.spare) (sym c) some))

  pub stripes-kept : (xs ys : List S) → map (λ s. stripe_place (view s) (claims s)) ys ≡ map kept_stripe_place (map (λ s. stripe_place (view s) (claims s)) xs) → map view ys ≡ map kept_stripe (map view xs)
  stripes-kept xs ys is = seen-through see kept_stripe_place (λ (p : StripePlace). p.seat) kept_stripe (λ v. refl) xs ys is

  pub stripes-given : (xs ys : List S) → map (λ s. stripe_place (view s) (claims s)) ys ≡ map given_stripe_place (map (λ s. stripe_place (view s) (claims s)) xs) → map view ys ≡ map given_stripe (map view xs)
  stripes-given xs ys is = seen-through see given_stripe_place (λ (p : StripePlace). p.seat) given_stripe (λ v. refl) xs ys is

  pub stripes-left : (xs ys : List S) (caller spare : ℕ) → map (λ s. stripe_place (view s) (claims s)) ys ≡ map kept_stripe_place (map (λ s. stripe_place (view s) (claims s)) xs) → All (λ s. claims s ≡ own_claims caller spare) xs → All (λ s. claims s ≡ own_claims caller (spare - 1)) ys
  stripes-left xs ys caller spare is own = all-from (λ s. claims s ≡ own_claims caller (spare - 1)) ys (λ k y at.
      let x = made-of see kept_stripe_place xs ys is k y at in
      let c : claims x.0 ≡ own_claims caller spare = all-at (λ s. claims s ≡ own_claims caller spare) xs k x.0 own x.1 in
      ap (λ (p : StripePlace). p.claims) x.2 ∙ ap (λ (l : ClaimsView). record l { spare = l.spare - 1 }) c)

  pub stripes-new : (xs ys : List S) (caller spare next : ℕ) → next ≡ 4294967296 - spare → map (λ s. stripe_place (view s) (claims s)) ys ≡ map given_stripe_place (map (λ s. stripe_place (view s) (claims s)) xs) → All (λ s. claims s ≡ own_claims caller spare) xs → All (λ s. claims s ≡ own_claims next 0) ys
  stripes-new xs ys caller spare next e is own = all-from (λ s. claims s ≡ own_claims next 0) ys (λ k y at.
      let x = made-of see given_stripe_place xs ys is k y at in
      let c : claims x.0 ≡ own_claims caller spare = all-at (λ s. claims s ≡ own_claims caller spare) xs k x.0 own x.1 in
      ap (λ (p : StripePlace). p.claims) x.2 ∙ ap (λ (l : ClaimsView). own_claims (4294967296 - l.spare) 0) c ∙ ap (λ n. own_claims n 0) (sym e))

module _ {S : Type 0} (view : S → SeatView SizeEntry) (claims : S → size.ClaimsView) where
  abbrev look : S → SizePlace
  look s = size_place (view s) (claims s)

  pub size-cells : (ss : List S) → map cell_of_size (map (λ s. size_place (view s) (claims s)) ss) ≡ map (λ v. v.seat.cell) (map (λ s. size_seat (view s) (claims s)) ss)
  size-cells ss = map-map cell_of_size look ss ∙ sym (map-map (λ (v : SizeSeat). v.seat.cell) (λ s. size_seat (view s) (claims s)) ss)

  pub sizes-can : (ss : List S) (caller spare : ℕ) → All (λ v. given_share < v.seat.share) (map (λ s. size_seat (view s) (claims s)) ss) → All (λ s. IsSizeSeat caller spare (claims s)) ss → 0 < spare → All CanGiveSize (map (λ s. size_place (view s) (claims s)) ss)
  sizes-can ss caller spare shares own some = all-from CanGiveSize (map look ss) (λ k x at.
      let w = within (map look ss) k x at in
      let s = there ss k (omega (arith, length-map ss look)) in
      let both : Some x ≡ Some (look s.0) = sym at ∙ map-there look ss k s.0 s.1 in
      let same : x ≡ look s.0 = cc in
      let share = all-at (λ (v : SizeSeat). given_share < v.seat.share) (map (λ s. size_seat (view s) (claims s)) ss) k (size_seat (view s.0) (claims s.0)) shares (map-there (λ s. size_seat (view s) (claims s)) ss k s.0 s.1) in
      let c : IsSizeSeat caller spare (claims s.0) = all-at (λ s'. IsSizeSeat caller spare (claims s')) ss k s.0 own s.1 in
      subst CanGiveSize (sym same) (share, subst (λ (l : size.ClaimsView). 0 < l.spare) (sym c) some))

  pub sizes-kept : (xs ys : List S) → map (λ s. size_place (view s) (claims s)) ys ≡ map kept_size_place (map (λ s. size_place (view s) (claims s)) xs) → map (λ s. size_seat (view s) (claims s)) ys ≡ map kept_size (map (λ s. size_seat (view s) (claims s)) xs)
  sizes-kept xs ys is = seen-through look kept_size_place (λ (p : SizePlace). size_seat p.seat p.claims) kept_size (λ v. refl) xs ys is

  pub sizes-given : (xs ys : List S) → map (λ s. size_place (view s) (claims s)) ys ≡ map given_size_place (map (λ s. size_place (view s) (claims s)) xs) → map (λ s. size_seat (view s) (claims s)) ys ≡ map given_size (map (λ s. size_seat (view s) (claims s)) xs)
  sizes-given xs ys is = seen-through look given_size_place (λ (p : SizePlace). size_seat p.seat p.claims) given_size (λ v. refl) xs ys is

  pub sizes-left : (xs ys : List S) (caller spare : ℕ) → map (λ s. size_place (view s) (claims s)) ys ≡ map kept_size_place (map (λ s. size_place (view s) (claims s)) xs) → All (λ s. IsSizeSeat caller spare (claims s)) xs → All (λ s. IsSizeSeat caller (spare - 1) (claims s)) ys
  sizes-left xs ys caller spare is own = all-from (λ s. IsSizeSeat caller (spare - 1) (claims s)) ys (λ k y at.
      let x = made-of look kept_size_place xs ys is k y at in
      let c : IsSizeSeat caller spare (claims x.0) = all-at (λ s. IsSizeSeat caller spare (claims s)) xs k x.0 own x.1 in
      let e : claims y ≡ size_claims caller (spare - 1) (claims x.0).rooms = ap (λ (p : SizePlace). p.claims) x.2 ∙ ap (λ (l : size.ClaimsView). record l { spare = l.spare - 1 }) c in
      e ∙ ap (size_claims caller (spare - 1)) (sym (ap (λ (l : size.ClaimsView). l.rooms) e)))

  pub sizes-new : (xs ys : List S) (caller spare next : ℕ) → next ≡ 4294967296 - spare → map (λ s. size_place (view s) (claims s)) ys ≡ map given_size_place (map (λ s. size_place (view s) (claims s)) xs) → All (λ s. IsSizeSeat caller spare (claims s)) xs → All (λ s. IsSizeSeat next 0 (claims s)) ys
  sizes-new xs ys caller spare next e is own = all-from (λ s. IsSizeSeat next 0 (claims s)) ys (λ k y at.
      let x = made-of look given_size_place xs ys is k y at in
      let c : IsSizeSeat caller spare (claims x.0) = all-at (λ s. IsSizeSeat caller spare (claims s)) xs k x.0 own x.1 in
      let f : claims y ≡ size_claims next 0 0 = ap (λ (p : SizePlace). p.claims) x.2 ∙ ap (λ (l : size.ClaimsView). size_claims (4294967296 - l.spare) 0 0) c ∙ ap (λ n. size_claims n 0 0) (sym e) in
      f ∙ ap (size_claims next 0) (sym (ap (λ (l : size.ClaimsView). l.rooms) f)))
