-- A pass goes on at a mount with its shares and its seats at the locks.
use Rattle.std.proofs.Common.{◌≡◌, ℕ, ◌^◌, List, [], ◌∷◌, map, get_or, Some, refl, sym, ap, ◌∙◌, subst}
use Rattle.std.specs.Prelude.{All, slice_get}
use Rattle.std.proofs.lemmas.List.Elements.{All-map}
use Rattle.turn_cell.specs.Views.{SeatView}
use Rattle.range_core.specs.ClaimsView.{ClaimsView}
use Rattle.range_core.specs.RangeView.{RangeView}
use Rattle.range_core.specs.declared.entry.Entry.{Entry}
use Rattle.size_core.specs.ClaimsView as size
use Rattle.size_core.specs.SizesView.{SizesView}
use Rattle.size_core.specs.declared.entry.SizeEntry.{SizeEntry}
use Rattle.mount_parts.specs.MountView.{MountView}
use Rattle.mount_parts.proofs.Places.{map-kept}
use Rattle.mini_fs.specs.PassView.{IsPassOf, PassView, SizeSeat, share_in}
use Rattle.mini_fs.specs.SizeTurns.{TurnsAtSize}
use Rattle.mini_fs.specs.Splits.{IsHome}
use Rattle.mini_fs.specs.Turns.{TurnsAt}
use Rattle.mini_fs.specs.Wholes.{HasWhole}
use Rattle.mini_fs.proofs.Unmounting.{all-seen}
use Rattle.worked_mounts.specs.Alone.{IsAlone, share_of}
use Rattle.worked_mounts.specs.Shares.{GetsShare, size_share, size_shares, stripe_share, stripe_shares}

-- each seat has the share that it had, and the seats at the locks and the spare numbers stay
pub record Goes (p q : PassView) : Type 0 where
  pub stripes : stripe_shares q ≡ stripe_shares p
  pub sizes : size_shares q ≡ size_shares p
  pub locks : q.locks ≡ p.locks
  pub spare : q.spare ≡ p.spare

pub goes-none : (p : PassView) → Goes p p
goes-none p = record { stripes = refl; sizes = refl; locks = refl; spare = refl }

pub goes-then : (p q r : PassView) → Goes p q → Goes q r → Goes p r
goes-then p q r one two = record { stripes = two.stripes ∙ one.stripes; sizes = two.sizes ∙ one.sizes; locks = two.locks ∙ one.locks; spare = two.spare ∙ one.spare }

-- a turn at a stripe, and one at a size
pub goes-turn : {does : RangeView → List Entry → RangeView → RangeView → Entry → Type 0} {m : MountView} {stripe : ℕ} {claims left : ClaimsView} {p q : PassView} → TurnsAt does m stripe claims left p q → Goes p q
goes-turn {stripe = stripe} {p = p} t = subst (Goes p) (sym t.pass_is) (record { stripes = map-kept stripe_share p.stripes stripe t.before t.after t.stand.seat_is t.same_share; sizes = refl; locks = refl; spare = refl })

pub goes-size : {does : SizesView → List SizeEntry → SizesView → size.ClaimsView → SizesView → size.ClaimsView → SizeEntry → Type 0} {m : MountView} {at : ℕ} {p q : PassView} → TurnsAtSize does m at p q → Goes p q
goes-size {at = at} {p = p} t = subst (Goes p) (sym t.pass_is) (record { stripes = refl; sizes = map-kept size_share p.sizes at t.before t.after t.stand.seat_is t.same_share; locks = refl; spare = refl })

share-first : (ss : List (SeatView Entry)) → share_in (slice_get ss 0) ≡ get_or (map stripe_share ss) 0 0
share-first [] = refl
share-first (s ∷ ss) = refl

pub share-goes : (p q : PassView) → Goes p q → share_of q ≡ share_of p
share-goes p q g = share-first q.stripes ∙ ap (λ l. get_or l 0 0) g.stripes ∙ sym (share-first p.stripes)

pub alone-goes : (m : MountView) (p q : PassView) → IsAlone m p → IsPassOf m q → Goes p q → IsAlone m q
alone-goes m p q a of g =
    let same : share_of q ≡ share_of p = share-goes p q g in
    let P : ℕ → Type 0 = λ n. n ≡ share_of q in
    let stripes : All (λ (s : SeatView Entry). s.share ≡ share_of q) p.stripes = subst (λ n. All (λ (s : SeatView Entry). s.share ≡ n) p.stripes) (sym same) a.shares in
    let sizes : All (λ (s : SizeSeat). s.seat.share ≡ share_of q) p.sizes = subst (λ n. All (λ (s : SizeSeat). s.seat.share ≡ n) p.sizes) (sym same) a.size_shares in
    record {
      geometry = a.geometry;
      exists = a.exists;
      cached = a.cached;
      of = of;
      shares = all-seen stripe_share P q.stripes (map stripe_share p.stripes) g.stripes (All-map P stripe_share p.stripes stripes);
      size_shares = all-seen size_share P q.sizes (map size_share p.sizes) g.sizes (All-map P size_share p.sizes sizes);
      home = subst (All IsHome) (sym g.locks) a.home;
    }

-- a pass that has the whole share at the first stripe has it everywhere
pub alone-whole : (m : MountView) (p : PassView) → IsAlone m p → share_of p ≡ 2 ^ 63 → HasWhole p
alone-whole m p a whole = record {
  stripes = subst (λ n. All (λ (s : SeatView Entry). s.share ≡ n) p.stripes) whole a.shares;
  sizes = subst (λ n. All (λ (s : SizeSeat). s.seat.share ≡ n) p.sizes) whole a.size_shares;
}
