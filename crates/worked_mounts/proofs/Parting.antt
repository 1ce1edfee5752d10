-- A pass is split off, and two passes are joined: each has the same share everywhere.
use Rattle.std.proofs.Common.{◌≡◌, ℕ, zero, suc, ◌+◌, ◌-◌, ◌<◌, ◌^◌, List, [], ◌∷◌, length, map, Some, None, Option, Ok, Err, refl, sym, ap, ◌∙◌, subst, arith}
use Rattle.std.specs.Prelude.{All, IfOk, OnErr, OnOk, Result, slice_get}
use Rattle.std.proofs.lemmas.List.Elements.{All-cons, All-head, All-map, All-nil, All-tail}
use Rattle.inode_lock.specs.View.{LockView, split_off}
use Rattle.turn_cell.specs.Views.{CellView, SeatView, joined}
use Rattle.range_core.specs.RangeView.{RangeView}
use Rattle.range_core.specs.declared.entry.Entry.{Entry}
use Rattle.size_core.specs.SizesView.{SizesView}
use Rattle.mount_parts.specs.MountView.{MountView}
use Rattle.mount_parts.proofs.Places.{same-length}
use Rattle.mini_fs.specs.Joins.{joined_pass, joined_size, paired}
use Rattle.mini_fs.specs.PassView.{IsPassOf, PassView, SizeSeat, share_in}
use Rattle.mini_fs.specs.Splits.{CanSplit, IsHome, SplitOff, given_share, given_size, given_stripe, kept_lock, kept_pass, kept_size, kept_stripe}
use Rattle.mini_fs.proofs.Starts.{fresh-homes}
use Rattle.mini_fs.proofs.Unmounting.{all-more}
use Rattle.worked_mounts.specs.Alone.{IsAlone, share_of}
use Rattle.worked_mounts.specs.Passes.{IsSplitOff}

-- a pass that has more than is given may be split
pub can-split : (m : MountView) (p : PassView) → IsAlone m p → 0 < p.spare → 2 ^ 32 < share_of p → CanSplit p
can-split m p a spare more = record {
  spare = spare;
  stripes = all-more (λ (s : SeatView Entry). s.share ≡ share_of p) (λ (s : SeatView Entry). given_share < s.share) p.stripes (λ s is. subst (λ n. given_share < n) (sym is) more) a.shares;
  sizes = all-more (λ (s : SizeSeat). s.seat.share ≡ share_of p) (λ (s : SizeSeat). given_share < s.seat.share) p.sizes (λ s is. subst (λ n. given_share < n) (sym is) more) a.size_shares;
  home = a.home;
}

-- each element of a mapped list
all-mapped : {A B : Type 0} (P : A → Type 0) (Q : B → Type 0) (f : A → B) (xs : List A) → ((x : A) → P x → Q (f x)) → All P xs → All Q (map f xs)
all-mapped P Q f [] on all = All-nil Q
all-mapped P Q f (x ∷ xs) on all = All-cons Q (f x) (map f xs) (on x (All-head P x xs all)) (all-mapped P Q f xs on (All-tail P x xs all))

-- there is a first seat where a pass has a share
first-kept : (ss : List (SeatView Entry)) (n : ℕ) → share_in (slice_get ss 0) ≡ n → 0 < n → share_in (slice_get (map kept_stripe ss) 0) ≡ n - given_share
first-kept [] n is some = absurd (omega (arith, is, some))
first-kept (s ∷ ss) n is some = ap (λ k. k - given_share) is

first-given : (ss : List (SeatView Entry)) (n : ℕ) → share_in (slice_get ss 0) ≡ n → 0 < n → share_in (slice_get (map given_stripe ss) 0) ≡ given_share
first-given [] n is some = absurd (omega (arith, is, some))
first-given (s ∷ ss) n is some = refl

kept-home : (place : Option LockView) → IsHome place → IsHome (kept_lock place)
kept-home None home = absurd (let e = home.1 in cc)
kept-home (Some seat) home = (split_off seat, refl)

module _ (m : MountView) (p : PassView) (a : IsAlone m p) (more : 2 ^ 32 < share_of p) where
  some : 0 < share_of p
  some = omega arith

  pub kept-share : share_of (kept_pass p) + 2 ^ 32 ≡ share_of p
  kept-share = let k = first-kept p.stripes (share_of p) refl some in omega (arith, more, k)

  pub kept-alone : IsPassOf m (kept_pass p) → IsAlone m (kept_pass p)
  kept-alone of =
      let n = share_of (kept_pass p) in
      let is : share_of p - given_share ≡ n = sym (first-kept p.stripes (share_of p) refl some) in
      record {
        geometry = a.geometry;
        exists = a.exists;
        cached = a.cached;
        of = of;
        shares = all-mapped (λ (s : SeatView Entry). s.share ≡ share_of p) (λ (s : SeatView Entry). s.share ≡ n) kept_stripe p.stripes (λ s e. ap (λ k. k - given_share) e ∙ is) a.shares;
        size_shares = all-mapped (λ (s : SizeSeat). s.seat.share ≡ share_of p) (λ (s : SizeSeat). s.seat.share ≡ n) kept_size p.sizes (λ s e. ap (λ k. k - given_share) e ∙ is) a.size_shares;
        home = all-mapped IsHome IsHome kept_lock p.locks kept-home a.home;
      }

  pub given-alone : (q new : PassView) → IsPassOf m new → SplitOff m p q new → IsSplitOff m new
  given-alone q new of split =
      let share : share_of new ≡ given_share = ap (λ ss. share_in (slice_get ss 0)) split.stripes ∙ first-given p.stripes (share_of p) refl some in
      record {
        share = share;
        alone = record {
          geometry = a.geometry;
          exists = a.exists;
          cached = a.cached;
          of = of;
          shares = subst (All (λ (s : SeatView Entry). s.share ≡ share_of new)) (sym split.stripes) (all-mapped (λ (s : SeatView Entry). s.share ≡ share_of p) (λ (s : SeatView Entry). s.share ≡ share_of new) given_stripe p.stripes (λ s e. sym share) a.shares);
          size_shares = subst (All (λ (s : SizeSeat). s.seat.share ≡ share_of new)) (sym split.sizes) (all-mapped (λ (s : SizeSeat). s.seat.share ≡ share_of p) (λ (s : SizeSeat). s.seat.share ≡ share_of new) given_size p.sizes (λ s e. sym share) a.size_shares);
          home = fresh-homes m.locks new.locks split.locks;
        };
      }

-- each element of two lists of the same length, put together
all-paired : {A B : Type 0} (P : A → Type 0) (Q : B → Type 0) (R : A → Type 0) (f : A → B → A) (xs : List A) (ys : List B) → length xs ≡ length ys → ((x : A) (y : B) → P x → Q y → R (f x y)) → All P xs → All Q ys → All R (paired f xs ys)
all-paired P Q R f [] ys same on all other = All-nil R
all-paired P Q R f (x ∷ xs) [] same on all other = absurd (omega (arith, same))
all-paired P Q R f (x ∷ xs) (y ∷ ys) same on all other =
    All-cons R (f x y) (paired f xs ys) (on x y (All-head P x xs all) (All-head Q y ys other)) (all-paired P Q R f xs ys (omega (arith, same)) on (All-tail P x xs all) (All-tail Q y ys other))

first-joined : (ss ts : List (SeatView Entry)) → length ss ≡ length ts → share_in (slice_get (paired joined ss ts) 0) ≡ share_in (slice_get ss 0) + share_in (slice_get ts 0)
first-joined [] [] same = refl
first-joined [] (t ∷ ts) same = absurd (omega (arith, same))
first-joined (s ∷ ss) [] same = absurd (omega (arith, same))
first-joined (s ∷ ss) (t ∷ ts) same = refl

module _ (m : MountView) (p from : PassView) (a : IsAlone m p) (b : IsAlone m from) where
  stripes-long : length p.stripes ≡ length from.stripes
  stripes-long =
      same-length (λ (s : SeatView Entry). s.cell) (λ (c : CellView RangeView). c.cell) p.stripes m.stripes a.of.stripes
      ∙ sym (same-length (λ (s : SeatView Entry). s.cell) (λ (c : CellView RangeView). c.cell) from.stripes m.stripes b.of.stripes)

  sizes-long : length p.sizes ≡ length from.sizes
  sizes-long =
      same-length (λ (s : SizeSeat). s.seat.cell) (λ (c : CellView SizesView). c.cell) p.sizes m.sizes a.of.sizes
      ∙ sym (same-length (λ (s : SizeSeat). s.seat.cell) (λ (c : CellView SizesView). c.cell) from.sizes m.sizes b.of.sizes)

  pub joined-share : share_of (joined_pass p from) ≡ share_of p + share_of from
  joined-share = first-joined p.stripes from.stripes stripes-long

  pub joined-alone : IsPassOf m (joined_pass p from) → IsAlone m (joined_pass p from)
  joined-alone of =
      let n = share_of (joined_pass p from) in
      let sum : (k l : ℕ) → k ≡ share_of p → l ≡ share_of from → k + l ≡ n = λ k l one two. (λ i. one i + two i) ∙ sym joined-share in
      record {
        geometry = a.geometry;
        exists = a.exists;
        cached = a.cached;
        of = of;
        shares = all-paired (λ (s : SeatView Entry). s.share ≡ share_of p) (λ (s : SeatView Entry). s.share ≡ share_of from) (λ (s : SeatView Entry). s.share ≡ n) joined p.stripes from.stripes stripes-long (λ s t one two. sum s.share t.share one two) a.shares b.shares;
        size_shares = all-paired (λ (s : SizeSeat). s.seat.share ≡ share_of p) (λ (s : SizeSeat). s.seat.share ≡ share_of from) (λ (s : SizeSeat). s.seat.share ≡ n) joined_size p.sizes from.sizes sizes-long (λ s t one two. sum s.seat.share t.seat.share one two) a.size_shares b.size_shares;
        home = a.home;
      }

-- what a split leaves, and what it gives, where there is memory
module _ {E : Type 0} (m : MountView) (p q : PassView) (a : IsAlone m p) (more : 2 ^ 32 < share_of p) where
  pub split-alone : (out : Result PassView E) → IsPassOf m q → IfOk out (λ made. SplitOff m p q made) → OnErr out (q ≡ p) → IsAlone m q
  split-alone (Ok made) of split same = subst (IsAlone m) (sym split.left) (kept-alone m p a more (subst (IsPassOf m) split.left of))
  split-alone (Err e) of split same = subst (IsAlone m) (sym same) a

  pub split-share : (out : Result PassView E) → IfOk out (λ made. SplitOff m p q made) → OnOk out (share_of q + 2 ^ 32 ≡ share_of p)
  split-share (Ok made) split = ap (λ x. share_of x + 2 ^ 32) split.left ∙ kept-share m p a more
  split-share (Err e) split = tt

  pub split-given : (out : Result PassView E) → IfOk out (λ made. SplitOff m p q made) → IfOk out (λ made. IsPassOf m made) → IfOk out (λ made. IsSplitOff m made)
  split-given (Ok made) split of = given-alone m p a more q made of split
  split-given (Err e) split of = tt
