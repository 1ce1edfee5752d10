-- Two passes are joined.
use Rattle.std.specs.Prelude.{◌≡◌, ℕ, ◌+◌, ◌⊎◌, max, Some, List, [], ◌∷◌, All, slice_get}
use Rattle.turn_cell.specs.Stakes.{Begins}
use Rattle.turn_cell.specs.Views.{SeatView, joined, longer}
use Rattle.range_core.specs.ClaimsView.{MayMerge, merged_claims}
use Rattle.range_core.specs.declared.entry.Entry.{Entry}
use Rattle.size_core.specs.ClaimsView as size
use Rattle.mini_fs.specs.BioSeats.{joined_bios}
use Rattle.mini_fs.specs.PassView.{PassView, SizeSeat}
use Rattle.mini_fs.specs.Places.{SizePlace, StripePlace}
use Rattle.mini_fs.specs.Splits.{HoldsNothing}

-- both lists as one, place by place
abbrev pub paired : {A B : Type 0} → (A → B → A) → List A → List B → List A
paired f [] ys = []
paired f (x ∷ xs) [] = x ∷ xs
paired f (x ∷ xs) (y ∷ ys) = f x y ∷ paired f xs ys

-- both seats with their claims as one
abbrev pub joined_stripe_place : StripePlace → StripePlace → StripePlace
joined_stripe_place p q = record { seat = joined p.seat q.seat; claims = merged_claims p.claims q.claims }

abbrev pub joined_size_place : SizePlace → SizePlace → SizePlace
joined_size_place p q = record { seat = joined p.seat q.seat; claims = size.merged_claims p.claims q.claims }

-- both seats at a size as one
abbrev pub joined_size : SizeSeat → SizeSeat → SizeSeat
joined_size s t = record { seat = joined s.seat t.seat; rooms = s.rooms + t.rooms }

-- what each of two seats has seen begins the longer of the two lists
abbrev pub BothBegin : {E : Type 0} → SeatView E → SeatView E → Type 0
BothBegin s t = Begins s.seen (longer s.seen t.seen) × Begins t.seen (longer s.seen t.seen)

-- so it is at each stripe, and at each size
abbrev pub AreOneHistory : List StripePlace → List StripePlace → Type 0
AreOneHistory xs ys = (k : ℕ) (x y : StripePlace) → slice_get xs k ≡ Some x → slice_get ys k ≡ Some y → BothBegin x.seat y.seat

abbrev pub AreOneSizeHistory : List SizePlace → List SizePlace → Type 0
AreOneSizeHistory xs ys = (k : ℕ) (x y : SizePlace) → slice_get xs k ≡ Some x → slice_get ys k ≡ Some y → BothBegin x.seat y.seat

-- the claims of the seats may be merged, at each stripe and at each size
abbrev pub MergeStripes : List StripePlace → List StripePlace → Type 0
MergeStripes xs ys = (k : ℕ) (x y : StripePlace) → slice_get xs k ≡ Some x → slice_get ys k ≡ Some y → MayMerge x.claims y.claims

abbrev pub MergeSizes : List SizePlace → List SizePlace → Type 0
MergeSizes xs ys = (k : ℕ) (x y : SizePlace) → slice_get xs k ≡ Some x → slice_get ys k ≡ Some y → size.MayMerge x.claims y.claims

-- Two passes may be joined: neither holds a class, at most one has spare numbers, and the second has no room at a size, as is so between two calls
pub record CanJoin (into from : PassView) : Type 0 where
  pub mine : HoldsNothing into
  pub theirs : HoldsNothing from
  pub spare : (into.spare ≡ 0) ⊎ (from.spare ≡ 0)
  pub rooms : All (λ s. s.rooms ≡ 0) from.sizes

-- Both passes as one, which keeps the first one's caller number, lock seats and pass at the queue
abbrev pub joined_pass : PassView → PassView → PassView
joined_pass into from = record into { stripes = paired joined into.stripes from.stripes; sizes = paired joined_size into.sizes from.sizes; spare = into.spare + from.spare; last = max into.last from.last; bios = joined_bios into.bios from.bios }

-- What each of two passes has seen begins what both have seen together, at each stripe and at each size
pub record JoinedHistories (into from : PassView) : Type 0 where
  pub stripes : (k : ℕ) (s t : SeatView Entry) → slice_get into.stripes k ≡ Some s → slice_get from.stripes k ≡ Some t → BothBegin s t
  pub sizes : (k : ℕ) (s t : SizeSeat) → slice_get into.sizes k ≡ Some s → slice_get from.sizes k ≡ Some t → BothBegin s.seat t.seat
