use Rattle.std.specs.Prelude.{ℕ, Bool, true, false, Option, Some, None, List, map, length, Vec}
use Rattle.std.specs.List.{flat_map}
use Rattle.iov_iter.specs.IovView.{IovView, PagePlace, put_at}

-- what a slot holds: the number and the bytes of its page, and whether the page is out
pub record SlotView : Type 0 where
  pub number : ℕ
  pub bytes : List ℕ
  pub out : Bool

-- the bytes of the page, or those that it left with
abbrev pub bytes_of : {A : Type 0} → Option (Vec ℕ A) → List ℕ → List ℕ
bytes_of None left = left
bytes_of (Some v) left = v.items

abbrev pub is_out : {A : Type 0} → Option (Vec ℕ A) → Bool
is_out None = true
is_out (Some v) = false

-- the place that a slot is seen as
abbrev pub place_of : SlotView → PagePlace
place_of s = record { number = s.number; size = length s.bytes; out = s.out }

abbrev pub places : List SlotView → List PagePlace
places slots = map place_of slots

-- the bytes of all slots
abbrev pub joined : List SlotView → List ℕ
joined slots = flat_map (λ s. s.bytes) slots

-- a slot with bytes written into it
abbrev pub slot_written : ℕ → List ℕ → SlotView → SlotView
slot_written at xs s = record s { bytes = put_at at xs s.bytes }

-- an iov over its slots
abbrev pub iov_view : ℕ → List SlotView → List ℕ → ℕ → IovView
iov_view size slots lengths place =
    record { page_size = size; bytes = joined slots; pages = places slots; lengths = lengths; place = place }
