-- What a seat at a size claims.
use Rattle.std.specs.Prelude.{◌≡◌, ℕ, ◌+◌, ◌-◌, ◌⊎◌, Bool, true, false}

-- its caller number, how many numbers it may hand on, the greatest below 2^32, whether it is a caller's own seat, and for
-- how many entries it has room
pub record ClaimsView : Type 0 where
  pub caller : ℕ
  pub spare : ℕ
  pub main : Bool
  pub rooms : ℕ

-- the claims of the first seat
abbrev pub first_claims : ClaimsView
first_claims = record { caller = 0; spare = 4294967295; main = true; rooms = 0 }

-- the claims of a new caller, which has the lowest spare number, and what is left
abbrev pub next_claims : ClaimsView → ClaimsView
next_claims c = record { caller = 4294967296 - c.spare; spare = 0; main = true; rooms = 0 }

abbrev pub rest_claims : ClaimsView → ClaimsView
rest_claims c = record c { spare = c.spare - 1 }

-- the claims of another seat of the same caller
abbrev pub same_claims : ClaimsView → ClaimsView
same_claims c = record { caller = c.caller; spare = 0; main = false; rooms = 0 }

-- the claims of two seats as one: the first one's caller number, the spare numbers and the rooms of both
abbrev pub merged_claims : ClaimsView → ClaimsView → ClaimsView
merged_claims into from = record into { spare = into.spare + from.spare; rooms = into.rooms + from.rooms }

-- these claims with one room more, and with one fewer
abbrev pub with_room : ClaimsView → ClaimsView
with_room c = record c { rooms = c.rooms + 1 }

abbrev pub without_room : ClaimsView → ClaimsView
without_room c = record c { rooms = c.rooms - 1 }

-- at most one of two seats has spare numbers, and at most one has a room
pub record MayMerge (into from : ClaimsView) : Type 0 where
  pub one_spare : (into.spare ≡ 0) ⊎ (from.spare ≡ 0)
  pub one_room : (into.rooms ≡ 0) ⊎ (from.rooms ≡ 0)
