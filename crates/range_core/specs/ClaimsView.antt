use Rattle.std.specs.Prelude.{◌≡◌, ℕ, ◌+◌, ◌-◌, ◌⊎◌, Bool, true, false, Option, Some, None}
use Rattle.range_core.specs.declared.lending.Held.{Held}

-- what a seat claims: its caller number, how many numbers it may hand on, the greatest below 2^32, whether it is a
-- caller's own seat or one of its tickets, and the blocks lent to it
pub record ClaimsView : Type 0 where
  pub caller : ℕ
  pub spare : ℕ
  pub main : Bool
  pub held : Option Held

-- the claims of the first seat
abbrev pub first_claims : ClaimsView
first_claims = record { caller = 0; spare = 4294967295; main = true; held = None }

-- the claims of a new caller, which has the lowest spare number, and what is left
abbrev pub next_claims : ClaimsView → ClaimsView
next_claims c = record { caller = 4294967296 - c.spare; spare = 0; main = true; held = None }

abbrev pub rest_claims : ClaimsView → ClaimsView
rest_claims c = record c { spare = c.spare - 1 }

-- the claims of a ticket of the same caller
abbrev pub ticket_claims : ClaimsView → ClaimsView
ticket_claims c = record { caller = c.caller; spare = 0; main = false; held = None }

-- the claims of a seat that is split off together with a loan: the same caller, no spare number, and the blocks lent
abbrev pub loan_claims : ClaimsView → ClaimsView
loan_claims c = record { caller = c.caller; spare = 0; main = false; held = c.held }

-- of two claims on lent blocks, the one that there is
abbrev pub either_held : Option Held → Option Held → Option Held
either_held None other = other
either_held (Some held) other = Some held

-- the claims of two seats as one: the first one's caller number, the spare numbers and the claim of both
abbrev pub merged_claims : ClaimsView → ClaimsView → ClaimsView
merged_claims into from = record into { spare = into.spare + from.spare; held = either_held into.held from.held }

-- these claims with a claim on lent blocks, and without one
abbrev pub holding : ClaimsView → Held → ClaimsView
holding c held = record c { held = Some held }

abbrev pub released : ClaimsView → ClaimsView
released c = record c { held = None }

-- at most one of two seats has a claim, at most one has spare numbers, and a seat that is no caller's own joins only one of its own number
pub record MayMerge (into from : ClaimsView) : Type 0 where
  pub one_held : (into.held ≡ None) ⊎ (from.held ≡ None)
  pub one_spare : (into.spare ≡ 0) ⊎ (from.spare ≡ 0)
  pub own : from.main ≡ false → from.caller ≡ into.caller

-- What each turn asks: it is made on a caller's own seat, since one that carries a loan makes none, and its event may be made
pub record MayTurn (claims : ClaimsView) (event : Type 0) : Type 0 where
  pub own : claims.main ≡ true
  pub may : event
