-- What one seat claims of a pool.
use Rattle.std.specs.Prelude.{ℕ, ◌+◌, ◌-◌, ◌≤◌, ◌==◌, if◌then◌else◌, List, [], ◌∷◌, ◌++◌, length, map}
use Rattle.iob_base.specs.DeviceBlock.{DeviceBlock}
use Rattle.turn_cell.specs.Stakes.{total}

-- the numbers of the claimed sectors, how many more sectors are reserved, the cap on both together, and the pool's block size
pub record ClaimsView : Type 0 where
  pub numbers : List ℕ
  pub reserved : ℕ
  pub cap : ℕ
  pub size : ℕ

abbrev pub numbers_of : List DeviceBlock → List ℕ
numbers_of sectors = map (λ s. s.number) sectors

-- how often a number stands in a list
abbrev pub times : ℕ → List ℕ → ℕ
times x numbers = total (λ y. if y == x then 1 else 0) numbers

-- the numbers of the second list, one of each of the first left out
abbrev pub without_one : ℕ → List ℕ → List ℕ
without_one x [] = []
without_one x (y ∷ ys) = if y == x then ys else y ∷ without_one x ys

abbrev pub without : List ℕ → List ℕ → List ℕ
without [] ys = ys
without (x ∷ xs) ys = without xs (without_one x ys)

-- the second list has each number of the first at least as often
abbrev pub AreAmong : List ℕ → List ℕ → Type 0
AreAmong xs ys = (x : ℕ) → times x xs ≤ times x ys

-- there is room under the cap for so many sectors more
abbrev pub Fits : ClaimsView → ℕ → Type 0
Fits c n = length c.numbers + c.reserved + n ≤ c.cap

-- the claims of a seat that holds these sectors, and has reserved none
abbrev pub claims_with : List DeviceBlock → ℕ → ℕ → ClaimsView
claims_with held cap size = record { numbers = numbers_of held; reserved = 0; cap = cap; size = size }

-- after so many more were reserved, or given back
abbrev pub with_more : ClaimsView → ℕ → ClaimsView
with_more c n = record c { reserved = c.reserved + n }

abbrev pub with_fewer : ClaimsView → ℕ → ClaimsView
with_fewer c n = record c { reserved = c.reserved - n }

-- after these sectors were taken out of the reservation, or given back to the pool
abbrev pub with_taken : ClaimsView → List DeviceBlock → ClaimsView
with_taken c taken = record c { numbers = c.numbers ++ numbers_of taken; reserved = c.reserved - length taken }

abbrev pub with_given : ClaimsView → List DeviceBlock → ClaimsView
with_given c given = record c { numbers = without (numbers_of given) c.numbers }

-- what is left where these sectors and this cap go to another seat
abbrev pub with_part_gone : ClaimsView → List DeviceBlock → ℕ → ClaimsView
with_part_gone c held cap = record c { numbers = without (numbers_of held) c.numbers; cap = c.cap - cap }

-- both claims together
abbrev pub joined_claims : ClaimsView → ClaimsView → ClaimsView
joined_claims c d = record c { numbers = c.numbers ++ d.numbers; reserved = c.reserved + d.reserved; cap = c.cap + d.cap }
