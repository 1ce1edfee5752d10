use Rattle.std.specs.Prelude.{◌≡◌, ℕ, ◌+◌, ◌-◌, ◌<◌, ◌≤◌, nat_lt, Bool, true, false, not, List, [], ◌∷◌, length, if◌then◌else◌}
use Rattle.iov_iter.specs.IovView.{IovView, PagePlace}

-- there is a byte of this place, and its page is at home
abbrev pub is_home : List PagePlace → ℕ → Bool
is_home [] b = false
is_home (p ∷ ps) b = if nat_lt b p.size then not p.out else is_home ps (b - p.size)

-- the pages of the n bytes from a place on are at home
abbrev pub AreHome : List PagePlace → ℕ → ℕ → Type 0
AreHome pages at n = (b : ℕ) → at ≤ b → b < at + n → is_home pages b ≡ true

-- all pages are at home
abbrev pub AllHome : IovView → Type 0
AllHome v = AreHome v.pages 0 (length v.bytes)
