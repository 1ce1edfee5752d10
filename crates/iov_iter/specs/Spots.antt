use Rattle.std.specs.Prelude.{◌≡◌, ℕ, ◌+◌, ◌<◌, ◌≤◌, List, [], ◌∷◌, length, slice_index}
use Rattle.iov_iter.specs.IovView.{start_in}
use Rattle.iov_iter.specs.declared.spot.Spot.{Spot}

-- no page is without bytes
abbrev pub AreSome : List ℕ → Type 0
AreSome [] = Unit {0}
AreSome (x ∷ xs) = (0 < x) × AreSome xs

-- the byte at which a spot stands, among pages of these sizes
abbrev pub byte_of : List ℕ → Spot → ℕ
byte_of xs s = start_in xs s.page + s.offset

-- a spot stands in a page before its end, or behind the last page
pub record Stands (xs : List ℕ) (s : Spot) : Type 0 where
  pub inside : s.page < length xs → s.offset < slice_index xs s.page
  pub within : s.page ≤ length xs
  pub behind : length xs ≤ s.page → s.offset ≡ 0
