use Rattle.std.specs.Prelude.{◌≡◌, ℕ, ◌<◌, ◌≤◌, ◌^◌, true, List, [], ◌∷◌, length, sum}
use Rattle.iov_iter.specs.IovView.{IovView, PagePlace, sizes}
use Rattle.iov_iter.specs.Making.{IsPageSize, sizes_of}

-- a page that is out is whole
abbrev pub OutAreWhole : ℕ → List PagePlace → Type 0
OutAreWhole size [] = Unit {0}
OutAreWhole size (p ∷ ps) = (p.out ≡ true → p.size ≡ size) × OutAreWhole size ps

-- what every iov keeps
pub record IsIov (v : IovView) : Type 0 where
  pub page_size : IsPageSize v.page_size
  pub cut : sizes v.pages ≡ sizes_of v.page_size v.lengths
  pub joined : length v.bytes ≡ sum v.lengths
  pub short : sum v.lengths < 2 ^ 64
  pub few : length v.lengths < 2 ^ 32
  pub out : OutAreWhole v.page_size v.pages
  pub within : v.place ≤ length v.bytes
