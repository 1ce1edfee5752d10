-- A caller's memory.
use Rattle.std.specs.Prelude.{◌≡◌, [], ◌∷◌}
use Rattle.iov_iter.specs.Home.{AreHome}
use Rattle.iov_iter.specs.IovView.{IovView}

-- an iov of one segment of 64 bytes, all of whose pages are at home
pub record IsBuffer (v : IovView) : Type 0 where
  pub one : v.lengths ≡ 64 ∷ []
  pub home : AreHome v.pages 0 64
