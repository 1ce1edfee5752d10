use Rattle.std.specs.Prelude.{◌≡◌, ℕ, ◌≤◌, length}
use Rattle.iov_iter.specs.Home.{AllHome}
use Rattle.iov_iter.specs.IovView.{IovView}

-- an iov at its start, all of whose pages are at home, with so many bytes at least
pub record IsReady (least : ℕ) (v : IovView) : Type 0 where
  pub start : v.place ≡ 0
  pub long : least ≤ length v.bytes
  pub home : AllHome v
