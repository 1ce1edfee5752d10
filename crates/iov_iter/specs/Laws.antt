use Rattle.std.specs.Prelude.{◌≡◌, ℕ}
use Rattle.iov_iter.specs.IovView.{IovView, moved_to}
use Rattle.iov_iter.specs.Kept.{IsIov}
use Rattle.iov_iter.specs.Moving.{CanTake, CanPut, next_pages, after_take, after_put, page_of}

-- pages that were taken may be put back where they were
abbrev pub TakenPagesFit : Type 0
TakenPagesFit = (v : IovView) (n : ℕ) → IsIov v → CanTake v n → CanPut (after_take v n) (page_of v.pages v.place) (next_pages v n)

-- and then the iov is as it was
abbrev pub TakenPagesGoBack : Type 0
TakenPagesGoBack =
    (v : IovView) (n : ℕ) → IsIov v → CanTake v n → moved_to v.place (after_put (after_take v n) (page_of v.pages v.place) (next_pages v n)) ≡ v
