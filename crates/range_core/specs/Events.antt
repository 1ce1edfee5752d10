-- What events leave beside the blocks.
use Rattle.std.specs.Prelude.{ℕ, ◌+◌, ◌++◌, List, length}
use Rattle.iob_base.specs.declared.sector.Page.{Page}
use Rattle.iob_base.specs.declared.stamp.Stamp.{Stamp}
use Rattle.range_core.specs.RangeView.{RangeView}

-- the number and the length of a page
abbrev pub page_shape : Page → ℕ × ℕ
page_shape p = (p.number, length p.bytes)

-- a range with more stamps
abbrev pub with_stamps : RangeView → List (ℕ × Stamp) → RangeView
with_stamps r stamps = record r { log = r.log ++ stamps }

-- a range whose cookie rose by one
abbrev pub with_next_cookie : RangeView → RangeView
with_next_cookie r = record r { cookie = r.cookie + 1 }
