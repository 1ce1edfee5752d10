-- What contracts see of a size, and what its events make of it.
use Rattle.std.specs.Prelude.{ℕ, ◌+◌, ◌-◌, ◌<◌, ◌≤◌, max, List, [], ◌∷◌, ◌++◌}
use Rattle.iob_base.specs.declared.stamp.Tag.{Tag}
use Rattle.size_core.specs.ClaimsView.{ClaimsView}
use Rattle.io_model.specs.declared.file.SizeMark.{SizeMark}
use Rattle.io_model.specs.declared.file.SizeMark.TheVariants.{See, Grow, Cut}
use Rattle.io_model.specs.declared.file.SizeStamp.{SizeStamp}

-- the size, the declared end, for how many entries seats have room, and the entries made
pub record SizesView : Type 0 where
  pub size : ℕ
  pub end : ℕ
  pub rooms : ℕ
  pub stamps : List SizeStamp

abbrev pub fresh_sizes : ℕ → ℕ → SizesView
fresh_sizes size end = record { size = size; end = end; rooms = 0; stamps = [] }

-- the entry of a call
abbrev pub stamp_by : Tag → SizeMark → SizeStamp
stamp_by by mark = record { caller = by.caller; call = by.call; mark = mark }

-- one entry more
abbrev pub entered : SizeStamp → SizesView → SizesView
entered st s = record s { stamps = s.stamps ++ st ∷ [] }

-- one room more is promised, or one fewer
abbrev pub made_ready : SizesView → SizesView
made_ready s = record s { rooms = s.rooms + 1 }

abbrev pub forgotten : SizesView → SizesView
forgotten s = record s { rooms = s.rooms - 1 }

-- a call saw the size, raised it, or set it
abbrev pub seen_by : Tag → SizesView → SizesView
seen_by by s = entered (stamp_by by (See s.size)) s

abbrev pub grown_by : Tag → ℕ → SizesView → SizesView
grown_by by to s = record s { size = max s.size to; rooms = s.rooms - 1; stamps = s.stamps ++ stamp_by by (Grow to) ∷ [] }

abbrev pub cut_by : Tag → ℕ → SizesView → SizesView
cut_by by to s = record s { size = to; rooms = s.rooms - 1; stamps = s.stamps ++ stamp_by by (Cut to) ∷ [] }

-- these claims have a room at this size
pub record CanUse (s : SizesView) (c : ClaimsView) : Type 0 where
  pub some : 0 < c.rooms
  pub promised : c.rooms ≤ s.rooms
