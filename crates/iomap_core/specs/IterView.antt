-- What contracts see of a range that is gone over mapping by mapping.
use Rattle.std.specs.Prelude.{ℕ, ◌+◌, ◌-◌, ◌<◌, ◌≤◌, ◌^◌, Option, Some, None}
use Rattle.iob_base.specs.declared.stamp.FileId.{FileId}
use Rattle.iomap_core.specs.declared.mapping.Iomap.{Iomap}

-- the file, the place reached, how many bytes of the range are left, the mapping that is not finished, and how many bytes were done since the last begin
pub record IterView : Type 0 where
  pub file : FileId
  pub pos : ℕ
  pub left : ℕ
  pub done : ℕ
  pub unfinished : Option Iomap

abbrev pub whole_range : FileId → ℕ → ℕ → IterView
whole_range file pos length = record { file = file; pos = pos; left = length; done = 0; unfinished = None }

-- how many bytes of the unfinished mapping lie from the place reached on
abbrev pub rest_in : Option Iomap → ℕ → ℕ
rest_in None pos = 0
rest_in (Some m) pos = (m.offset + m.length) - pos

abbrev pub rest_of : IterView → ℕ
rest_of it = rest_in it.unfinished it.pos

-- a mapping was begun
abbrev pub began : IterView → Iomap → IterView
began it m = record it { done = 0; unfinished = Some m }

-- so many bytes more were done
abbrev pub advanced : IterView → ℕ → IterView
advanced it n = record it { pos = it.pos + n; left = it.left - n; done = it.done + n }

-- the mapping is finished
abbrev pub finished : IterView → IterView
finished it = record it { unfinished = None }

-- what was done in the unfinished mapping lies in it, before the place reached
abbrev pub IsIn : Option Iomap → ℕ → ℕ → Type 0
IsIn None pos done = Unit {0}
IsIn (Some m) pos done = (m.offset + done ≤ pos) × (pos ≤ m.offset + m.length)

-- The place reached and what is left are numbers of 64 bits, and so is what was done
pub record IsPlaced (pos left done : ℕ) (unfinished : Option Iomap) : Type 0 where
  pub range : pos + left < 2 ^ 64
  pub counted : done ≤ pos
  pub within : IsIn unfinished pos done
