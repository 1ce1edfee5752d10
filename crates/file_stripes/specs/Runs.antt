-- Extents one after another, joined where one could say both.
use Rattle.std.specs.Prelude.{ℕ, ◌+◌, ◌≤◌, List, [], ◌∷◌, IsTrue, if◌then◌else◌}
use Rattle.io_model.specs.Fitting.{could_be_joined, is_merged_from}
use Rattle.io_model.specs.declared.file.Extent.{Extent}
use Rattle.io_model.specs.declared.file.Kind.{Kind}
use Rattle.file_stripes.specs.Kinds.{IsFirstRun, has_space}

-- an extent of one block
abbrev pub one_block : ℕ → Kind → Extent
one_block b kind = record { block = b; length = 1; kind = kind }

-- an extent and so many blocks more
abbrev pub longer : Extent → ℕ → Extent
longer e n = record e { length = e.length + n }

-- the extents with one more at the end: it is one with the last where it goes on with it
abbrev pub with_run : List Extent → Extent → List Extent
with_run [] run = run ∷ []
with_run (e ∷ []) run = if could_be_joined e run then longer e run.length ∷ [] else e ∷ run ∷ []
with_run (e ∷ f ∷ es) run = e ∷ with_run (f ∷ es) run

-- the extents with others at the end, one after another
abbrev pub with_runs : List Extent → List Extent → List Extent
with_runs extents [] = extents
with_runs extents (run ∷ runs) = with_runs (with_run extents run) runs

-- an extent has at most as many blocks as a file may have
abbrev pub IsShort : Extent → Type 0
IsShort e = e.length ≤ 65536

-- an extent is a run of a file before the first call
abbrev pub IsFirstExtent : Extent → Type 0
IsFirstExtent e = IsFirstRun e.kind e.length

-- the extents that have space, in order
abbrev pub placed : List Extent → List Extent
placed [] = []
placed (e ∷ es) = if has_space e.kind then e ∷ placed es else placed es

-- both are merged lists of blocks of a file, and the second begins where the first ends
pub record FollowsOn (extents runs : List Extent) : Type 0 where
  pub from : ℕ
  pub at : ℕ
  pub to : ℕ
  pub before : IsTrue (is_merged_from from at extents)
  pub after : IsTrue (is_merged_from at to runs)
  pub few : to ≤ 65536
