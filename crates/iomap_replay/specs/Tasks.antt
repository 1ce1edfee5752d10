use Rattle.std.specs.Prelude.{ℕ, List, [], ◌∷◌, Option, Some, None, codes, if◌then◌else◌}
use Rattle.std.specs.Str.{bytes_eq}
use Rattle.iomap_replay.specs.declared.task.Task.{Task}
use Rattle.iomap_replay.specs.declared.task.Task.TheVariants.{Run, Check}

-- what the words of a command ask for, where they are words that are known
abbrev pub task_of : List (List ℕ) → Option Task
task_of [] = Some Run
task_of (word ∷ []) = if bytes_eq word (codes "--check") then Some Check else None
task_of (word ∷ other ∷ words) = None
