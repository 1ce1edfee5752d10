use Rattle.std.specs.Prelude.{ℕ, Bool, false}

-- a writer as a sink: how many faults it had, and whether it was finished since the last byte
pub record WriterView : Type 0 where
  pub faults : ℕ
  pub finished : Bool

-- a writer that had no call yet
abbrev pub new_writer : WriterView
new_writer = record { faults = 0; finished = false }
