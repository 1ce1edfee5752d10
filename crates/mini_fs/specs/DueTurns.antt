-- The looks of a pass for work that is left to a sync.
use Rattle.std.specs.Prelude.{ℕ}
use Rattle.range_core.specs.declared.range.find_due.FindDueRun.{FindDueRun}
use Rattle.range_core.specs.declared.range.survey.SurveyRun.{SurveyRun}

-- the change that looks for the first block, of at most so many, that is dirty or away
abbrev pub due_run : ℕ → ℕ → FindDueRun
due_run b most = record { block = b; most = most }

-- the change that surveys the extent of a block, of at most so many
abbrev pub survey_run : ℕ → ℕ → SurveyRun
survey_run b most = record { block = b; most = most }
