use Rattle.std.specs.Prelude.{ℕ, ◌+◌, Bool, true, false, ◌==◌, List, [], drop}
use Rattle.std.specs.List.{list_any}
use Rattle.iob_base.specs.Counts.{count_after}

-- a source in memory: the bytes left, how many calls it had, which calls fail, and how many failed
pub record SourceView : Type 0 where
  pub left : List ℕ
  pub calls : ℕ
  pub failing : List ℕ
  pub faults : ℕ

-- a sink in memory: the bytes taken, how many calls it had, which calls fail, how many failed, and whether it was finished since the last byte
pub record SinkView : Type 0 where
  pub taken : List ℕ
  pub calls : ℕ
  pub failing : List ℕ
  pub faults : ℕ
  pub finished : Bool

-- a source that had no call yet
abbrev pub source_of : List ℕ → List ℕ → SourceView
source_of bytes failing = record { left = bytes; calls = 0; failing = failing; faults = 0 }

-- a sink that had no call yet
abbrev pub sink_of : List ℕ → SinkView
sink_of failing = record { taken = []; calls = 0; failing = failing; faults = 0; finished = false }

-- the call after so many calls is listed as failing
abbrev pub is_next_listed : List ℕ → ℕ → Bool
is_next_listed failing calls = list_any (λ number. number == calls + 1) failing

-- a source after a call that failed
abbrev pub source_failed : SourceView → SourceView
source_failed s = record s { calls = count_after s.calls; faults = count_after s.faults }

-- a source after a read that moved n bytes
abbrev pub source_read : SourceView → ℕ → SourceView
source_read s n = record s { left = drop n s.left; calls = count_after s.calls }

-- a sink after a call that failed
abbrev pub sink_failed : SinkView → SinkView
sink_failed s = record s { calls = count_after s.calls; faults = count_after s.faults }

-- a sink that holds these bytes after a call that did not fail, and was finished or not
abbrev pub sink_holds : SinkView → List ℕ → Bool → SinkView
sink_holds s bytes finished = record s { taken = bytes; calls = count_after s.calls; finished = finished }
