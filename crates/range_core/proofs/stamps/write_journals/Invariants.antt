use Rattle.std.proofs.Common.{◌≡◌, take}
use Rattle.range_core.specs.StampRuns.{expanded}
use Rattle.range_core.specs.Stamps.{journaled}
use Rattle.range_core.proofs.stamps.write_journals.Given as goal

abbrev pub invariant-loop-run : goal.invariant-loop-run
invariant-loop-run l = l.ends.items ≡ journaled l.first (expanded (take l.run-index l.runs)) l.initial.ends.items
