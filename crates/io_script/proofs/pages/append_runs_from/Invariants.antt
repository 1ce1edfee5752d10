use Rattle.std.proofs.Common.{◌≤◌, ◌+◌, drop}
use Rattle.io_model.specs.RunText.{runs_text}
use Rattle.io_script.proofs.Appended.{HasLeft}
use Rattle.io_script.proofs.Runs.{runs_from}
use Rattle.io_script.proofs.pages.append_runs_from.Given as goal

abbrev pub invariant-loop-next : goal.invariant-loop-next
invariant-loop-next l = record {
  short : l.count ≤ l.next-index + 1;
  left : HasLeft (runs_text 0 (runs_from l.page 1 l.more)) (runs_text 0 (runs_from l.first l.count (drop l.next-index l.more))) l.initial.text.items l.text.items;
}
