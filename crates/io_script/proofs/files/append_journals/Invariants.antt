use Rattle.std.proofs.Common.{drop}
use Rattle.io_model.specs.RunText.{journal_lines}
use Rattle.io_script.proofs.Appended.{HasLeft}
use Rattle.io_script.proofs.files.append_journals.Given as goal

abbrev pub invariant-loop-b : goal.invariant-loop-b
invariant-loop-b l = HasLeft (journal_lines l.name 0 l.blocks) (journal_lines l.name l.b (drop l.b l.blocks)) l.initial.text.items l.text.items
