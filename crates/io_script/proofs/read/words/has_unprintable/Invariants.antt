use Rattle.std.proofs.Common.{◌≡◌, ◌||◌, drop}
use Rattle.std.specs.List.{list_any}
use Rattle.io_script.specs.GrammarWords.{is_bad_byte}
use Rattle.io_script.proofs.read.words.has_unprintable.Given as goal

abbrev pub invariant-loop-b : goal.invariant-loop-b
invariant-loop-b l = (l.found || list_any is_bad_byte (drop l.b-index l.line)) ≡ list_any is_bad_byte l.line
