use Rattle.std.proofs.Common.{◌≡◌, length}
use Rattle.std.specs.List.{list_all}
use Rattle.io_script.specs.GrammarNumbers.{is_number, parts}
use Rattle.io_script.proofs.read.segments.has_numbers_alone.Given as goal

abbrev pub invariant-loop-part : goal.invariant-loop-part
invariant-loop-part l = list_all is_number (parts l.left) ≡ list_all is_number (parts l.word)

abbrev pub decreases-loop-part : goal.decreases-loop-part
decreases-loop-part l = length l.left
