use Rattle.std.proofs.Common.{◌≡◌, drop}
use Rattle.io_script.specs.GrammarNumbers.{number_from}
use Rattle.io_script.proofs.read.numbers.number.Given as goal

abbrev pub invariant-loop-b : goal.invariant-loop-b
invariant-loop-b l = number_from l.value (drop l.b-index l.word) ≡ number_from 0 l.word
