use Rattle.io_script.specs.GrammarWords.{Fields}
use Rattle.io_script.specs.declared.read.words.Words.{Words}

-- what the words of a line say
abbrev pub seen : Words → Fields
seen w = record { count = w.count; first = w.first.now; second = w.second.now; third = w.third.now; fourth = w.fourth.now; fifth = w.fifth.now; sixth = w.sixth.now }
