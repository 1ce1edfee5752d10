-- What comes of an event, by what it answers.
use Rattle.std.specs.Prelude.{Result, Ok, Err}
use Rattle.range_core.specs.declared.entry.Outcome.{Outcome}
use Rattle.range_core.specs.declared.entry.Outcome.TheVariants.{Finished, Refused}
use Rattle.range_core.specs.declared.fault.EventFault.{EventFault}

-- of an event that answers nothing but that it came about
abbrev pub finished : Result (Unit {0}) EventFault → Outcome
finished (Ok done) = Finished
finished (Err fault) = Refused fault
