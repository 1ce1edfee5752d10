use Rattle.std.specs.Prelude.{ℕ, Bool, List, [], ◌∷◌, Option, Some, None, if◌then◌else◌}
use Rattle.io_script.specs.declared.read.cause.Cause.{Cause}
use Rattle.io_script.specs.declared.read.cause.Cause.TheVariants.{NoHeader, BadByte, NoEnd, BadWord, BadOrder, BadCount, BadNumber, BadBytes, BadName, BadBlock, Overlap, BadMode, TooMuch}

-- the number of a cause, in the order in which they are tried
abbrev pub number_of_cause : Cause → ℕ
number_of_cause NoHeader = 1
number_of_cause BadByte = 2
number_of_cause NoEnd = 3
number_of_cause BadWord = 4
number_of_cause BadOrder = 5
number_of_cause BadCount = 6
number_of_cause BadNumber = 7
number_of_cause BadBytes = 8
number_of_cause BadName = 9
number_of_cause BadBlock = 10
number_of_cause Overlap = 11
number_of_cause BadMode = 12
number_of_cause TooMuch = 13

-- the first cause of a table whose test holds
abbrev pub first_of : List (Bool × Cause) → Option Cause
first_of [] = None
first_of (entry ∷ more) = if entry.0 then Some entry.1 else first_of more

-- a cause where there is one, and else another
abbrev pub or_else : Option Cause → Option Cause → Option Cause
or_else None other = other
or_else (Some cause) other = Some cause
