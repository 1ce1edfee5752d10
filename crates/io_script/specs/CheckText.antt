use Rattle.std.specs.Prelude.{ℕ, List, codes, decimal}
use Rattle.io_model.specs.Text.{◌⋅◌}
use Rattle.io_script.specs.Causes.{number_of_cause}
use Rattle.io_script.specs.declared.read.cause.Cause.{Cause}
use Rattle.io_script.specs.declared.read.cause.Cause.TheVariants.{NoHeader, BadByte, NoEnd, BadWord, BadOrder, BadCount, BadNumber, BadBytes, BadName, BadBlock, Overlap, BadMode, TooMuch}

-- the name of a cause
abbrev pub name_of_cause : Cause → List ℕ
name_of_cause NoHeader = codes "NoHeader"
name_of_cause BadByte = codes "BadByte"
name_of_cause NoEnd = codes "NoEnd"
name_of_cause BadWord = codes "BadWord"
name_of_cause BadOrder = codes "BadOrder"
name_of_cause BadCount = codes "BadCount"
name_of_cause BadNumber = codes "BadNumber"
name_of_cause BadBytes = codes "BadBytes"
name_of_cause BadName = codes "BadName"
name_of_cause BadBlock = codes "BadBlock"
name_of_cause Overlap = codes "Overlap"
name_of_cause BadMode = codes "BadMode"
name_of_cause TooMuch = codes "TooMuch"

-- the line for a text that is no script
abbrev pub refusal_text : ℕ → Cause → List ℕ
refusal_text line cause =
    codes "refused line " ⋅ decimal line ⋅ codes " cause " ⋅ decimal (number_of_cause cause) ⋅ codes " " ⋅ name_of_cause cause ⋅ codes "\n"

-- the lines for a script: how many files, phases and calls it has
abbrev pub check_text : ℕ → ℕ → ℕ → List ℕ
check_text files phases calls =
    codes "ok files " ⋅ decimal files ⋅ codes " phases " ⋅ decimal phases ⋅ codes " calls " ⋅ decimal calls ⋅ codes "\nend\n"
