use Rattle.std.specs.Prelude.{◌≡◌, ◌⊎◌, ⊤, ℕ, Bool, true, false, ◌||◌, ◌==◌, IsTrue, List, Option, Result, Ok, Err}
use Rattle.iob_base.specs.Counts.{Rose}
use Rattle.iob_base.specs.Outside.{KeepsTold}
use Rattle.iomap_replay.specs.Statuses.{WroteWhole, WrotePart}
use Rattle.iomap_replay.specs.Streams.{TookWhole, TookPrefix}
use Rattle.iomap_replay.specs.declared.ending.Ending.{Ending}
use Rattle.iomap_replay.specs.declared.ending.Ending.TheVariants.{Whole, Errors, Refused, SourceFailed, SinkFailed, NoMemory, BadWords}
use Rattle.iomap_replay.specs.declared.ending.Output.{Output}

-- the exit status of an ending
abbrev pub number_of : Ending → ℕ
number_of Whole = 0
number_of Errors = 1
number_of Refused = 2
number_of SourceFailed = 3
number_of SinkFailed = 4
number_of NoMemory = 5
number_of BadWords = 64

-- what there was to tell was written whole
abbrev pub is_told : Ending → Bool
is_told Whole = true
is_told Errors = true
is_told Refused = true
is_told SourceFailed = false
is_told SinkFailed = false
is_told NoMemory = false
is_told BadWords = false

-- the same of an exit status
abbrev pub is_told_by : ℕ → Bool
is_told_by status = status == 0 || status == 1 || status == 2

-- how a call ends whose text was written whole
abbrev pub IsTold : Ending → Type 0
IsTold Whole = ⊤
IsTold Errors = ⊤
IsTold Refused = ⊤
IsTold _ = ⊥

-- a sink took the whole output, or it failed: its count rose, and it has the beginning
abbrev pub IsWritten : Output → Ending → ℕ → ℕ → Option (List ℕ) → Option (List ℕ) → Type 0
IsWritten output ending before now taken after =
    ((ending ≡ output.ending) × TookWhole taken output.written.items after)
    ⊎ ((ending ≡ SinkFailed) × Rose before now × TookPrefix taken output.written.items after)

-- what became of an output, or of the want of memory for one
abbrev pub IsAnswer : {E : Type 0} → Result Output E → Ending → ℕ → ℕ → Option (List ℕ) → Option (List ℕ) → Type 0
IsAnswer (Ok output) ending before now taken after = IsWritten output ending before now taken after
IsAnswer (Err _) ending before now taken after = (ending ≡ NoMemory) × KeepsTold taken after

-- how a call ends: by its ending, what the source's and the sink's counts did, and what the sink took
abbrev pub Ends : (List ℕ → Ending → List ℕ → Type 0) → Ending → ℕ → ℕ → ℕ → ℕ → Option (List ℕ) → Option (List ℕ) → Option (List ℕ) → Option (List ℕ) → Type 0
Ends Says Whole s s' k k' left left' taken taken' = WroteWhole Says Whole left left' taken taken'
Ends Says Errors s s' k k' left left' taken taken' = WroteWhole Says Errors left left' taken taken'
Ends Says Refused s s' k k' left left' taken taken' = WroteWhole Says Refused left left' taken taken'
Ends Says SourceFailed s s' k k' left left' taken taken' = Rose s s' × KeepsTold taken taken'
Ends Says SinkFailed s s' k k' left left' taken taken' = Rose k k' × WrotePart Says left taken taken'
Ends Says NoMemory s s' k k' left left' taken taken' = KeepsTold taken taken'
Ends Says BadWords s s' k k' left left' taken taken' = ⊥

-- How a call of this status has ended: status by status, what was written, and for a failure its cause.
-- `Says` tells what the call writes of a text, by its ending
pub record HasEnded (Says : List ℕ → Ending → List ℕ → Type 0) (status s s' k k' : ℕ) (left left' taken taken' : Option (List ℕ)) : Type 0 where
  -- no other status comes
  pub known : IsTrue (status == 0 || status == 1 || status == 2 || status == 3 || status == 4 || status == 5)
  -- the text was read, and what is said of it was written whole
  pub whole : status ≡ 0 → WroteWhole Says Whole left left' taken taken'
  pub errors : status ≡ 1 → WroteWhole Says Errors left left' taken taken'
  pub refused : status ≡ 2 → WroteWhole Says Refused left left' taken taken'
  -- the source's or the sink's count rose, or there was no memory
  pub source_failed : status ≡ 3 → Rose s s' × KeepsTold taken taken'
  pub sink_failed : status ≡ 4 → Rose k k' × WrotePart Says left taken taken'
  pub no_memory : status ≡ 5 → KeepsTold taken taken'
