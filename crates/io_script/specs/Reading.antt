use Rattle.std.specs.Prelude.{◌≡◌, ℕ, Bool, true, false, ◌≤◌, ◌*◌, ◌/◌, ◌%◌, List, [], Option, Some, None, Result, Ok, Err, ⊤, length}
use Rattle.io_model.specs.declared.file.FileSpec.{FileSpec}
use Rattle.io_script.specs.Marks.{AreMarks}
use Rattle.io_script.specs.SoFar.{SoFar, is_taken, is_given, is_placed, file_at}
use Rattle.io_script.specs.declared.read.cause.Cause.{Cause}
use Rattle.io_script.specs.declared.read.cause.ScriptFault.{ScriptFault}
use Rattle.io_script.specs.declared.read.cause.ScriptFault.TheVariants as script_fault
use Rattle.io_script.specs.declared.read.cause.ScriptFault.TheVariants.{Refused}
use Rattle.io_script.specs.declared.read.reader.LineFault.{LineFault}
use Rattle.io_script.specs.declared.read.reader.LineFault.TheVariants.{Because, NoMemory}
use Rattle.io_script.specs.declared.read.reader.Reader.{Reader}
use Rattle.io_script.specs.declared.read.stage.Stage.{Stage}
use Rattle.io_script.specs.declared.read.stage.Stage.TheVariants.{Header, Device, Folio, Grain, Files, Calls}

-- what a reader has read
abbrev pub said : Reader → SoFar
said r = record {
  stage = r.stage;
  is_fine = r.is_fine;
  geometry = r.geometry;
  device_blocks = r.device_blocks;
  fill = r.fill;
  blocks = r.blocks.items;
  names = r.names.items;
  files = r.files.items;
  file_blocks = r.file_blocks;
  faults = r.faults.items;
  phases = r.phases;
  calls = r.calls.items;
  read = r.read;
  written = r.written;
  met = r.met;
  pages = r.pages;
}

-- how many places the marks have for each file
abbrev pub PLACES : ℕ
PLACES = 65536

-- an extent of the file of a place has its block
abbrev pub is_place_taken : List FileSpec → ℕ → Bool
is_place_taken files at = is_placed (file_at files (at / PLACES)) (at % PLACES)

-- no line of a file or of data was read yet
abbrev pub is_early : Stage → Bool
is_early Header = true
is_early Device = true
is_early Folio = true
is_early Grain = true
is_early Files = false
is_early Calls = false

-- how many names and calls there are and what the sums are keeps within the limits
pub record IsWithin (names calls blocks read written met pages : ℕ) : Type 0 where
  pub few_names : names ≤ 64
  pub few_calls : calls ≤ 65536
  pub few_blocks : blocks ≤ 131072
  pub read_within : read ≤ 67108864
  pub written_within : written ≤ 67108864
  pub met_within : met ≤ 4194304
  pub pages_within : pages ≤ calls * 33554432

-- a reader whose marks are those of what it has read, and whose sums are small
pub record IsReader (r : Reader) : Type 0 where
  pub same : length r.files.items ≡ length r.names.items
  pub early : is_early r.stage ≡ true → (r.files.items ≡ []) × (r.blocks.items ≡ [])
  pub small : (i : ℕ) → (file_at r.files.items i).blocks ≤ PLACES
  pub within : IsWithin (length r.names.items) (length r.calls.items) r.file_blocks r.read r.written r.met r.pages
  pub taken : AreMarks r.taken.items r.device_blocks (is_taken r.files.items)
  pub given : AreMarks r.given.items r.device_blocks (is_given r.blocks.items)
  pub placed : AreMarks r.placed.items (length r.files.items * PLACES) (is_place_taken r.files.items)

-- how a line was taken: it has no cause and the reader has read it too, or it has this cause
abbrev pub Takes : Option Cause → SoFar → Result (Unit {0}) LineFault → Reader → Type 0
Takes cause after (Ok _) now = (cause ≡ None) × (said now ≡ after) × IsReader now
Takes cause after (Err (Because why)) now = cause ≡ Some why
Takes cause after (Err NoMemory) now = ⊤

-- the fault of a script whose line of this number was not taken
abbrev pub IsFaultAt : ℕ → LineFault → ScriptFault → Type 0
IsFaultAt n (Because cause) out = out ≡ Refused n cause
IsFaultAt n NoMemory out = out ≡ script_fault.NoMemory
