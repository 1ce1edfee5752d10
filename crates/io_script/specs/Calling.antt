use Rattle.std.specs.Prelude.{◌≡◌, ℕ, ◌+◌, ◌≤◌, Bool, true, false, ◌||◌, nat_le, nat_lt, ◌<◌, [], ◌∷◌, ◌++◌, length, Option, Some, None}
use Rattle.io_model.specs.declared.script.Call.{Call}
use Rattle.io_script.specs.GrammarCalls.{shape_of, sizes_of, read_by, written_by, asked_in, met_by, pages_of, blocks_named}
use Rattle.io_script.specs.GrammarLines.{is_no_file, file_named, has_size}
use Rattle.io_script.specs.GrammarWords.{Fields}
use Rattle.io_script.specs.SoFar.{SoFar, file_at}
use Rattle.io_script.specs.declared.read.calls.Totals.{Totals}
use Rattle.io_script.specs.declared.read.calls.NamedFile.{NamedFile}
use Rattle.io_script.specs.declared.read.kinds.CallName.{CallName}

-- the blocks that all data calls meet with one more call, of a file of so many blocks
abbrev pub met_with : SoFar → CallName → Fields → ℕ → ℕ
met_with s name w blocks = s.met + met_by name s.geometry.block_size blocks w

-- with one more call of a file of so many blocks a limit is passed
abbrev pub passes : SoFar → CallName → Fields → ℕ → Bool
passes s name w blocks =
    nat_le 65536 (length s.calls)
    || (nat_lt 16777216 (asked_in name w)
    || (nat_lt 67108864 (s.read + read_by (shape_of name) (asked_in name w))
    || (nat_lt 67108864 (s.written + written_by (shape_of name) (asked_in name w))
    || nat_lt 4194304 (met_with s name w blocks))))

-- what the sums become with one more call
pub record AreTotals (s : SoFar) (name : CallName) (w : Fields) (blocks : ℕ) (t : Totals) : Type 0 where
  pub within : passes s name w blocks ≡ false
  pub few : length s.calls + 1 ≤ 65536
  pub read : t.read ≡ s.read + read_by (shape_of name) (asked_in name w)
  pub read_within : t.read ≤ 67108864
  pub written : t.written ≡ s.written + written_by (shape_of name) (asked_in name w)
  pub written_within : t.written ≤ 67108864
  pub met : t.met ≡ met_with s name w blocks
  pub met_within : t.met ≤ 4194304
  pub pages : t.pages ≡ s.pages + pages_of name s.geometry.block_size (sizes_of (shape_of name) w.fifth)
  pub pages_within : t.pages ≤ s.pages + 33554432

-- these are the sums, or a limit is passed
abbrev pub IsTotals : SoFar → CallName → Fields → ℕ → Option Totals → Type 0
IsTotals s name w blocks None = passes s name w blocks ≡ true
IsTotals s name w blocks (Some t) = AreTotals s name w blocks t

abbrev pub with_one_call : SoFar → Call → Totals → SoFar
with_one_call s call t = record s { calls = s.calls ++ call ∷ []; read = t.read; written = t.written; met = t.met; pages = t.pages }

-- a file that a word names: its place, its mode, its blocks and whether it has a size; or the word names none
abbrev pub IsNamed : SoFar → Fields → Option NamedFile → Type 0
IsNamed s w None = is_no_file s w.third ≡ true
IsNamed s w (Some f) = (is_no_file s w.third ≡ false) × (f.place ≡ file_named s w.third) × (f.mode ≡ (file_at s.files (file_named s w.third)).mode) × (f.blocks ≡ blocks_named s w) × (f.sized ≡ has_size (file_at s.files (file_named s w.third))) × (f.place < length s.names)
