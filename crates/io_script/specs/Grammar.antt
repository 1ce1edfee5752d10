use Rattle.std.specs.Prelude.{◌≡◌, ℕ, Bool, not, ◌&&◌, ◌||◌, nat_lt, ◌+◌, List, [], ◌∷◌, ◌++◌, Option, Some, None, ⊤, length, codes, map, if◌then◌else◌}
use Rattle.std.specs.List.{filter, fold}
use Rattle.std.specs.Str.{bytes_eq}
use Rattle.io_model.specs.declared.script.Script.{Script}
use Rattle.io_script.specs.Causes.{first_of, or_else}
use Rattle.io_script.specs.GrammarCalls.{call_cause, with_call}
use Rattle.io_script.specs.GrammarKinds.{kind_of}
use Rattle.io_script.specs.GrammarLines.{has_words, device_cause, with_device, folio_cause, with_folio, grain_cause, with_grain, size_cause, with_size, file_cause, with_file, extent_cause, with_extent, data_cause, with_data, fault_cause, with_fault, phase_cause, with_phase}
use Rattle.io_script.specs.GrammarWords.{Word, Fields, fields_of, words, pieces, is_empty, is_kept, has_bad_byte}
use Rattle.io_script.specs.SoFar.{SoFar, nothing, script_so_far, is_header_next, may_begin}
use Rattle.io_script.specs.declared.read.cause.Cause.{Cause}
use Rattle.io_script.specs.declared.read.cause.Cause.TheVariants.{NoHeader, BadByte, NoEnd, BadWord, BadOrder, TooMuch}
use Rattle.io_script.specs.declared.read.cause.ScriptFault.{ScriptFault}
use Rattle.io_script.specs.declared.read.cause.ScriptFault.TheVariants.{Refused, NoMemory}
use Rattle.io_script.specs.declared.read.kinds.LineKind.{LineKind}
use Rattle.io_script.specs.declared.read.kinds.LineKind.TheVariants.{Header, Device, Folio, Grain, File, Size, Extent, Data, Fault, Phase, Call, Unknown}
use Rattle.io_script.specs.declared.read.stage.Stage.{Stage}
use Rattle.io_script.specs.declared.read.stage.Stage.TheVariants as stage

-- a script has at most so many bytes
abbrev pub TEXT_LIMIT : ℕ
TEXT_LIMIT = 16777216

-- the second version, which has a grain line
abbrev pub is_second : Word → Bool
is_second word = bytes_eq word (codes "2")

-- iomap 1, or iomap 2
abbrev pub is_header : Fields → Bool
is_header w = has_words 2 w && (bytes_eq w.first (codes "iomap") && (bytes_eq w.second (codes "1") || is_second w.second))

-- the causes that a line has for its kind
abbrev pub cause_by_kind : LineKind → SoFar → Fields → Option Cause
cause_by_kind Header s w = Some BadOrder
cause_by_kind Device s w = device_cause s w
cause_by_kind Folio s w = folio_cause s w
cause_by_kind Grain s w = grain_cause s w
cause_by_kind File s w = file_cause s w
cause_by_kind Size s w = size_cause s w
cause_by_kind Extent s w = extent_cause s w
cause_by_kind Data s w = data_cause s w
cause_by_kind Fault s w = fault_cause s w
cause_by_kind Phase s w = phase_cause s w
cause_by_kind Call s w = call_cause s w
cause_by_kind Unknown s w = Some BadWord

-- the causes that every kept line may have, whatever its kind, and whether it has its end or not
abbrev pub common_cause : Stage → List ℕ → Option Cause
common_cause now line = first_of (
    (is_header_next now && not (is_header (fields_of (words line))), NoHeader)
    ∷ (has_bad_byte line, BadByte)
    ∷ [])

abbrev pub kind_cause : SoFar → Fields → Option Cause
kind_cause s w = if is_header_next s.stage then None else cause_by_kind (kind_of w.first) s w

-- the lowest cause of a line that has its end
abbrev pub line_cause : SoFar → List ℕ → Option Cause
line_cause s line = if is_kept (words line) then or_else (common_cause s.stage line) (kind_cause s (fields_of (words line))) else None

-- the lowest cause of bytes without an end: one of any kept line, or that they have none
abbrev pub unended_cause : SoFar → List ℕ → Option Cause
unended_cause s line = if is_kept (words line) then or_else (common_cause s.stage line) (Some NoEnd) else Some NoEnd

-- the lowest cause of the end of the input
abbrev pub end_cause : SoFar → Option Cause
end_cause s = first_of ((is_header_next s.stage, NoHeader) ∷ (not (may_begin s.stage), BadOrder) ∷ [])

-- the lowest cause of what stands after the last line end
abbrev pub last_cause : SoFar → List ℕ → Option Cause
last_cause s line = if is_empty line then end_cause s else unended_cause s line

-- what the lines say with one more line of a kind
abbrev pub with_kind : LineKind → SoFar → Fields → SoFar
with_kind Header s w = s
with_kind Device s w = with_device s w
with_kind Folio s w = with_folio s w
with_kind Grain s w = with_grain s w
with_kind File s w = with_file s w
with_kind Size s w = with_size s w
with_kind Extent s w = with_extent s w
with_kind Data s w = with_data s w
with_kind Fault s w = with_fault s w
with_kind Phase s w = with_phase s
with_kind Call s w = with_call s w
with_kind Unknown s w = s

abbrev pub with_header : SoFar → Fields → SoFar
with_header s w = record s { stage = stage.Device; is_fine = is_second w.second }

-- what the lines say with one more kept line
abbrev pub with_line : SoFar → Fields → SoFar
with_line s w = if is_header_next s.stage then with_header s w else with_kind (kind_of w.first) s w

-- what the lines say with one more line, which may be kept or not
abbrev pub next_said : SoFar → List ℕ → SoFar
next_said s line = if is_kept (words line) then with_line s (fields_of (words line)) else s

-- the words of the kept lines of a text
abbrev pub kept_lines : List ℕ → List (List Word)
kept_lines text = filter is_kept (map words (pieces 10 text))

-- what these kept lines say
abbrev pub so_far : List (List Word) → SoFar
so_far lines = fold (λ s ws. with_line s (fields_of ws)) nothing lines

-- the kept lines with one more line, which may be kept or not
abbrev pub with_piece : List (List Word) → List ℕ → List (List Word)
with_piece earlier line = earlier ++ filter is_kept (words line ∷ [])

abbrev pub at_line : ℕ → Option Cause → Option (ℕ × Cause) → Option (ℕ × Cause)
at_line n None other = other
at_line n (Some cause) other = Some (n, cause)

-- the refusal of what is left of a text: the kept lines before it, the number of its first line, and its lines. After the last line end there are no bytes, or a line that has none.
abbrev pub refusal_from : List (List Word) → ℕ → List (List ℕ) → Option (ℕ × Cause)
refusal_from earlier n [] = None
refusal_from earlier n (line ∷ []) = at_line n (last_cause (so_far earlier) line) None
refusal_from earlier n (line ∷ more ∷ lines) = at_line n (line_cause (so_far earlier) line) (refusal_from (with_piece earlier line) (n + 1) (more ∷ lines))

-- the one refusal of a text that is no script: the first line that has a cause, and the lowest cause there. Too long a text has line 0.
abbrev pub refusal_of : List ℕ → Option (ℕ × Cause)
refusal_of text = if nat_lt TEXT_LIMIT (length text) then Some (0, TooMuch) else refusal_from [] 1 (pieces 10 text)

-- a text in the grammar, and the script that it is
pub record IsScript (text : List ℕ) (script : Script) : Type 0 where
  pub not_refused : refusal_of text ≡ None
  pub said : script ≡ script_so_far (so_far (kept_lines text))

-- a fault tells this line and this cause
abbrev pub IsRefusal : ℕ → Option Cause → ScriptFault → Type 0
IsRefusal n cause (Refused line why) = (line ≡ n) × (cause ≡ Some why)
IsRefusal n cause NoMemory = ⊥

-- why a text could not be read: it has this refusal, or there was no memory
abbrev pub IsFaultOf : List ℕ → ScriptFault → Type 0
IsFaultOf text (Refused line cause) = refusal_of text ≡ Some (line, cause)
IsFaultOf text NoMemory = ⊤
