use Rattle.std.specs.Prelude.{ℕ, Bool, true, false, not, ◌&&◌, ◌||◌, ◌==◌, nat_le, nat_lt, ◌+◌, ◌*◌, List, [], ◌∷◌, ◌++◌, Option, Some, None, length, codes, is_some, unwrap_or, position, slice_set, if◌then◌else◌}
use Rattle.std.specs.Str.{bytes_eq}
use Rattle.iob_base.specs.Geometry.{is_block_size, is_folio_blocks, is_grain}
use Rattle.iob_base.specs.Layout.{Layout, layout, layout_with_grain}
use Rattle.iob_base.specs.declared.stamp.Mode.{Mode}
use Rattle.iob_base.specs.declared.stamp.Mode.TheVariants.{Cached, Dax}
use Rattle.io_model.specs.declared.file.Extent.{Extent}
use Rattle.io_model.specs.declared.file.FileSpec.{FileSpec}
use Rattle.io_model.specs.declared.file.Kind.{Kind}
use Rattle.io_model.specs.declared.file.Kind.TheVariants.{Unwritten, Mapped}
use Rattle.io_script.specs.Causes.{first_of}
use Rattle.io_script.specs.GrammarNumbers.{number_in, is_number, value_of, is_name, fill_in, is_segment, segment_length, segment_bytes}
use Rattle.io_script.specs.GrammarWords.{Word, Fields, is_empty}
use Rattle.io_script.specs.Marks.{some_from}
use Rattle.io_script.specs.SoFar.{SoFar, is_device_next, is_folio_next, is_grain_next, may_describe, may_begin, file_at, is_taken, is_placed, is_given}
use Rattle.io_script.specs.declared.read.cause.Cause.{Cause}
use Rattle.io_script.specs.declared.read.cause.Cause.TheVariants.{BadWord, BadOrder, BadCount, BadNumber, BadBytes, BadName, BadBlock, Overlap, BadMode, TooMuch}
use Rattle.io_script.specs.declared.read.kinds.State.{State}
use Rattle.io_script.specs.declared.read.kinds.State.TheVariants.{Written, Fresh}
use Rattle.io_script.specs.declared.read.stage.Stage.TheVariants.{Folio, Grain, Files, Calls}

abbrev pub has_words : ℕ → Fields → Bool
has_words n w = w.count == n

-- the place of a file in the order of the file lines
abbrev pub place_of : Word → List Word → Option ℕ
place_of name names = position (λ n. bytes_eq n name) names

-- dev <block size> <blocks> <fill>
abbrev pub device_cause : SoFar → Fields → Option Cause
device_cause s w = first_of (
    (not (is_device_next s.stage), BadOrder)
    ∷ (not (has_words 4 w), BadCount)
    ∷ (not (is_block_size (value_of w.second) && is_some (number_in 1 65536 w.third)), BadNumber)
    ∷ (not (is_some (fill_in w.fourth)), BadBytes)
    ∷ (nat_lt 16777216 (value_of w.second * value_of w.third), TooMuch)
    ∷ [])

abbrev pub with_one_device : SoFar → Layout → ℕ → ℕ → SoFar
with_one_device s sizes blocks fill = record s { stage = Folio; geometry = sizes; device_blocks = blocks; fill = fill }

abbrev pub with_device : SoFar → Fields → SoFar
with_device s w = with_one_device s (layout (value_of w.second) 1) (value_of w.third) (unwrap_or (fill_in w.fourth) 0)

-- folio <blocks>
abbrev pub folio_cause : SoFar → Fields → Option Cause
folio_cause s w = first_of (
    (not (is_folio_next s.stage), BadOrder)
    ∷ (not (has_words 2 w), BadCount)
    ∷ (not (is_folio_blocks (value_of w.second)), BadNumber)
    ∷ [])

abbrev pub with_folio : SoFar → Fields → SoFar
with_folio s w = record s { stage = if s.is_fine then Grain else Files; geometry = layout s.geometry.block_size (value_of w.second) }

-- grain <bytes>
abbrev pub grain_cause : SoFar → Fields → Option Cause
grain_cause s w = first_of (
    (not (is_grain_next s.stage), BadOrder)
    ∷ (not (has_words 2 w), BadCount)
    ∷ (not (is_grain s.geometry.block_size (value_of w.second)), BadNumber)
    ∷ [])

abbrev pub with_grain : SoFar → Fields → SoFar
with_grain s w = record s { stage = Files; geometry = layout_with_grain s.geometry.block_size s.geometry.folio_blocks (value_of w.second) }

-- the word of a mode, and the mode that it says
abbrev pub mode_of : Word → Option Mode
mode_of word = if bytes_eq word (codes "cached") then Some Cached else (if bytes_eq word (codes "dax") then Some Dax else None)

-- a word that is there is none of those that may stand in its place
abbrev pub is_wrong : {A : Type 0} → (Word → Option A) → Word → Bool
is_wrong reading word = not (is_empty word) && not (is_some (reading word))

-- file <name> cached <blocks>, or with dax
abbrev pub file_cause : SoFar → Fields → Option Cause
file_cause s w = first_of (
    (is_wrong mode_of w.third, BadWord)
    ∷ (not (may_describe s.stage), BadOrder)
    ∷ (not (has_words 4 w), BadCount)
    ∷ (not (is_some (number_in 1 65536 w.fourth)), BadNumber)
    ∷ (not (is_name w.second) || is_some (place_of w.second s.names), BadName)
    ∷ (nat_le 64 (length s.names) || nat_lt 131072 (s.file_blocks + value_of w.fourth), TooMuch)
    ∷ [])

abbrev pub file_with : Mode → ℕ → FileSpec
file_with mode blocks = record { mode = mode; blocks = blocks; size = None; extents = [] }

abbrev pub with_one_file : SoFar → Word → FileSpec → SoFar
with_one_file s name file = record s {
  names = s.names ++ name ∷ [];
  files = s.files ++ file ∷ [];
  file_blocks = s.file_blocks + file.blocks;
}

abbrev pub with_file : SoFar → Fields → SoFar
with_file s w = with_one_file s w.second (file_with (unwrap_or (mode_of w.third) Cached) (value_of w.fourth))

-- the word of an extent's state, and the kind of its blocks from a device block on
abbrev pub state_of : Word → Option State
state_of word = if bytes_eq word (codes "mapped") then Some Written else (if bytes_eq word (codes "unwritten") then Some Fresh else None)

abbrev pub kind_with : State → ℕ → Kind
kind_with Written dev = Mapped dev
kind_with Fresh dev = Unwritten dev

-- the place of the file that a word names
abbrev pub known_file : List Word → Word → Option ℕ
known_file names name = if is_name name then place_of name names else None

abbrev pub is_no_file : SoFar → Word → Bool
is_no_file s name = not (is_some (known_file s.names name))

abbrev pub file_named : SoFar → Word → ℕ
file_named s name = unwrap_or (known_file s.names name) 0

-- blocks of the file or of the device are those of an earlier extent
abbrev pub overlaps : SoFar → ℕ → ℕ → ℕ → ℕ → Bool
overlaps s i block dev n = some_from (is_placed (file_at s.files i)) block n || some_from (is_taken s.files) dev n

-- ext <name> <block> <dev> <n> mapped, or with unwritten
abbrev pub extent_cause : SoFar → Fields → Option Cause
extent_cause s w = first_of (
    (is_wrong state_of w.sixth, BadWord)
    ∷ (not (may_describe s.stage), BadOrder)
    ∷ (not (has_words 6 w), BadCount)
    ∷ (not (is_number w.third && is_number w.fourth && nat_le 1 (value_of w.fifth)), BadNumber)
    ∷ (is_no_file s w.second, BadName)
    ∷ (
      not (nat_le (value_of w.third + value_of w.fifth) (file_at s.files (file_named s w.second)).blocks
          && nat_le (value_of w.fourth + value_of w.fifth) s.device_blocks),
      BadBlock,
    )
    ∷ (overlaps s (file_named s w.second) (value_of w.third) (value_of w.fourth) (value_of w.fifth), Overlap)
    ∷ [])

abbrev pub extent_with : ℕ → ℕ → Kind → Extent
extent_with block n kind = record { block = block; length = n; kind = kind }

abbrev pub extent_of : Fields → Extent
extent_of w = extent_with (value_of w.third) (value_of w.fifth) (kind_with (unwrap_or (state_of w.sixth) Written) (value_of w.fourth))

abbrev pub with_extent_at : List FileSpec → ℕ → Extent → List FileSpec
with_extent_at files i e = slice_set files i (record (file_at files i) { extents = (file_at files i).extents ++ e ∷ [] })

abbrev pub with_one_extent : SoFar → ℕ → Extent → SoFar
with_one_extent s i e = record s { files = with_extent_at s.files i e }

abbrev pub with_extent : SoFar → Fields → SoFar
with_extent s w = with_one_extent s (file_named s w.second) (extent_of w)

-- the file has a size
abbrev pub has_size : FileSpec → Bool
has_size f = is_some f.size

abbrev pub is_dax : Mode → Bool
is_dax Dax = true
is_dax Cached = false

-- size <name> <bytes>
abbrev pub size_cause : SoFar → Fields → Option Cause
size_cause s w = first_of (
    (not (may_describe s.stage), BadOrder)
    ∷ (not (has_words 3 w), BadCount)
    ∷ (not (is_number w.third), BadNumber)
    ∷ (is_no_file s w.second || has_size (file_at s.files (file_named s w.second)), BadName)
    ∷ (nat_lt ((file_at s.files (file_named s w.second)).blocks * s.geometry.block_size) (value_of w.third), BadBlock)
    ∷ (is_dax (file_at s.files (file_named s w.second)).mode, BadMode)
    ∷ [])

abbrev pub with_size_at : List FileSpec → ℕ → ℕ → List FileSpec
with_size_at files i n = slice_set files i (record (file_at files i) { size = Some n })

abbrev pub with_one_size : SoFar → ℕ → ℕ → SoFar
with_one_size s i n = record s { files = with_size_at s.files i n }

abbrev pub with_size : SoFar → Fields → SoFar
with_size s w = with_one_size s (file_named s w.second) (value_of w.third)

-- data <dev> <segment>
abbrev pub data_cause : SoFar → Fields → Option Cause
data_cause s w = first_of (
    (not (may_describe s.stage), BadOrder)
    ∷ (not (has_words 3 w), BadCount)
    ∷ (not (is_number w.second), BadNumber)
    ∷ (not (is_segment w.third && segment_length w.third == s.geometry.block_size), BadBytes)
    ∷ (nat_le s.device_blocks (value_of w.second), BadBlock)
    ∷ (is_given s.blocks (value_of w.second), Overlap)
    ∷ [])

abbrev pub with_one_block : SoFar → ℕ × List ℕ → SoFar
with_one_block s given = record s { blocks = s.blocks ++ given ∷ [] }

abbrev pub with_data : SoFar → Fields → SoFar
with_data s w = with_one_block s (value_of w.second, segment_bytes w.third)

-- fault <lane> <op>
abbrev pub fault_cause : SoFar → Fields → Option Cause
fault_cause s w = first_of (
    (not (may_describe s.stage), BadOrder)
    ∷ (not (has_words 3 w), BadCount)
    ∷ (not (is_some (number_in 0 16 w.second) && is_some (number_in 1 4294967295 w.third)), BadNumber)
    ∷ (nat_le 65536 (length s.faults), TooMuch)
    ∷ [])

abbrev pub with_fault : SoFar → Fields → SoFar
with_fault s w = record s { faults = s.faults ++ (value_of w.second, value_of w.third) ∷ [] }

-- phase
abbrev pub phase_cause : SoFar → Fields → Option Cause
phase_cause s w = first_of (
    (not (may_begin s.stage), BadOrder)
    ∷ (not (has_words 1 w), BadCount)
    ∷ (nat_le 1024 s.phases, TooMuch)
    ∷ [])

abbrev pub with_phase : SoFar → SoFar
with_phase s = record s { stage = Calls; phases = s.phases + 1 }
