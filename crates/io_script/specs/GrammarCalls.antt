use Rattle.std.specs.Prelude.{ℕ, Bool, true, false, not, ◌&&◌, ◌||◌, nat_le, nat_lt, ◌+◌, ◌-◌, ◌*◌, ◌/◌, min, List, [], ◌∷◌, ◌++◌, Option, Some, None, length, map, is_some, if◌then◌else◌}
use Rattle.std.specs.List.{list_all, sum}
use Rattle.iob_base.specs.declared.stamp.Mode.{Mode}
use Rattle.iob_base.specs.declared.stamp.Mode.TheVariants.{Cached, Dax}
use Rattle.io_model.specs.declared.file.FileSpec.{FileSpec}
use Rattle.io_model.specs.declared.script.Call.{Call}
use Rattle.io_model.specs.declared.script.Verb.{Verb}
use Rattle.io_model.specs.declared.script.Verb.TheVariants as verb
use Rattle.io_script.specs.Causes.{first_of}
use Rattle.io_script.specs.GrammarKinds.{call_name_of}
use Rattle.io_script.specs.GrammarLines.{has_words, is_wrong, is_no_file, file_named, has_size}
use Rattle.io_script.specs.GrammarNumbers.{number_in, is_number, value_of, is_segment, segment_length, segment_bytes, parts}
use Rattle.io_script.specs.GrammarWords.{Word, Fields}
use Rattle.io_script.specs.SoFar.{SoFar, may_call, file_at}
use Rattle.io_script.specs.declared.read.cause.Cause.{Cause}
use Rattle.io_script.specs.declared.read.cause.Cause.TheVariants.{BadWord, BadOrder, BadCount, BadNumber, BadBytes, BadName, BadMode, TooMuch}
use Rattle.io_script.specs.declared.read.kinds.CallName.{CallName}
use Rattle.io_script.specs.declared.read.kinds.Shape.{Shape}
use Rattle.io_script.specs.declared.read.kinds.Shape.TheVariants.{Reading, Writing, Ranging, Sizing, Bare}
use Rattle.io_script.specs.declared.read.kinds.CallName.TheVariants.{Pread, Pwrite, Dread, Dwrite, Xread, Xwrite, Zero, Punch, Alloc, Wb, Sync, Drop, Trunc}

abbrev pub shape_of : CallName → Shape
shape_of Pread = Reading
shape_of Dread = Reading
shape_of Xread = Reading
shape_of Pwrite = Writing
shape_of Dwrite = Writing
shape_of Xwrite = Writing
shape_of Zero = Ranging
shape_of Punch = Ranging
shape_of Alloc = Ranging
shape_of Wb = Ranging
shape_of Sync = Bare
shape_of Drop = Bare
shape_of Trunc = Sizing

abbrev pub words_of_shape : Shape → ℕ
words_of_shape Bare = 3
words_of_shape Sizing = 4
words_of_shape _ = 5

-- the numbers after the name are numbers
abbrev pub has_numbers : Shape → Fields → Bool
has_numbers Reading w = is_number w.fourth && list_all is_number (parts w.fifth)
has_numbers Writing w = is_number w.fourth
has_numbers Ranging w = is_number w.fourth && is_number w.fifth
has_numbers Sizing w = is_number w.fourth
has_numbers Bare w = true

-- the segments are at most 16, and those of bytes are of their form
abbrev pub has_segments : Shape → Fields → Bool
has_segments Reading w = nat_le (length (parts w.fifth)) 16
has_segments Writing w = nat_le (length (parts w.fifth)) 16 && list_all is_segment (parts w.fifth)
has_segments Ranging w = true
has_segments Sizing w = true
has_segments Bare w = true

-- the lengths of the segments; a call without segments has none
abbrev pub sizes_of : Shape → Word → List ℕ
sizes_of Reading word = map value_of (parts word)
sizes_of Writing word = map segment_length (parts word)
sizes_of Ranging word = []
sizes_of Sizing word = []
sizes_of Bare word = []

-- a call with segments is allowed on a file of this mode
abbrev pub is_of_mode : CallName → Mode → Bool
is_of_mode Pread Dax = false
is_of_mode Pwrite Dax = false
is_of_mode Dread Dax = false
is_of_mode Dwrite Dax = false
is_of_mode Xread Cached = false
is_of_mode Xwrite Cached = false
is_of_mode _ _ = true

-- a cut is allowed on a file that has a size, and a direct call on one that has none
abbrev pub is_of_size : CallName → Bool → Bool
is_of_size Trunc sized = sized
is_of_size Dread sized = not sized
is_of_size Dwrite sized = not sized
is_of_size _ sized = true

-- the call is allowed on this file
abbrev pub is_allowed : CallName → FileSpec → Bool
is_allowed name f = is_of_mode name f.mode && is_of_size name (has_size f)

abbrev pub is_direct_name : CallName → Bool
is_direct_name Dread = true
is_direct_name Dwrite = true
is_direct_name _ = false

-- a call that sets bytes to zero
abbrev pub is_zeroing_name : CallName → Bool
is_zeroing_name Zero = true
is_zeroing_name Punch = true
is_zeroing_name _ = false

-- a call that cuts its file
abbrev pub is_cutting_name : CallName → Bool
is_cutting_name Trunc = true
is_cutting_name _ = false

-- of the bytes that the segments of a call ask, those that it reads, and those that it writes
abbrev pub read_by : Shape → ℕ → ℕ
read_by Reading asked = asked
read_by _ asked = 0

abbrev pub written_by : Shape → ℕ → ℕ
written_by Writing asked = asked
written_by _ asked = 0

-- the bytes that the segments of a call ask
abbrev pub asked_in : CallName → Fields → ℕ
asked_in name w = sum (sizes_of (shape_of name) w.fifth)

-- how long the range of a data call is, before it is cut at the file's end
abbrev pub length_in : CallName → Fields → ℕ
length_in name w = if is_zeroing_name name then value_of w.fifth else asked_in name w

-- how many blocks of so many bytes are met from one byte up to another
abbrev pub blocks_between : ℕ → ℕ → ℕ → ℕ
blocks_between size low high = if nat_lt low high then (high - 1) / size - low / size + 1 else 0

-- where the range of a data call ends in a file of so many blocks: a cut goes from its size to the file's end
abbrev pub end_in : CallName → ℕ → ℕ → Fields → ℕ
end_in name size blocks w = if is_cutting_name name then blocks * size else min (value_of w.fourth + length_in name w) (blocks * size)

-- the blocks of a file that a data call meets, cut at the file's end
abbrev pub met_by : CallName → ℕ → ℕ → Fields → ℕ
met_by name size blocks w = blocks_between size (value_of w.fourth) (end_in name size blocks w)

-- the user pages of a direct call: each segment has pages of its own
abbrev pub pages_for : ℕ → List ℕ → ℕ
pages_for size sizes = sum (map (λ n. (n + (size - 1)) / size) sizes)

abbrev pub pages_of : CallName → ℕ → List ℕ → ℕ
pages_of name size sizes = if is_direct_name name then pages_for size sizes else 0

-- the blocks of the file that a call names
abbrev pub blocks_named : SoFar → Fields → ℕ
blocks_named s w = (file_at s.files (file_named s w.third)).blocks

-- a limit on all calls together is passed with this one
abbrev pub is_too_much : SoFar → CallName → Fields → Bool
is_too_much s name w =
    nat_le 65536 (length s.calls)
    || (nat_lt 16777216 (asked_in name w)
    || (nat_lt 67108864 (s.read + read_by (shape_of name) (asked_in name w))
    || (nat_lt 67108864 (s.written + written_by (shape_of name) (asked_in name w))
    || nat_lt 4194304 (s.met + met_by name s.geometry.block_size (blocks_named s w) w))))

-- <caller> <call name> <name> and what follows, of a call of this name
abbrev pub named_cause : SoFar → CallName → Fields → Option Cause
named_cause s name w = first_of (
    (not (may_call s.stage), BadOrder)
    ∷ (not (has_words (words_of_shape (shape_of name)) w), BadCount)
    ∷ (not (is_some (number_in 0 15 w.first) && has_numbers (shape_of name) w), BadNumber)
    ∷ (not (has_segments (shape_of name) w), BadBytes)
    ∷ (is_no_file s w.third, BadName)
    ∷ (not (is_allowed name (file_at s.files (file_named s w.third))), BadMode)
    ∷ (is_too_much s name w, TooMuch)
    ∷ [])

-- a call line whose second word may be missing
abbrev pub unnamed_cause : SoFar → Fields → Option Cause
unnamed_cause s w = first_of (
    (is_wrong call_name_of w.second, BadWord)
    ∷ (not (may_call s.stage), BadOrder)
    ∷ (true, BadCount)
    ∷ [])

abbrev pub cause_by_name : Option CallName → SoFar → Fields → Option Cause
cause_by_name None s w = unnamed_cause s w
cause_by_name (Some name) s w = named_cause s name w

abbrev pub call_cause : SoFar → Fields → Option Cause
call_cause s w = cause_by_name (call_name_of w.second) s w

-- what a call does, from the words for its offset and for what follows
abbrev pub verb_of : CallName → ℕ → Word → Verb
verb_of Pread off word = verb.Pread off (map value_of (parts word))
verb_of Pwrite off word = verb.Pwrite off (map segment_bytes (parts word))
verb_of Dread off word = verb.Dread off (map value_of (parts word))
verb_of Dwrite off word = verb.Dwrite off (map segment_bytes (parts word))
verb_of Xread off word = verb.Xread off (map value_of (parts word))
verb_of Xwrite off word = verb.Xwrite off (map segment_bytes (parts word))
verb_of Zero off word = verb.Zero off (value_of word)
verb_of Punch off word = verb.Punch off (value_of word)
verb_of Alloc off word = verb.Alloc off (value_of word)
verb_of Wb off word = verb.Wb off (value_of word)
verb_of Sync off word = verb.Sync
verb_of Drop off word = verb.Drop
verb_of Trunc off word = verb.Trunc off

abbrev pub call_with : SoFar → CallName → Fields → Call
call_with s name w = record {
  phase = s.phases;
  caller = value_of w.first;
  file = record { 0 = file_named s w.third };
  first_page = s.pages;
  verb = verb_of name (value_of w.fourth) w.fifth;
}

abbrev pub with_named : SoFar → CallName → Fields → SoFar
with_named s name w = record s {
  calls = s.calls ++ call_with s name w ∷ [];
  read = s.read + read_by (shape_of name) (asked_in name w);
  written = s.written + written_by (shape_of name) (asked_in name w);
  met = s.met + met_by name s.geometry.block_size (blocks_named s w) w;
  pages = s.pages + pages_of name s.geometry.block_size (sizes_of (shape_of name) w.fifth);
}

abbrev pub with_name : Option CallName → SoFar → Fields → SoFar
with_name None s w = s
with_name (Some name) s w = with_named s name w

abbrev pub with_call : SoFar → Fields → SoFar
with_call s w = with_name (call_name_of w.second) s w
