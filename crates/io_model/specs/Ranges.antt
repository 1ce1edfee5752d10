use Rattle.std.specs.Prelude.{ℕ, zero, suc, ◌==◌, ◌+◌, ◌-◌, ◌*◌, ◌/◌, min, List, [], ◌∷◌, Option, Some, None, slice_get, if◌then◌else◌}
use Rattle.io_model.specs.Calls.{offset_of, asked_of}
use Rattle.io_model.specs.Contents.{file_blocks}
use Rattle.io_model.specs.Parts.{Span, span, range_in}
use Rattle.io_model.specs.declared.file.FileEnd.{FileEnd}
use Rattle.io_model.specs.declared.file.FileSpec.{FileSpec}
use Rattle.io_model.specs.declared.file.SizeMark.{SizeMark}
use Rattle.io_model.specs.declared.file.SizeMark.TheVariants.{See, Grow, Cut}
use Rattle.io_model.specs.declared.file.SizeStamp.{SizeStamp}
use Rattle.io_model.specs.declared.run.Run.{Run}
use Rattle.io_model.specs.declared.script.Call.{Call}
use Rattle.io_model.specs.declared.script.Script.{Script}
use Rattle.io_model.specs.declared.script.Verb.{Verb}
use Rattle.io_model.specs.declared.script.Verb.TheVariants.{Pread, Trunc}

-- a call of a script with the bytes of its file that it acts on
pub record Ranged : Type 0 where
  pub call : Call
  pub range : Span

abbrev pub ranged : Call → Span → Ranged
ranged call range = record { call = call; range = range }

-- where the blocks of a file end, in bytes
abbrev pub declared_end : Script → ℕ → ℕ
declared_end script f = file_blocks script f * script.geometry.block_size

abbrev pub seen_or : SizeMark → Option ℕ → Option ℕ
seen_or (See found) later = Some found
seen_or (Grow _) later = later
seen_or (Cut _) later = later

-- the size that a call saw first
abbrev pub first_seen : ℕ → List SizeStamp → Option ℕ
first_seen n [] = None
first_seen n (st ∷ sts) = if st.call == n then seen_or st.mark (first_seen n sts) else first_seen n sts

-- the stamps at the size of a file
abbrev pub sizes_at : List FileEnd → ℕ → List SizeStamp
sizes_at [] f = []
sizes_at (file ∷ files) zero = file.sizes
sizes_at (file ∷ files) (suc f) = sizes_at files f

abbrev pub seen_where_sized : Option ℕ → ℕ → List SizeStamp → Option ℕ
seen_where_sized None n sts = None
seen_where_sized (Some size) n sts = first_seen n sts

-- the size that a call saw, on a file that has one
abbrev pub seen_by : Option FileSpec → ℕ → List SizeStamp → Option ℕ
seen_by None n sts = None
seen_by (Some file) n sts = seen_where_sized file.size n sts

-- where a read ends: at the size that it saw, and never past the file's blocks
abbrev pub read_end : ℕ → Option ℕ → ℕ
read_end end None = end
read_end end (Some found) = min found end

-- what a cut to a size takes: up to the size that it saw, in whole blocks
abbrev pub cut_range : ℕ → ℕ → ℕ → Option ℕ → Span
cut_range size end to None = span to to
cut_range size end to (Some found) = span to (((min found end + (size - 1)) / size) * size)

-- the range of a call: its bytes from its offset on, cut at its end
abbrev pub range_with : ℕ → ℕ → Option ℕ → Verb → Span
range_with size end seen (Pread off lengths) = range_in (read_end end seen) off (asked_of (Pread off lengths))
range_with size end seen (Trunc to) = cut_range size end to seen
range_with size end seen verb = range_in end (offset_of verb) (asked_of verb)

-- the same from a script and the ends of its files
abbrev pub range_of : Script → List FileEnd → ℕ → Call → Span
range_of script files n call =
    range_with script.geometry.block_size (declared_end script call.file.0) (seen_by (slice_get script.files call.file.0) n (sizes_at files call.file.0)) call.verb

abbrev pub ranged_from : Script → List FileEnd → ℕ → List Call → List Ranged
ranged_from script files n [] = []
ranged_from script files n (call ∷ calls) = ranged call (range_of script files n call) ∷ ranged_from script files (n + 1) calls

-- all calls of a script in order, each with its range in this run
abbrev pub ranged_calls : Script → Run → List Ranged
ranged_calls script run = ranged_from script run.ends.files 1 script.calls
