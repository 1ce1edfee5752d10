use Rattle.std.specs.Prelude.{ℕ, zero, suc, true, ◌==◌, ◌+◌, List, [], ◌∷◌, ◌++◌, Some, None, codes, map, replicate, ⊤, if◌then◌else◌}
use Rattle.std.specs.Fmt.{digits}
use Rattle.hex.specs.Hex.{encode_with}
use Rattle.iob_base.specs.Layout.{layout}
use Rattle.iob_base.specs.DeviceBlock.{DeviceBlock, device_block}
use Rattle.iob_base.specs.declared.answer.Answer.{Answer}
use Rattle.iob_base.specs.declared.answer.Reply.{Reply}
use Rattle.iob_base.specs.declared.sector.Page.{Page}
use Rattle.iob_base.specs.declared.stamp.Mark.TheVariants.{Done, Landed, Missed}
use Rattle.iob_base.specs.declared.stamp.Mode.TheVariants.{Cached}
use Rattle.iob_base.specs.declared.stamp.Stamp.{Stamp}
use Rattle.io_model.specs.Causes.{LaneStart}
use Rattle.io_model.specs.declared.file.BlockEnd.{BlockEnd}
use Rattle.io_model.specs.declared.file.Extent.{Extent}
use Rattle.io_model.specs.declared.file.FileSpec.{FileSpec}
use Rattle.io_model.specs.declared.file.Kind.{Kind}
use Rattle.io_model.specs.declared.file.SizeMark.{SizeMark}
use Rattle.io_model.specs.declared.file.SizeStamp.{SizeStamp}
use Rattle.io_model.specs.declared.run.CallEnd.{CallEnd}
use Rattle.io_model.specs.declared.run.LaneEnd.{LaneEnd}
use Rattle.io_model.specs.declared.script.Call.{Call}
use Rattle.io_model.specs.declared.script.Script.{Script}
use Rattle.io_model.specs.declared.script.Verb.{Verb}

-- short ways to write the values of a small run

abbrev pub extent : ℕ → ℕ → Kind → Extent
extent block length kind = record { block = block; length = length; kind = kind }

abbrev pub cached : ℕ → List Extent → FileSpec
cached blocks extents = record { mode = Cached; blocks = blocks; size = None; extents = extents }

-- iomap 1, dev 16 8 ee, folio 4: a device of 8 blocks of 16 bytes, each byte ee, and folios of 4 blocks.
-- The one file that a script is to give has the name f.
abbrev pub small : Script
small = record {
  geometry = layout 16 4;
  device_blocks = 8;
  fill = 238;
  blocks = [];
  names = codes "f" ∷ [];
  files = [];
  faults = [];
  calls = [];
}

-- a call of the only file, by a caller in a phase, after direct calls that had so many pages
abbrev pub call_in : ℕ → ℕ → ℕ → Verb → Call
call_in phase caller first_page verb = record { phase = phase; caller = caller; file = record { 0 = 0 }; first_page = first_page; verb = verb }

-- the same by the only caller in the only phase, before any direct call
abbrev pub call : Verb → Call
call verb = call_in 1 0 0 verb

abbrev pub answer : Reply → ℕ → Answer
answer reply bios = record { reply = reply; bios = bios }

-- the end of a call that moved no bytes and no pages to its caller
abbrev pub ended : Reply → ℕ → CallEnd
ended reply bios = record { answer = answer reply bios; got = []; pages = [] }

-- the end of a read that gave bytes
abbrev pub gave : List ℕ → Reply → ℕ → CallEnd
gave got reply bios = record { answer = answer reply bios; got = got; pages = [] }

-- the end of a direct call, with its pages
abbrev pub returned : List ℕ → List ℕ → Reply → ℕ → CallEnd
returned pages got reply bios = record { answer = answer reply bios; got = got; pages = pages }

-- a stamp of the pass of a number
abbrev pub done_by : ℕ → ℕ → Stamp
done_by caller call = record { caller = caller; call = call; mark = Done }

abbrev pub missed_by : ℕ → ℕ → Stamp
missed_by caller call = record { caller = caller; call = call; mark = Missed }

-- stamps of the first pass, whose number is 0
abbrev pub done : ℕ → Stamp
done call = done_by 0 call

abbrev pub landed : ℕ → Stamp
landed call = record { caller = 0; call = call; mark = Landed }

abbrev pub missed : ℕ → Stamp
missed call = missed_by 0 call

-- a turn of the first pass at the size of a file
abbrev pub size_stamp : ℕ → SizeMark → SizeStamp
size_stamp call mark = record { caller = 0; call = call; mark = mark }

abbrev pub block_with : DeviceBlock → List Stamp → BlockEnd
block_with sector journal = record { sector = Some sector; dirty = None; journal = journal }

abbrev pub block_without : List Stamp → BlockEnd
block_without journal = record { sector = None; dirty = None; journal = journal }

-- a device block of 16 bytes that has its fill
abbrev pub filled : ℕ → DeviceBlock
filled n = device_block n (replicate 16 238)

-- a page of the page cache: its number is 2^64 - 1, since no caller gave it
abbrev pub cache_page : List ℕ → Page
cache_page bytes = record { number = 18446744073709551615; bytes = bytes }

-- free blocks, whose bytes no text shows
abbrev pub free_blocks : List ℕ → List DeviceBlock
free_blocks numbers = map filled numbers

abbrev pub lane : ℕ → ℕ → LaneEnd
lane ops faults = record { ops = ops; faults = faults }

-- the lanes where the first caller's and the closing sync's are used at most
abbrev pub outer_lanes : LaneEnd → LaneEnd → List LaneEnd
outer_lanes first closing = first ∷ replicate 15 (lane 0 0) ++ closing ∷ []

-- the numbers that the fault lines arm on a lane
abbrev pub armed_on : ℕ → List (ℕ × ℕ) → List ℕ
armed_on n [] = []
armed_on n (line ∷ lines) = if line.0 == n then line.1 ∷ armed_on n lines else armed_on n lines

abbrev pub starts_from : ℕ → ℕ → List (ℕ × ℕ) → List LaneStart
starts_from zero n lines = []
starts_from (suc more) n lines = record { count = 0; armed = Some (armed_on n lines); fresh = true } ∷ starts_from more (n + 1) lines

-- the seventeen lanes over fates without a past, which tell what the script's fault lines arm
abbrev pub fresh_lanes : Script → List LaneStart
fresh_lanes script = starts_from 17 0 script.faults

-- under a line `unfolding printed` the digits of numbers and bytes compute
unfoldable pub printed : ⊤
unfolding digits encode_with
printed = tt
