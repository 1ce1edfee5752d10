use Rattle.std.specs.Prelude.{ℕ, ◌<◌, ◌^◌, Option, Some, None, length}
use Rattle.std.specs.List.{All}
use Rattle.hex.specs.Hex.{IsBytes}
use Rattle.iob_base.specs.DeviceBlock.{DeviceBlock}
use Rattle.iob_base.specs.declared.answer.Alignment.TheVariants.{Offset, Segment}
use Rattle.iob_base.specs.declared.answer.Answer.{Answer}
use Rattle.iob_base.specs.declared.answer.Fault.{Fault}
use Rattle.iob_base.specs.declared.answer.Fault.TheVariants.{Eio, SyncEio, Again, NoMemory, NotAligned, TooFar, NoSpace, Worn}
use Rattle.iob_base.specs.declared.answer.Reply.{Reply}
use Rattle.iob_base.specs.declared.answer.Reply.TheVariants.{Ok, Err}
use Rattle.iob_base.specs.declared.answer.Stop.{Stop}
use Rattle.iob_base.specs.declared.answer.Stop.TheVariants.{Whole, End, Fault as Short}
use Rattle.iob_base.specs.declared.sector.Page.{Page}
use Rattle.io_model.specs.declared.file.BlockEnd.{BlockEnd}
use Rattle.io_model.specs.declared.file.Extent.{Extent}
use Rattle.io_model.specs.declared.file.FileEnd.{FileEnd}
use Rattle.io_model.specs.declared.file.Kind.{Kind}
use Rattle.io_model.specs.declared.file.Kind.TheVariants.{Hole, Delalloc, Unwritten, Mapped}
use Rattle.io_model.specs.declared.file.SizeMark.{SizeMark}
use Rattle.io_model.specs.declared.file.SizeMark.TheVariants.{See, Grow, Cut}
use Rattle.io_model.specs.declared.file.SizeStamp.{SizeStamp}
use Rattle.io_model.specs.declared.run.CallEnd.{CallEnd}
use Rattle.io_model.specs.declared.run.LaneEnd.{LaneEnd}
use Rattle.io_model.specs.declared.run.Run.{Run}
use Rattle.io_model.specs.declared.script.Script.{Script}

-- a number of 64 bits
abbrev pub IsWord : ℕ → Type 0
IsWord n = n < 2 ^ 64

abbrev pub IsFaultInRange : Fault → Type 0
IsFaultInRange (Eio lane before now) = IsWord lane × IsWord before × IsWord now
IsFaultInRange (SyncEio seen count) = IsWord seen × IsWord count
IsFaultInRange (Again why) = Unit {0}
IsFaultInRange NoMemory = Unit {0}
IsFaultInRange (NotAligned (Offset n)) = IsWord n
IsFaultInRange (NotAligned (Segment index n)) = IsWord index × IsWord n
IsFaultInRange (TooFar offset end) = IsWord offset × IsWord end
IsFaultInRange (NoSpace wanted found) = IsWord wanted × IsWord found
IsFaultInRange (Worn cookie) = IsWord cookie

abbrev pub IsStopInRange : Stop → Type 0
IsStopInRange Whole = Unit {0}
IsStopInRange End = Unit {0}
IsStopInRange (Short fault) = IsFaultInRange fault

abbrev pub IsReplyInRange : Reply → Type 0
IsReplyInRange (Ok count stop) = IsWord count × IsStopInRange stop
IsReplyInRange (Err fault sent) = IsFaultInRange fault × IsWord sent

abbrev pub IsAnswerInRange : Answer → Type 0
IsAnswerInRange answer = IsReplyInRange answer.reply × IsWord answer.bios

abbrev pub IsCallInRange : CallEnd → Type 0
IsCallInRange end = IsAnswerInRange end.answer × IsBytes end.got × All IsWord end.pages × IsWord (length end.pages)

abbrev pub IsKindInRange : Kind → Type 0
IsKindInRange Hole = Unit {0}
IsKindInRange Delalloc = Unit {0}
IsKindInRange (Unwritten d) = IsWord d
IsKindInRange (Mapped d) = IsWord d

abbrev pub IsExtentInRange : Extent → Type 0
IsExtentInRange e = IsWord e.block × IsWord e.length × IsKindInRange e.kind

abbrev pub IsSectorInRange : Option DeviceBlock → Type 0
IsSectorInRange None = Unit {0}
IsSectorInRange (Some sector) = IsBytes sector.bytes

abbrev pub IsPageInRange : Option Page → Type 0
IsPageInRange None = Unit {0}
IsPageInRange (Some page) = IsBytes page.bytes

abbrev pub IsBlockInRange : BlockEnd → Type 0
IsBlockInRange block = IsSectorInRange block.sector × IsPageInRange block.dirty × All (λ st. IsWord st.call) block.journal

abbrev pub IsSizeInRange : Option ℕ → Type 0
IsSizeInRange None = Unit {0}
IsSizeInRange (Some size) = IsWord size

abbrev pub IsSizeMarkInRange : SizeMark → Type 0
IsSizeMarkInRange (See found) = IsWord found
IsSizeMarkInRange (Grow to) = IsWord to
IsSizeMarkInRange (Cut to) = IsWord to

abbrev pub IsSizeStampInRange : SizeStamp → Type 0
IsSizeStampInRange st = IsWord st.call × IsSizeMarkInRange st.mark

abbrev pub IsFileInRange : FileEnd → Type 0
IsFileInRange end =
    All IsExtentInRange end.extents × All IsBlockInRange end.blocks × IsWord (length end.blocks)
    × IsSizeInRange end.size × All IsSizeStampInRange end.sizes

abbrev pub IsLaneInRange : LaneEnd → Type 0
IsLaneInRange lane = IsWord lane.ops × IsWord lane.faults

-- each number of a run is one of 64 bits and each byte below 256, as every run's are by its types
pub record IsRunInRange (run : Run) : Type 0 where
  pub calls : All IsCallInRange run.calls
  pub closes : All IsAnswerInRange run.closes
  pub files : All IsFileInRange run.ends.files
  pub free : IsWord (length run.ends.free)
  pub lanes : All IsLaneInRange run.lanes

-- the first page of each call of a script is a number of 64 bits, as every script's are by its types
abbrev pub IsScriptInRange : Script → Type 0
IsScriptInRange script = All (λ call. IsWord call.first_page) script.calls
