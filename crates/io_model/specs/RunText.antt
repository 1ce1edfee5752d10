use Rattle.std.specs.Prelude.{ℕ, Bool, true, false, ◌||◌, ◌==◌, ◌+◌, List, [], ◌∷◌, Option, Some, None, codes, decimal, length, if◌then◌else◌}
use Rattle.std.specs.List.{list_any, sum_by}
use Rattle.iob_base.specs.DeviceBlock.{DeviceBlock}
use Rattle.iob_base.specs.declared.answer.Answer.{Answer}
use Rattle.iob_base.specs.declared.answer.Reply.{Reply}
use Rattle.iob_base.specs.declared.answer.Reply.TheVariants.{Ok, Err}
use Rattle.iob_base.specs.declared.sector.Page.{Page}
use Rattle.iob_base.specs.declared.stamp.Mark.{Mark}
use Rattle.iob_base.specs.declared.stamp.Mark.TheVariants.{Done, Landed, Missed}
use Rattle.iob_base.specs.declared.stamp.Stamp.{Stamp}
use Rattle.io_model.specs.Calls.{is_direct}
use Rattle.io_model.specs.Finals.{sector_bytes}
use Rattle.io_model.specs.Kinds.{kind_at, mapped_number}
use Rattle.io_model.specs.ReplyText.{hex_text, verb_text, reply_text}
use Rattle.io_model.specs.SizeText.{size_lines}
use Rattle.io_model.specs.Text.{◌⋅◌}
use Rattle.io_model.specs.declared.file.BlockEnd.{BlockEnd}
use Rattle.io_model.specs.declared.file.Extent.{Extent}
use Rattle.io_model.specs.declared.file.FileEnd.{FileEnd}
use Rattle.io_model.specs.declared.file.Kind.{Kind}
use Rattle.io_model.specs.declared.file.Kind.TheVariants.{Hole, Delalloc, Unwritten, Mapped}
use Rattle.io_model.specs.declared.run.CallEnd.{CallEnd}
use Rattle.io_model.specs.declared.run.LaneEnd.{LaneEnd}
use Rattle.io_model.specs.declared.run.Run.{Run}
use Rattle.io_model.specs.declared.script.Call.{Call}
use Rattle.io_model.specs.declared.script.Script.{Script}
use Rattle.io_model.specs.declared.script.Verb.TheVariants.{Sync}

-- a page before runs of pages: it begins the first run where that goes on from it, or a run of its own
abbrev pub onto_runs : ℕ → List (ℕ × ℕ) → List (ℕ × ℕ)
onto_runs page [] = (page, 1) ∷ []
onto_runs page (r ∷ rs) = if page + 1 == r.0 then (page, r.1 + 1) ∷ rs else (page, 1) ∷ r ∷ rs

-- numbers as runs that go up by one: the first of each, and how many
abbrev pub page_runs : List ℕ → List (ℕ × ℕ)
page_runs [] = []
page_runs (page ∷ pages) = onto_runs page (page_runs pages)

abbrev pub more_runs_text : List (ℕ × ℕ) → List ℕ → List ℕ
more_runs_text [] rest = rest
more_runs_text (r ∷ rs) rest = codes "," ⋅ decimal r.0 ⋅ codes "+" ⋅ decimal r.1 ⋅ more_runs_text rs rest

abbrev pub runs_text : ℕ → List (ℕ × ℕ) → List ℕ → List ℕ
runs_text first [] rest = decimal first ⋅ codes "+0" ⋅ rest
runs_text first (r ∷ rs) rest = decimal r.0 ⋅ codes "+" ⋅ decimal r.1 ⋅ more_runs_text rs rest

-- the user pages of a direct call
abbrev pub pages_text : Call → List ℕ → List ℕ → List ℕ
pages_text call pages rest = if is_direct call.verb then codes " pages " ⋅ runs_text call.first_page (page_runs pages) rest else rest

abbrev pub call_line : ℕ → Call → CallEnd → List ℕ → List ℕ
call_line n call end rest =
    codes "call " ⋅ decimal n ⋅ codes " " ⋅ decimal call.caller ⋅ codes " " ⋅ verb_text call.verb ⋅ codes " "
    ⋅ reply_text call.verb end.answer.reply end.got (codes " bios " ⋅ decimal end.answer.bios ⋅ pages_text call end.pages (codes "\n" ⋅ rest))

abbrev pub call_lines : ℕ → List Call → List CallEnd → List ℕ → List ℕ
call_lines n [] ends rest = rest
call_lines n (call ∷ calls) [] rest = rest
call_lines n (call ∷ calls) (end ∷ ends) rest = call_line n call end (call_lines (n + 1) calls ends rest)

abbrev pub close_line : List ℕ → Answer → List ℕ → List ℕ
close_line name close rest =
    codes "close " ⋅ name ⋅ codes " " ⋅ reply_text Sync close.reply [] (codes " bios " ⋅ decimal close.bios ⋅ codes "\n" ⋅ rest)

abbrev pub close_lines : List (List ℕ) → List Answer → List ℕ → List ℕ
close_lines [] closes rest = rest
close_lines (name ∷ names) [] rest = rest
close_lines (name ∷ names) (close ∷ closes) rest = close_line name close (close_lines names closes rest)

abbrev pub mark_text : Mark → List ℕ
mark_text Done = []
mark_text Landed = codes "L"
mark_text Missed = codes "M"

abbrev pub stamps_text : List Stamp → List ℕ → List ℕ
stamps_text [] rest = rest
stamps_text (st ∷ sts) rest = codes " " ⋅ decimal st.call ⋅ mark_text st.mark ⋅ stamps_text sts rest

-- a line for each block that has stamps
abbrev pub journal_line : List ℕ → ℕ → List Stamp → List ℕ → List ℕ
journal_line name b [] rest = rest
journal_line name b (st ∷ sts) rest = codes "journal " ⋅ name ⋅ codes " " ⋅ decimal b ⋅ stamps_text (st ∷ sts) (codes "\n" ⋅ rest)

abbrev pub journal_lines : List ℕ → ℕ → List BlockEnd → List ℕ → List ℕ
journal_lines name b [] rest = rest
journal_lines name b (block ∷ blocks) rest = journal_line name b block.journal (journal_lines name (b + 1) blocks rest)

abbrev pub map_start : List ℕ → Extent → List ℕ → List ℕ
map_start name e rest = codes "map " ⋅ name ⋅ codes " " ⋅ decimal e.block ⋅ codes " " ⋅ decimal e.length ⋅ rest

-- a line for each extent that is no hole
abbrev pub map_line : List ℕ → Extent → Kind → List ℕ → List ℕ
map_line name e Hole rest = rest
map_line name e Delalloc rest = map_start name e (codes " delalloc\n" ⋅ rest)
map_line name e (Unwritten d) rest = map_start name e (codes " unwritten " ⋅ decimal d ⋅ codes "\n" ⋅ rest)
map_line name e (Mapped d) rest = map_start name e (codes " mapped " ⋅ decimal d ⋅ codes "\n" ⋅ rest)

abbrev pub map_lines : List ℕ → List Extent → List ℕ → List ℕ
map_lines name [] rest = rest
map_lines name (e ∷ es) rest = map_line name e e.kind (map_lines name es rest)

-- a line for each dirty block
abbrev pub dirty_line : List ℕ → ℕ → Option Page → List ℕ → List ℕ
dirty_line name b None rest = rest
dirty_line name b (Some page) rest = codes "dirty " ⋅ name ⋅ codes " " ⋅ decimal b ⋅ codes " " ⋅ hex_text page.bytes ⋅ codes "\n" ⋅ rest

abbrev pub dirty_lines : List ℕ → ℕ → List BlockEnd → List ℕ → List ℕ
dirty_lines name b [] rest = rest
dirty_lines name b (block ∷ blocks) rest = dirty_line name b block.dirty (dirty_lines name (b + 1) blocks rest)

-- a line for each mapped block that is not dirty, the bytes of its sector
abbrev pub image_line : List ℕ → ℕ → Option ℕ → Option Page → Option DeviceBlock → List ℕ → List ℕ
image_line name b None dirty sector rest = rest
image_line name b (Some d) (Some page) sector rest = rest
image_line name b (Some d) None sector rest = codes "image " ⋅ name ⋅ codes " " ⋅ decimal b ⋅ codes " " ⋅ hex_text (sector_bytes sector) ⋅ codes "\n" ⋅ rest

abbrev pub image_lines : List ℕ → List Extent → ℕ → List BlockEnd → List ℕ → List ℕ
image_lines name extents b [] rest = rest
image_lines name extents b (block ∷ blocks) rest =
    image_line name b (mapped_number (kind_at extents b)) block.dirty block.sector (image_lines name extents (b + 1) blocks rest)

abbrev pub file_lines : Bool → List ℕ → FileEnd → List ℕ → List ℕ
file_lines image name end rest =
    journal_lines name 0 end.blocks (size_lines name end.size end.sizes (map_lines name end.extents (dirty_lines name 0 end.blocks
    (if image then image_lines name end.extents 0 end.blocks rest else rest))))

abbrev pub files_lines : Bool → List (List ℕ) → List FileEnd → List ℕ → List ℕ
files_lines image [] ends rest = rest
files_lines image (name ∷ names) [] rest = rest
files_lines image (name ∷ names) (end ∷ ends) rest = file_lines image name end (files_lines image names ends rest)

-- a line for each lane that made a transfer
abbrev pub lane_line : ℕ → LaneEnd → List ℕ → List ℕ
lane_line n lane rest =
    if lane.ops == 0 then rest else codes "lane " ⋅ decimal n ⋅ codes " ops " ⋅ decimal lane.ops ⋅ codes " faults " ⋅ decimal lane.faults ⋅ codes "\n" ⋅ rest

abbrev pub lane_lines : ℕ → List LaneEnd → List ℕ → List ℕ
lane_lines n [] rest = rest
lane_lines n (lane ∷ lanes) rest = lane_line n lane (lane_lines (n + 1) lanes rest)

-- the printed text of a run, with the sectors' bytes where they are asked for
abbrev pub run_text : Script → Run → Bool → List ℕ
run_text script run image =
    codes "run 1\n" ⋅ call_lines 1 script.calls run.calls (close_lines script.names run.closes (files_lines image script.names run.ends.files
    (codes "free " ⋅ decimal (length run.ends.free) ⋅ codes "\nbios " ⋅ decimal (sum_by (λ end. end.answer.bios) run.calls) ⋅ codes "\n"
    ⋅ lane_lines 0 run.lanes (codes "end\n"))))

abbrev pub is_error : Reply → Bool
is_error (Ok _ _) = false
is_error (Err _ _) = true

-- a printed reply, of a call or a close, is an error
abbrev pub has_error : Run → Bool
has_error run = list_any (λ end. is_error end.answer.reply) run.calls || list_any (λ close. is_error close.reply) run.closes
