use Rattle.std.specs.Prelude.{◌≡◌, ℕ, ◌+◌, ◌==◌, Bool, true, List, [], ◌∷◌, Option, Some, None, length, map, if◌then◌else◌}
use Rattle.iob_base.specs.DeviceBlock.{DeviceBlock}
use Rattle.iob_base.specs.declared.answer.Reply.{Reply}
use Rattle.iob_base.specs.declared.answer.Reply.TheVariants.{Ok, Err}
use Rattle.iob_base.specs.declared.sector.Page.{Page}
use Rattle.iob_base.specs.declared.stamp.Mark.{Mark}
use Rattle.iob_base.specs.declared.stamp.Stamp.{Stamp}
use Rattle.io_model.specs.Calls.{is_direct, is_read}
use Rattle.io_model.specs.Finals.{sector_bytes}
use Rattle.io_model.specs.Kinds.{kind_at, mapped_number}
use Rattle.io_model.specs.declared.file.BlockEnd.{BlockEnd}
use Rattle.io_model.specs.declared.file.Extent.{Extent}
use Rattle.io_model.specs.declared.file.FileEnd.{FileEnd}
use Rattle.io_model.specs.declared.file.SizeMark.{SizeMark}
use Rattle.io_model.specs.declared.file.SizeStamp.{SizeStamp}
use Rattle.io_model.specs.declared.run.CallEnd.{CallEnd}
use Rattle.io_model.specs.declared.run.LaneEnd.{LaneEnd}
use Rattle.io_model.specs.declared.run.Run.{Run}
use Rattle.io_model.specs.declared.script.Call.{Call}
use Rattle.io_model.specs.declared.script.Script.{Script}
use Rattle.io_model.specs.declared.script.Verb.{Verb}
use Rattle.io_model.specs.declared.script.Verb.TheVariants.{Sync}

-- a reply: how many blocks were sent is told of direct calls alone
abbrev pub told_reply : Verb → Reply → Reply
told_reply verb (Ok count stop) = Ok count stop
told_reply verb (Err fault sent) = Err fault (if is_direct verb then sent else 0)

-- the bytes that a read gave
abbrev pub told_bytes : Verb → Reply → List ℕ → List ℕ
told_bytes verb (Ok count stop) got = if is_read verb then got else []
told_bytes verb (Err fault sent) got = []

-- the user pages of a direct call
abbrev pub told_pages : Verb → List ℕ → List ℕ
told_pages verb pages = if is_direct verb then pages else []

-- the stamps of a block, each as the number of its call and its mark
abbrev pub told_stamps : List Stamp → List (ℕ × Mark)
told_stamps stamps = map (λ st. (st.call, st.mark)) stamps

-- what calls did at the size of a file, each as the number of the call and its mark
abbrev pub told_sizes : List SizeStamp → List (ℕ × SizeMark)
told_sizes stamps = map (λ st. (st.call, st.mark)) stamps

-- the bytes of a page that is dirty
abbrev pub told_page : Option Page → Option (List ℕ)
told_page None = None
told_page (Some page) = Some page.bytes

-- the bytes of a block that is mapped and not dirty
abbrev pub told_sector : Option ℕ → Option Page → Option DeviceBlock → Option (List ℕ)
told_sector None dirty sector = None
told_sector (Some d) (Some page) sector = None
told_sector (Some d) None sector = Some (sector_bytes sector)

-- the image of blocks, of which the first is b
abbrev pub image_from : List Extent → ℕ → List BlockEnd → List (Option (List ℕ))
image_from extents b [] = []
image_from extents b (block ∷ blocks) = told_sector (mapped_number (kind_at extents b)) block.dirty block.sector ∷ image_from extents (b + 1) blocks

-- a lane with at least one op
abbrev pub told_lane : LaneEnd → Option LaneEnd
told_lane lane = if lane.ops == 0 then None else Some lane

-- what each call's line tells
abbrev pub of_calls : {A : Type 0} → (Verb → CallEnd → A) → List Call → List CallEnd → List A
of_calls f [] ends = []
of_calls f (call ∷ calls) [] = []
of_calls f (call ∷ calls) (end ∷ ends) = f call.verb end ∷ of_calls f calls ends

abbrev pub told_replies : Script → Run → List Reply
told_replies script run = of_calls (λ verb end. told_reply verb end.answer.reply) script.calls run.calls

abbrev pub bytes_read : Script → Run → List (List ℕ)
bytes_read script run = of_calls (λ verb end. told_bytes verb end.answer.reply end.got) script.calls run.calls

abbrev pub pages_back : Script → Run → List (List ℕ)
pages_back script run = of_calls (λ verb end. told_pages verb end.pages) script.calls run.calls

abbrev pub journals_of : FileEnd → List (List (ℕ × Mark))
journals_of end = map (λ block. told_stamps block.journal) end.blocks

abbrev pub dirty_bytes_of : FileEnd → List (Option (List ℕ))
dirty_bytes_of end = map (λ block. told_page block.dirty) end.blocks

abbrev pub image_of : FileEnd → List (Option (List ℕ))
image_of end = image_from end.extents 0 end.blocks

abbrev pub sizes_of : FileEnd → List (ℕ × SizeMark)
sizes_of end = told_sizes end.sizes

-- two runs of a script are the same in all that a text tells
pub record SaysTheSame (script : Script) (image : Bool) (one other : Run) : Type 0 where
  pub replies : told_replies script one ≡ told_replies script other
  pub bytes : bytes_read script one ≡ bytes_read script other
  pub pages : pages_back script one ≡ pages_back script other
  pub bios : map (λ end. end.answer.bios) one.calls ≡ map (λ end. end.answer.bios) other.calls
  pub closes : map (λ close. told_reply Sync close.reply) one.closes ≡ map (λ close. told_reply Sync close.reply) other.closes
  pub close_bios : map (λ close. close.bios) one.closes ≡ map (λ close. close.bios) other.closes
  pub journals : map journals_of one.ends.files ≡ map journals_of other.ends.files
  pub sizes : map (λ end. end.size) one.ends.files ≡ map (λ end. end.size) other.ends.files
  pub turns_at_sizes : map sizes_of one.ends.files ≡ map sizes_of other.ends.files
  pub maps : map (λ end. end.extents) one.ends.files ≡ map (λ end. end.extents) other.ends.files
  pub dirty : map dirty_bytes_of one.ends.files ≡ map dirty_bytes_of other.ends.files
  pub free : length one.ends.free ≡ length other.ends.free
  pub lanes : map told_lane one.lanes ≡ map told_lane other.lanes
  pub sectors : image ≡ true → map image_of one.ends.files ≡ map image_of other.ends.files
