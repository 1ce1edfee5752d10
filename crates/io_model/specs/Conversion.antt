use Rattle.std.specs.Prelude.{ℕ, Bool, true, false, not, ◌&&◌, ◌||◌, ◌==◌, nat_lt, ◌+◌, max, List, [], ◌∷◌, Option, Some, None, slice_get, is_some, if◌then◌else◌, IsTrue}
use Rattle.std.specs.List.{list_all, list_any, filter}
use Rattle.iob_base.specs.declared.answer.Answer.{Answer}
use Rattle.iob_base.specs.declared.answer.Fault.TheVariants.{SyncEio}
use Rattle.iob_base.specs.declared.answer.Reply.{Reply}
use Rattle.iob_base.specs.declared.answer.Reply.TheVariants.{Err}
use Rattle.iob_base.specs.declared.stamp.Mark.{Mark}
use Rattle.iob_base.specs.declared.stamp.Mark.TheVariants.{Done}
use Rattle.iob_base.specs.declared.stamp.Stamp.{Stamp}
use Rattle.io_model.specs.Calls.{is_write, is_pwrite, is_wiping, is_direct, is_writeback}
use Rattle.io_model.specs.Contents.{extents_of}
use Rattle.io_model.specs.Kinds.{kind_at, mapped_number}
use Rattle.io_model.specs.Lists.{each_from, numbered, is_some_and}
use Rattle.io_model.specs.Parts.{is_whole_in}
use Rattle.io_model.specs.Ranges.{Ranged, ranged_calls}
use Rattle.io_model.specs.declared.run.CallEnd.{CallEnd}
use Rattle.io_model.specs.declared.run.Run.{Run}
use Rattle.io_model.specs.declared.script.Call.{Call}
use Rattle.io_model.specs.declared.script.Script.{Script}

-- a call gives the whole of a block back
abbrev pub wipes_whole : ℕ → ℕ → Ranged → Bool
wipes_whole size b r = is_wiping r.call.verb && is_whole_in size r.range b

-- a stamp is that of such a call
abbrev pub is_wipe : ℕ → List Ranged → ℕ → Stamp → Bool
is_wipe size calls b st = is_some_and (numbered calls st.call) (wipes_whole size b)

-- the stamps after the last one by which the block was given back, and all where there is none
abbrev pub after_wipes : ℕ → List Ranged → ℕ → List Stamp → List Stamp
after_wipes size calls b [] = []
after_wipes size calls b (st ∷ sts) = if list_any (is_wipe size calls b) (st ∷ sts) then after_wipes size calls b sts else st ∷ sts

abbrev pub was_done : Mark → Bool
was_done Done = true
was_done _ = false

-- a stamp is that of a write that was done
abbrev pub is_done_write : List Ranged → Stamp → Bool
is_done_write calls st = was_done st.mark && is_some_and (numbered calls st.call) (λ r. is_write r.call.verb)

abbrev pub is_cached_write : List Ranged → Stamp → Bool
is_cached_write calls st = is_some_and (numbered calls st.call) (λ r. is_pwrite r.call.verb)

-- the call may write dirty blocks to the device: a sync, a writeback, or the flush of a direct call
abbrev pub may_flush : Call → Bool
may_flush call = is_writeback call.verb || is_direct call.verb

-- the bios of the calls on a file that may write its dirty blocks
abbrev pub flushing_bios : ℕ → List Call → List CallEnd → ℕ
flushing_bios f [] ends = 0
flushing_bios f (call ∷ calls) [] = 0
flushing_bios f (call ∷ calls) (end ∷ ends) =
    (if call.file.0 == f && may_flush call then end.answer.bios else 0) + flushing_bios f calls ends

abbrev pub bios_of : Option Answer → ℕ
bios_of None = 0
bios_of (Some answer) = answer.bios

-- the count of failed writebacks that a reply tells
abbrev pub told_count : Reply → ℕ
told_count (Err (SyncEio seen count) sent) = count
told_count _ = 0

abbrev pub close_count : Option Answer → ℕ
close_count None = 0
close_count (Some answer) = told_count answer.reply

-- the greatest such count of the calls on a file
abbrev pub greatest_told : ℕ → List Call → List CallEnd → ℕ
greatest_told f [] ends = 0
greatest_told f (call ∷ calls) [] = 0
greatest_told f (call ∷ calls) (end ∷ ends) = max (if call.file.0 == f then told_count end.answer.reply else 0) (greatest_told f calls ends)

-- the writebacks of a file were more than those that failed
abbrev pub has_good_writeback : Script → Run → ℕ → Bool
has_good_writeback script run f =
    nat_lt (max (greatest_told f script.calls run.calls) (close_count (slice_get run.closes f)))
    (flushing_bios f script.calls run.calls + bios_of (slice_get run.closes f))

-- a write was done since these stamps began, and where all such went through the cache, a writeback was
abbrev pub was_written : Script → Run → List Ranged → ℕ → List Stamp → Bool
was_written script run calls f stamps =
    list_any (is_done_write calls) stamps
    && (not (list_all (is_cached_write calls) (filter (is_done_write calls) stamps)) || has_good_writeback script run f)

-- a block that is mapped at the end was mapped before and never given back whole, or it was written since
abbrev pub is_converted : Script → Run → ℕ → ℕ → List Stamp → Bool
is_converted script run f b stamps =
    let calls = ranged_calls script run in
    (not (list_any (is_wipe script.geometry.block_size calls b) stamps) && is_some (mapped_number (kind_at (extents_of (slice_get script.files f)) b)))
    || was_written script run calls f (after_wipes script.geometry.block_size calls b stamps)

-- no block is mapped but by a write that succeeded, as far as a text shows it
abbrev pub ShowsConversion : Script → Run → Type 0
ShowsConversion script run =
    IsTrue (each_from (λ f file. each_from (λ b block.
    not (is_some (mapped_number (kind_at file.extents b))) || is_converted script run f b block.journal) 0 file.blocks) 0 run.ends.files)
