use Rattle.std.specs.Prelude.{ℕ, Bool, true, false, not, ◌&&◌, ◌||◌, ◌==◌, nat_le, nat_lt, List, IsTrue}
use Rattle.std.specs.List.{list_all, list_any}
use Rattle.iob_base.specs.declared.answer.Fault.{Fault}
use Rattle.iob_base.specs.declared.answer.Fault.TheVariants.{Eio, NoMemory, Worn}
use Rattle.iob_base.specs.declared.answer.Reply.{Reply}
use Rattle.iob_base.specs.declared.answer.Reply.TheVariants.{Ok, Err}
use Rattle.iob_base.specs.declared.stamp.Mark.{Mark}
use Rattle.iob_base.specs.declared.stamp.Mark.TheVariants.{Done, Landed, Missed}
use Rattle.iob_base.specs.declared.stamp.Stamp.{Stamp}
use Rattle.io_model.specs.Answered.{is_answered}
use Rattle.io_model.specs.Calls.{is_data_call, is_direct, is_dwrite}
use Rattle.io_model.specs.Lists.{same, both_from, each_from, each_pair, numbered, is_some_and}
use Rattle.io_model.specs.Parts.{meets}
use Rattle.io_model.specs.Ranges.{Ranged, ranged_calls}
use Rattle.io_model.specs.declared.file.BlockEnd.{BlockEnd}
use Rattle.io_model.specs.declared.file.FileEnd.{FileEnd}
use Rattle.io_model.specs.declared.run.CallEnd.{CallEnd}
use Rattle.io_model.specs.declared.run.Run.{Run}
use Rattle.io_model.specs.declared.script.Call.{Call}
use Rattle.io_model.specs.declared.script.Script.{Script}

-- a test of each block of each file, beside the numbers of the file and of the block
abbrev pub each_block : (ℕ → ℕ → BlockEnd → Bool) → List FileEnd → Bool
each_block test files = each_from (λ f file. each_from (test f) 0 file.blocks) 0 files

-- a stamp names a data call that touches this block of this file, and the pass that made it
abbrev pub is_named : ℕ → List Ranged → List ℕ → ℕ → ℕ → Stamp → Bool
is_named size calls makers f b stamp =
    is_some_and (numbered calls stamp.call) (λ r. is_data_call r.call.verb && (r.call.file.0 == f && meets size r.range b))
    && is_some_and (numbered makers stamp.call) (λ maker. maker == stamp.caller)

-- each stamp names such a call, and no call stands twice
abbrev pub are_named_once : ℕ → List Ranged → List ℕ → ℕ → ℕ → List Stamp → Bool
are_named_once size calls makers f b stamps =
    list_all (is_named size calls makers f b) stamps && each_pair (λ st later. not (st.call == later.call)) stamps

-- a call stands in the journal exactly where the block is one that it answered
abbrev pub are_answered : ℕ → List Ranged → List CallEnd → ℕ → ℕ → List Stamp → Bool
are_answered size calls ends f b stamps =
    both_from (λ n r end. same (list_any (λ st. st.call == n) stamps) (r.call.file.0 == f && is_answered size r end.answer.reply b)) 1 calls ends

-- a test of two calls, of the stamps that name them
abbrev pub on_calls : List Call → (Call → Call → Bool) → ℕ → ℕ → Bool
on_calls calls test n later = is_some_and (numbered calls n) (λ call. is_some_and (numbered calls later) (test call))

-- of two numbers of calls the later is that of a later call, or one of another caller
abbrev pub is_in_caller_order : List Call → ℕ → ℕ → Bool
is_in_caller_order calls n later = on_calls calls (λ call next. not (call.caller == next.caller) || nat_lt n later) n later

-- of two numbers of calls the later is not one of an earlier phase
abbrev pub is_in_phase_order : List Call → ℕ → ℕ → Bool
is_in_phase_order calls n later = on_calls calls (λ call next. nat_le call.phase next.phase) n later

-- the stamps of one caller stand in the order of its calls
abbrev pub are_in_caller_order : List Call → List Stamp → Bool
are_in_caller_order calls stamps = each_pair (λ st later. is_in_caller_order calls st.call later.call) stamps

-- no stamp of an earlier phase stands after one of a later phase
abbrev pub are_in_phase_order : List Call → List Stamp → Bool
are_in_phase_order calls stamps = each_pair (λ st later. is_in_phase_order calls st.call later.call) stamps

-- a fault after which a direct call may leave marks of its failure
abbrev pub may_leave_marks : Fault → Bool
may_leave_marks (Eio _ _ _) = true
may_leave_marks NoMemory = true
may_leave_marks (Worn _) = true
may_leave_marks _ = false

abbrev pub has_failed : Reply → Bool
has_failed (Ok _ _) = false
has_failed (Err fault _) = may_leave_marks fault

-- Landed stands only for a direct write, Missed only for a direct call, and that call failed
abbrev pub may_be_marked : Mark → Call → CallEnd → Bool
may_be_marked Done call end = true
may_be_marked Landed call end = is_dwrite call.verb && has_failed end.answer.reply
may_be_marked Missed call end = is_direct call.verb && has_failed end.answer.reply

abbrev pub are_marked : Script → List CallEnd → List Stamp → Bool
are_marked script ends stamps =
    list_all (λ st. is_some_and (numbered script.calls st.call) (λ call. is_some_and (numbered ends st.call) (may_be_marked st.mark call))) stamps

-- of two calls in one phase, one caller made both exactly where one pass did
abbrev pub have_own_makers : Call × ℕ → Call × ℕ → Bool
have_own_makers c d = not (c.0.phase == d.0.phase) || same (c.0.caller == d.0.caller) (c.1 == d.1)

-- the journals of a run: at each block every data call that answered there, once and in order
pub record IsLawfulJournal (script : Script) (makers : List ℕ) (run : Run) : Type 0 where
  pub named_once : IsTrue (each_block (λ f b block. are_named_once script.geometry.block_size (ranged_calls script run) makers f b block.journal) run.ends.files)
  pub answered : IsTrue (each_block (λ f b block. are_answered script.geometry.block_size (ranged_calls script run) run.calls f b block.journal) run.ends.files)
  pub in_caller_order : IsTrue (each_block (λ f b block. are_in_caller_order script.calls block.journal) run.ends.files)
  pub in_phase_order : IsTrue (each_block (λ f b block. are_in_phase_order script.calls block.journal) run.ends.files)
  pub failed_marks : IsTrue (each_block (λ f b block. are_marked script run.calls block.journal) run.ends.files)
