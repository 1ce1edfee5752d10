use Rattle.std.specs.Prelude.{ℕ, Bool, true, false, not, ◌&&◌, ◌||◌, ◌==◌, ◌+◌, max, List, [], ◌∷◌, Option, Some, None, if◌then◌else◌, IsTrue}
use Rattle.std.specs.List.{list_all, sum}
use Rattle.iob_base.specs.declared.answer.Fault.{Fault}
use Rattle.iob_base.specs.declared.answer.Fault.TheVariants.{TooFar}
use Rattle.iob_base.specs.declared.answer.Reply.{Reply}
use Rattle.iob_base.specs.declared.answer.Reply.TheVariants.{Ok, Err}
use Rattle.io_model.specs.Journals.{is_in_caller_order, is_in_phase_order}
use Rattle.io_model.specs.Lawful.{is_whole}
use Rattle.io_model.specs.Lists.{both_from, each_pair, numbered, is_some_and}
use Rattle.io_model.specs.declared.file.SizeMark.{SizeMark}
use Rattle.io_model.specs.declared.file.SizeMark.TheVariants.{See, Grow, Cut}
use Rattle.io_model.specs.declared.file.SizeStamp.{SizeStamp}
use Rattle.io_model.specs.declared.run.CallEnd.{CallEnd}
use Rattle.io_model.specs.declared.run.Run.{Run}
use Rattle.io_model.specs.declared.script.Call.{Call}
use Rattle.io_model.specs.declared.script.Script.{Script}
use Rattle.io_model.specs.declared.script.Verb.{Verb}
use Rattle.io_model.specs.declared.script.Verb.TheVariants.{Pread, Pwrite, Trunc}

-- the size after a turn at it
abbrev pub size_after : ℕ → SizeMark → ℕ
size_after size (See _) = size
size_after size (Grow to) = max size to
size_after size (Cut to) = to

abbrev pub replayed_size : ℕ → List SizeStamp → ℕ
replayed_size size [] = size
replayed_size size (st ∷ sts) = replayed_size (size_after size st.mark) sts

abbrev pub found_is : ℕ → SizeMark → Bool
found_is size (See found) = found == size
found_is size _ = true

-- each call that saw the size saw what the turns before it had left
abbrev pub sees_replayed : ℕ → List SizeStamp → Bool
sees_replayed size [] = true
sees_replayed size (st ∷ sts) = found_is size st.mark && sees_replayed (size_after size st.mark) sts

abbrev pub is_none : List SizeMark → Bool
is_none [] = true
is_none _ = false

abbrev pub is_one_see : List SizeMark → Bool
is_one_see (See _ ∷ []) = true
is_one_see _ = false

abbrev pub is_one_grow : ℕ → List SizeMark → Bool
is_one_grow to (Grow at ∷ []) = at == to
is_one_grow to _ = false

abbrev pub is_see_and_cut : ℕ → List SizeMark → Bool
is_see_and_cut to (See _ ∷ Cut at ∷ []) = at == to
is_see_and_cut to _ = false

abbrev pub is_read_marks : Reply → List SizeMark → Bool
is_read_marks (Ok _ _) marks = is_one_see marks
is_read_marks (Err _ _) marks = is_none marks || is_one_see marks

abbrev pub is_write_marks : ℕ → Reply → List SizeMark → Bool
is_write_marks off (Ok n _) marks = if n == 0 then is_none marks else is_one_grow (off + n) marks
is_write_marks off (Err _ _) marks = is_none marks

abbrev pub is_refused_far : Fault → Bool
is_refused_far (TooFar _ _) = true
is_refused_far _ = false

abbrev pub is_cut_marks : ℕ → Reply → List SizeMark → Bool
is_cut_marks to (Ok _ stop) marks = if is_whole stop then is_see_and_cut to marks else is_none marks || is_one_see marks
is_cut_marks to (Err fault _) marks = is_none marks || (not (is_refused_far fault) && is_one_see marks)

-- what a call leaves at the size of its file: a read of some bytes saw it, a write that wrote some raised
-- it, a cut that was done saw it and set it; no other call leaves anything
abbrev pub is_size_marks : Verb → Reply → List SizeMark → Bool
is_size_marks (Pread off lengths) reply marks = if sum lengths == 0 then is_none marks else is_read_marks reply marks
is_size_marks (Pwrite off segments) reply marks = is_write_marks off reply marks
is_size_marks (Trunc to) reply marks = is_cut_marks to reply marks
is_size_marks _ reply marks = is_none marks

-- the marks of a call at a size
abbrev pub marks_of : ℕ → List SizeStamp → List SizeMark
marks_of n [] = []
marks_of n (st ∷ sts) = if st.call == n then st.mark ∷ marks_of n sts else marks_of n sts

-- a stamp at a size names a call on this file, and the pass that made it
abbrev pub is_size_named : Script → List ℕ → ℕ → SizeStamp → Bool
is_size_named script makers f st =
    is_some_and (numbered script.calls st.call) (λ call. call.file.0 == f) && is_some_and (numbered makers st.call) (λ maker. maker == st.caller)

abbrev pub is_call_at_size : ℕ → List SizeStamp → ℕ → Call → CallEnd → Bool
is_call_at_size f sts n call end = not (call.file.0 == f) || is_size_marks call.verb end.answer.reply (marks_of n sts)

abbrev pub is_size_journal_from : Script → List ℕ → List CallEnd → ℕ → ℕ → List SizeStamp → Bool
is_size_journal_from script makers ends f size sts =
    list_all (is_size_named script makers f) sts
    && (both_from (is_call_at_size f sts) 1 script.calls ends
    && (each_pair (λ st later. is_in_caller_order_or_own script.calls st.call later.call && is_in_phase_order script.calls st.call later.call) sts
    && sees_replayed size sts))
  where
    is_in_caller_order_or_own : List Call → ℕ → ℕ → Bool
    is_in_caller_order_or_own calls n later = n == later || is_in_caller_order calls n later

abbrev pub is_size_of_file : Script → List ℕ → List CallEnd → ℕ → Option ℕ → Option ℕ → List SizeStamp → Bool
is_size_of_file script makers ends f None now sts = true
is_size_of_file script makers ends f (Some size) None sts = false
is_size_of_file script makers ends f (Some size) (Some now) sts = is_size_journal_from script makers ends f size sts && now == replayed_size size sts

-- the stamps at each file's size are those of its calls, in order, each saw what those before it left,
-- and the size at the end is what they all leave
abbrev pub IsSizeJournal : Script → List ℕ → Run → Type 0
IsSizeJournal script makers run =
    IsTrue (both_from (λ f file end. is_size_of_file script makers run.calls f file.size end.size end.sizes) 0 script.files run.ends.files)
