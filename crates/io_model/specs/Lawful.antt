use Rattle.std.specs.Prelude.{ℕ, Bool, true, false, not, ◌&&◌, ◌||◌, ◌==◌, nat_le, nat_lt, ◌+◌, ◌*◌, ◌-◌, ◌%◌, min, List, [], ◌∷◌, Option, Some, None, if◌then◌else◌, IsTrue}
use Rattle.iob_base.specs.declared.answer.Alignment.{Alignment}
use Rattle.iob_base.specs.declared.answer.Alignment.TheVariants.{Offset, Segment}
use Rattle.iob_base.specs.declared.answer.Fault.{Fault}
use Rattle.iob_base.specs.declared.answer.Fault.TheVariants.{Eio, SyncEio, Again, NoMemory, NotAligned, TooFar, NoSpace, Worn}
use Rattle.iob_base.specs.declared.answer.Reply.{Reply}
use Rattle.iob_base.specs.declared.answer.Reply.TheVariants.{Ok, Err}
use Rattle.iob_base.specs.declared.answer.Stop.{Stop}
use Rattle.iob_base.specs.declared.answer.Stop.TheVariants.{Whole, End}
use Rattle.iob_base.specs.declared.answer.Stop.TheVariants.{Fault as Short}
use Rattle.io_model.specs.Calls.{asked_of, offset_of, lengths_of, is_data_call, is_direct, is_trunc, is_alloc, is_write, is_sync}
use Rattle.io_model.specs.Contents.{file_blocks}
use Rattle.io_model.specs.Lists.{both_from}
use Rattle.io_model.specs.Parts.{Span, span_length, blocks_met}
use Rattle.io_model.specs.Ranges.{Ranged, ranged_calls}
use Rattle.io_model.specs.declared.run.Run.{Run}
use Rattle.io_model.specs.declared.script.Script.{Script}
use Rattle.io_model.specs.declared.script.Verb.{Verb}
use Rattle.io_model.specs.declared.script.Verb.TheVariants.{Pread, Dread, Xread, Zero, Alloc, Wb, Sync, Drop, Trunc}

-- the first length that is no multiple of the grain, with its number from n on
abbrev pub unaligned_length : ℕ → ℕ → List ℕ → Option Alignment
unaligned_length grain n [] = None
unaligned_length grain n (length ∷ lengths) =
    if length % grain == 0 then unaligned_length grain (n + 1) lengths else Some (Segment n length)

-- what of a direct call is no multiple of the grain: its offset, or else its first such segment
abbrev pub unaligned_of : ℕ → Verb → Option Alignment
unaligned_of grain verb =
    if is_direct verb then (if offset_of verb % grain == 0 then unaligned_length grain 1 (lengths_of verb) else Some (Offset (offset_of verb))) else None

abbrev pub is_alignment : Alignment → Alignment → Bool
is_alignment (Offset a) (Offset b) = a == b
is_alignment (Segment i a) (Segment j b) = i == j && a == b
is_alignment _ _ = false

-- the reply is this refusal, and nothing was sent
abbrev pub is_unaligned_as : Alignment → Reply → Bool
is_unaligned_as a (Err (NotAligned b) sent) = is_alignment a b && sent == 0
is_unaligned_as a _ = false

-- the call may not begin at or past the file's end
abbrev pub needs_room : Verb → Bool
needs_room (Zero _ _) = true
needs_room (Alloc _ _) = true
needs_room verb = is_write verb

-- the call lies past the file's blocks, which end at this byte
abbrev pub is_too_far : ℕ → Verb → Bool
is_too_far end verb = (needs_room verb && nat_le end (offset_of verb)) || (is_trunc verb && nat_lt end (offset_of verb))

abbrev pub is_too_far_at : ℕ → ℕ → Reply → Bool
is_too_far_at off end (Err (TooFar a b) sent) = (a == off && b == end) && sent == 0
is_too_far_at off end _ = false

-- device errors are told by calls that move or zero bytes
abbrev pub may_tell_device : Bool → Verb → Bool
may_tell_device waits (Pread _ _) = waits
may_tell_device waits (Alloc _ _) = false
may_tell_device waits (Wb _ _) = false
may_tell_device waits Sync = false
may_tell_device waits Drop = false
may_tell_device waits _ = true

-- want of space is told by calls that take some
abbrev pub may_tell_space : Verb → Bool
may_tell_space verb = is_alloc verb || is_write verb

-- a worn cookie is told by calls that change kinds
abbrev pub may_tell_worn : Bool → Verb → Bool
may_tell_worn waits (Pread _ _) = false
may_tell_worn waits (Xread _ _) = false
may_tell_worn waits (Zero _ _) = false
may_tell_worn waits Drop = false
may_tell_worn waits (Dread _ _) = waits
may_tell_worn waits _ = true

abbrev pub is_drop : Verb → Bool
is_drop Drop = true
is_drop _ = false

-- calls that may answer that they would wait: reads that may not
abbrev pub may_tell_again : Bool → Verb → Bool
may_tell_again waits (Pread _ _) = not waits
may_tell_again waits (Dread _ _) = not waits
may_tell_again waits _ = false

-- the faults that a call may meet while it works
abbrev pub may_meet : Bool → Verb → Fault → Bool
may_meet waits verb (Eio _ _ _) = may_tell_device waits verb
may_meet waits verb (SyncEio _ _) = is_sync verb
may_meet waits verb (Again _) = may_tell_again waits verb
may_meet waits verb NoMemory = not (is_drop verb)
may_meet waits verb (NotAligned _) = false
may_meet waits verb (TooFar _ _) = false
may_meet waits verb (NoSpace _ _) = may_tell_space verb
may_meet waits verb (Worn _) = may_tell_worn waits verb

abbrev pub would_wait : Fault → Bool
would_wait (Again _) = true
would_wait _ = false

-- a stop after all bytes of the range: they are all that was asked, or the range was cut
abbrev pub is_end_stop : ℕ → ℕ → Stop → Bool
is_end_stop met asked Whole = met == asked
is_end_stop met asked End = nat_lt met asked
is_end_stop met asked (Short _) = false

-- a stop in the middle by a fault; a direct call stops so only where it would wait
abbrev pub is_short_stop : Bool → Verb → ℕ → ℕ → Stop → Bool
is_short_stop waits verb met n Whole = false
is_short_stop waits verb met n End = false
is_short_stop waits verb met n (Short fault) =
    (nat_le 1 n && nat_lt n met) && (may_meet waits verb fault && (not (is_direct verb) || would_wait fault))

-- the reply of a call on the data of its range
abbrev pub is_data_reply : ℕ → Span → Bool → Verb → ℕ → Reply → Bool
is_data_reply size range waits verb asked (Ok n stop) =
    (n == span_length range && is_end_stop (span_length range) asked stop) || is_short_stop waits verb (span_length range) n stop
is_data_reply size range waits verb asked (Err fault sent) =
    may_meet waits verb fault && (if is_direct verb && not (would_wait fault) then nat_le sent (blocks_met size range) else sent == 0)

abbrev pub is_whole : Stop → Bool
is_whole Whole = true
is_whole _ = false

-- the reply of a call that counts blocks, at most so many
abbrev pub is_count_reply : ℕ → Bool → Verb → Reply → Bool
is_count_reply most waits verb (Ok n stop) = nat_le n most && is_whole stop
is_count_reply most waits verb (Err fault sent) = may_meet waits verb fault && sent == 0

abbrev pub is_nothing_done : Reply → Bool
is_nothing_done (Ok n stop) = n == 0 && is_whole stop
is_nothing_done (Err _ _) = false

-- how many blocks a call that counts blocks may count: those of its range, or all of the file
abbrev pub most_counted : ℕ → ℕ → Span → Verb → ℕ
most_counted size blocks range (Wb from n) = min n (blocks - from)
most_counted size blocks range (Alloc _ _) = blocks_met size range
most_counted size blocks range _ = blocks

-- how many bytes a call asked: a cut asks those of its range
abbrev pub bytes_asked : Span → Verb → ℕ
bytes_asked range (Trunc _) = span_length range
bytes_asked range verb = asked_of verb

-- a reply of a call that has an offset, which is aligned
abbrev pub is_ranged_reply : ℕ → ℕ → Span → Bool → Verb → Reply → Bool
is_ranged_reply size blocks range waits verb reply =
    if not (is_trunc verb) && asked_of verb == 0 then is_nothing_done reply
    else (if is_too_far (blocks * size) verb then is_too_far_at (offset_of verb) (blocks * size) reply
    else (if is_alloc verb then is_count_reply (most_counted size blocks range verb) waits verb reply
    else is_data_reply size range waits verb (bytes_asked range verb) reply))

abbrev pub is_aligned_reply : Option Alignment → Bool → Reply → Bool
is_aligned_reply None otherwise reply = otherwise
is_aligned_reply (Some a) otherwise reply = is_unaligned_as a reply

-- A reply is lawful for a grain, a block size, a file of so many blocks, the range of the call, and a call
-- that waits or not: a direct call that is not aligned is refused; no bytes asked, nothing done; a call
-- past the end is refused; else all of the range is done, or a fault that the call may meet cuts it short
abbrev pub is_lawful_reply : ℕ → ℕ → ℕ → Span → Bool → Verb → Reply → Bool
is_lawful_reply grain size blocks range waits verb reply =
    if is_data_call verb || is_alloc verb
    then is_aligned_reply (unaligned_of grain verb) (is_ranged_reply size blocks range waits verb reply) reply
    else is_count_reply (most_counted size blocks range verb) waits verb reply

-- the reply of a script's call
abbrev pub is_lawful_call : Script → Ranged → Reply → Bool
is_lawful_call script r reply =
    is_lawful_reply script.geometry.grain script.geometry.block_size (file_blocks script r.call.file.0) r.range true r.call.verb reply

-- the close of a file answers as a sync of its blocks does
abbrev pub is_lawful_close : ℕ → Reply → Bool
is_lawful_close blocks reply = is_count_reply blocks true Sync reply

-- each call and each close answers as it may
pub record IsLawfulReply (script : Script) (run : Run) : Type 0 where
  pub calls : IsTrue (both_from (λ n r end. is_lawful_call script r end.answer.reply) 1 (ranged_calls script run) run.calls)
  pub closes : IsTrue (both_from (λ f file close. is_lawful_close file.blocks close.reply) 0 script.files run.closes)
