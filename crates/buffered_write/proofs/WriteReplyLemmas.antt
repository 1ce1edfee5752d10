-- What a write replies is lawful, and tells the blocks that it stamped.
use Rattle.std.proofs.Common.{◌≡◌, ℕ, ◌+◌, ◌-◌, ◌*◌, ◌<◌, ◌≤◌, ◌==◌, [], List, min, Bool, true, false, Some, None, length, refl, sym, ap, ◌∙◌, arith, if◌then◌else◌}
use Rattle.std.specs.Prelude.{◌&&◌, IfSome, IsTrue, Option, nat_le, not}
use Rattle.std.specs.List.{concat}
use Rattle.std.proofs.lemmas.Bool.{false≢true}
use Rattle.std.proofs.lemmas.Bool.Decides.{nat_tests}
use Rattle.iob_base.specs.declared.answer.Fault.{Fault}
use Rattle.iob_base.specs.declared.answer.Fault.TheVariants as fault
use Rattle.iob_base.specs.declared.answer.Reply.TheVariants as reply
use Rattle.iob_base.specs.declared.answer.Stop.TheVariants.{Whole}
use Rattle.iob_base.specs.declared.stamp.Stamp.{Stamp}
use Rattle.io_model.specs.Answered.{answered_in}
use Rattle.io_model.specs.Lawful.{is_lawful_reply, may_meet}
use Rattle.io_model.specs.Parts.{Span, range_in, span, span_length}
use Rattle.io_model.specs.declared.script.Verb.TheVariants.{Pwrite}
use Rattle.range_core.specs.declared.entry.Entry.{Entry}
use Rattle.mount_parts.specs.MountView.{MountView}
use Rattle.call_parts.specs.Causes.{IsCaused}
use Rattle.buffered_write.specs.Lays.{EndsAt}
use Rattle.call_parts.specs.Parts.{stamps_over}
use Rattle.buffered_write.specs.Pwrites.{has_room, write_reply}
use Rattle.call_parts.specs.Replies.{read_reply}
use Rattle.call_parts.proofs.NumberLemmas.{answered-so}
use Rattle.call_parts.proofs.PartLemmas.{over-none}
use Rattle.buffered_write.proofs.DataReplyLemmas.{MayEnd, ends-before, roomed-reply}

module _ (m : MountView) (off : ℕ) (segments : List (List ℕ)) (entries : List Entry) where
  -- a fault that ended a write is one that a write may meet
  pub may-write : (f : Fault) → IsCaused m entries f → may_meet true (Pwrite off segments) f ≡ true
  may-write (fault.Eio lane before after) is = refl
  may-write (fault.Worn cookie) is = refl
  may-write (fault.NoSpace wanted found) is = refl
  may-write fault.NoMemory is = refl
  may-write (fault.SyncEio seen count) is = absurd is
  may-write (fault.Again why) is = absurd is
  may-write (fault.NotAligned alignment) is = absurd is
  may-write (fault.TooFar offset end) is = absurd is

  may-end : (f : Option Fault) → IfSome f (IsCaused m entries) → IfSome f (λ x. may_meet true (Pwrite off segments) x ≡ true)
  may-end None cause = tt
  may-end (Some f) cause = may-write f cause

-- a fault stands only where the write had room
abbrev pub MayEndIn : ℕ → ℕ → List (List ℕ) → ℕ → Option Fault → Type 0
MayEndIn end off segments count f = has_room end off (length (concat segments)) ≡ true → MayEnd (Pwrite off segments) (range_in end off (length (concat segments))) count f

-- the reply of a write is lawful
pub lawful-write : (grain size blocks off count : ℕ) (segments : List (List ℕ)) (f : Option Fault) → MayEndIn (blocks * size) off segments count f
    → IsTrue (is_lawful_reply grain size blocks (range_in (blocks * size) off (length (concat segments))) true (Pwrite off segments) (write_reply (blocks * size) off (length (concat segments)) count f))
lawful-write grain size blocks off count segments f may = roomed-reply (Pwrite off segments) refl size (blocks * size) off (length (concat segments)) count f may

-- the reply of a write that had room
pub reply-room : (end off asked count : ℕ) (f : Option Fault) → has_room end off asked ≡ true → write_reply end off asked count f ≡ read_reply asked (span_length (range_in end off asked)) count f
reply-room end off asked count f room = at (asked == 0) (nat_le end off) room
  where
    at : (none past : Bool) → (not none && not past) ≡ true
        → (if none then reply.Ok 0 Whole else (if past then reply.Err (fault.TooFar off end) 0 else read_reply asked (span_length (range_in end off asked)) count f)) ≡ read_reply asked (span_length (range_in end off asked)) count f
    at true past e = absurd (false≢true e)
    at false true e = absurd (false≢true e)
    at false false e = refl

-- a write that had none stamps nothing
pub stamps-none : (size end off asked : ℕ) (stamp : Stamp) → 0 < size → has_room end off asked ≡ false → stamps_over size (answered_in size (range_in end off asked) false (write_reply end off asked 0 None)) stamp ≡ []
stamps-none size end off asked stamp some room = at (asked == 0) (nat_le end off) room
  where
    nothing : stamps_over size (span off (min (min (off + asked) end) (off + 0))) stamp ≡ []
    nothing = answered-so size some stamp end off asked 0 None (omega arith) ∙ (let z : off + 0 ≡ off = omega arith in ap (λ n. stamps_over size (span off n) stamp) z) ∙ over-none size some stamp off

    at : (none past : Bool) → (not none && not past) ≡ false
        → stamps_over size (answered_in size (range_in end off asked) false (if none then reply.Ok 0 Whole else (if past then reply.Err (fault.TooFar off end) 0 else read_reply asked (span_length (range_in end off asked)) 0 None))) stamp ≡ []
    at true past e = nothing
    at false true e = over-none size some stamp 0
    at false false e = absurd (false≢true (sym e))

-- a fault that a write met stands before its end
pub ends-short : (m : MountView) (size from to at : ℕ) (f : Option Fault) (segments : List (List ℕ)) (entries : List Entry) (range : Span) → span_length range ≡ to - from → from ≤ at → EndsAt size from to at f false → IfSome f (IsCaused m entries) → MayEnd (Pwrite from segments) range (at - from) f
ends-short m size from to at f segments entries range long low ends cause = ends-before (Pwrite from segments) range size from to at f long low ends (may-end m from segments entries f cause)

-- a write without bytes, and one past the end
pub room-empty : (end off asked : ℕ) → asked ≡ 0 → has_room end off asked ≡ false
room-empty end off asked none = ap (λ n. not (n == 0) && not (nat_le end off)) none

pub reply-empty : (end off asked : ℕ) → asked ≡ 0 → write_reply end off asked 0 None ≡ reply.Ok 0 Whole
reply-empty end off asked none = ap (λ n. write_reply end off n 0 None) none

pub room-far : (end off asked : ℕ) → end ≤ off → has_room end off asked ≡ false
room-far end off asked far = at (asked == 0)
  where
    past : nat_le end off ≡ true
    past = grind (arith, nat_tests)

    at : (b : Bool) → (not b && not (nat_le end off)) ≡ false
    at true = refl
    at false = ap not past

pub reply-far : (end off asked : ℕ) → (asked ≡ 0 → ⊥) → end ≤ off → write_reply end off asked 0 None ≡ reply.Err (fault.TooFar off end) 0
reply-far end off asked some far =
    let no : (asked == 0) ≡ false = grind (arith, nat_tests) in
    let past : nat_le end off ≡ true = grind (arith, nat_tests) in
    ap (λ b. if b then reply.Ok 0 Whole else (if nat_le end off then reply.Err (fault.TooFar off end) 0 else read_reply asked (span_length (range_in end off asked)) 0 None)) no
    ∙ ap (λ b. if b then reply.Err (fault.TooFar off end) 0 else read_reply asked (span_length (range_in end off asked)) 0 None) past

pub room-some : (end off asked : ℕ) → (asked ≡ 0 → ⊥) → off < end → has_room end off asked ≡ true
room-some end off asked some near =
    let no : (asked == 0) ≡ false = grind (arith, nat_tests) in
    let past : nat_le end off ≡ false = grind (arith, nat_tests) in
    ap (λ b. not b && not (nat_le end off)) no ∙ ap not past
