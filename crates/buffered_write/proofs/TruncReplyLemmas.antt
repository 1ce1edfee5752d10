-- What a cut replies is lawful, and tells the blocks that it stamped.
use Rattle.std.proofs.Common.{inl, inr, ◌≡◌, ℕ, ◌+◌, ◌-◌, ◌*◌, ◌<◌, ◌≤◌, ◌==◌, min, Bool, true, false, Some, None, refl, sym, ap, ◌∙◌, subst, arith, if◌then◌else◌}
use Rattle.std.specs.Prelude.{◌&&◌, ◌⊎◌, IsTrue, Option, nat_lt}
use Rattle.std.proofs.lemmas.Bool.{eq-eqb}
use Rattle.std.proofs.lemmas.Bool.Decides.{nat_tests}
use Rattle.iob_base.specs.declared.answer.Fault.{Fault}
use Rattle.iob_base.specs.declared.answer.Fault.TheVariants as fault
use Rattle.iob_base.specs.declared.answer.Reply.TheVariants as reply
use Rattle.iob_base.specs.declared.stamp.Stamp.{Stamp}
use Rattle.io_model.specs.Answered.{answered_in}
use Rattle.io_model.specs.Lawful.{is_data_reply, is_lawful_reply, is_too_far_at, may_meet}
use Rattle.io_model.specs.Parts.{Span, range_in, span, span_length}
use Rattle.io_model.specs.declared.script.Verb.TheVariants.{Trunc}
use Rattle.call_parts.specs.Parts.{stamps_over}
use Rattle.call_parts.specs.Replies.{read_reply, short_reply}
use Rattle.call_parts.proofs.NumberLemmas.{answered-so}
use Rattle.buffered_write.specs.Clears.{StopsClear}
use Rattle.buffered_write.specs.Truncates.{cut_reply}
use Rattle.buffered_write.proofs.DataReplyLemmas.{data-reply}

-- a fault that stopped a clearing is one that a cut may meet
may-cut : (to : ℕ) (f : Fault) → StopsClear f → may_meet true (Trunc to) f ≡ true
may-cut to (fault.Eio lane before after) is = refl
may-cut to (fault.Worn cookie) is = refl
may-cut to fault.NoMemory is = refl
may-cut to (fault.NoSpace wanted found) is = absurd is
may-cut to (fault.SyncEio seen count) is = absurd is
may-cut to (fault.Again why) is = absurd is
may-cut to (fault.NotAligned alignment) is = absurd is
may-cut to (fault.TooFar offset end) is = absurd is

-- a cut that met no fault did all of its range, and one that met a fault did less, or nothing
abbrev pub MayEnd : ℕ → ℕ → Option Fault → Type 0
MayEnd met count None = count ≡ met
MayEnd met count (Some f) = ((count ≡ 0) ⊎ (count < met)) × StopsClear f

module _ (size : ℕ) (range : Span) (to : ℕ) where
  data-so : (count : ℕ) (f : Option Fault) → MayEnd (span_length range) count f → is_data_reply size range true (Trunc to) (span_length range) (read_reply count count count f) ≡ true
  data-so count None may =
      subst (λ n. is_data_reply size range true (Trunc to) (span_length range) (read_reply n n count None) ≡ true) (sym may) (data-reply (Trunc to) refl size range (span_length range) count None (omega arith) may)
  data-so count (Some f) (inl none, kind) = subst (λ n. is_data_reply size range true (Trunc to) (span_length range) (short_reply n f) ≡ true) (sym none) (ap (λ b. b && true) (may-cut to f kind))
  data-so count (Some f) (inr few, kind) = data-reply (Trunc to) refl size range (span_length range) count (Some f) (omega arith) (few, may-cut to f kind)

-- the reply of a cut is lawful
pub lawful-cut : (grain size blocks to count : ℕ) (range : Span) (f : Option Fault) → (nat_lt (blocks * size) to ≡ false → MayEnd (span_length range) count f) → IsTrue (is_lawful_reply grain size blocks range true (Trunc to) (cut_reply (blocks * size) to count f))
lawful-cut grain size blocks to count range f may = at (nat_lt (blocks * size) to) refl
  where
    IsSo : Bool → Type 0
    IsSo far =
        (if far then is_too_far_at to (blocks * size) (if far then reply.Err (fault.TooFar to (blocks * size)) 0 else read_reply count count count f)
        else is_data_reply size range true (Trunc to) (span_length range) (if far then reply.Err (fault.TooFar to (blocks * size)) 0 else read_reply count count count f)) ≡ true

    at : (far : Bool) → nat_lt (blocks * size) to ≡ far → IsSo far
    at true e = ap (λ b. (b && (blocks * size == blocks * size)) && true) (eq-eqb to to refl) ∙ ap (λ b. b && true) (eq-eqb (blocks * size) (blocks * size) refl)
    at false e = data-so size range to count f (may e)

-- the answered bytes of a cut that was not too far are those that it cleared
pub answered-cut : (size : ℕ) → 0 < size → (stamp : Stamp) (to end count : ℕ) (f : Option Fault) → count ≤ end - to → stamps_over size (answered_in size (span to end) false (read_reply count count count f)) stamp ≡ stamps_over size (span to (to + count)) stamp
answered-cut size some stamp to end count f few =
    let whole : min (to + (end - to)) end ≡ end = omega arith in
    let long : span_length (range_in end to (end - to)) ≡ end - to = omega arith in
    let le : count ≤ span_length (range_in end to (end - to)) = omega (arith, few, long) in
    ap (λ r. stamps_over size r stamp) (same f (span to end) count count (end - to) (span_length (range_in end to (end - to))))
    ∙ ap (λ n. stamps_over size (answered_in size (span to n) false (read_reply (end - to) (span_length (range_in end to (end - to))) count f)) stamp) (sym whole)
    ∙ answered-so size some stamp end to (end - to) count f le
  where
    same : (f : Option Fault) (range : Span) (asked met other most : ℕ) → answered_in size range false (read_reply asked met count f) ≡ answered_in size range false (read_reply other most count f)
    same None range asked met other most = refl
    same (Some f) range asked met other most = refl

-- how a cut replies that is not too far, and one that is
pub reply-near : (end to count : ℕ) (f : Option Fault) → to ≤ end → cut_reply end to count f ≡ read_reply count count count f
reply-near end to count f le =
    let near : nat_lt end to ≡ false = grind (arith, nat_tests) in
    ap (λ b. if b then reply.Err (fault.TooFar to end) 0 else read_reply count count count f) near

pub reply-far : (end to : ℕ) → end < to → cut_reply end to 0 None ≡ reply.Err (fault.TooFar to end) 0
reply-far end to less =
    let far : nat_lt end to ≡ true = grind (arith, nat_tests) in
    ap (λ b. if b then reply.Err (fault.TooFar to end) 0 else read_reply 0 0 0 None) far
