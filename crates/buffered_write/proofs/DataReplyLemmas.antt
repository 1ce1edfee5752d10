-- What a call replies that goes through a range of bytes and is not direct: it is lawful.
use Rattle.std.proofs.Common.{inl, inr, ◌≡◌, ℕ, ◌+◌, ◌-◌, ◌<◌, ◌≤◌, ◌==◌, Bool, true, false, Some, None, refl, sym, ap, ◌∙◌, subst, arith, if◌then◌else◌}
use Rattle.std.specs.Prelude.{◌&&◌, ◌||◌, ◌%◌, IfSome, Option, nat_le, not}
use Rattle.std.proofs.lemmas.Bool.{eq-eqb}
use Rattle.std.proofs.lemmas.Bool.Decides.{nat_tests}
use Rattle.iob_base.specs.declared.answer.Fault.{Fault}
use Rattle.iob_base.specs.declared.answer.Fault.TheVariants as fault
use Rattle.iob_base.specs.declared.answer.Reply.TheVariants as reply
use Rattle.iob_base.specs.declared.answer.Stop.TheVariants.{Whole}
use Rattle.iob_base.specs.declared.answer.Stop.TheVariants.{Fault as Short}
use Rattle.io_model.specs.Calls.{is_direct}
use Rattle.io_model.specs.Lawful.{is_data_reply, is_nothing_done, is_too_far_at, may_meet, would_wait}
use Rattle.io_model.specs.Parts.{Span, blocks_met, range_in, span_length}
use Rattle.io_model.specs.declared.script.Verb.{Verb}
use Rattle.call_parts.specs.Replies.{end_stop, read_reply, short_reply}
use Rattle.call_parts.proofs.ReplyLemmas.{both-true, end-so}
use Rattle.buffered_write.specs.Lays.{EndsAt, IsLeftAfter}
use Rattle.buffered_write.specs.Pwrites.{has_room, write_reply}

module _ (v : Verb) (range : Span) where
  -- a fault stands only where bytes are left, and is one that the call may meet
  abbrev pub MayEnd : ℕ → Option Fault → Type 0
  MayEnd count None = count ≡ span_length range
  MayEnd count (Some f) = (count < span_length range) × (may_meet true v f ≡ true)

  -- a fault that a call met stands before its end
  pub ends-before : (size from to at : ℕ) (f : Option Fault) → span_length range ≡ to - from → from ≤ at → EndsAt size from to at f false → IfSome f (λ x. may_meet true v x ≡ true) → MayEnd (at - from) f
  ends-before size from to at None long low ends may = ap (λ n. n - from) ends ∙ sym long
  ends-before size from to at (Some f) long low ends may = ((let less = ends.0.0 in omega (arith, less, low, long)), may)

-- a fault stops a call where a block begins, or before it did anything
pub left-after : (size from to at : ℕ) (f : Option Fault) → from ≤ at → EndsAt size from to at f false → IfSome f (λ x. IsLeftAfter size from (at - from))
left-after size from to at None low ends = tt
left-after size from to at (Some f) low ends = elim ends.0.1 [
  | inl same ↦ inl (omega (arith, same))
  | inr whole ↦ (let there : from + (at - from) ≡ at = omega (arith, low) in inr (ap (λ n. n % size) there ∙ whole))
]

module _ (v : Verb) (plain : is_direct v ≡ false) (size : ℕ) (range : Span) where
  short-so : (asked count : ℕ) (f : Fault) → count < span_length range → may_meet true v f ≡ true → is_data_reply size range true v asked (short_reply count f) ≡ true
  short-so asked count f less may = at (count == 0) refl
    where
      at : (b : Bool) → (count == 0) ≡ b → is_data_reply size range true v asked (if b then reply.Err f 0 else reply.Ok count (Short f)) ≡ true
      at true e = ap (λ b. b && (if is_direct v && not (would_wait f) then nat_le 0 (blocks_met size range) else true)) may ∙ ap (λ d. if d && not (would_wait f) then nat_le 0 (blocks_met size range) else true) plain
      at false e = grind (arith, nat_tests)

  -- the reply of a call on the bytes of its range
  pub data-reply : (asked count : ℕ) (f : Option Fault) → span_length range ≤ asked → MayEnd v range count f → is_data_reply size range true v asked (read_reply asked (span_length range) count f) ≡ true
  data-reply asked count None some may =
      subst (λ n. is_data_reply size range true v asked (reply.Ok n (end_stop asked (span_length range))) ≡ true) (sym may)
      (both-true _ _ _ (eq-eqb (span_length range) (span_length range) refl) (end-so asked (span_length range) some))
  data-reply asked count (Some f) some may = short-so asked count f may.0 may.1

-- the reply of a call that has nothing to do without a byte, and is refused where it begins at or past the end of its file
pub roomed-reply : (v : Verb) (plain : is_direct v ≡ false) (size end off asked count : ℕ) (f : Option Fault) → (has_room end off asked ≡ true → MayEnd v (range_in end off asked) count f)
    → (if asked == 0 then is_nothing_done (write_reply end off asked count f)
    else (if nat_le end off || false then is_too_far_at off end (write_reply end off asked count f) else is_data_reply size (range_in end off asked) true v asked (write_reply end off asked count f))) ≡ true
roomed-reply v plain size end off asked count f may = at (asked == 0) (nat_le end off) refl refl
  where
    IsSo : Bool → Bool → Type 0
    IsSo none past =
        (if none then is_nothing_done (if none then reply.Ok 0 Whole else (if past then reply.Err (fault.TooFar off end) 0 else read_reply asked (span_length (range_in end off asked)) count f))
        else (if past || false then is_too_far_at off end (if none then reply.Ok 0 Whole else (if past then reply.Err (fault.TooFar off end) 0 else read_reply asked (span_length (range_in end off asked)) count f))
        else is_data_reply size (range_in end off asked) true v asked (if none then reply.Ok 0 Whole else (if past then reply.Err (fault.TooFar off end) 0 else read_reply asked (span_length (range_in end off asked)) count f)))) ≡ true

    at : (none past : Bool) → (asked == 0) ≡ none → nat_le end off ≡ past → IsSo none past
    at true past e g = refl
    at false true e g = ap (λ b. (b && (end == end)) && true) (eq-eqb off off refl) ∙ ap (λ b. b && true) (eq-eqb end end refl)
    at false false e g = data-reply v plain size (range_in end off asked) asked count f (omega arith) (may (ap (λ b. not b && not (nat_le end off)) e ∙ ap not g))
