-- What a lawful reply says of where a call ended that has bytes in a block.
use Rattle.std.proofs.Common.{◌≡◌, ℕ, ◌+◌, ◌*◌, ◌<◌, ◌⊎◌, inl, inr, ⊎_elim, Bool, true, false, not, ◌==◌, ◌&&◌, ◌||◌, min, max, Option, Some, None, if◌then◌else◌, refl, sym, ap, ◌∙◌, arith}
use Rattle.std.specs.Prelude.{IfSome, nat_le, nat_lt}
use Rattle.std.proofs.lemmas.Bool.{and_parts, eqb-true, lt-ltb, ltb-true}
use Rattle.iob_base.specs.declared.answer.Fault.{Fault}
use Rattle.iob_base.specs.declared.answer.Reply.{Reply}
use Rattle.iob_base.specs.declared.answer.Reply.TheVariants.{Ok, Err}
use Rattle.iob_base.specs.declared.answer.Stop.{Stop}
use Rattle.iob_base.specs.declared.answer.Stop.TheVariants.{Whole, End}
use Rattle.iob_base.specs.declared.answer.Stop.TheVariants.{Fault as Short}
use Rattle.io_model.specs.Answered.{answered_in}
use Rattle.io_model.specs.Calls.{is_direct}
use Rattle.io_model.specs.Lawful.{is_data_reply, is_end_stop, is_nothing_done, is_short_stop, is_too_far_at, may_meet, would_wait}
use Rattle.io_model.specs.Parts.{Span, meets, span_length}
use Rattle.io_model.specs.declared.script.Verb.{Verb}
use Rattle.range_core.specs.Spots.{is_met}
use Rattle.call_parts.specs.Replies.{read_reply}
use Rattle.buffered_write.specs.Lays.{IsLeftAfter}
use Rattle.call_traces.proofs.ToldLemmas.{EndsRight}

or-none : (t : Bool) → (t || false) ≡ true → t ≡ true
or-none true e = refl
or-none false e = e

module _ (size b : ℕ) (range : Span) where
  -- the bytes that a reply speaks of have some in the block
  abbrev pub Answers : Reply → Type 0
  Answers reply = meets size (answered_in size range false reply) b ≡ true

  -- a reply that speaks of some bytes counts some
  pub counts-some : (n : ℕ) (stop : Stop) → Answers (Ok n stop) → (max range.from (b * size) < min (min range.to (range.from + n)) ((b + 1) * size)) × (0 < n)
  counts-some n stop met = let lies : max range.from (b * size) < min (min range.to (range.from + n)) ((b + 1) * size) = ltb-true _ _ met in (lies, omega (arith, lies))

  pub errs-nothing : (fault : Fault) (sent : ℕ) → Answers (Err fault sent) → ⊥
  errs-nothing fault sent met = let lies : max 0 (b * size) < min 0 ((b + 1) * size) = ltb-true _ _ met in omega (arith, lies)

  -- it is then no reply of a call that asked nothing or was refused
  pub data-reply : (reply : Reply) → Answers reply → (t u : Bool) (x y : ℕ) (d : Bool) → (if t then is_nothing_done reply else (if u then is_too_far_at x y reply else d)) ≡ true → d ≡ true
  data-reply (Err fault sent) met t u x y d is = absurd (errs-nothing fault sent met)
  data-reply (Ok n stop) met true u x y d is = absurd (let some = counts-some n stop met in let none = eqb-true n 0 (and_parts (n == 0) _ is).0 in omega (arith, some.1, none))
  data-reply (Ok n stop) met false true x y d is = absurd (cc)
  data-reply (Ok n stop) met false false x y d is = is

  module _ (verb : Verb) (asked : ℕ) where
    abbrev IsData : Reply → Type 0
    IsData reply = is_data_reply size range true verb asked reply ≡ true

    -- a reply that stops at the end counts all bytes of the range, and one that stops short fewer
    counts-all : (n : ℕ) (stop : Stop) → (stop ≡ Whole) ⊎ (stop ≡ End) → IsData (Ok n stop) → n ≡ span_length range
    counts-all n stop (inl whole) data_is =
        eqb-true n (span_length range) (and_parts (n == span_length range) _ (or-none _ (sym (ap (λ s. (n == span_length range && is_end_stop (span_length range) asked s) || is_short_stop true verb (span_length range) n s) whole) ∙ data_is))).0
    counts-all n stop (inr end) data_is =
        eqb-true n (span_length range) (and_parts (n == span_length range) _ (or-none _ (sym (ap (λ s. (n == span_length range && is_end_stop (span_length range) asked s) || is_short_stop true verb (span_length range) n s) end) ∙ data_is))).0

    counts-fewer : (n : ℕ) (fault : Fault) → IsData (Ok n (Short fault)) → n < span_length range
    counts-fewer n fault data_is = by (n == span_length range) data_is
      where
        by : (t : Bool) → ((t && false) || ((nat_le 1 n && nat_lt n (span_length range)) && (may_meet true verb fault && (not (is_direct verb) || would_wait fault)))) ≡ true → n < span_length range
        by true is = fewer is
          where
            fewer : ((nat_le 1 n && nat_lt n (span_length range)) && (may_meet true verb fault && (not (is_direct verb) || would_wait fault))) ≡ true → n < span_length range
            fewer is = ltb-true n (span_length range) (and_parts (nat_le 1 n) (nat_lt n (span_length range)) (and_parts _ _ is).0).1
        by false is = ltb-true n (span_length range) (and_parts (nat_le 1 n) (nat_lt n (span_length range)) (and_parts _ _ is).0).1

    -- such a call did its range up to its end, or up to where a block begins
    pub ends-right : (met count : ℕ) (fault : Option Fault) (whole : ℕ) → IfSome fault (λ f. IsLeftAfter size range.from count) → IsData (read_reply whole met count fault) → Answers (read_reply whole met count fault)
        → (is_met size range.from (range.from + count) b ≡ true) × EndsRight size (range.from + count) range.to
    ends-right met count None whole stops data_is answers = by (met == whole) data_is answers
      where
        all : (stop : Stop) → (stop ≡ Whole) ⊎ (stop ≡ End) → IsData (Ok count stop) → Answers (Ok count stop) → (is_met size range.from (range.from + count) b ≡ true) × EndsRight size (range.from + count) range.to
        all stop end data_is answers =
            let some = (counts-some count stop answers).0 in
            let same = counts-all count stop end data_is in
            (lt-ltb _ _ (omega (arith, some)), inl (omega (arith, some, same)))

        by : (t : Bool) → IsData (Ok count (if t then Whole else End)) → Answers (Ok count (if t then Whole else End)) → (is_met size range.from (range.from + count) b ≡ true) × EndsRight size (range.from + count) range.to
        by true = all Whole (inl refl)
        by false = all End (inr refl)
    ends-right met count (Some fault) whole stops data_is answers = by (count == 0) data_is answers
      where
        by : (t : Bool) → IsData (if t then Err fault 0 else Ok count (Short fault)) → Answers (if t then Err fault 0 else Ok count (Short fault)) → (is_met size range.from (range.from + count) b ≡ true) × EndsRight size (range.from + count) range.to
        by true data_is answers = absurd (errs-nothing fault 0 answers)
        by false data_is answers =
            let some = counts-some count (Short fault) answers in
            let fewer = counts-fewer count fault data_is in
            let lies = some.0 in
            (lt-ltb _ _ (omega (arith, lies)), inr (omega (arith, lies, fewer), ⊎_elim (λ (none : count ≡ 0). absurd (omega (arith, none, some.1))) (λ border. border) stops))
