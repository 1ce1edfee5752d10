-- The reply of a read is lawful.
use Rattle.std.proofs.Common.{◌≡◌, ℕ, ◌*◌, ◌<◌, ◌≤◌, ◌==◌, sum, Bool, true, false, List, if◌then◌else◌, refl, sym, ap, ◌∙◌, subst, arith}
use Rattle.std.specs.Prelude.{◌&&◌, ◌||◌, Option, Some, None, IfNone, IfSome, IsTrue}
use Rattle.std.proofs.lemmas.Bool.{eq-eqb, eqb-true, lt-ltb}
use Rattle.std.proofs.lemmas.Bool.Decides.{nat_tests}
use Rattle.iob_base.specs.declared.answer.Fault.{Fault}
use Rattle.iob_base.specs.declared.answer.Reply.TheVariants.{Ok, Err}
use Rattle.iob_base.specs.declared.answer.Stop.TheVariants.{Whole, End}
use Rattle.iob_base.specs.declared.answer.Stop.TheVariants.{Fault as Short}
use Rattle.io_model.specs.Lawful.{is_data_reply, is_end_stop, is_lawful_reply, is_nothing_done, is_ranged_reply, may_meet}
use Rattle.io_model.specs.Parts.{Span, range_in, span_length}
use Rattle.io_model.specs.declared.script.Verb.TheVariants.{Pread}
use Rattle.call_parts.specs.Replies.{end_stop, read_reply, short_reply}

pub both-true : (a b c : Bool) → a ≡ true → b ≡ true → (a && b) || c ≡ true
both-true a b c one two = ap (λ x. (x && b) || c) one ∙ ap (λ x. x || c) two

-- a read stops whole where the file has all that was asked, and otherwise at the end
pub end-so : (asked met : ℕ) → met ≤ asked → is_end_stop met asked (end_stop asked met) ≡ true
end-so asked met some = at (met == asked) refl
  where
    at : (b : Bool) → (met == asked) ≡ b → is_end_stop met asked (if b then Whole else End) ≡ true
    at true e = e
    at false e = lt-ltb met asked (grind (arith, nat_tests))

module _ (size : ℕ) (range : Span) (waits : Bool) (off : ℕ) (lengths : List ℕ) where
  -- all that the file has of the bytes asked
  whole-so : (asked : ℕ) → span_length range ≤ asked → is_data_reply size range waits (Pread off lengths) asked (Ok (span_length range) (end_stop asked (span_length range))) ≡ true
  whole-so asked some = both-true _ _ _ (eq-eqb (span_length range) (span_length range) refl) (end-so asked (span_length range) some)

  -- bytes before a fault
  short-so : (asked count : ℕ) (fault : Fault) → count < span_length range → may_meet waits (Pread off lengths) fault ≡ true
      → is_data_reply size range waits (Pread off lengths) asked (short_reply count fault) ≡ true
  short-so asked count fault less may = at (count == 0) refl
    where
      at : (b : Bool) → (count == 0) ≡ b → is_data_reply size range waits (Pread off lengths) asked (if b then Err fault 0 else Ok count (Short fault)) ≡ true
      at true e = ap (λ b. b && true) may
      at false e = grind (arith, nat_tests)

  -- a fault stands only where bytes are left, and is one that a read may meet
  abbrev pub MayStop : ℕ → Option Fault → Type 0
  MayStop count fault = IfNone fault (count ≡ span_length range) × IfSome fault (λ f. (count < span_length range) × (may_meet waits (Pread off lengths) f ≡ true))

  data-so : (asked count : ℕ) (fault : Option Fault) → span_length range ≤ asked → MayStop count fault
      → is_data_reply size range waits (Pread off lengths) asked (read_reply asked (span_length range) count fault) ≡ true
  data-so asked count None some may = subst (λ n. is_data_reply size range waits (Pread off lengths) asked (Ok n (end_stop asked (span_length range))) ≡ true) (sym may.0) (whole-so asked some)
  data-so asked count (Some fault) some may = short-so asked count fault may.1.0 may.1.1

  none-so : (asked count : ℕ) (fault : Option Fault) → span_length range ≤ asked → asked ≡ 0 → MayStop count fault → is_nothing_done (read_reply asked (span_length range) count fault) ≡ true
  none-so asked count None some none may =
      let e : span_length range ≡ 0 = omega (arith, some, none) in
      let c : count ≡ 0 = may.0 ∙ e in
      subst (λ n. is_nothing_done (Ok count (end_stop n (span_length range))) ≡ true) (sym none)
      (subst (λ n. is_nothing_done (Ok n (end_stop 0 (span_length range))) ≡ true) (sym c)
      (subst (λ n. is_nothing_done (Ok 0 (end_stop 0 n)) ≡ true) (sym e) refl))
  none-so asked count (Some fault) some none may = absurd (let l = may.1.0 in omega (arith, l, some, none))

  pub ranged-so : (blocks count : ℕ) (fault : Option Fault) → span_length range ≤ sum lengths → MayStop count fault
      → is_ranged_reply size blocks range waits (Pread off lengths) (read_reply (sum lengths) (span_length range) count fault) ≡ true
  ranged-so blocks count fault some may = at (sum lengths == 0) refl
    where
      at : (b : Bool) → (sum lengths == 0) ≡ b
          → (if b then is_nothing_done (read_reply (sum lengths) (span_length range) count fault) else is_data_reply size range waits (Pread off lengths) (sum lengths) (read_reply (sum lengths) (span_length range) count fault)) ≡ true
      at true e = none-so (sum lengths) count fault some (eqb-true (sum lengths) 0 e) may
      at false e = data-so (sum lengths) count fault some may

-- the reply of a read is lawful
pub lawful-read : (grain size blocks off count : ℕ) (lengths : List ℕ) (waits : Bool) (fault : Option Fault) → MayStop size (range_in (blocks * size) off (sum lengths)) waits off lengths count fault
    → IsTrue (is_lawful_reply grain size blocks (range_in (blocks * size) off (sum lengths)) waits (Pread off lengths) (read_reply (sum lengths) (span_length (range_in (blocks * size) off (sum lengths))) count fault))
lawful-read grain size blocks off count lengths waits fault may = ranged-so size (range_in (blocks * size) off (sum lengths)) waits off lengths blocks count fault (omega arith) may
