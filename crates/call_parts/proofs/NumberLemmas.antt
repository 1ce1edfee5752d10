-- What the number of a call, its tag and its stamps come to.
use Rattle.std.proofs.Common.{inl, inr, ◌≡◌, ℕ, ◌+◌, ◌-◌, ◌<◌, ◌≤◌, ◌==◌, ◌++◌, ◌∷◌, [], List, min, Bool, true, false, Some, None, if◌then◌else◌, refl, sym, ap, ◌∙◌, subst, arith, append_assoc}
use Rattle.std.specs.Prelude.{◌&&◌, ◌/◌, IsTrue, Option, nat_lt}
use Rattle.std.proofs.lemmas.Bool.{cases_eq, eq-eqb, eqb-true}
use Rattle.std.proofs.lemmas.Bool.Decides.{nat_tests}
use Rattle.std.proofs.lemmas.List.Elements.{All-nil, All-cons}
use Rattle.iob_base.specs.declared.answer.Fault.{Fault}
use Rattle.iob_base.specs.declared.answer.Reply.TheVariants.{Ok, Err}
use Rattle.iob_base.specs.declared.answer.Stop.TheVariants.{Fault as Short}
use Rattle.iob_base.specs.declared.stamp.FileId.{FileId}
use Rattle.iob_base.specs.declared.stamp.Stamp.{Stamp}
use Rattle.iob_base.specs.declared.stamp.Tag.{Tag}
use Rattle.io_model.specs.Answered.{answered_in}
use Rattle.io_model.specs.Parts.{range_in, span, span_length}
use Rattle.range_core.specs.EntryStamps.{stamps_in, stamps_of}
use Rattle.range_core.specs.Stamps.{stamps_from}
use Rattle.range_core.specs.declared.entry.Entry.{Entry}
use Rattle.range_core.specs.declared.entry.Event.{Event}
use Rattle.mount_parts.specs.MountView.{MountView}
use Rattle.mini_fs.specs.Acts.Act.{Number}
use Rattle.mini_fs.specs.CallActs.{CallActs, IsActAt, is_tag, with_call}
use Rattle.mini_fs.specs.PassView.{PassView}
use Rattle.mini_fs.specs.TicketView.{TicketView}
use Rattle.mini_fs.specs.Tickets.{IsTicketOf}
use Rattle.call_parts.specs.Parts.{stamps_over}
use Rattle.call_parts.specs.Replies.{read_reply}
use Rattle.call_parts.proofs.PartLemmas.{over-none}

-- two lists of stamps put one after the other
pub stamps-append : (size : ℕ) (es more : List Entry) → stamps_in size (es ++ more) ≡ stamps_in size es ++ stamps_in size more
stamps-append size [] more = refl
stamps-append size (e ∷ es) more = ap (λ l. stamps_of size e ++ l) (stamps-append size es more) ∙ sym (append_assoc (stamps_of size e) (stamps_in size es) (stamps_in size more))

-- a call may make its own fetches
pub own-tag : (by : Tag) → is_tag by by ≡ true
own-tag by = ap (λ b. b && (by.call == by.call)) (eq-eqb by.caller by.caller refl) ∙ eq-eqb by.call by.call refl

-- a call of the number itself
pub call-numbered : (m : MountView) (file : FileId) (may : Event → Bool) (p : PassView) (call : ℕ) → CallActs m file may p (with_call p call) (Number call ∷ [])
call-numbered m file may p call = record {
  acted = (with_call p call, refl, refl);
  at_file = All-cons (IsActAt m file) (Number call) [] tt (All-nil (IsActAt m file));
  made = All-nil (λ (e : Entry). IsTrue (may e.event));
  closed = λ stripe. refl;
}

-- a call's number leaves the tickets
pub tickets-numbered : (p start : PassView) (call : ℕ) (t : TicketView) → start ≡ with_call p call → IsTicketOf p t → IsTicketOf start t
tickets-numbered p start call t is ticket = subst (λ s. IsTicketOf s t) (sym is) (record { caller = ticket.caller; seat = ticket.seat; here = ticket.here; loan = ticket.loan })

-- the answered bytes of a read are those that it did
module _ (size : ℕ) (some : 0 < size) (stamp : Stamp) (end off asked : ℕ) where
  answered-count : (count : ℕ) → count ≤ span_length (range_in end off asked) → stamps_over size (span off (min (min (off + asked) end) (off + count))) stamp ≡ stamps_over size (span off (off + count)) stamp
  answered-count count le = elim (cases_eq count 0) [
    | inl e ↦
        let none : nat_lt off (min (min (off + asked) end) (off + count)) ≡ false = grind (arith, nat_tests) in
        let same : nat_lt off (off + count) ≡ false = grind (arith, nat_tests) in
        over-empty off (min (min (off + asked) end) (off + count)) none ∙ sym (over-empty off (off + count) same)
    | inr n ↦
        let is : min (min (off + asked) end) (off + count) ≡ off + count = omega (arith, n, le) in
        ap (λ x. stamps_over size (span off x) stamp) is
  ]
    where
      over-empty : (from to : ℕ) → nat_lt from to ≡ false → stamps_over size (span from to) stamp ≡ []
      over-empty from to none = ap (λ b. stamps_from (from / size) (if b then (to - 1) / size + 1 - from / size else 0) stamp) none

  pub answered-so : (count : ℕ) (fault : Option Fault) → count ≤ span_length (range_in end off asked)
      → stamps_over size (answered_in size (range_in end off asked) false (read_reply asked (span_length (range_in end off asked)) count fault)) stamp ≡ stamps_over size (span off (off + count)) stamp
  answered-so count None le = answered-count count le
  answered-so count (Some fault) le = at (count == 0) refl
    where
      at : (b : Bool) → (count == 0) ≡ b → stamps_over size (answered_in size (range_in end off asked) false (if b then Err fault 0 else Ok count (Short fault))) stamp ≡ stamps_over size (span off (off + count)) stamp
      at true e =
          let none : count ≡ 0 = eqb-true count 0 e in
          let z : off ≡ off + count = omega (arith, none) in
          over-none size some stamp 0 ∙ sym (over-none size some stamp off) ∙ ap (λ x. stamps_over size (span off x) stamp) z
      at false e = answered-count count le
