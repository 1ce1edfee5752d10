-- Where callers stay apart within a phase, the journal of a block is the list of the calls that answered it.
use Rattle.std.proofs.Common.{◌≡◌, ℕ, zero, suc, ◌+◌, ◌<◌, ◌≤◌, ◌==◌, ◌&&◌, ◌||◌, Bool, true, false, not, nat_le, nat_lt, List, [], ◌∷◌, Some, length, IsTrue, refl, sym, ap, ◌∙◌, subst, arith, inl, inr}
use Rattle.std.proofs.lemmas.Bool.{and_parts, and_from, or_cases, eqb-true, eq-eqb, lt-ltb, leb-true, cases_lt, false≢true}
use Rattle.std.proofs.lemmas.Option.{slice_get_within}
use Rattle.std.proofs.lemmas.Slice.Eq.{bytes_eq-Decides}
use Rattle.std.specs.List.{list_all, list_any, slice_get}
use Rattle.std.specs.Str.{bytes_eq}
use Rattle.iob_base.specs.declared.stamp.Stamp.{Stamp}
use Rattle.io_model.specs.Journals.{IsLawfulJournal, are_answered, are_in_caller_order, are_in_phase_order, are_named_once, is_in_caller_order, is_in_phase_order, is_named, on_calls}
use Rattle.io_model.specs.Lists.{each_pair, is_some_and, numbered}
use Rattle.io_model.specs.OneOrder.{HasOneOrder, IsInScriptOrder, calls_of, has_answered, phases_rise, places_where, stay_apart, touches}
use Rattle.io_model.specs.Ranges.{Ranged, ranged_calls, ranged_from}
use Rattle.io_model.specs.declared.file.FileEnd.{FileEnd}
use Rattle.io_model.specs.declared.run.CallEnd.{CallEnd}
use Rattle.io_model.specs.declared.run.Run.{Run}
use Rattle.io_model.specs.declared.script.Call.{Call}
use Rattle.io_model.specs.declared.script.Script.{Script}
use Rattle.io_model.proofs.Blocks.{each_block-five, each_pair-numbered, meets_at, some_meets}
use Rattle.io_model.proofs.Orders.{places-have, places-rise, places-told}
use Rattle.io_model.proofs.Rising.{has, one_rising, rises}

-- a fact that holds unless another does not
told : (p q : Bool) → p ≡ true → IsTrue (not p || q) → IsTrue q
told true q is h = h
told false q is h = absurd (false≢true is)

-- a call with its range stands in the script under its number
ranged-place : (script : Script) (files : List FileEnd) (k : ℕ) (calls : List Call) (i : ℕ) (r : Ranged)
    → slice_get (ranged_from script files k calls) i ≡ Some r → slice_get calls i ≡ Some r.call
ranged-place script files k [] i r e = absurd (cc)
ranged-place script files k (call ∷ calls) zero r e = cc
ranged-place script files k (call ∷ calls) (suc i) r e = ranged-place script files (k + 1) calls i r e

ranged-numbered : (script : Script) (files : List FileEnd) (k : ℕ) (calls : List Call) (n : ℕ) (r : Ranged)
    → numbered (ranged_from script files k calls) n ≡ Some r → numbered calls n ≡ Some r.call
ranged-numbered script files k calls zero r e = absurd (cc)
ranged-numbered script files k calls (suc n) r e = ranged-place script files k calls n r e

numbered-within : {A : Type 0} (xs : List A) (n : ℕ) (x : A) → numbered xs n ≡ Some x → (1 ≤ n) × (n < 1 + length xs)
numbered-within xs zero x e = absurd (cc)
numbered-within xs (suc n) x e = let low = slice_get_within xs n x e in (omega arith, omega arith)

on_calls-at : (calls : List Call) (test : Call → Call → Bool) (n m : ℕ) (c d : Call) → numbered calls n ≡ Some c → numbered calls m ≡ Some d
    → IsTrue (on_calls calls test n m) → IsTrue (test c d)
on_calls-at calls test n m c d e f h = meets_at (test c) (numbered calls m) d f (meets_at (λ call. is_some_and (numbered calls m) (test call)) (numbered calls n) c e h)

-- the calls of a script with their ranges, whose phases rise and whose callers stay apart at a block
record StayApart (size f b : ℕ) (calls : List Call) (ranged : List Ranged) : Type 0 where
  place : (n : ℕ) (r : Ranged) → numbered ranged n ≡ Some r → numbered calls n ≡ Some r.call
  phases : IsTrue (phases_rise calls)
  apart : IsTrue (each_pair (stay_apart size f b) ranged)

-- two calls that touch a block are one caller's where the second is of no earlier phase, but stands no later in the script
one_caller : (size f b : ℕ) (calls : List Call) (ranged : List Ranged) → StayApart size f b calls ranged → (n m : ℕ) (r s : Ranged)
    → numbered ranged n ≡ Some r → numbered ranged m ≡ Some s → IsTrue (touches size f b r) → IsTrue (touches size f b s)
    → r.call.phase ≤ s.call.phase → m ≤ n → r.call.caller ≡ s.call.caller
one_caller size f b calls ranged st n m r s e g touch other phase high =
    elim (cases_lt m n) [
      | inl below ↦ (
          let rise = leb-true s.call.phase r.call.phase (each_pair-numbered (λ call later. nat_le call.phase later.phase) calls m n s.call r.call st.phases below (st.place m s g) (st.place n r e)) in
          let one = eq-eqb s.call.phase r.call.phase (omega arith) in
          let both = and_from (touches size f b s) (touches size f b r) other touch in
          let meet = and_from (s.call.phase == r.call.phase) (touches size f b s && touches size f b r) one both in
          let pair = each_pair-numbered (stay_apart size f b) ranged m n s r st.apart below g e in
          sym (eqb-true s.call.caller r.call.caller (told (s.call.phase == r.call.phase && (touches size f b s && touches size f b r)) (s.call.caller == r.call.caller) meet pair)))
      | inr above ↦ (let same : n ≡ m = omega arith in let is : r ≡ s = cc in ap (λ (x : Ranged). x.call.caller) is)
    ]

-- of two stamps the later names a later call
precedes : (size f b : ℕ) (calls : List Call) (ranged : List Ranged) → StayApart size f b calls ranged → (n m : ℕ)
    → IsTrue (is_some_and (numbered ranged n) (touches size f b)) → IsTrue (is_some_and (numbered ranged m) (touches size f b))
    → IsTrue (is_in_caller_order calls n m) → IsTrue (is_in_phase_order calls n m) → IsTrue (nat_lt n m)
precedes size f b calls ranged st n m touch other caller phase =
    let r = some_meets (touches size f b) (numbered ranged n) touch in
    let s = some_meets (touches size f b) (numbered ranged m) other in
    let c = st.place n r.0 r.1 in
    let d = st.place m s.0 s.1 in
    let own = on_calls-at calls (λ call next. not (call.caller == next.caller) || nat_lt n m) n m r.0.call s.0.call c d caller in
    let after = leb-true r.0.call.phase s.0.call.phase (on_calls-at calls (λ call next. nat_le call.phase next.phase) n m r.0.call s.0.call c d phase) in
    elim (cases_lt n m) [
      | inl below ↦ lt-ltb n m below
      | inr high ↦ told (r.0.call.caller == s.0.call.caller) (nat_lt n m)
          (eq-eqb r.0.call.caller s.0.call.caller (one_caller size f b calls ranged st n m r.0 s.0 r.1 s.1 r.2 s.2 after high)) own
    ]

-- stamps of which each later one names a later call
module _ (there : Stamp → Bool) (p q : Stamp → Stamp → Bool)
    (step : (x y : Stamp) → IsTrue (there x) → IsTrue (there y) → IsTrue (p x y) → IsTrue (q x y) → IsTrue (nat_lt x.call y.call)) where
  later_calls : (x : Stamp) (ys : List Stamp) → IsTrue (there x) → IsTrue (list_all there ys) → IsTrue (list_all (p x) ys) → IsTrue (list_all (q x) ys) → IsTrue (list_all (nat_lt x.call) (calls_of ys))
  later_calls x [] here all one two = refl
  later_calls x (y ∷ ys) here all one two =
      let a = and_parts (there y) (list_all there ys) all in
      let b = and_parts (p x y) (list_all (p x) ys) one in
      let c = and_parts (q x y) (list_all (q x) ys) two in
      and_from (nat_lt x.call y.call) (list_all (nat_lt x.call) (calls_of ys)) (step x y here a.0 b.0 c.0) (later_calls x ys here a.1 b.1 c.1)

  calls_rise : (stamps : List Stamp) → IsTrue (list_all there stamps) → IsTrue (each_pair p stamps) → IsTrue (each_pair q stamps) → IsTrue (rises (calls_of stamps))
  calls_rise [] all one two = refl
  calls_rise (x ∷ xs) all one two =
      let a = and_parts (there x) (list_all there xs) all in
      let b = and_parts (list_all (p x) xs) (each_pair p xs) one in
      let c = and_parts (list_all (q x) xs) (each_pair q xs) two in
      and_from (list_all (nat_lt x.call) (calls_of xs)) (rises (calls_of xs)) (later_calls x xs a.0 a.1 b.0 c.0) (calls_rise xs a.1 b.1 c.1)

-- a call is among those of the stamps where one of them names it
has-calls_of : (m : ℕ) (stamps : List Stamp) → has m (calls_of stamps) ≡ list_any (λ st. st.call == m) stamps
has-calls_of m [] = refl
has-calls_of m (x ∷ xs) = ap (λ t. (x.call == m) || t) (has-calls_of m xs)

-- and it is one of the script
named-within : (size : ℕ) (ranged : List Ranged) (makers : List ℕ) (f b m : ℕ) (stamps : List Stamp) → IsTrue (list_all (is_named size ranged makers f b) stamps)
    → IsTrue (list_any (λ st. st.call == m) stamps) → (1 ≤ m) × (m < 1 + length ranged)
named-within size ranged makers f b m [] all h = absurd (false≢true h)
named-within size ranged makers f b m (x ∷ xs) all h =
    let p = and_parts (is_named size ranged makers f b x) (list_all (is_named size ranged makers f b) xs) all in
    elim (or_cases (x.call == m) (list_any (λ st. st.call == m) xs) h) [
      | inl e ↦ (
          let r = some_meets (touches size f b) (numbered ranged x.call) (and_parts (is_some_and (numbered ranged x.call) (touches size f b)) _ p.0).0 in
          subst (λ k. (1 ≤ k) × (k < 1 + length ranged)) (eqb-true x.call m e) (numbered-within ranged x.call r.0 r.1))
      | inr later ↦ named-within size ranged makers f b m xs p.1 later
    ]

-- the journal of one block
block_in_order : (size f b : ℕ) (calls : List Call) (ranged : List Ranged) (makers : List ℕ) (ends : List CallEnd) → StayApart size f b calls ranged → (stamps : List Stamp)
    → IsTrue (are_named_once size ranged makers f b stamps) → IsTrue (are_answered size ranged ends f b stamps)
    → IsTrue (are_in_caller_order calls stamps) → IsTrue (are_in_phase_order calls stamps)
    → IsTrue (bytes_eq (calls_of stamps) (places_where (has_answered size f b) 1 ranged ends))
block_in_order size f b calls ranged makers ends st stamps named answered caller phase =
    let all = (and_parts (list_all (is_named size ranged makers f b) stamps) (each_pair (λ st later. not (st.call == later.call)) stamps) named).0 in
    let touch = λ (x : Stamp) (h : IsTrue (is_named size ranged makers f b x)). (and_parts (is_some_and (numbered ranged x.call) (touches size f b)) _ h).0 in
    let up = calls_rise (is_named size ranged makers f b) (λ x y. is_in_caller_order calls x.call y.call) (λ x y. is_in_phase_order calls x.call y.call)
    (λ x y h k one two. precedes size f b calls ranged st x.call y.call (touch x h) (touch y k) one two) stamps all caller phase in
    let names = λ (m : ℕ). list_any (λ (st : Stamp). st.call == m) stamps in
    (bytes_eq-Decides (calls_of stamps) (places_where (has_answered size f b) 1 ranged ends)).1
    (one_rising (calls_of stamps) (places_where (has_answered size f b) 1 ranged ends) up (places-rise (has_answered size f b) 1 ranged ends)
    (λ m h.
    let is : IsTrue (list_any (λ (st : Stamp). st.call == m) stamps) = sym (has-calls_of m stamps) ∙ h in
    let within = named-within size ranged makers f b m stamps all is in
    places-have (has_answered size f b) names 1 ranged ends answered m within.0 within.1 is)
    (λ m h. has-calls_of m stamps ∙ places-told (has_answered size f b) names 1 ranged ends answered m h))

-- where the callers of each phase stay apart, lawful journals are in the order of the script
pub one_order : (script : Script) (makers : List ℕ) (run : Run) → HasOneOrder script run → IsLawfulJournal script makers run → IsInScriptOrder script run
one_order script makers run one lawful =
    let size = script.geometry.block_size in
    let ranged = ranged_calls script run in
    each_block-five
    (λ f b block. each_pair (stay_apart size f b) ranged)
    (λ f b block. are_named_once size ranged makers f b block.journal)
    (λ f b block. are_answered size ranged run.calls f b block.journal)
    (λ f b block. are_in_caller_order script.calls block.journal)
    (λ f b block. are_in_phase_order script.calls block.journal)
    (λ f b block. bytes_eq (calls_of block.journal) (places_where (has_answered size f b) 1 ranged run.calls))
    (λ f b block apart named answered caller phase.
    block_in_order size f b script.calls ranged makers run.calls
    (record { place = ranged-numbered script run.ends.files 1 script.calls; phases = one.phases; apart = apart })
    block.journal named answered caller phase)
    run.ends.files one.apart lawful.named_once lawful.answered lawful.in_caller_order lawful.in_phase_order
