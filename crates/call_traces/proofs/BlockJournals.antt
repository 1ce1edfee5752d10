-- The journal of one block of a run whose trace is that of a script.
use Rattle.std.proofs.Common.{◌≡◌, ℕ, zero, suc, ◌+◌, ◌*◌, ◌<◌, ◌≤◌, ◌==◌, ◌&&◌, inl, inr, Bool, true, false, not, List, [], ◌∷◌, length, Some, if◌then◌else◌, refl, sym, ap, ◌∙◌, arith}
use Rattle.std.specs.Prelude.{All, slice_get}
use Rattle.std.specs.List.{list_all, list_any}
use Rattle.std.proofs.lemmas.Bool.{and_from, and_parts, cases_eq, eq-eqb, eqb-true, ne_eqb}
use Rattle.std.proofs.lemmas.List.Elements.{All-head, All-tail}
use Rattle.iob_base.specs.declared.stamp.FileId.{FileId}
use Rattle.iob_base.specs.declared.stamp.Mark.TheVariants.{Done}
use Rattle.iob_base.specs.declared.stamp.Stamp.{Stamp}
use Rattle.io_model.specs.Answered.{answered_span, is_answered}
use Rattle.io_model.specs.Calls.{is_data_call, is_direct}
use Rattle.io_model.specs.Journals.{are_answered, are_marked, are_named_once, is_named, may_be_marked}
use Rattle.io_model.specs.Lists.{each_pair, is_some_and, numbered, same}
use Rattle.io_model.specs.Parts.{meets}
use Rattle.io_model.specs.Ranges.{Ranged, ranged_calls}
use Rattle.io_model.specs.declared.run.CallEnd.{CallEnd}
use Rattle.io_model.specs.declared.run.Run.{Run}
use Rattle.io_model.specs.declared.script.Call.{Call}
use Rattle.io_model.specs.declared.script.Script.{Script}
use Rattle.turn_cell.specs.Stakes.{total}
use Rattle.range_core.specs.EntryCounts.{one_where}
use Rattle.range_core.specs.Stamps.{done_by}
use Rattle.mount_parts.proofs.Places.{all-at}
use Rattle.mini_fs.specs.CallActs.{tag_of}
use Rattle.call_traces.specs.Journals.{answer_weight}
use Rattle.call_traces.specs.Orders.{is_stamp_of, times_stamped}
use Rattle.call_traces.specs.Runs.{file_in}
use Rattle.call_traces.specs.ScriptTraces.{IsCallOf, TracesScript, is_call}
use Rattle.call_traces.specs.SeatTraces.{all_calls}
use Rattle.call_traces.specs.Traces.{Traced}
use Rattle.call_traces.proofs.Ranging.{answered-meets, call-numbered, calls-long, number-within}
use Rattle.call_traces.proofs.TestLemmas.{all-where, any-times, both-from, counted-there, no-call-twice, total-less}

-- what weighs nothing in each of some items weighs nothing in all
pub total-none : {A : Type 0} (f : A → ℕ) (xs : List A) → All (λ x. f x ≡ 0) xs → total f xs ≡ 0
total-none f [] none = refl
total-none f (x ∷ xs) none = omega (arith, All-head (λ y. f y ≡ 0) x xs none, total-none f xs (All-tail (λ y. f y ≡ 0) x xs none))

-- and what each weighs so often as it is counted, all weigh so often
total-scaled : {A : Type 0} (f g : A → ℕ) (v : ℕ) (xs : List A) → All (λ x. f x ≡ g x * v) xs → total f xs ≡ total g xs * v
total-scaled f g v [] each = (let e : 0 ≡ 0 * v = grind arith in e)
total-scaled f g v (x ∷ xs) each =
    let first = All-head (λ y. f y ≡ g y * v) x xs each in
    let rest = total-scaled f g v xs (All-tail (λ y. f y ≡ g y * v) x xs each) in
    let spread : (g x + total g xs) * v ≡ g x * v + total g xs * v = grind arith in
    omega (arith, first, rest, spread)

-- a stamp counts no more than its call
pub weighs-few : (t is : Bool) → (if t then one_where is else 0) ≤ one_where is
weighs-few true is = omega arith
weighs-few false is = omega arith

module _ (script : Script) (makers : List ℕ) (run : Run) (phases : List (List (List Traced))) (closing : List Traced) (trace : TracesScript script makers run phases closing) (f b : ℕ) (journal : List Stamp)
    (weighs : (w : Stamp → ℕ) → total w journal ≡ total (answer_weight script.geometry.block_size (file_in f) b w) (all_calls phases)) where
  abbrev size : ℕ
  size = script.geometry.block_size

  abbrev ranges : List Ranged
  ranges = ranged_calls script run

  -- a call answered the block
  abbrev pub met : Traced → Bool
  met c = (c.file.0 == f) && meets size c.answered b

  -- what holds of the stamp of each call that answered the block holds of each stamp
  each-stamp : (test : Stamp → Bool) → ((c : Traced) → IsCallOf script makers run c → met c ≡ true → test (done_by (tag_of c.before c.number)) ≡ true) → list_all test journal ≡ true
  each-stamp test holds = all-where test journal (weighs (λ st. one_where (not (test st))) ∙ total-none (answer_weight size (file_in f) b (λ st. one_where (not (test st)))) (all_calls phases) (λ i d below. none _ (trace.calls i d below)))
    where
      none : (c : Traced) → IsCallOf script makers run c → answer_weight size (file_in f) b (λ st. one_where (not (test st))) c ≡ 0
      none c is = at (met c) refl
        where
          at : (t : Bool) → met c ≡ t → answer_weight size (file_in f) b (λ st. one_where (not (test st))) c ≡ 0
          at true e = ap (λ t. if t then one_where (not (test (done_by (tag_of c.before c.number)))) else 0) e ∙ ap (λ t. one_where (not t)) (holds c is e)
          at false e = ap (λ t. if t then one_where (not (test (done_by (tag_of c.before c.number)))) else 0) e

  -- each stamp names its call
  named : list_all (is_named size ranges makers f b) journal ≡ true
  named = each-stamp (is_named size ranges makers f b) by
    where
      by : (c : Traced) → IsCallOf script makers run c → met c ≡ true → is_named size ranges makers f b (done_by (tag_of c.before c.number)) ≡ true
      by c is e =
          let both = and_parts (c.file.0 == f) (meets size c.answered b) e in
          let answered = and_parts (is_data_call is.call.call.verb) (meets size (answered_span size is.call is.end.answer.reply) b) (is.answered b ∙ both.1) in
          let range = answered-meets size is.call.range (is_direct is.call.call.verb) is.end.answer.reply b answered.1 in
          let file : (is.call.call.file.0 == f) ≡ true = ap (λ (g : FileId). g.0 == f) (sym is.file_is) ∙ both.0 in
          let call : (is_data_call is.call.call.verb && (is.call.call.file.0 == f && meets size is.call.range b)) ≡ true = and_from _ _ answered.0 (and_from _ _ file range) in
          and_from _ _ (ap (λ o. is_some_and o (λ (r : Ranged). is_data_call r.call.verb && (r.call.file.0 == f && meets size r.range b))) is.call_is ∙ call)
          (ap (λ o. is_some_and o (λ m. m == c.before.caller)) is.maker ∙ eq-eqb c.before.caller c.before.caller refl)

  -- no call has two stamps
  pub few-stamps : (n : ℕ) → times_stamped n journal ≤ 1
  few-stamps n =
      let w = weighs (is_stamp_of n) in
      let less = total-less (answer_weight size (file_in f) b (is_stamp_of n)) (is_call n) (λ c. weighs-few (met c) (c.number == n)) (all_calls phases) in
      let one : total (is_call n) (all_calls phases) ≤ 1 = at (total (is_call n) (all_calls phases)) refl in
      omega (arith, w, less, one)
    where
      at : (m : ℕ) → total (is_call n) (all_calls phases) ≡ m → total (is_call n) (all_calls phases) ≤ 1
      at zero e = omega (arith, e)
      at (suc m) e =
          let found = counted-there (λ (c : Traced). c.number == n) (all_calls phases) (omega (arith, e)) in
          let is = all-at (IsCallOf script makers run) (all_calls phases) found.0 found.1 trace.calls found.2 in
          let same : found.1.number ≡ n = eqb-true found.1.number n found.3 in
          let within = number-within ranges n is.call (ap (numbered ranges) (sym same) ∙ is.call_is) in
          let low = within.0 in
          let high = within.1 in
          let long = calls-long script run in
          let once = trace.once n low (omega (arith, high, long)) in
          omega (arith, once)

  pub twice : each_pair (λ st later. not (st.call == later.call)) journal ≡ true
  twice = no-call-twice journal few-stamps

  pub named-once : are_named_once size ranges makers f b journal ≡ true
  named-once = and_from _ _ named twice

  -- a call that has a number and answered the block as this one, or not
  pub counts : (n : ℕ) (v : Bool) → 0 < n → n ≤ length script.calls → ((c : Traced) → IsCallOf script makers run c → c.number ≡ n → met c ≡ v) → times_stamped n journal ≡ one_where v
  counts n v low high is_so =
      let once : total (is_call n) (all_calls phases) ≡ 1 = trace.once n low high in
      let all = total-scaled (answer_weight size (file_in f) b (is_stamp_of n)) (is_call n) (one_where v) (all_calls phases) (λ i d below. scaled _ (trace.calls i d below)) in
      let one : total (is_call n) (all_calls phases) * one_where v ≡ one_where v = ap (λ k. k * one_where v) once ∙ (let e : 1 * one_where v ≡ one_where v = omega arith in e) in
      weighs (is_stamp_of n) ∙ all ∙ one
    where
      scaled : (c : Traced) → IsCallOf script makers run c → answer_weight size (file_in f) b (is_stamp_of n) c ≡ is_call n c * one_where v
      scaled c is = elim (cases_eq c.number n) [
        | inl e ↦
            let here : (c.number == n) ≡ true = eq-eqb c.number n e in
            ap (λ t. if t then one_where (c.number == n) else 0) (is_so c is e) ∙ ap (λ t. if v then one_where t else 0) here ∙ by v ∙ sym (ap (λ t. one_where t * one_where v) here)
        | inr apart ↦
            let there : (c.number == n) ≡ false = ne_eqb c.number n apart in
            ap (λ t. if met c then one_where t else 0) there ∙ none (met c) ∙ sym (ap (λ t. one_where t * one_where v) there)
      ]
        where
          by : (t : Bool) → (if t then one_where true else 0) ≡ one_where true * one_where t
          by true = refl
          by false = refl

          none : (t : Bool) → (if t then one_where false else 0) ≡ one_where false * one_where v
          none true = (let e : 0 ≡ 0 * one_where v = grind arith in e)
          none false = (let e : 0 ≡ 0 * one_where v = grind arith in e)

  -- whether a call of the script answered the block
  pub call-met : (c : Traced) (n : ℕ) (r : Ranged) (end : CallEnd) → IsCallOf script makers run c → c.number ≡ n → numbered ranges n ≡ Some r → numbered run.calls n ≡ Some end → met c ≡ (r.call.file.0 == f && is_answered size r end.answer.reply b)
  call-met c n r end is same here there =
      let call : is.call ≡ r = (let e : Some is.call ≡ Some r = sym is.call_is ∙ ap (numbered ranges) same ∙ here in cc) in
      let ended : is.end ≡ end = (let e : Some is.end ≡ Some end = sym is.end_is ∙ ap (numbered run.calls) same ∙ there in cc) in
      ap (λ t. (c.file.0 == f) && t) (sym (is.answered b))
      ∙ ap (λ (g : FileId). (g.0 == f) && is_answered size is.call is.end.answer.reply b) is.file_is
      ∙ ap (λ (x : Ranged). (x.call.file.0 == f) && is_answered size x is.end.answer.reply b) call
      ∙ ap (λ (x : CallEnd). (r.call.file.0 == f) && is_answered size r x.answer.reply b) ended

  pub answered : are_answered size ranges run.calls f b journal ≡ true
  answered = both-from _ 1 ranges run.calls (calls-long script run ∙ sym trace.ends) by
    where
      by : (i : ℕ) (r : Ranged) (end : CallEnd) → slice_get ranges i ≡ Some r → slice_get run.calls i ≡ Some end → same (list_any (λ st. st.call == 1 + i) journal) (r.call.file.0 == f && is_answered size r end.answer.reply b) ≡ true
      by i r end here there =
          let n : 1 + i ≡ suc i = omega arith in
          let within = number-within ranges (suc i) r here in
          let high = within.1 in
          let long = calls-long script run in
          let times = counts (suc i) (r.call.file.0 == f && is_answered size r end.answer.reply b) (omega arith) (omega (arith, high, long)) (λ c is same. call-met c (suc i) r end is same here there) in
          any-times (1 + i) (r.call.file.0 == f && is_answered size r end.answer.reply b) journal (ap (λ k. times_stamped k journal) n ∙ times)

  -- all stamps are of calls that were done
  pub marked : are_marked script run.calls journal ≡ true
  marked = each-stamp (λ st. is_some_and (numbered script.calls st.call) (λ call. is_some_and (numbered run.calls st.call) (may_be_marked st.mark call))) by
    where
      by : (c : Traced) → IsCallOf script makers run c → met c ≡ true → is_some_and (numbered script.calls c.number) (λ call. is_some_and (numbered run.calls c.number) (may_be_marked Done call)) ≡ true
      by c is e =
          ap (λ o. is_some_and o (λ (call : Call). is_some_and (numbered run.calls c.number) (may_be_marked Done call))) (call-numbered script run c.number is.call is.call_is)
          ∙ ap (λ o. is_some_and o (may_be_marked Done is.call.call)) is.end_is
