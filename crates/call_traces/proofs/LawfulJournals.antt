-- A run whose trace is that of a script has lawful journals.
use Rattle.std.proofs.Common.{◌≡◌, ◌≢◌, ℕ, zero, suc, ◌+◌, ◌<◌, ◌≤◌, ◌==◌, ◌&&◌, inl, inr, Bool, true, false, not, List, [], ◌∷◌, ◌++◌, Some, if◌then◌else◌, refl, sym, ap, ◌∙◌, subst, arith, append-nil}
use Rattle.std.specs.Prelude.{◌||◌, All, nat_le, nat_lt, slice_get}
use Rattle.std.proofs.lemmas.Bool.{eq-eqb, eqb-false, eqb-true, leb-false, ltb-false, not-false, or_parts, true≢false}
use Rattle.std.proofs.lemmas.List.Elements.{All-weaker}
use Rattle.iob_base.specs.DeviceBlock.{DeviceBlock}
use Rattle.iob_base.specs.Layout.{Layout}
use Rattle.iob_base.specs.declared.stamp.Stamp.{Stamp}
use Rattle.io_model.specs.Journals.{each_block, is_in_caller_order, is_in_phase_order}
use Rattle.io_model.specs.Lists.{each_from, each_pair, is_some_and, numbered}
use Rattle.io_model.specs.Parts.{meets}
use Rattle.io_model.specs.Ranges.{ranged_calls}
use Rattle.io_model.specs.declared.file.BlockEnd.{BlockEnd}
use Rattle.io_model.specs.declared.file.FileEnd.{FileEnd}
use Rattle.io_model.specs.declared.file.FileSpec.{FileSpec}
use Rattle.io_model.specs.declared.run.Run.{Run}
use Rattle.io_model.specs.declared.script.Call.{Call}
use Rattle.io_model.specs.declared.script.Script.{Script}
use Rattle.turn_cell.specs.Stakes.{total}
use Rattle.turn_cell.proofs.Sums.{total-append}
use Rattle.range_core.specs.EntryCounts.{one_where}
use Rattle.range_core.specs.Stamps.{done_by}
use Rattle.mount_parts.specs.MountView.{MountView, stripe_at}
use Rattle.mount_parts.specs.declared.file.FilePlace.{FilePlace}
use Rattle.mount_parts.proofs.Places.{all-at, there, within}
use Rattle.mini_fs.specs.CallActs.{tag_of}
use Rattle.call_traces.specs.Journals.{answer_weight, answers, journal_of}
use Rattle.call_traces.specs.Orders.{StandsBefore, is_stamp_of, times_stamped}
use Rattle.call_traces.specs.Runs.{IsRun, file_in}
use Rattle.call_traces.specs.ScriptTraces.{AnswersNothing, IsCallOf, RunsHaveLawfulJournals, TracesScript, caller_in, is_call, phase_in}
use Rattle.call_traces.specs.SeatTraces.{ComesBefore, IsWithin, all_calls}
use Rattle.call_traces.specs.Traces.{IsTraced, Traced}
use Rattle.call_traces.proofs.BlockJournals.{answered, call-met, counts, marked, met, named-once, total-none, twice, weighs-few}
use Rattle.call_traces.proofs.JournalLemmas.{keep-order, phases-traced}
use Rattle.call_traces.proofs.OrderLemmas.{absent-anywhere, order-kept}
use Rattle.call_traces.proofs.Ranging.{call-numbered, calls-long, number-within}
use Rattle.call_traces.proofs.RunLemmas.{LeftAt, left-at, run-calls}
use Rattle.call_traces.proofs.ScriptOrders.{IsBefore, all-append, all-left, first-phases, phases-order}
use Rattle.call_traces.proofs.TestLemmas.{counted-there, each-from, pair-both, total-less}

-- a test that holds of each block of each file holds of all
each-block : (test : ℕ → ℕ → BlockEnd → Bool) (files : List FileEnd) → ((f b : ℕ) (end : FileEnd) (block : BlockEnd) → slice_get files f ≡ Some end → slice_get end.blocks b ≡ Some block → test f b block ≡ true) → each_block test files ≡ true
each-block test files holds =
    each-from (λ f file. each_from (test f) 0 file.blocks) 0 files (λ f end at.
    each-from (test (0 + f)) 0 end.blocks (λ b block here. (let e : 0 + f ≡ f = omega arith in let g : 0 + b ≡ b = omega arith in ap (λ k. test k (0 + b) block) e ∙ ap (λ k. test f k block) g) ∙ holds f b end block at here))

module _ (geometry : Layout) (cookie : ℕ) (sectors : List DeviceBlock) (files : List FileSpec) (script : Script) (makers : List ℕ) (run : Run) (phases : List (List (List Traced))) (closing : List Traced)
    (did : IsRun geometry cookie sectors files (phases ++ (closing ∷ []) ∷ []) run.ends) (sized : did.mount.geometry.block_size ≡ script.geometry.block_size) (trace : TracesScript script makers run phases closing) where
  abbrev size : ℕ
  size = script.geometry.block_size

  abbrev calls : List Traced
  calls = all_calls phases

  abbrev IsCall : Traced → Type 0
  IsCall = IsCallOf script makers run

  -- what closed the files left no stamps
  weighs : (f b : ℕ) (file : FilePlace) (end : FileEnd) (block : BlockEnd) → slice_get did.mount.files f ≡ Some file → slice_get run.ends.files f ≡ Some end → slice_get end.blocks b ≡ Some block
      → (w : Stamp → ℕ) → total w block.journal ≡ total (answer_weight size (file_in f) b w) calls
  weighs f b file end block file_at end_at block_at w =
      let g : Traced → ℕ = answer_weight size (file_in f) b w in
      let all = run-calls geometry cookie sectors files (phases ++ (closing ∷ []) ∷ []) run.ends did f b file end block file_at end_at block_at w in
      let parts : total g (all_calls (phases ++ (closing ∷ []) ∷ [])) ≡ total g calls + total g ((closing ++ []) ++ []) = ap (total g) (all-append phases ((closing ∷ []) ∷ [])) ∙ total-append g calls ((closing ++ []) ++ []) in
      let bare : total g ((closing ++ []) ++ []) ≡ total g closing = ap (total g) (append-nil (closing ++ []) ∙ append-nil closing) in
      let none : total g closing ≡ 0 = total-none g closing (All-weaker (AnswersNothing script makers run) (λ c. g c ≡ 0) (λ c nothing. silent c (nothing b)) closing trace.closes) in
      let same : total (answer_weight did.mount.geometry.block_size (file_in f) b w) (all_calls (phases ++ (closing ∷ []) ∷ [])) ≡ total g (all_calls (phases ++ (closing ∷ []) ∷ [])) = ap (λ s. total (answer_weight s (file_in f) b w) (all_calls (phases ++ (closing ∷ []) ∷ []))) sized in
      omega (arith, all, parts, bare, none, same)
    where
      silent : (c : Traced) → meets size c.answered b ≡ false → answer_weight size (file_in f) b w c ≡ 0
      silent c nothing = by (c.file.0 == f) (meets size c.answered b) nothing
        where
          by : (t u : Bool) → u ≡ false → (if t && u then w (done_by (tag_of c.before c.number)) else 0) ≡ 0
          by true u e = ap (λ v. if v then w (done_by (tag_of c.before c.number)) else 0) e
          by false u e = refl

  module _ (f b : ℕ) (file : FilePlace) (end : FileEnd) (block : BlockEnd) (file_at : slice_get did.mount.files f ≡ Some file) (end_at : slice_get run.ends.files f ≡ Some end) (block_at : slice_get end.blocks b ≡ Some block) where
    abbrev journal : List Stamp
    journal = block.journal

    abbrev stripe : ℕ
    stripe = stripe_at did.mount (file_in f) b

    weigh : (w : Stamp → ℕ) → total w journal ≡ total (answer_weight size (file_in f) b w) calls
    weigh = weighs f b file end block file_at end_at block_at

    left : LeftAt geometry cookie sectors files (phases ++ (closing ∷ []) ∷ []) run.ends did f b block
    left = left-at geometry cookie sectors files (phases ++ (closing ∷ []) ∷ []) run.ends did f b file end block file_at end_at block_at

    -- a call whose stamp stands in the journal
    caller-of : (n : ℕ) → 0 < times_stamped n journal → (i : ℕ) × (c : Traced) × (slice_get calls i ≡ Some c) × (c.number ≡ n)
    caller-of n some =
        let w = weigh (is_stamp_of n) in
        let less = total-less (answer_weight size (file_in f) b (is_stamp_of n)) (is_call n) (λ c. weighs-few (met script makers run phases closing trace f b journal weigh c) (c.number == n)) calls in
        let found = counted-there (λ (c : Traced). c.number == n) calls (omega (arith, some, w, less)) in
        (found.0, found.1, found.2, eqb-true found.1.number n found.3)

    -- how often a call stands there
    own-times : (c : Traced) → IsCall c → times_stamped c.number journal ≡ answers size (file_in f) b c.number c
    own-times c is =
        let bounds = number-within (ranged_calls script run) c.number is.call is.call_is in
        let high = bounds.1 in
        let long = calls-long script run in
        let mine = call-met script makers run phases closing trace f b journal weigh c c.number is.call is.end is refl is.call_is is.end_is in
        counts script makers run phases closing trace f b journal weigh c.number (met script makers run phases closing trace f b journal weigh c) bounds.0 (omega (arith, high, long))
        (λ d there same. call-met script makers run phases closing trace f b journal weigh d c.number is.call is.end there same is.call_is is.end_is ∙ sym mine)
        ∙ sym (ap (λ t. one_where (t && ((c.file.0 == f) && meets size c.answered b))) (eq-eqb c.number c.number refl))

    -- the stamps of a call stand before those of one that comes later
    stands : (i j : ℕ) (c later : Traced) → slice_get calls i ≡ Some c → slice_get calls j ≡ Some later → IsBefore script stripe c later → StandsBefore c.number later.number journal
    stands i j c later here beside before =
        let m : MountView = did.mount in
        let is = all-at IsCall calls i c trace.calls here in
        let is' = all-at IsCall calls j later trace.calls beside in
        let orders = phases-order script stripe phases trace.phases_are (first-phases stripe phases ((closing ∷ []) ∷ []) left.orders) in
        let comes : ComesBefore stripe c later = all-at (λ (d : Traced). IsBefore script stripe c d → ComesBefore stripe c d) calls j later (all-at (λ (x : Traced). All (λ d. IsBefore script stripe x d → ComesBefore stripe x d) calls) calls i c orders here) beside before in
        let both : all_calls (phases ++ (closing ∷ []) ∷ []) ≡ calls ++ all_calls ((closing ∷ []) ∷ []) = all-append phases ((closing ∷ []) ∷ []) in
        let traced = all-left (IsTraced m) calls (all_calls ((closing ∷ []) ∷ [])) (subst (All (IsTraced m)) both (phases-traced m (phases ++ (closing ∷ []) ∷ []) did.first did.last did.did)) in
        let inside = all-left (IsWithin stripe left.before left.after) calls (all_calls ((closing ∷ []) ∷ [])) (subst (All (IsWithin stripe left.before left.after)) both left.ran.within) in
        let times : (x : Traced) → IsCall x → times_stamped x.number (journal_of m.geometry.block_size b left.after.seen) ≡ answers m.geometry.block_size (file_in f) b x.number x =
        λ x of. ap (times_stamped x.number) (sym left.journal_is) ∙ own-times x of ∙ ap (λ s. answers s (file_in f) b x.number x) (sym sized) in
        subst (StandsBefore c.number later.number) (sym left.journal_is)
        (keep-order m did.laid did.some (file_in f) b left.exists left.has left.before left.after c later (all-at (IsTraced m) calls i c traced here) (all-at (IsTraced m) calls j later traced beside)
        (all-at (IsWithin stripe left.before left.after) calls i c inside here) (all-at (IsWithin stripe left.before left.after) calls j later inside beside) comes (times c is) (times later is'))

    -- a test of the numbers of calls holds of each stamp beside each later one, where the calls it refuses come the other way round
    in-order : (may : ℕ → ℕ → Bool) → ((c later : Traced) → IsCall c → IsCall later → c.number ≢ later.number → may c.number later.number ≡ false → IsBefore script stripe later c) → each_pair (λ st later. may st.call later.call) journal ≡ true
    in-order may refused =
        pair-both (λ st later. may st.call later.call || (st.call == later.call)) (λ st later. not (st.call == later.call)) (λ st later. may st.call later.call)
        (λ st later first second. by (may st.call later.call) (st.call == later.call) first second) journal (order-kept (λ n later. may n later || (n == later)) journal back) (twice script makers run phases closing trace f b journal weigh)
      where
        by : (p q : Bool) → (p || q) ≡ true → not q ≡ true → p ≡ true
        by true q first second = refl
        by false true first second = absurd (true≢false (sym second))
        by false false first second = first

        both-there : (n later : ℕ) → may n later ≡ false → n ≢ later → 0 < times_stamped n journal → 0 < times_stamped later journal → StandsBefore later n journal
        both-there n later wrong apart some more =
            let c = caller-of n some in
            let d = caller-of later more in
            let is = all-at IsCall calls c.0 c.1 trace.calls c.2 in
            let is' = all-at IsCall calls d.0 d.1 trace.calls d.2 in
            let others : c.1.number ≢ d.1.number = λ e. apart (sym c.3 ∙ e ∙ d.3) in
            let other : may c.1.number d.1.number ≡ false = ap (λ k. may k d.1.number) c.3 ∙ ap (may n) d.3 ∙ wrong in
            subst (λ k. StandsBefore k n journal) d.3 (subst (λ k. StandsBefore d.1.number k journal) c.3 (stands d.0 c.0 d.1 c.1 d.2 c.2 (refused c.1 d.1 is is' others other)))

        at : (n later x y : ℕ) → times_stamped n journal ≡ x → times_stamped later journal ≡ y → may n later ≡ false → n ≢ later → StandsBefore later n journal
        at n later zero y none some wrong apart = (absent-anywhere n later journal none).1
        at n later (suc x) zero some none wrong apart = (absent-anywhere later n journal none).0
        at n later (suc x) (suc y) some more wrong apart = both-there n later wrong apart (omega (arith, some)) (omega (arith, more))

        back : (n later : ℕ) → (may n later || (n == later)) ≡ false → StandsBefore later n journal
        back n later wrong = let parts = or_parts (may n later) (n == later) wrong in at n later (times_stamped n journal) (times_stamped later journal) refl refl parts.0 (eqb-false n later parts.1)

    -- what a test of two calls says of the calls of two numbers
    on : (test : Call → Call → Bool) (c later : Traced) (is : IsCall c) (is' : IsCall later) → is_some_and (numbered script.calls c.number) (λ call. is_some_and (numbered script.calls later.number) (test call)) ≡ test is.call.call is'.call.call
    on test c later is is' =
        ap (λ o. is_some_and o (λ call. is_some_and (numbered script.calls later.number) (test call))) (call-numbered script run c.number is.call is.call_is)
        ∙ ap (λ o. is_some_and o (test is.call.call)) (call-numbered script run later.number is'.call is'.call_is)

    caller-order : each_pair (λ st later. is_in_caller_order script.calls st.call later.call) journal ≡ true
    caller-order = in-order (is_in_caller_order script.calls) by
      where
        by : (c later : Traced) → IsCall c → IsCall later → c.number ≢ later.number → is_in_caller_order script.calls c.number later.number ≡ false → IsBefore script stripe later c
        by c later is is' apart wrong =
            let test : Call → Call → Bool = λ call next. not (call.caller == next.caller) || nat_lt c.number later.number in
            let parts = or_parts (not (is.call.call.caller == is'.call.call.caller)) (nat_lt c.number later.number) (sym (on test c later is is') ∙ wrong) in
            let same : is.call.call.caller ≡ is'.call.call.caller = eqb-true is.call.call.caller is'.call.call.caller (not-false _ parts.0) in
            let below : later.number ≤ c.number = ltb-false c.number later.number parts.1 in
            let mine = call-numbered script run c.number is.call is.call_is in
            let theirs = call-numbered script run later.number is'.call is'.call_is in
            inr (ap caller_in theirs ∙ sym same ∙ sym (ap caller_in mine), omega (arith, below, apart))

    phase-order : each_pair (λ st later. is_in_phase_order script.calls st.call later.call) journal ≡ true
    phase-order = in-order (is_in_phase_order script.calls) by
      where
        by : (c later : Traced) → IsCall c → IsCall later → c.number ≢ later.number → is_in_phase_order script.calls c.number later.number ≡ false → IsBefore script stripe later c
        by c later is is' apart wrong =
            let less : is'.call.call.phase < is.call.call.phase = leb-false is.call.call.phase is'.call.call.phase (sym (on (λ call next. nat_le call.phase next.phase) c later is is') ∙ wrong) in
            let mine : phase_in (numbered script.calls c.number) ≡ is.call.call.phase = ap phase_in (call-numbered script run c.number is.call is.call_is) in
            let theirs : phase_in (numbered script.calls later.number) ≡ is'.call.call.phase = ap phase_in (call-numbered script run later.number is'.call is'.call_is) in
            inl (omega (arith, less, mine, theirs))

  -- a file that ends is one of the mount
  file-there : (f : ℕ) (end : FileEnd) → slice_get run.ends.files f ≡ Some end → (file : FilePlace) × (slice_get did.mount.files f ≡ Some file)
  file-there f end at = there did.mount.files f (let w = within run.ends.files f end at in let c = did.left.count in omega (arith, w, c))

pub lawful-journals : RunsHaveLawfulJournals
lawful-journals geometry cookie sectors files script makers run phases closing did sized trace =
    let place = file-there geometry cookie sectors files script makers run phases closing did sized trace in
    let weigh = weighs geometry cookie sectors files script makers run phases closing did sized trace in
    record {
      named_once = each-block _ run.ends.files (λ f b end block at here. let file = place f end at in named-once script makers run phases closing trace f b block.journal (weigh f b file.0 end block file.1 at here));
      answered = each-block _ run.ends.files (λ f b end block at here. let file = place f end at in answered script makers run phases closing trace f b block.journal (weigh f b file.0 end block file.1 at here));
      in_caller_order = each-block _ run.ends.files (λ f b end block at here. let file = place f end at in caller-order geometry cookie sectors files script makers run phases closing did sized trace f b file.0 end block file.1 at here);
      in_phase_order = each-block _ run.ends.files (λ f b end block at here. let file = place f end at in phase-order geometry cookie sectors files script makers run phases closing did sized trace f b file.0 end block file.1 at here);
      failed_marks = each-block _ run.ends.files (λ f b end block at here. let file = place f end at in marked script makers run phases closing trace f b block.journal (weigh f b file.0 end block file.1 at here));
    }
