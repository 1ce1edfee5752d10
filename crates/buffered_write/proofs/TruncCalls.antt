-- What a whole cut tells, from what it did under the exclusive class.
use Rattle.std.proofs.Common.{inl, inr, ◌≡◌, ℕ, ◌+◌, ◌-◌, ◌<◌, ◌≤◌, ◌∷◌, [], max, replicate, true, false, Some, None, refl, sym, ap, ◌∙◌, subst, arith}
use Rattle.std.specs.Prelude.{◌%◌, IfSome, IsTrue, Option, nat_le, nat_lt}
use Rattle.std.proofs.lemmas.Bool.{false≢true}
use Rattle.std.proofs.lemmas.Bool.Decides.{nat_tests}
use Rattle.std.proofs.lemmas.List.{take-replicate}
use Rattle.std.proofs.lemmas.List.Elements.{All-cons, All-nil}
use Rattle.iob_base.specs.declared.answer.Answer.{Answer}
use Rattle.iob_base.specs.declared.answer.Fault.{Fault}
use Rattle.iob_base.specs.declared.answer.Fault.TheVariants.{TooFar}
use Rattle.iob_base.specs.declared.answer.Reply.TheVariants as reply
use Rattle.iob_base.specs.declared.stamp.FileId.{FileId}
use Rattle.iob_base.specs.declared.stamp.Tag.{Tag}
use Rattle.io_model.specs.Answered.{answered_in}
use Rattle.io_model.specs.Lawful.{is_lawful_reply}
use Rattle.io_model.specs.Parts.{span, span_length}
use Rattle.io_model.specs.declared.script.Verb.TheVariants.{Trunc}
use Rattle.fault_device.specs.LaneView.{LaneView}
use Rattle.range_core.specs.Stamps.{done_by}
use Rattle.range_core.specs.declared.entry.Entry.{Entry}
use Rattle.mount_parts.specs.MountView.{MountView, file_at}
use Rattle.mini_fs.specs.Acts.{own_entries}
use Rattle.mini_fs.specs.Acts.Act.{Number}
use Rattle.mini_fs.specs.CallActs.{CallActs, tag_of, with_call}
use Rattle.mini_fs.specs.Mappings.{file_end}
use Rattle.mini_fs.specs.PassView.{PassView}
use Rattle.mini_fs.specs.Calls.{LeavesPass}
use Rattle.mini_fs.specs.Holds.{HoldsNone}
use Rattle.mini_fs.proofs.CallLemmas.{call-then}
use Rattle.call_parts.specs.Parts.{stamps_over}
use Rattle.call_parts.specs.Replies.{read_reply}
use Rattle.call_parts.specs.Steps.{IsPlaced, ServedBy}
use Rattle.call_parts.specs.declared.progress.Progress.{Progress}
use Rattle.call_parts.proofs.NumberLemmas.{call-numbered}
use Rattle.call_parts.proofs.PartLemmas.{over-none}
use Rattle.call_parts.proofs.StepLemmas.{served-none}
use Rattle.buffered_write.specs.Clears.{IsOfClearing, StopsClear, may_clear}
use Rattle.buffered_write.specs.Lays.{IsLeftAfter, LieOn, laid_in}
use Rattle.buffered_write.specs.LaysLocked.{HoldsClass}
use Rattle.buffered_write.specs.Truncates.{CutsLocked, MeetsCut, StopsCut, Truncates, cut_end, cut_reply, cut_span}
use Rattle.buffered_write.proofs.PartReadLemmas.{budget-none, reads-behind}
use Rattle.buffered_write.proofs.ZeroBudgets.{clear-budget}
use Rattle.buffered_write.proofs.LaidLemmas.{leaves-call}
use Rattle.buffered_write.proofs.LayLemmas.{lie-none}
use Rattle.buffered_write.proofs.TruncReplyLemmas.{MayEnd, answered-cut, lawful-cut, reply-far, reply-near}

-- a cut begins at its size
span-from : (m : MountView) (file : FileId) (to : ℕ) (found : Option ℕ) → cut_span m file to found ≡ span to (cut_span m file to found).to
span-from m file to None = refl
span-from m file to (Some n) = refl

span-long : (m : MountView) (file : FileId) (to : ℕ) (found : Option ℕ) → span_length (cut_span m file to found) ≡ (cut_span m file to found).to - to
span-long m file to None = refl
span-long m file to (Some n) = refl

-- a cut came no farther than its range reaches
met-so : (size to end at : ℕ) (f : Option Fault) → to ≤ at → StopsCut size to (max to end) at f → at - to ≤ end - to
met-so size to end at None low stops = omega (arith, low, stops)
met-so size to end at (Some f) low (inl same) = omega (arith, same)
met-so size to end at (Some f) low (inr left) = (let less = left.0 in omega (arith, low, less))

-- where a cut ends that met a fault or none
may-end : (size to end at : ℕ) (f : Option Fault) → to ≤ at → StopsCut size to (max to end) at f → IfSome f StopsClear → MayEnd (end - to) (at - to) f
may-end size to end at None low stops kind = omega (arith, low, stops)
may-end size to end at (Some f) low (inl same) kind = (inl (omega (arith, same)), kind)
may-end size to end at (Some f) low (inr left) kind = (inr (let less = left.0 in omega (arith, low, less)), kind)

-- a fault stops a cut where a block begins
left-cut : (size to end at : ℕ) (f : Option Fault) → to ≤ at → StopsCut size to end at f → IfSome f (λ x. IsLeftAfter size to (at - to))
left-cut size to end at None low stops = tt
left-cut size to end at (Some f) low (inl same) = inl (omega (arith, same))
left-cut size to end at (Some f) low (inr left) = (let there : to + (at - to) ≡ at = omega (arith, low) in inr (ap (λ n. n % size) there ∙ left.1))

module _ (m : MountView) (file : FileId) (call to : ℕ) (a b : LaneView) (p q : PassView) (answer : Answer) where
  near-so : to ≤ file_end m file → nat_le to (file_end m file) ≡ true
  near-so le = grind (arith, nat_tests)

  far-so : file_end m file < to → nat_le to (file_end m file) ≡ false
  far-so less = grind (arith, nat_tests)

  -- a cut that was not too far
  pub truncates-so : (came : Progress) → 0 < m.geometry.block_size → to ≤ file_end m file → CutsLocked m file (tag_of p call) to a b (with_call p call) q came → answer.reply ≡ read_reply (came.at - to) (came.at - to) (came.at - to) came.fault → answer.bios ≡ came.bios
      → Truncates m file call to a b p q answer
  truncates-so came some near cut replies bios =
      let size = m.geometry.block_size in
      let w = cut.cleared in
      let found = cut.found in
      let end = (cut_span m file to found).to in
      let count = came.at - to in
      let stamp = done_by (tag_of p call) in
      let low = w.begins in
      let place : to + count ≡ came.at = omega (arith, low) in
      let met : count ≤ end - to = met-so size to end came.at came.fault low cut.stops in
      let few : count ≤ cut_end m file to found - to = omega (arith, met) in
      let is : answer.reply ≡ cut_reply (file_end m file) to count came.fault = replies ∙ sym (reply-near (file_end m file) to count came.fault near) in
      record {
        count = count;
        fault = came.fault;
        found = found;
        acts = Number call ∷ w.acts;
        did = call-then m file (may_clear (file_at m file).mode (tag_of p call)) p (with_call p call) q (Number call ∷ []) w.acts (call-numbered m file (may_clear (file_at m file).mode (tag_of p call)) p call) w.did;
        callers = w.callers;
        placed = All-cons (IsPlaced m file) (Number call) w.acts tt w.placed;
        run = w.run;
        lane = w.lane;
        class = subst (λ t. HoldsClass t file call (Number call ∷ w.acts)) (sym (near-so near)) (let c = w.also.0.0 in record { home = c.home; held = c.held; next = c.next; work = c.work; acts_are = ap (λ l. Number call ∷ l) c.acts_are; locks = c.locks });
        sizes = subst (λ t. MeetsCut t m file p.caller (tag_of p call) to count came.fault found (Number call ∷ w.acts)) (sym (near-so near)) w.also.0.1;
        laid = subst (λ n. LieOn to n (replicate count 0) (laid_in size (own_entries w.acts))) (sym place)
            (subst (λ l. LieOn to came.at l (laid_in size (own_entries w.acts))) (take-replicate count (cut_end m file to found - to) 0 few) w.laid);
        parts = w.also.1;
        stamps = w.stamps ∙ ap (λ n. stamps_over size (span to n) stamp) (sym place)
            ∙ sym (answered-cut size some stamp to end count came.fault met)
            ∙ ap (λ r. stamps_over size (answered_in size (span to end) false r) stamp) (sym replies)
            ∙ ap (λ s. stamps_over size (answered_in size s false answer.reply) stamp) (sym (span-from m file to found));
        reply = is;
        lawful = subst (λ r. IsTrue (is_lawful_reply m.geometry.grain size (file_at m file).blocks (cut_span m file to found) true (Trunc to) r)) (sym is)
            (lawful-cut m.geometry.grain size (file_at m file).blocks to count (cut_span m file to found) came.fault
            (λ _. subst (λ n. MayEnd n count came.fault) (sym (span-long m file to found)) (may-end size to end came.at came.fault low cut.stops cut.fault)));
        cause = w.cause;
        stops = left-cut size to (cut_end m file to found) came.at came.fault low cut.stops;
        bios = bios ∙ w.bios;
        budget = clear-budget m file (tag_of p call) to (cut_end m file to found) came.fault p (Number call ∷ w.acts) (reads-behind m file to (cut_end m file to found) came.fault (Number call ∷ []) w.acts refl w.few) w.did.made;
        dry = w.dry;
      }

  -- a cut that was too far
  pub truncates-far : 0 < m.geometry.block_size → file_end m file < to → a ≡ b → q ≡ with_call p call → answer.reply ≡ reply.Err (TooFar to (file_end m file)) 0 → answer.bios ≡ 0 → Truncates m file call to a b p q answer
  truncates-far some far lane q_is replies bios =
      let size = m.geometry.block_size in
      let is : answer.reply ≡ cut_reply (file_end m file) to 0 None = replies ∙ sym (reply-far (file_end m file) to far) in
      record {
        count = 0;
        fault = None;
        found = None;
        acts = Number call ∷ [];
        did = subst (λ r. CallActs m file (may_clear (file_at m file).mode (tag_of p call)) p r (Number call ∷ [])) (sym q_is) (call-numbered m file (may_clear (file_at m file).mode (tag_of p call)) p call);
        callers = All-nil (λ (e : Entry). e.caller ≡ p.caller);
        placed = All-cons (IsPlaced m file) (Number call) [] tt (All-nil (IsPlaced m file));
        run = refl;
        lane = subst (λ l. ServedBy a l []) lane (served-none a);
        class = subst (λ t. HoldsClass t file call (Number call ∷ [])) (sym (far-so far)) (refl, refl);
        sizes = subst (λ t. MeetsCut t m file p.caller (tag_of p call) to 0 None None (Number call ∷ [])) (sym (far-so far)) (refl, refl);
        laid = subst (λ n. LieOn to n [] []) (let z : to ≡ to + 0 = omega arith in z) (lie-none to);
        parts = All-nil (IsOfClearing size to (cut_end m file to None));
        stamps = sym (ap (λ r. stamps_over size (answered_in size (cut_span m file to None) false r) (done_by (tag_of p call))) replies ∙ over-none size some (done_by (tag_of p call)) 0);
        reply = is;
        lawful = subst (λ r. IsTrue (is_lawful_reply m.geometry.grain size (file_at m file).blocks (cut_span m file to None) true (Trunc to) r)) (sym is)
            (lawful-cut m.geometry.grain size (file_at m file).blocks to 0 (cut_span m file to None) None
            (λ near. absurd (false≢true (sym near ∙ (let past : nat_lt (file_end m file) to ≡ true = grind (arith, nat_tests) in past)))));
        cause = tt;
        stops = tt;
        bios = bios;
        budget = budget-none m file to (cut_end m file to None) p (Number call ∷ []) refl;
        dry = λ dax. refl;
      }

  -- the same, as the body of the call computes it
  module _ (by : Tag) (start : PassView) (end : ℕ) (by_is : by ≡ tag_of p call) (start_is : start ≡ with_call p call) (end_is : end ≡ file_end m file) (some : 0 < m.geometry.block_size) where
    pub cut-from : (came : Progress) → to ≤ end → CutsLocked m file by to a b start q came → answer.reply ≡ read_reply (came.at - to) (came.at - to) (came.at - to) came.fault → answer.bios ≡ came.bios → Truncates m file call to a b p q answer
    cut-from came near cut replies bios =
        truncates-so came some (subst (λ n. to ≤ n) end_is near) (subst (λ t. CutsLocked m file t to a b (with_call p call) q came) by_is (subst (λ v. CutsLocked m file by to a b v q came) start_is cut)) replies bios

    pub cut-leaves : (came : Progress) → CutsLocked m file by to a b start q came → HoldsNone q file → LeavesPass m file call p q
    cut-leaves came cut free =
        let w = (subst (λ t. CutsLocked m file t to a b (with_call p call) q came) by_is (subst (λ v. CutsLocked m file by to a b v q came) start_is cut)).cleared in
        leaves-call m file (may_clear (file_at m file).mode (tag_of p call)) call p q (Number call ∷ w.acts) (call-then m file (may_clear (file_at m file).mode (tag_of p call)) p (with_call p call) q (Number call ∷ []) w.acts (call-numbered m file (may_clear (file_at m file).mode (tag_of p call)) p call) w.did)
        w.of free w.tickets w.last

    pub cut-far : end < to → a ≡ b → q ≡ start → answer ≡ record { reply = reply.Err (TooFar to end) 0; bios = 0 } → Truncates m file call to a b p q answer
    cut-far far lane q_is is =
        truncates-far some (subst (λ n. n < to) end_is far) lane (q_is ∙ start_is)
        (ap (λ (x : Answer). x.reply) is ∙ ap (λ n. reply.Err (TooFar to n) 0) end_is) (ap (λ (x : Answer). x.bios) is)
