-- What a whole call of zeros tells, from what it did under the exclusive class.
use Rattle.std.proofs.Common.{◌≡◌, ℕ, ◌+◌, ◌-◌, ◌<◌, ◌≤◌, ◌∷◌, [], true, false, Some, None, replicate, refl, sym, ap, ◌∙◌, subst, arith}
use Rattle.std.specs.Prelude.{IfSome, IsTrue, Option}
use Rattle.std.proofs.lemmas.Bool.{false≢true}
use Rattle.std.proofs.lemmas.List.Elements.{All-cons, All-nil}
use Rattle.iob_base.specs.Geometry.{is_block_size}
use Rattle.iob_base.specs.declared.answer.Answer.{Answer}
use Rattle.iob_base.specs.declared.answer.Fault.{Fault}
use Rattle.iob_base.specs.declared.answer.Fault.TheVariants as fault
use Rattle.iob_base.specs.declared.answer.Reply.TheVariants as reply
use Rattle.iob_base.specs.declared.answer.Stop.TheVariants.{Whole}
use Rattle.iob_base.specs.declared.stamp.FileId.{FileId}
use Rattle.iob_base.specs.declared.stamp.Tag.{Tag}
use Rattle.io_model.specs.Answered.{answered_in}
use Rattle.io_model.specs.Lawful.{is_lawful_reply, may_meet}
use Rattle.io_model.specs.Parts.{range_in, span, span_length}
use Rattle.io_model.specs.declared.script.Verb.TheVariants.{Zero}
use Rattle.fault_device.specs.LaneView.{LaneView}
use Rattle.range_core.specs.Stamps.{done_by}
use Rattle.range_core.specs.declared.entry.Entry.{Entry}
use Rattle.mount_parts.specs.MountView.{MountView, file_at}
use Rattle.mini_fs.specs.Acts.{own_entries}
use Rattle.mini_fs.specs.Acts.Act.{Number}
use Rattle.mini_fs.specs.CallActs.{CallActs, tag_of, with_call}
use Rattle.mini_fs.specs.Calls.{LeavesPass, MayCall}
use Rattle.mini_fs.specs.Holds.{HoldsNone}
use Rattle.mini_fs.specs.Mappings.{file_end}
use Rattle.mini_fs.specs.PassView.{IsPassOf, PassView}
use Rattle.mini_fs.specs.Tickets.{IsTicketOf}
use Rattle.mini_fs.proofs.CallLemmas.{call-then}
use Rattle.call_parts.specs.Parts.{read_to, stamps_over}
use Rattle.call_parts.specs.Replies.{read_reply}
use Rattle.call_parts.specs.Steps.{IsPlaced, ServedBy}
use Rattle.call_parts.specs.declared.progress.Progress.{Progress}
use Rattle.call_parts.proofs.NumberLemmas.{answered-so, call-numbered}
use Rattle.call_parts.proofs.ReadyLemmas.{some-bytes}
use Rattle.call_parts.proofs.StepLemmas.{served-none}
use Rattle.buffered_write.specs.Lays.{EndsAt, IsDeviceOrMemory, LieOn, laid_in}
use Rattle.buffered_write.specs.LaysLocked.{HeldOnly, HoldsClass, LaidWith}
use Rattle.buffered_write.specs.Pwrites.{IsPlain, has_room, write_reply}
use Rattle.buffered_write.specs.Zeroes.{Zeroes, ZeroesRange, may_zero}
use Rattle.buffered_write.proofs.DataReplyLemmas.{ends-before, left-after, roomed-reply}
use Rattle.buffered_write.proofs.LaidLemmas.{laid-plain, leaves-call}
use Rattle.buffered_write.specs.PartReads.{KeepsBudget}
use Rattle.buffered_write.proofs.PartReadLemmas.{budget-none, reads-behind}
use Rattle.buffered_write.proofs.ZeroBudgets.{zero-budget}
use Rattle.buffered_write.proofs.LayLemmas.{lie-none}
use Rattle.buffered_write.proofs.WriteLemmas.{ends-high}
use Rattle.buffered_write.proofs.WriteReplyLemmas.{reply-empty, reply-far, reply-room, room-empty, room-far, room-some, stamps-none}
use Rattle.buffered_write.proofs.ZeroPartLemmas.{laid-of, take-zeros, zeroes-within}

-- zeros of a range met no lock and no size
pub zeros-plain : (m : MountView) (file : FileId) (by : Tag) (from to : ℕ) (a b : LaneView) (p q : PassView) (came : Progress) → came.at ≤ to → Zeroes m file by from to a b p q came → LaidWith IsPlain m (may_zero (file_at m file).mode by) file by from to (replicate (to - from) 0) a b p q came
unfolding zeroes-within laid-of
zeros-plain m file by from to a b p q came high z = laid-plain m (may_zero (file_at m file).mode by) file by from to (replicate (to - from) 0) a b came p q (zeroes-within m file by from to a b p q came high z) z.few

-- zeros may meet a device error, and want of memory
may-zero-meet : (off asked : ℕ) (f : Option Fault) → IfSome f IsDeviceOrMemory → IfSome f (λ x. may_meet true (Zero off asked) x ≡ true)
may-zero-meet off asked None stops = tt
may-zero-meet off asked (Some (fault.Eio lane before after)) stops = refl
may-zero-meet off asked (Some fault.NoMemory) stops = refl
may-zero-meet off asked (Some (fault.SyncEio seen count)) stops = absurd stops
may-zero-meet off asked (Some (fault.Again why)) stops = absurd stops
may-zero-meet off asked (Some (fault.NotAligned alignment)) stops = absurd stops
may-zero-meet off asked (Some (fault.TooFar offset end)) stops = absurd stops
may-zero-meet off asked (Some (fault.NoSpace wanted found)) stops = absurd stops
may-zero-meet off asked (Some (fault.Worn cookie)) stops = absurd stops

module _ (m : MountView) (file : FileId) (call off asked : ℕ) (a b : LaneView) (p q : PassView) (answer : Answer) where
  -- zeros that had room
  pub zeroes-so : (to : ℕ) (came : Progress) → 0 < m.geometry.block_size → to ≡ off + span_length (range_in (file_end m file) off asked) → has_room (file_end m file) off asked ≡ true
      → to ≡ read_to (file_end m file) off asked → LaidWith (HeldOnly file) m (may_zero (file_at m file).mode (tag_of p call)) file (tag_of p call) off to (replicate (to - off) 0) a b (with_call p call) q came → IfSome came.fault IsDeviceOrMemory → EndsAt m.geometry.block_size off to came.at came.fault false
      → answer.reply ≡ read_reply asked (span_length (range_in (file_end m file) off asked)) (came.at - off) came.fault → answer.bios ≡ came.bios → ZeroesRange m file call off asked a b p q answer
  zeroes-so to came some to_is room read_is w stops ends reply bios =
      let size = m.geometry.block_size in
      let range = range_in (file_end m file) off asked in
      let low = w.begins in
      let high = ends-high size off to came.at came.fault false ends in
      let place : off + (came.at - off) ≡ came.at = omega (arith, low) in
      let met : came.at - off ≤ span_length range = omega (arith, high, to_is, low) in
      let long : span_length range ≡ to - off = omega (arith, to_is) in
      let replied = reply ∙ sym (reply-room (file_end m file) off asked (came.at - off) came.fault room) in
      record {
        count = came.at - off;
        fault = came.fault;
        acts = Number call ∷ w.acts;
        did = call-then m file (may_zero (file_at m file).mode (tag_of p call)) p (with_call p call) q (Number call ∷ []) w.acts (call-numbered m file (may_zero (file_at m file).mode (tag_of p call)) p call) w.did;
        callers = w.callers;
        placed = All-cons (IsPlaced m file) (Number call) w.acts tt w.placed;
        run = w.run;
        lane = w.lane;
        class = subst (λ t. HoldsClass t file call (Number call ∷ w.acts)) (sym room) (let c = w.also.0 in record { home = c.home; held = c.held; next = c.next; work = c.work; acts_are = ap (λ l. Number call ∷ l) c.acts_are; locks = c.locks });
        sizes = w.also.1;
        laid = subst (λ n. LieOn off n (replicate (came.at - off) 0) (laid_in size (own_entries w.acts))) (sym place)
            (subst (λ l. LieOn off came.at l (laid_in size (own_entries w.acts))) (take-zeros (came.at - off) (to - off) (omega (arith, high))) w.laid);
        stamps = w.stamps ∙ ap (λ n. stamps_over size (span off n) (done_by (tag_of p call))) (sym place)
            ∙ sym (answered-so size some (done_by (tag_of p call)) (file_end m file) off asked (came.at - off) came.fault met)
            ∙ ap (λ r. stamps_over size (answered_in size range false r) (done_by (tag_of p call))) (sym reply);
        reply = replied;
        lawful = subst (λ r. IsTrue (is_lawful_reply m.geometry.grain size (file_at m file).blocks range true (Zero off asked) r)) (sym replied)
            (roomed-reply (Zero off asked) refl size (file_end m file) off asked (came.at - off) came.fault
            (λ has. ends-before (Zero off asked) range size off to came.at came.fault long low ends (may-zero-meet off asked came.fault stops)));
        cause = w.cause;
        stops = left-after size off to came.at came.fault low ends;
        bios = bios ∙ w.bios;
        budget = subst (λ n. KeepsBudget m file off n p (Number call ∷ w.acts)) read_is
            (zero-budget m file (tag_of p call) off to came.fault p (Number call ∷ w.acts) (reads-behind m file off to came.fault (Number call ∷ []) w.acts refl w.few) w.did.made);
        dry = w.dry;
      }

  -- zeros that had none
  pub zeroes-none : 0 < m.geometry.block_size → has_room (file_end m file) off asked ≡ false → a ≡ b → q ≡ with_call p call → answer.reply ≡ write_reply (file_end m file) off asked 0 None → answer.bios ≡ 0 → ZeroesRange m file call off asked a b p q answer
  zeroes-none some room lane q_is reply bios =
      let size = m.geometry.block_size in
      let range = range_in (file_end m file) off asked in
      record {
        count = 0;
        fault = None;
        acts = Number call ∷ [];
        did = subst (λ r. CallActs m file (may_zero (file_at m file).mode (tag_of p call)) p r (Number call ∷ [])) (sym q_is) (call-numbered m file (may_zero (file_at m file).mode (tag_of p call)) p call);
        callers = All-nil (λ (e : Entry). e.caller ≡ p.caller);
        placed = All-cons (IsPlaced m file) (Number call) [] tt (All-nil (IsPlaced m file));
        run = refl;
        lane = subst (λ l. ServedBy a l []) lane (served-none a);
        class = subst (λ t. HoldsClass t file call (Number call ∷ [])) (sym room) (refl, refl);
        sizes = refl;
        laid = subst (λ n. LieOn off n [] []) (let z : off ≡ off + 0 = omega arith in z) (lie-none off);
        stamps = sym (ap (λ r. stamps_over size (answered_in size range false r) (done_by (tag_of p call))) reply ∙ stamps-none size (file_end m file) off asked (done_by (tag_of p call)) some room);
        reply = reply;
        lawful = subst (λ r. IsTrue (is_lawful_reply m.geometry.grain size (file_at m file).blocks range true (Zero off asked) r)) (sym reply)
            (roomed-reply (Zero off asked) refl size (file_end m file) off asked 0 None (λ has. absurd (false≢true (sym room ∙ has))));
        cause = tt;
        stops = tt;
        bios = bios;
        budget = budget-none m file off (read_to (file_end m file) off asked) p (Number call ∷ []) refl;
        dry = λ dax. refl;
      }

-- the same, as the body of the call computes it
module _ (m : MountView) (file : FileId) (call off asked : ℕ) (a b : LaneView) (p q : PassView) (answer : Answer) (may : MayCall m file call p) (sized : IsTrue (is_block_size m.geometry.block_size)) where
  -- of zeros that had room
  module _ (by : Tag) (start : PassView) (end to : ℕ) (came : Progress) (by_is : by ≡ tag_of p call) (start_is : start ≡ with_call p call) (end_is : end ≡ file_end m file) (to_is : to ≡ read_to end off asked) (some : asked ≡ 0 → ⊥) (near : off < end)
      (w : LaidWith (HeldOnly file) m (may_zero (file_at m file).mode by) file by off to (replicate (to - off) 0) a b start q came) (stops : IfSome came.fault IsDeviceOrMemory) (ends : EndsAt m.geometry.block_size off to came.at came.fault false)
      (reply : answer.reply ≡ read_reply asked (to - off) (came.at - off) came.fault) (bios : answer.bios ≡ came.bios) where
    pub zeroes-from : ZeroesRange m file call off asked a b p q answer
    zeroes-from =
        let reach : to ≡ off + span_length (range_in (file_end m file) off asked) = to_is ∙ ap (λ n. read_to n off asked) end_is in
        let met : to - off ≡ span_length (range_in (file_end m file) off asked) = omega (arith, reach) in
        let room : has_room (file_end m file) off asked ≡ true = sym (ap (λ n. has_room n off asked) end_is) ∙ room-some end off asked some near in
        zeroes-so m file call off asked a b p q answer to came (some-bytes m.geometry.block_size sized) reach room (to_is ∙ ap (λ n. read_to n off asked) end_is)
        (subst (λ t. LaidWith (HeldOnly file) m (may_zero (file_at m file).mode t) file t off to (replicate (to - off) 0) a b (with_call p call) q came) by_is
        (subst (λ v. LaidWith (HeldOnly file) m (may_zero (file_at m file).mode by) file by off to (replicate (to - off) 0) a b v q came) start_is w))
        stops ends (reply ∙ ap (λ n. read_reply asked n (came.at - off) came.fault) met) bios

    pub zeroes-leave : HoldsNone q file → LeavesPass m file call p q
    zeroes-leave free =
        let z = zeroes-from in
        leaves-call m file (may_zero (file_at m file).mode (tag_of p call)) call p q z.acts z.did w.of free (λ t is. w.tickets t (subst (λ v. IsTicketOf v t) (sym start_is) is)) (w.last ∙ ap (λ (v : PassView). v.last) start_is)

  -- of zeros that had none
  module _ (end : ℕ) (end_is : end ≡ file_end m file) (lane : a ≡ b) (q_is : q ≡ with_call p call) (bios : answer.bios ≡ 0) where
    none-from : has_room end off asked ≡ false → answer.reply ≡ write_reply end off asked 0 None → ZeroesRange m file call off asked a b p q answer
    none-from room reply =
        zeroes-none m file call off asked a b p q answer (some-bytes m.geometry.block_size sized) (sym (ap (λ n. has_room n off asked) end_is) ∙ room) lane q_is (reply ∙ ap (λ n. write_reply n off asked 0 None) end_is) bios

    pub zeroes-empty : asked ≡ 0 → answer.reply ≡ reply.Ok 0 Whole → ZeroesRange m file call off asked a b p q answer
    zeroes-empty none reply = none-from (room-empty end off asked none) (reply ∙ sym (reply-empty end off asked none))

    pub zeroes-far : (asked ≡ 0 → ⊥) → end ≤ off → answer.reply ≡ reply.Err (fault.TooFar off end) 0 → ZeroesRange m file call off asked a b p q answer
    zeroes-far some far reply = none-from (room-far end off asked far) (reply ∙ sym (reply-far end off asked some far))

-- a call that only took its number leaves its pass so
pub leaves-untouched : (m : MountView) (file : FileId) (call : ℕ) (p q : PassView) → MayCall m file call p → q ≡ with_call p call → LeavesPass m file call p q
leaves-untouched m file call p q may q_is =
    leaves-call m file (may_zero (file_at m file).mode (tag_of p call)) call p q (Number call ∷ [])
    (subst (λ r. CallActs m file (may_zero (file_at m file).mode (tag_of p call)) p r (Number call ∷ [])) (sym q_is) (call-numbered m file (may_zero (file_at m file).mode (tag_of p call)) p call))
    (subst (IsPassOf m) (sym q_is) (record { stripes = may.of.stripes; sizes = may.of.sizes; locks = may.of.locks; queue = may.of.queue }))
    (subst (λ v. HoldsNone v file) (sym q_is) may.free) (λ t is. subst (λ v. IsTicketOf v t) (sym q_is) is) (ap (λ (v : PassView). v.last) q_is)
