-- What one turn that lays zeros over a part tells, in the page cache and in the sectors.
use Rattle.std.proofs.Common.{inl, ◌≡◌, ℕ, zero, suc, ◌+◌, ◌-◌, ◌<◌, ◌≤◌, ◌++◌, ◌∷◌, [], List, min, take, drop, replicate, refl, sym, ap, ◌∙◌, subst, arith, append-nil, true, false, Some, None, Ok, Err}
use Rattle.std.specs.Prelude.{◌&&◌, ◌^◌, ◌/◌, not, Bool, IfSome, IsTrue, Option, Result, slice_get}
use Rattle.std.proofs.lemmas.Bool.{false≢true}
use lib.ListN.{length-replicate}
use Rattle.std.proofs.lemmas.List.Elements.{All-cons, All-nil}
use Rattle.iob_base.specs.declared.answer.Fault.{Fault}
use Rattle.iob_base.specs.declared.answer.Fault.TheVariants.{Eio, NoMemory}
use Rattle.iob_base.specs.declared.stamp.FileId.{FileId}
use Rattle.iob_base.specs.declared.stamp.Mode.TheVariants.{Cached, Dax}
use Rattle.iob_base.specs.declared.stamp.Tag.{Tag}
use Rattle.fault_device.specs.LaneView.{LaneView, lane_of}
use Rattle.fault_device.specs.declared.lane.Done.{Done}
use Rattle.bio_pages.specs.Lists.{IsApart, IsOwn}
use Rattle.turn_cell.specs.Views.{CellView}
use Rattle.range_core.specs.EntryStamps.{stamps_by, stamps_met}
use Rattle.range_core.specs.Judges.{AsksLane, IsAsked, RefusesNow}
use Rattle.range_core.specs.Refusals.{where_true}
use Rattle.range_core.specs.RangeView.{RangeView}
use Rattle.range_core.specs.Stamps.{done_by}
use Rattle.range_core.specs.StoreZeros.{CanStoreZeros, StoredZeros}
use Rattle.range_core.specs.declared.entry.Entry.{Entry}
use Rattle.range_core.specs.declared.entry.Event.{Event}
use Rattle.range_core.specs.declared.entry.Event.TheVariants as event
use Rattle.range_core.specs.declared.entry.Outcome.TheVariants as outcome
use Rattle.range_core.specs.declared.fault.EventFault.{EventFault}
use Rattle.range_core.specs.declared.fault.EventFault.TheVariants as refusal
use Rattle.range_core.specs.declared.sample.Sample.{Sample}
use Rattle.mount_parts.specs.MountView.{IsLaidOut, MountView, file_at, stripe_at}
use Rattle.mini_fs.specs.Acts.{Act, Acts, own_entries}
use Rattle.mini_fs.specs.Acts.Act.{Turn}
use Rattle.mini_fs.specs.CallActs.{IsStripeOf, is_tag, loans_in}
use Rattle.mini_fs.specs.DirectTurns.{ZeroedOn}
use Rattle.mini_fs.specs.PageTurns.{entry_by, zeros_run}
use Rattle.mini_fs.specs.PassView.{IsPassOf, PassView, claims_of}
use Rattle.mini_fs.specs.Tickets.{KeepsTickets}
use Rattle.mini_fs.specs.Turns.{TurnsAt, block_at}
use Rattle.mini_fs.proofs.ActLemmas.{turned-act}
use Rattle.mini_fs.proofs.Layouts.{stripe-sizes}
use Rattle.call_parts.specs.Budgets.{IsSound}
use Rattle.call_parts.specs.Causes.{IsCaused}
use Rattle.call_parts.specs.Fills.{fills}
use Rattle.call_parts.specs.Steps.{CameOfRise, IsPlaced, ServedBy, done_of}
use Rattle.call_parts.specs.declared.progress.Progress.{Progress}
use Rattle.call_parts.proofs.NumberLemmas.{own-tag}
use Rattle.call_parts.proofs.PartLemmas.{over-met}
use Rattle.call_parts.proofs.PlacedLemmas.{bare-placed}
use Rattle.call_parts.proofs.StepLemmas.{served-none, steps-none}
use Rattle.buffered_write.specs.Lays.{GoesAt, HasLaid, IsDeviceOrMemory, LaysNothing, LieOn, LieUnder, Meet, laid_at, laid_by, laid_in}
use Rattle.buffered_write.specs.Pwrites.{IsInPart, Warmed, WarmsBlock, came_of, followed, progress}
use Rattle.buffered_write.specs.Zeroes.{RefusedZeros, ZeroedOnce, ZeroedThrough, Zeroes, after_refusal, is_cached, may_zero}
use Rattle.buffered_write.specs.declared.store_part.Try.{Try}
use Rattle.buffered_write.specs.declared.store_part.Try.TheVariants as try
use Rattle.buffered_write.specs.PartReads.{ReadsInPart}
use Rattle.buffered_write.proofs.ColdLemmas.{cold-in-file}
use Rattle.buffered_write.proofs.PartReadLemmas.{block-reads, quiet-reads, reads-then}
use Rattle.buffered_write.proofs.LayLemmas.{laid-nothing, laid-then, nothing-may}
use Rattle.buffered_write.proofs.UnderLemmas.{extent-here, folio-here, goes-at, met-placed, served-turn, under-block, under-some}

-- the first of some zeros, and those past them
pub take-zeros : (n k : ℕ) → n ≤ k → take {A = ℕ} n (replicate k 0) ≡ replicate n 0
take-zeros zero k few = refl
take-zeros (suc n) zero few = absurd (omega (arith, few))
take-zeros (suc n) (suc k) few = ap (λ l. 0 ∷ l) (take-zeros n k (omega (arith, few)))

pub drop-zeros : (n k : ℕ) → drop {A = ℕ} n (replicate k 0) ≡ replicate (k - n) 0
drop-zeros zero k = (let z : k ≡ k - 0 = omega arith in ap (λ i. replicate i 0) z)
drop-zeros (suc n) zero = (let z : 0 ≡ 0 - suc n = omega arith in ap (λ i. replicate i 0) z)
drop-zeros (suc n) (suc k) = drop-zeros n k ∙ (let z : k - n ≡ suc k - suc n = omega arith in ap (λ i. replicate i 0) z)

-- as many of some bytes as were laid are all that matters
unfoldable pub laid-of : (m : MountView) (may : Event → Bool) (file : FileId) (by : Tag) (from : ℕ) (bytes more : List ℕ) (a b : LaneView) (p q : PassView) (came : Progress) → take (came.at - from) bytes ≡ take (came.at - from) more → HasLaid m may file by from bytes a b p q came
    → HasLaid m may file by from more a b p q came
laid-of m may file by from bytes more a b p q came same h = record {
  acts = h.acts;
  steps = h.steps;
  begins = h.begins;
  laid = subst (λ l. LieOn from came.at l (laid_in m.geometry.block_size (own_entries h.acts))) same h.laid;
  stamps = h.stamps;
  cause = h.cause;
  bios = h.bios;
  dry = h.dry;
}

-- a lane that was asked once, and one that was asked nothing
judged-so : (a b : LaneView) (n : ℕ) (done : Done) → AsksLane a n done b → ServedBy a b (done ∷ [])
judged-so a b n done asked =
    let t = asked.tells in
    record {
      ran = (1, t.ran);
      own = record {
        own = All-cons (IsOwn a.number a.count b.count) done [] (λ failed. (t.lane, (let e = t.before in omega (arith, e)), (let e = t.after in omega (arith, e)))) (All-nil (IsOwn a.number a.count b.count));
        apart = (All-nil (IsApart done), tt);
      };
      rose = All-cons CameOfRise done [] t.rose (All-nil CameOfRise);
    }

passed-so : (a b : LaneView) (n : ℕ) (answer : Option Done) → IsAsked AsksLane n a b answer → ServedBy a b []
passed-so a b n None asked = subst (λ l. ServedBy a l []) (sym asked) (served-none a)
passed-so a b n (Some done) asked = record { ran = (1, asked.tells.ran); own = record { own = All-nil (IsOwn a.number a.count b.count); apart = tt }; rose = All-nil CameOfRise }

module _ (m : MountView) (file : FileId) (by : Tag) where
  -- a step that lays nothing lays no zeros
  pub nothing-zeroes : (from to : ℕ) (a b : LaneView) (p q : PassView) (bios : ℕ) (fault : Option Fault) → 0 < m.geometry.block_size → (step : LaysNothing m (may_zero (file_at m file).mode by) file a b p q bios fault) → ReadsInPart m file from to fault step.acts → IfSome fault IsDeviceOrMemory
      → Zeroes m file by from to a b p q (progress from bios fault)
  unfolding laid-nothing
  nothing-zeroes from to a b p q bios fault some step few stops = record { laid = laid-nothing m (may_zero (file_at m file).mode by) file by some from (replicate (from - from) 0) a b p q bios fault step; few = few; fault = stops }

  -- and reads nothing where it sent no bio
  pub quiet-zeroes : (from to : ℕ) (a b : LaneView) (p q : PassView) (fault : Option Fault) → 0 < m.geometry.block_size → LaysNothing m (may_zero (file_at m file).mode by) file a b p q 0 fault → IfSome fault IsDeviceOrMemory → Zeroes m file by from to a b p q (progress from 0 fault)
  quiet-zeroes from to a b p q fault some step stops =
      nothing-zeroes from to a b p q 0 fault some step (quiet-reads m file from to fault step.acts (step.sound refl) (let sent = step.sent in let none : loans_in step.acts ≡ 0 = omega (arith, sent) in none)) stops

  pub none-zeroes : (from to : ℕ) (lane : LaneView) (p : PassView) → 0 < m.geometry.block_size → IsPassOf m p → Zeroes m file by from to lane lane p p (progress from 0 None)
  none-zeroes from to lane p some of =
      quiet-zeroes from to lane lane p p None some (record { acts = []; steps = steps-none m file (may_zero (file_at m file).mode by) lane p of; laid = refl; stamps = refl; cause = tt; sent = omega arith; sound = λ none. All-nil (λ (e : Entry). IsSound e.event); dry = λ dax. refl }) tt

  -- zeros up to a place, and those from there on
  pub zeroes-then : (from to end : ℕ) (a b c : LaneView) (p q r : PassView) (came next : Progress) → 0 < m.geometry.block_size → came.fault ≡ None → Meet m.geometry.block_size from came.at next.at
      → ((fault : Option Fault) (acts : List Act) → ReadsInPart m file came.at end fault acts → ReadsInPart m file from to fault acts)
      → Zeroes m file by from to a b p q came → Zeroes m file by came.at end b c q r next → Zeroes m file by from to a c p r (followed came next)
  unfolding laid-then laid-of
  zeroes-then from to end a b c p q r came next some whole meet wider one two =
      let low = one.laid.begins in
      let high = two.laid.begins in
      let rest : next.at - from - (came.at - from) ≡ next.at - came.at = omega (arith, low, high) in
      let first = laid-of m (may_zero (file_at m file).mode by) file by from (replicate (came.at - from) 0) (replicate (next.at - from) 0) a b p q came
      (take-zeros (came.at - from) (came.at - from) (omega arith) ∙ sym (take-zeros (came.at - from) (next.at - from) (omega (arith, low, high)))) one.laid in
      record {
        laid = laid-then m (may_zero (file_at m file).mode by) file by some from (replicate (next.at - from) 0) (replicate (next.at - came.at) 0) a b c p q r came next whole
            (ap (λ n. replicate n 0) (sym rest) ∙ sym (drop-zeros (came.at - from) (next.at - from))) meet first two.laid;
        few = reads-then m file from to next.fault one.laid.acts two.laid.acts (subst (λ f. ReadsInPart m file from to f one.laid.acts) whole one.few) (wider next.fault two.laid.acts two.few);
        fault = two.fault;
      }

  -- zeros that came to a place within a range are the first zeros of the range
  unfoldable pub zeroes-within : (from to : ℕ) (a b : LaneView) (p q : PassView) (came : Progress) → came.at ≤ to → Zeroes m file by from to a b p q came → HasLaid m (may_zero (file_at m file).mode by) file by from (replicate (to - from) 0) a b p q came
  zeroes-within from to a b p q came high z =
      laid-of m (may_zero (file_at m file).mode by) file by from (replicate (came.at - from) 0) (replicate (to - from) 0) a b p q came
      (take-zeros (came.at - from) (came.at - from) (omega arith) ∙ sym (take-zeros (came.at - from) (to - from) (omega (arith, high)))) z.laid

  -- a turn that laid zeros over a part
  zeros-turn : (e : Event) (stripe from to : ℕ) (others : List Entry) (a b : LaneView) (p q : PassView) → laid_by m.geometry.block_size e outcome.Finished ≡ laid_at from (replicate (to - from) 0) ∷ [] → stamps_by m.geometry.block_size e outcome.Finished ≡ stamps_met m.geometry.block_size by from to
      → IsTrue (may_zero (file_at m file).mode by e) → Acts (Turn stripe others (entry_by p.caller e outcome.Finished)) p q → 0 < m.geometry.block_size → from < to → IsStripeOf m file stripe → IsPlaced m file (Turn stripe others (entry_by p.caller e outcome.Finished)) → IsPassOf m q → KeepsTickets p q → ServedBy a b (done_of e outcome.Finished) → IsSound e → Zeroes m file by from to a b p q (progress to 0 None)
  zeros-turn e stripe from to others a b p q lays stamps may did some less here placed of tickets served sound =
      let size = m.geometry.block_size in
      let long = length-replicate {A = ℕ} (to - from) 0 in
      let lie : LieOn from to (replicate (to - from) 0) (laid_at from (replicate (to - from) 0) ∷ []) = record { order = (refl, tt); together = append-nil (replicate (to - from) 0); reach = omega (arith, long, less) } in
      record {
        laid = record {
          acts = Turn stripe others (entry_by p.caller e outcome.Finished) ∷ [];
          steps = served-turn m file (may_zero (file_at m file).mode by) p q stripe others e outcome.Finished a b did here may refl placed of tickets served;
          begins = omega (arith, less);
          laid = subst (λ l. LieOn from to l (laid_by size e outcome.Finished ++ [])) (sym (take-zeros (to - from) (to - from) (omega arith)))
              (subst (LieOn from to (replicate (to - from) 0)) (sym (append-nil (laid_by size e outcome.Finished) ∙ lays)) lie);
          stamps = append-nil (stamps_by size e outcome.Finished) ∙ stamps ∙ sym (over-met size some (done_by by) from to less);
          cause = tt;
          bios = omega arith;
          dry = λ dax. refl;
        };
        few = quiet-reads m file from to None (Turn stripe others (entry_by p.caller e outcome.Finished) ∷ []) (All-cons (λ (e : Entry). IsSound e.event) (entry_by p.caller e outcome.Finished) [] sound (All-nil (λ (e : Entry). IsSound e.event))) refl;
        fault = tt;
      }

  -- a turn that refused to
  refused-turn : (e : Event) (refused : EventFault) (fault : Option Fault) (stripe : ℕ) (others : List Entry) (a b : LaneView) (p q : PassView) → laid_by m.geometry.block_size e (outcome.Refused refused) ≡ [] → stamps_by m.geometry.block_size e (outcome.Refused refused) ≡ []
      → IsTrue (may_zero (file_at m file).mode by e) → IsSound e → Acts (Turn stripe others (entry_by p.caller e (outcome.Refused refused))) p q → IsStripeOf m file stripe → IsPassOf m q → KeepsTickets p q → ServedBy a b (done_of e (outcome.Refused refused))
      → IfSome fault (IsCaused m (entry_by p.caller e (outcome.Refused refused) ∷ [])) → LaysNothing m (may_zero (file_at m file).mode by) file a b p q 0 fault
  refused-turn e refused fault stripe others a b p q lays stamps may sound did here of tickets served cause = record {
    acts = Turn stripe others (entry_by p.caller e (outcome.Refused refused)) ∷ [];
    steps = served-turn m file (may_zero (file_at m file).mode by) p q stripe others e (outcome.Refused refused) a b did here may refl (bare-placed m file stripe others (entry_by p.caller e (outcome.Refused refused)) stamps) of tickets served;
    laid = append-nil (laid_by m.geometry.block_size e (outcome.Refused refused)) ∙ lays;
    stamps = append-nil (stamps_by m.geometry.block_size e (outcome.Refused refused)) ∙ stamps;
    cause = cause;
    sent = omega arith;
    sound = λ none. All-cons (λ (e : Entry). IsSound e.event) (entry_by p.caller e (outcome.Refused refused)) [] sound (All-nil (λ (e : Entry). IsSound e.event));
    dry = λ dax. refl;
  }

  module _ (seen : Sample) (from to : ℕ) (p q : PassView) (laid : IsLaidOut m) (under : LieUnder m file seen from to p) (of : IsPassOf m q) (tickets : KeepsTickets p q) where
    abbrev stripe : ℕ
    stripe = stripe_at m file (block_at m from)

    here : IsStripeOf m file stripe
    here = (block_at m from, under-block m file seen from to p under, refl)

    some : 0 < m.geometry.block_size
    some = under-some m file seen from to p under

    -- a file with a page cache is zeroed there, and one without it in its sectors
    cached-may : (file_at m file).mode ≡ Cached → IsTrue (may_zero (file_at m file).mode by (event.StoreZeros by seen from to))
    cached-may cached = ap (λ c. is_cached c && is_tag by by) cached ∙ own-tag by

    through-may : (file_at m file).mode ≡ Dax → IsTrue (may_zero (file_at m file).mode by (event.DaxZero by seen from to))
    through-may dax = ap (λ c. not (is_cached c) && is_tag by by) dax ∙ own-tag by

    -- the turn in the page cache, whatever it answered
    abbrev TurnsSo : Result (Unit {0}) EventFault → Type 0
    TurnsSo answer = TurnsAt (λ opening history before after entry. StoredZeros (zeros_run by seen from to) (zeros_run by seen from to) before after (claims_of p) (claims_of p) answer entry) m stripe (claims_of p) (claims_of p) p q

    pub zeroed-once : (file_at m file).mode ≡ Cached → (r : Result (Unit {0}) EventFault) → TurnsSo r → ZeroedOnce m file by from to p q r
    zeroed-once cached (Ok done) t = λ lane.
        zeros-turn (event.StoreZeros by seen from to) stripe from to t.turned.others lane lane p q refl refl (cached-may cached)
        (subst (λ e. Acts (Turn stripe t.turned.others e) p q) t.turned.done.entry_is (turned-act t)) some under.some here (met-placed m file seen from to p under by t.turned.others (entry_by p.caller (event.StoreZeros by seen from to) outcome.Finished) refl) of tickets (served-none lane) tt
    zeroed-once cached (Err refused) t = record {
      nothing = λ lane.
          refused-turn (event.StoreZeros by seen from to) refused None stripe t.turned.others lane lane p q refl refl (cached-may cached) tt
          (subst (λ e. Acts (Turn stripe t.turned.others e) p q) t.turned.done.entry_is (turned-act t)) here of tickets (served-none lane) tt;
      block = λ b is.
          let sizes : t.turned.value.geometry ≡ m.geometry = t.turned.stood.holds.same_run.geometry ∙ stripe-sizes m stripe t.cell laid t.stand.cell_is in
          cold-in-file m file seen from to p t.turned.value b under sizes (sym t.turned.done.refused ∙ is);
    }

    -- a turn in the sectors that was refused, from what its lane was asked
    refused-through : (file_at m file).mode ≡ Dax → (a b : LaneView) (n cookie : ℕ) (hinders mapped : Bool) (answer : Option Done) (e : EventFault) (others : List Entry) → RefusesNow (where_true hinders (refusal.Stale seen.cookie cookie)) mapped answer e → IsAsked AsksLane n a b answer
        → Acts (Turn stripe others (entry_by p.caller (event.DaxZero by seen from to) (outcome.Refused e))) p q → Zeroes m file by from to a b p q (came_of from to 0 (after_refusal e))
    refused-through dax a b n cookie true mapped answer e others refuses asked did =
        subst (λ f. Zeroes m file by from to a b p q (came_of from to 0 (after_refusal f))) (sym refuses.0)
        (quiet-zeroes from to a b p q None some
        (refused-turn (event.DaxZero by seen from to) (refusal.Stale seen.cookie cookie) None stripe others a b p q refl refl (through-may dax) tt
        (subst (λ f. Acts (Turn stripe others (entry_by p.caller (event.DaxZero by seen from to) (outcome.Refused f))) p q) refuses.0 did) here of tickets (passed-so a b n answer asked) tt) tt)
    refused-through dax a b n cookie false mapped answer refusal.NoMemory others refuses asked did =
        quiet-zeroes from to a b p q (Some NoMemory) some
        (refused-turn (event.DaxZero by seen from to) refusal.NoMemory (Some NoMemory) stripe others a b p q refl refl (through-may dax) tt did here of tickets (passed-so a b n answer asked) tt) tt
    refused-through dax a b n cookie false mapped answer (refusal.Poison done) others refuses asked did =
        quiet-zeroes from to a b p q (Some (Eio done.lane done.before done.after)) some
        (refused-turn (event.DaxZero by seen from to) (refusal.Poison done) (Some (Eio done.lane done.before done.after)) stripe others a b p q refl refl (through-may dax) tt did here of tickets
        (judged-so a b n done (subst (IsAsked AsksLane n a b) refuses.2 asked))
        (0, done, refl, record { failed = refuses.1; lane_is = refl; before_is = refl; after_is = refl })) tt
    refused-through dax a b n cookie false mapped answer e others refuses asked did = absurd refuses

    -- the turn in the sectors, whatever it answered
    abbrev ThroughSo : LaneView → LaneView → Result (Unit {0}) EventFault → Type 0
    ThroughSo a b answer = TurnsAt (λ opening history before after entry. ZeroedOn a b by seen from to before after p.caller answer entry) m stripe (claims_of p) (claims_of p) p q

    pub zeroed-through : (file_at m file).mode ≡ Dax → (a b : LaneView) (r : Result (Unit {0}) EventFault) → ThroughSo a b r → ZeroedThrough m file by from to a b p q r
    zeroed-through dax a b (Ok done) t =
        let judged = t.turned.done.answers.judged in
        zeros-turn (event.DaxZero by seen from to) stripe from to t.turned.others a b p q refl refl (through-may dax)
        (subst (λ e. Acts (Turn stripe t.turned.others e) p q) t.turned.done.entry_is (turned-act t)) some under.some here (met-placed m file seen from to p under by t.turned.others (entry_by p.caller (event.DaxZero by seen from to) outcome.Finished) refl) of tickets (passed-so a b _ judged.answer judged.is_asked) tt
    zeroed-through dax a b (Err e) t =
        let answers = t.turned.done.answers in
        refused-through dax a b _ _ _ _ answers.judged.answer e t.turned.others answers.refused answers.judged.is_asked
        (subst (λ x. Acts (Turn stripe t.turned.others x) p q) t.turned.done.entry_is (turned-act t))

  -- the pass goes on after a turn
  pub zeroes-go : (from to : ℕ) (a b : LaneView) (p q : PassView) (came : Progress) → Zeroes m file by from to a b p q came → GoesAt m file by p → GoesAt m file by q
  zeroes-go from to a b p q came z goes = goes-at m file by (may_zero (file_at m file).mode by) a b p q z.laid.acts z.laid.steps goes

  pub once-goes-at : (from to : ℕ) (p q : PassView) (r : Result (Unit {0}) EventFault) → GoesAt m file by p → ZeroedOnce m file by from to p q r → GoesAt m file by q
  once-goes-at from to p q (Ok done) goes z = zeroes-go from to (lane_of 0 0 None) (lane_of 0 0 None) p q (progress to 0 None) (z (lane_of 0 0 None)) goes
  once-goes-at from to p q (Err refused) goes z = (let n = z.nothing (lane_of 0 0 None) in goes-at m file by (may_zero (file_at m file).mode by) (lane_of 0 0 None) (lane_of 0 0 None) p q n.acts n.steps goes)

  pub through-goes-at : (from to : ℕ) (a b : LaneView) (p q : PassView) (r : Result (Unit {0}) EventFault) → GoesAt m file by p → ZeroedThrough m file by from to a b p q r → GoesAt m file by q
  through-goes-at from to a b p q (Ok done) goes z = zeroes-go from to a b p q (progress to 0 None) z goes
  through-goes-at from to a b p q (Err refused) goes z = zeroes-go from to a b p q (came_of from to 0 (after_refusal refused)) z goes

  -- a read of a cold block is a step of zeros in the page cache
  fills-zero : (file_at m file).mode ≡ Cached → (e : Event) → IsTrue (fills e) → IsTrue (may_zero (file_at m file).mode by e)
  fills-zero cached (event.LendRead block most) is = ap is_cached cached
  fills-zero cached (event.FillBack ticket block blocks done) is = ap is_cached cached
  fills-zero cached e is = absurd (false≢true is)

  -- zeros that were refused are to be laid again, or there was no memory for them
  pub refused-zeroes : (from to : ℕ) (p q : PassView) (refused : EventFault) (lane : LaneView) → 0 < m.geometry.block_size → RefusedZeros m file by from to p q refused → Zeroes m file by from to lane lane p q (progress from 0 None)
  refused-zeroes from to p q refused lane some r = quiet-zeroes from to lane lane p q None some (r.nothing lane) tt

  pub wanting-zeroes : (from to : ℕ) (p q : PassView) (refused : EventFault) (lane : LaneView) → 0 < m.geometry.block_size → RefusedZeros m file by from to p q refused → Zeroes m file by from to lane lane p q (progress from 0 (Some NoMemory))
  wanting-zeroes from to p q refused lane some r =
      (let n = r.nothing lane in quiet-zeroes from to lane lane p q (Some NoMemory) some (record { acts = n.acts; steps = n.steps; laid = n.laid; stamps = n.stamps; cause = tt; sent = n.sent; sound = n.sound; dry = n.dry }) tt)

  -- or the cold block of them was to be read
  warm-zeros : (file_at m file).mode ≡ Cached → (from to block : ℕ) (a b : LaneView) (p q : PassView) (bios : ℕ) (fault : Option Fault) → 0 < m.geometry.block_size → IsInPart m file from to block → WarmsBlock m file block a b p q bios fault → IfSome fault IsDeviceOrMemory
      → Zeroes m file by from to a b p q (progress from bios fault)
  unfolding nothing-may
  warm-zeros cached from to block a b p q bios fault some part w stops =
      nothing-zeroes from to a b p q bios fault some (nothing-may m file fills (may_zero (file_at m file).mode by) (fills-zero cached) a b p q bios fault w.nothing) (block-reads m file from to block part fault w.nothing.acts w.few) stops

  warmed-then : (file_at m file).mode ≡ Cached → (from to block : ℕ) (a b : LaneView) (p q r : PassView) (bios : ℕ) (fault : Option Fault) → 0 < m.geometry.block_size → RefusedZeros m file by from to p q (refusal.Cold block) → WarmsBlock m file block a b q r bios fault → IfSome fault IsDeviceOrMemory
      → Zeroes m file by from to a b p r (progress from bios fault)
  warmed-then cached from to block a b p q r bios fault some ref w stops =
      let few = w.nothing.sent in
      let n : min (0 + bios) (2 ^ 64 - 1) ≡ bios = omega (arith, few) in
      subst (Zeroes m file by from to a b p r) (ap (λ k. progress from k fault) n)
      (zeroes-then from to to a a b p q r (progress from 0 None) (progress from bios fault) some refl (inl refl) (λ f acts reads. reads)
      (quiet-zeroes from to a a p q None some (ref.nothing a) tt) (warm-zeros cached from to block a b q r bios fault some (ref.block block refl) w stops))

  pub warm-zeroes : (file_at m file).mode ≡ Cached → (from to block : ℕ) (a b : LaneView) (p q r : PassView) (bios : ℕ) (tried : Try) → 0 < m.geometry.block_size → RefusedZeros m file by from to p q (refusal.Cold block) → Warmed m file block a b q r bios tried → Zeroes m file by from to a b p r (came_of from to bios tried)
  warm-zeroes cached from to block a b p q r bios try.Stored _ ref w = absurd w
  warm-zeroes cached from to block a b p q r bios try.Stale _ ref w = absurd w
  warm-zeroes cached from to block a b p q r bios try.Again some ref w = warmed-then cached from to block a b p q r bios None some ref w tt
  warm-zeroes cached from to block a b p q r bios (try.Stopped fault) some ref w = warmed-then cached from to block a b p q r bios (Some fault) some ref w.0 w.1

  -- a loop of tries at a part
  pub zero-tries : (from to : ℕ) (a b c : LaneView) (p q r : PassView) (bios sent : ℕ) (tried : Try) (came next : Progress) → 0 < m.geometry.block_size → came ≡ came_of from to sent tried → next ≡ followed (progress from bios None) came
      → Zeroes m file by from to a b p q (progress from bios None) → Zeroes m file by from to b c q r (came_of from to sent tried) → Zeroes m file by from to a c p r next
  zero-tries from to a b c p q r bios sent tried came next some is so one two =
      subst (Zeroes m file by from to a c p r) (sym (so ∙ ap (followed (progress from bios None)) is))
      (zeroes-then from to to a b c p q r (progress from bios None) (came_of from to sent tried) some refl (inl refl) (λ f acts reads. reads) one two)

-- a part in the page cache may become zeros
pub zeros-ready : (m : MountView) (file : FileId) (seen : Sample) (from to : ℕ) (p : PassView) → IsLaidOut m → (file_at m file).mode ≡ Cached → LieUnder m file seen from to p → from / m.geometry.block_size / m.geometry.folio_blocks ≡ (to - 1) / m.geometry.block_size / m.geometry.folio_blocks
    → (cell : CellView RangeView) → slice_get m.stripes (stripe_at m file (block_at m from)) ≡ Some cell → CanStoreZeros cell.opening seen from to
zeros-ready m file seen from to p laid cached under folio cell here = record { bytes = folio-here m file seen from to p under laid cell here cached folio; extent = extent-here m file seen from to p under laid cell here }
