-- What one store of a part tells, and one read of a cold block.
use Rattle.std.proofs.Common.{inl, ◌≡◌, ℕ, ◌+◌, ◌-◌, ◌<◌, ◌∷◌, [], List, min, drop, refl, sym, ap, ◌∙◌, subst, arith, append-nil, Some, None, Ok, Err}
use Rattle.std.specs.Prelude.{◌^◌, ◌/◌, ◌==◌, Bool, length, IsTrue, Option, Result, slice_get}
use Rattle.std.proofs.lemmas.Bool.{eq-eqb, false≢true}
use Rattle.std.proofs.lemmas.List.{drop-drop}
use Rattle.std.proofs.lemmas.List.Elements.{All-cons, All-nil}
use Rattle.iob_base.specs.declared.answer.Fault.{Fault}
use Rattle.iob_base.specs.declared.answer.Fault.TheVariants.{NoMemory}
use Rattle.iob_base.specs.declared.stamp.FileId.{FileId}
use Rattle.iob_base.specs.declared.stamp.Mode.TheVariants.{Cached}
use Rattle.iob_base.specs.declared.stamp.Tag.{Tag}
use Rattle.iov_iter.specs.IovView.{IovView, moved_to}
use Rattle.fault_device.specs.LaneView.{LaneView, lane_of}
use Rattle.turn_cell.specs.Views.{CellView}
use Rattle.range_core.specs.ByteRuns.{HasNext}
use Rattle.range_core.specs.ClaimsView.{ClaimsView}
use Rattle.range_core.specs.RangeView.{RangeView}
use Rattle.range_core.specs.Stamps.{done_by}
use Rattle.range_core.specs.Stores.{CanStore, next_bytes, past}
use Rattle.range_core.specs.declared.entry.Entry.{Entry}
use Rattle.range_core.specs.declared.entry.Event.{Event}
use Rattle.range_core.specs.declared.entry.Event.TheVariants as event
use Rattle.range_core.specs.declared.entry.Outcome.TheVariants as outcome
use Rattle.range_core.specs.declared.fault.EventFault.{EventFault}
use Rattle.range_core.specs.declared.fault.EventFault.TheVariants as refusal
use Rattle.range_core.specs.declared.sample.Sample.{Sample}
use Rattle.range_core.proofs.LawfulLemmas.{both}
use Rattle.range_core.proofs.StoreLemmas.{length-next_bytes}
use Rattle.mount_parts.specs.MountView.{IsLaidOut, MountView, file_at, stripe_at}
use Rattle.mini_fs.specs.Acts.{Act, Acted, Acts}
use Rattle.mini_fs.specs.Acts.Act.{Turn}
use Rattle.mini_fs.specs.CallActs.{IsStripeOf, is_tag, loans_in}
use Rattle.mini_fs.specs.PageTurns.{StoredFrom, entry_by}
use Rattle.mini_fs.specs.PassView.{IsPassOf, PassView}
use Rattle.mini_fs.specs.Tickets.{KeepsTickets}
use Rattle.mini_fs.specs.Turns.{TurnsAt, block_at}
use Rattle.mini_fs.proofs.ActLemmas.{turned-act}
use Rattle.mini_fs.proofs.Layouts.{stripe-sizes}
use Rattle.call_parts.specs.Budgets.{IsSound}
use Rattle.call_parts.specs.Fills.{fills}
use Rattle.buffered_write.specs.PartReads.{ReadsInPart}
use Rattle.call_parts.specs.Steps.{IsPlaced}
use Rattle.buffered_write.specs.Lays.{CanLay, GoesOn, LaysNothing, Meet}
use Rattle.buffered_write.specs.Pwrites.{IsInPart, RefusedStore, StoredOnce, Warmed, WarmsBlock, Writes, came_of, followed, may_write, progress}
use Rattle.call_parts.specs.Steps.{Steps}
use Rattle.call_parts.specs.declared.progress.Progress.{Progress}
use Rattle.buffered_write.specs.declared.store_part.Try.{Try}
use Rattle.buffered_write.specs.declared.store_part.Try.TheVariants as try
use Rattle.buffered_write.proofs.ColdLemmas.{cold-in-file}
use Rattle.buffered_write.proofs.LayLemmas.{laid-nothing, laid-then, nothing-may}
use Rattle.buffered_write.proofs.PartReadLemmas.{block-reads, quiet-reads, reads-then}
use Rattle.buffered_write.proofs.UnderLemmas.{at-of, extent-here, folio-here, given-after, goes-at, met-placed, on-of, one-turn, under-block, under-of, under-some}
use Rattle.call_parts.proofs.NumberLemmas.{own-tag}
use Rattle.call_parts.proofs.PartLemmas.{over-met}
use Rattle.call_parts.proofs.PlacedLemmas.{bare-placed}
use Rattle.call_parts.proofs.StepLemmas.{steps-none}

-- a pass that goes on through a file's cache goes on after a step
pub goes-on : (m : MountView) (file : FileId) (by : Tag) (may : Event → Bool) (a b : LaneView) (p q : PassView) (acts : List Act) → Steps m file may a b p q acts → GoesOn m file by p → GoesOn m file by q
goes-on m file by may a b p q acts steps goes = on-of m file by q goes.cached (goes-at m file by may a b p q acts steps (at-of m file by p goes))

pub can-lay-after : (m : MountView) (file : FileId) (seen : Sample) (from to : ℕ) (p q : PassView) (acts : List Act) → Acted acts p q → CanLay m file seen from to p → CanLay m file seen from to q
can-lay-after m file seen from to p q acts did can = record {
  some = can.some;
  low = can.low;
  high = can.high;
  lies = can.lies;
  space = can.space;
  given = given-after p q acts (stripe_at m file seen.extent.block) seen did can.given;
}

-- where bytes may be laid, a block has some
pub lay-some : (m : MountView) (file : FileId) (seen : Sample) (from to : ℕ) (p : PassView) → CanLay m file seen from to p → 0 < m.geometry.block_size
lay-some m file seen from to p can = under-some m file seen from to p (under-of m file seen from to p can)

-- a part of bytes that may be laid may be stored
pub store-ready : (m : MountView) (file : FileId) (seen : Sample) (from to : ℕ) (p : PassView) (iov : IovView) → IsLaidOut m → (file_at m file).mode ≡ Cached → CanLay m file seen from to p
    → from / m.geometry.block_size / m.geometry.folio_blocks ≡ (to - 1) / m.geometry.block_size / m.geometry.folio_blocks → HasNext iov (to - from)
    → (cell : CellView RangeView) → slice_get m.stripes (stripe_at m file (block_at m from)) ≡ Some cell → CanStore cell.opening seen from to iov
store-ready m file seen from to p iov laid cached can folio room cell here =
    let under = under-of m file seen from to p can in
    record {
      bytes = folio-here m file seen from to p under laid cell here cached folio;
      extent = extent-here m file seen from to p under laid cell here;
      space = can.space;
      room = room;
    }

-- nothing past an iov's place is the iov
past-none : (from : ℕ) (iov : IovView) → past iov (from - from) ≡ iov
past-none from iov = (let z : iov.place + (from - from) ≡ iov.place = omega arith in ap (λ n. moved_to n iov) z)

module _ (m : MountView) (file : FileId) (by : Tag) where
  -- a step that lays nothing is one of a write
  pub nothing-writes : (from to : ℕ) (a b : LaneView) (p q : PassView) (iov later : IovView) (bios : ℕ) (fault : Option Fault) → 0 < m.geometry.block_size → later ≡ iov → (step : LaysNothing m (may_write by) file a b p q bios fault) → ReadsInPart m file from to fault step.acts
      → Writes m file by from to a b p q iov later (progress from bios fault)
  unfolding laid-nothing
  nothing-writes from to a b p q iov later bios fault some same step few = record {
    laid = laid-nothing m (may_write by) file by some from (drop iov.place iov.bytes) a b p q bios fault step;
    few = few;
    moved = same ∙ sym (past-none from iov);
  }

  -- and reads nothing where it sent no bio
  nothing-lent : {a b : LaneView} {p q : PassView} {fault : Option Fault} (step : LaysNothing m (may_write by) file a b p q 0 fault) → loans_in step.acts ≡ 0
  nothing-lent step = (let sent = step.sent in omega (arith, sent))

  pub quiet-writes : (from to : ℕ) (a b : LaneView) (p q : PassView) (iov later : IovView) (fault : Option Fault) → 0 < m.geometry.block_size → later ≡ iov → LaysNothing m (may_write by) file a b p q 0 fault → Writes m file by from to a b p q iov later (progress from 0 fault)
  quiet-writes from to a b p q iov later fault some same step = nothing-writes from to a b p q iov later 0 fault some same step (quiet-reads m file from to fault step.acts (step.sound refl) (nothing-lent step))

  -- a write that came to a place, and goes on there with a part of the range
  pub writes-then : (from to end : ℕ) (a b c : LaneView) (p q r : PassView) (iov later last : IovView) (came next : Progress) → 0 < m.geometry.block_size → came.fault ≡ None → Meet m.geometry.block_size from came.at next.at
      → ((fault : Option Fault) (acts : List Act) → ReadsInPart m file came.at end fault acts → ReadsInPart m file from to fault acts)
      → Writes m file by from to a b p q iov later came → Writes m file by came.at end b c q r later last next → Writes m file by from to a c p r iov last (followed came next)
  unfolding laid-then
  writes-then from to end a b c p q r iov later last came next some whole meet wider one two =
      let low = one.laid.begins in
      let high = two.laid.begins in
      let rest : drop later.place later.bytes ≡ drop (came.at - from) (drop iov.place iov.bytes) = ap (λ (v : IovView). drop v.place v.bytes) one.moved ∙ sym (drop-drop (came.at - from) iov.place iov.bytes) in
      let n : iov.place + (came.at - from) + (next.at - came.at) ≡ iov.place + (next.at - from) = omega (arith, low, high) in
      record {
        laid = laid-then m (may_write by) file by some from (drop iov.place iov.bytes) (drop later.place later.bytes) a b c p q r came next whole rest meet one.laid two.laid;
        few = reads-then m file from to next.fault one.laid.acts two.laid.acts (subst (λ f. ReadsInPart m file from to f one.laid.acts) whole one.few) (wider next.fault two.laid.acts two.few);
        moved = two.moved ∙ ap (λ (v : IovView). past v (next.at - came.at)) one.moved ∙ ap (λ k. moved_to k iov) n;
      }

  own-store : (seen : Sample) (from to : ℕ) (bytes : List ℕ) → length bytes ≡ to - from → IsTrue (may_write by (event.Store by seen from to bytes))
  own-store seen from to bytes long = both (is_tag by by) (length bytes == to - from) (own-tag by) (eq-eqb (length bytes) (to - from) long)

  -- a turn that stored a part
  pub stored-so : (stripe from to : ℕ) (others : List Entry) (seen : Sample) (p q : PassView) (iov later : IovView) → Acts (Turn stripe others (entry_by p.caller (event.Store by seen from to (next_bytes iov (to - from))) outcome.Finished)) p q → 0 < m.geometry.block_size
      → from < to → IsStripeOf m file stripe → HasNext iov (to - from) → IsPlaced m file (Turn stripe others (entry_by p.caller (event.Store by seen from to (next_bytes iov (to - from))) outcome.Finished)) → IsPassOf m q → KeepsTickets p q → later ≡ past iov (to - from) → (lane : LaneView) → Writes m file by from to lane lane p q iov later (progress to 0 None)
  stored-so stripe from to others seen p q iov later did some less here room placed of tickets moved lane =
      let size = m.geometry.block_size in
      let bytes = next_bytes iov (to - from) in
      let long = length-next_bytes iov (to - from) room in
      record {
        laid = record {
          acts = Turn stripe others (entry_by p.caller (event.Store by seen from to bytes) outcome.Finished) ∷ [];
          steps = one-turn m file (may_write by) p q stripe others (event.Store by seen from to bytes) outcome.Finished did here (own-store seen from to bytes long) refl refl placed of tickets lane;
          begins = omega (arith, less);
          laid = record { order = (refl, tt); together = append-nil bytes; reach = omega (arith, long, less) };
          stamps = append-nil _ ∙ sym (over-met size some (done_by by) from to less);
          cause = tt;
          bios = omega arith;
          dry = λ dax. refl;
        };
        few = quiet-reads m file from to None (Turn stripe others (entry_by p.caller (event.Store by seen from to bytes) outcome.Finished) ∷ [])
            (All-cons (λ (e : Entry). IsSound e.event) (entry_by p.caller (event.Store by seen from to bytes) outcome.Finished) [] tt (All-nil (λ (e : Entry). IsSound e.event))) refl;
        moved = moved;
      }

  -- a turn that refused to
  pub refused-so : (stripe from to : ℕ) (others : List Entry) (seen : Sample) (p q : PassView) (bytes : List ℕ) (refused : EventFault) → Acts (Turn stripe others (entry_by p.caller (event.Store by seen from to bytes) (outcome.Refused refused))) p q
      → length bytes ≡ to - from → IsStripeOf m file stripe → IsPassOf m q → KeepsTickets p q → (lane : LaneView) → LaysNothing m (may_write by) file lane lane p q 0 None
  refused-so stripe from to others seen p q bytes refused did long here of tickets lane = record {
    acts = Turn stripe others (entry_by p.caller (event.Store by seen from to bytes) (outcome.Refused refused)) ∷ [];
    steps = one-turn m file (may_write by) p q stripe others (event.Store by seen from to bytes) (outcome.Refused refused) did here (own-store seen from to bytes long) refl refl (bare-placed m file stripe others (entry_by p.caller (event.Store by seen from to bytes) (outcome.Refused refused)) refl) of tickets lane;
    laid = refl;
    stamps = refl;
    cause = tt;
    sent = omega arith;
    sound = λ none. All-cons (λ (e : Entry). IsSound e.event) (entry_by p.caller (event.Store by seen from to bytes) (outcome.Refused refused)) [] tt (All-nil (λ (e : Entry). IsSound e.event));
    dry = λ dax. refl;
  }

  module _ (seen : Sample) (from to : ℕ) (p q : PassView) (iov later : IovView) (claims : ClaimsView) where
    -- the turn of a store, whatever it answered
    abbrev TurnsSo : Result (Unit {0}) EventFault → Type 0
    TurnsSo answer = TurnsAt (λ opening history before after entry. StoredFrom by seen from to iov later before after p.caller answer entry) m (stripe_at m file (block_at m from)) claims claims p q

    pub stored-once : IsLaidOut m → 0 < m.geometry.block_size → CanLay m file seen from to p → HasNext iov (to - from) → IsPassOf m q → KeepsTickets p q → (r : Result (Unit {0}) EventFault) → TurnsSo r → StoredOnce m file by from to p q iov later r
    stored-once laid some can room of tickets (Ok done) t =
        stored-so (stripe_at m file (block_at m from)) from to t.turned.others seen p q iov later
        (subst (λ e. Acts (Turn (stripe_at m file (block_at m from)) t.turned.others e) p q) t.turned.done.entry_is (turned-act t))
        some can.some (block_at m from, under-block m file seen from to p (under-of m file seen from to p can), refl) room
        (met-placed m file seen from to p (under-of m file seen from to p can) by t.turned.others (entry_by p.caller (event.Store by seen from to (next_bytes iov (to - from))) outcome.Finished) refl) of tickets t.turned.done.moved
    stored-once laid some can room of tickets (Err refused) t =
        let under = under-of m file seen from to p can in
        record {
          nothing = refused-so (stripe_at m file (block_at m from)) from to t.turned.others seen p q (next_bytes iov (to - from)) refused
              (subst (λ e. Acts (Turn (stripe_at m file (block_at m from)) t.turned.others e) p q) t.turned.done.entry_is (turned-act t))
              (length-next_bytes iov (to - from) room) (block_at m from, under-block m file seen from to p under, refl) of tickets;
          same = t.turned.done.nothing;
          block = λ b is.
              let sizes : t.turned.value.geometry ≡ m.geometry = t.turned.stood.holds.same_run.geometry ∙ stripe-sizes m (stripe_at m file (block_at m from)) t.cell laid t.stand.cell_is in
              cold-in-file m file seen from to p t.turned.value b under sizes (sym t.turned.done.refused ∙ is);
        }

  -- a read of a cold block is a step of a write
  fills-may : (e : Event) → IsTrue (fills e) → IsTrue (may_write by e)
  fills-may (event.LendRead block most) is = refl
  fills-may (event.FillBack ticket block blocks done) is = refl
  fills-may e is = absurd (false≢true is)

  -- a store that was refused is to be made again or found its mapping stale, or there was no memory for it
  pub refused-writes : (from to : ℕ) (p q : PassView) (iov later : IovView) (refused : EventFault) (lane : LaneView) → 0 < m.geometry.block_size → RefusedStore m file by from to p q iov later refused → Writes m file by from to lane lane p q iov later (progress from 0 None)
  refused-writes from to p q iov later refused lane some r = quiet-writes from to lane lane p q iov later None some r.same (r.nothing lane)

  pub wanting-writes : (from to : ℕ) (p q : PassView) (iov later : IovView) (refused : EventFault) (lane : LaneView) → 0 < m.geometry.block_size → RefusedStore m file by from to p q iov later refused → Writes m file by from to lane lane p q iov later (progress from 0 (Some NoMemory))
  wanting-writes from to p q iov later refused lane some r =
      let n = r.nothing lane in
      quiet-writes from to lane lane p q iov later (Some NoMemory) some r.same (record { acts = n.acts; steps = n.steps; laid = n.laid; stamps = n.stamps; cause = tt; sent = n.sent; sound = n.sound; dry = n.dry })

  -- a read of a block that a range covers in part is a step of a write of the range
  warm-step : (from to block : ℕ) (a b : LaneView) (p q : PassView) (iov : IovView) (bios : ℕ) (fault : Option Fault) → 0 < m.geometry.block_size → IsInPart m file from to block → WarmsBlock m file block a b p q bios fault → Writes m file by from to a b p q iov iov (progress from bios fault)
  unfolding nothing-may
  warm-step from to block a b p q iov bios fault some part w =
      nothing-writes from to a b p q iov iov bios fault some refl (nothing-may m file fills (may_write by) fills-may a b p q bios fault w.nothing) (block-reads m file from to block part fault w.nothing.acts w.few)

  -- a store that was refused for a cold block, and the read of this
  warmed-then : (from to block : ℕ) (a b : LaneView) (p q r : PassView) (iov later : IovView) (bios : ℕ) (fault : Option Fault) → 0 < m.geometry.block_size → RefusedStore m file by from to p q iov later (refusal.Cold block) → WarmsBlock m file block a b q r bios fault
      → Writes m file by from to a b p r iov later (progress from bios fault)
  warmed-then from to block a b p q r iov later bios fault some ref w =
      let few = w.nothing.sent in
      let n : min (0 + bios) (2 ^ 64 - 1) ≡ bios = omega (arith, few) in
      subst (Writes m file by from to a b p r iov later) (ap (λ k. progress from k fault) n)
      (writes-then from to to a a b p q r iov later later (progress from 0 None) (progress from bios fault) some refl (inl refl) (λ f acts reads. reads)
      (quiet-writes from to a a p q iov later None some ref.same (ref.nothing a)) (warm-step from to block a b q r later bios fault some (ref.block block refl) w))

  pub warm-writes : (from to block : ℕ) (a b : LaneView) (p q r : PassView) (iov later : IovView) (bios : ℕ) (tried : Try) → 0 < m.geometry.block_size → RefusedStore m file by from to p q iov later (refusal.Cold block) → Warmed m file block a b q r bios tried
      → Writes m file by from to a b p r iov later (came_of from to bios tried)
  warm-writes from to block a b p q r iov later bios try.Stored some ref w = absurd w
  warm-writes from to block a b p q r iov later bios try.Stale some ref w = absurd w
  warm-writes from to block a b p q r iov later bios try.Again some ref w = warmed-then from to block a b p q r iov later bios None some ref w
  warm-writes from to block a b p q r iov later bios (try.Stopped fault) some ref w = warmed-then from to block a b p q r iov later bios (Some fault) some ref w.0

  -- the pass goes on after a store
  pub once-goes : (from to : ℕ) (p q : PassView) (iov later : IovView) (r : Result (Unit {0}) EventFault) → GoesOn m file by p → StoredOnce m file by from to p q iov later r → GoesOn m file by q
  once-goes from to p q iov later (Ok done) goes s = let w = s (lane_of 0 0 None) in goes-on m file by (may_write by) (lane_of 0 0 None) (lane_of 0 0 None) p q w.laid.acts w.laid.steps goes
  once-goes from to p q iov later (Err refused) goes s = let n = s.nothing (lane_of 0 0 None) in goes-on m file by (may_write by) (lane_of 0 0 None) (lane_of 0 0 None) p q n.acts n.steps goes

  -- a loop of tries at a part
  pub none-writes : (from to : ℕ) (lane : LaneView) (p : PassView) (iov : IovView) → 0 < m.geometry.block_size → IsPassOf m p → Writes m file by from to lane lane p p iov iov (progress from 0 None)
  none-writes from to lane p iov some of =
      quiet-writes from to lane lane p p iov iov None some refl (record { acts = []; steps = steps-none m file (may_write by) lane p of; laid = refl; stamps = refl; cause = tt; sent = omega arith; sound = λ none. All-nil (λ (e : Entry). IsSound e.event); dry = λ dax. refl })

  pub tries-then : (from to : ℕ) (a b c : LaneView) (p q r : PassView) (iov later last : IovView) (bios sent : ℕ) (tried : Try) (came next : Progress) → 0 < m.geometry.block_size → came ≡ came_of from to sent tried → next ≡ followed (progress from bios None) came
      → Writes m file by from to a b p q iov later (progress from bios None) → Writes m file by from to b c q r later last (came_of from to sent tried) → Writes m file by from to a c p r iov last next
  tries-then from to a b c p q r iov later last bios sent tried came next some is so one two =
      subst (Writes m file by from to a c p r iov last) (sym (so ∙ ap (followed (progress from bios None)) is))
      (writes-then from to to a b c p q r iov later last (progress from bios None) (came_of from to sent tried) some refl (inl refl) (λ f acts reads. reads) one two)

  -- a try after which the part is to be stored again left the iov, and came no further
  pub again-same : (from to : ℕ) (b c : LaneView) (q r : PassView) (iov later last : IovView) (sent : ℕ) (tried : Try) → tried ≡ try.Again → later ≡ iov → Writes m file by from to b c q r later last (came_of from to sent tried) → last ≡ iov
  again-same from to b c q r iov later last sent tried is same w = w.moved ∙ ap (λ t. past later ((came_of from to sent t).at - from)) is ∙ past-none from later ∙ same

  pub again-then : (from to bios sent : ℕ) (tried : Try) (came next : Progress) → tried ≡ try.Again → came ≡ came_of from to sent tried → next ≡ followed (progress from bios None) came → next ≡ progress from next.bios None
  again-then from to bios sent tried came next is came_is so =
      let e : next ≡ followed (progress from bios None) (came_of from to sent try.Again) = so ∙ ap (followed (progress from bios None)) (came_is ∙ ap (came_of from to sent) is) in
      e ∙ ap (λ n. progress from n None) (sym (ap (λ (v : Progress). v.bios) e))
