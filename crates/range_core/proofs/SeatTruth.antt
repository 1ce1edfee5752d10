-- The range truth after an event that was refused, though its seat may have had a turn at the pool.
use Rattle.std.proofs.Common.{◌≡◌, ℕ, Some, List, [], ◌∷◌, ◌++◌, set, refl, sym, ◌∙◌, subst, arith}
use Rattle.space_pool.specs.Turns.{KeepsSeat}
use Rattle.space_pool.specs.Pool.{no_space}
use Rattle.space_pool.specs.declared.answer.NoSpace.{NoSpace}
use Rattle.space_pool.specs.declared.entry.PoolEntry.{PoolEntry}
use Rattle.turn_cell.specs.Views.{SeatView}
use Rattle.range_core.specs.ClaimsView.{ClaimsView}
use Rattle.range_core.specs.PoolTurns.{LeavesAlone, PoolPlace, at_seat, place_of}
use Rattle.range_core.specs.RangeTruth.{RangeTruth}
use Rattle.range_core.specs.RangeView.{RangeView, part_in}
use Rattle.range_core.specs.Stakes.{RangeStake}
use Rattle.range_core.specs.declared.entry.Entry.{Entry}
use Rattle.range_core.specs.declared.entry.Event.{Event}
use Rattle.range_core.specs.declared.entry.Outcome.TheVariants.{Refused}
use Rattle.range_core.specs.declared.fault.EventFault.{EventFault}
use Rattle.range_core.specs.declared.fault.EventFault.TheVariants as why
use Rattle.range_core.proofs.AfterEntry.{quiet_truth}
use Rattle.range_core.proofs.KindRuns.{keep_samples}
use Rattle.range_core.proofs.RefusedLemmas.{refused_is_quiet}
use Rattle.range_core.proofs.PoolLemmas.{part_kept}
use Rattle.range_core.proofs.StakeTruth.{Works}

-- the truth does not depend on what a seat at the same pool has seen and made there
pub seat_truth : (opening now : RangeView) (seat : SeatView PoolEntry) (history : List Entry) (stakes : List RangeStake) → part_in seat ≡ part_in now.seat → RangeTruth opening now history stakes → RangeTruth opening (at_seat now seat) history stakes
seat_truth opening now seat history stakes same t = record {
  same_run = record { geometry = t.same_run.geometry; mode = t.same_run.mode; first = t.same_run.first; blocks = t.same_run.blocks; pool = same ∙ t.same_run.pool };
  few = t.few;
  blocks = t.blocks;
  states = t.states;
  errors_counted = t.errors_counted;
  tickets_counted = t.tickets_counted;
  cookie_counts_changes = t.cookie_counts_changes;
  samples_give_extents = keep_samples now (at_seat now seat) history refl (omega arith) (λ _. refl) t.samples_give_extents;
  journal_is_history = t.journal_is_history;
  pool_claims_sectors = t.pool_claims_sectors;
  cookie_has_headroom = t.cookie_has_headroom;
  dax_is_uncached = t.dax_is_uncached;
  callers_are_apart = t.callers_are_apart;
  has_happened = t.has_happened;
}

-- the entry of an event that was refused
abbrev pub refused_entry : ClaimsView → Event → EventFault → Entry
refused_entry claims event fault = record { caller = claims.caller; event = event; outcome = Refused fault }

module _ (opening now next : RangeView) (history : List Entry) (stakes : List RangeStake) (number : ℕ) (claims : ClaimsView) (made : List Entry) (event : Event) where
  abbrev TruthAfter : RangeView → EventFault → Type 0
  TruthAfter r fault = RangeTruth opening r (history ++ refused_entry claims event fault ∷ []) (set stakes number (Some claims, made ++ refused_entry claims event fault ∷ []))

  -- the truth holds where an event was refused, and nothing but the seat at the pool changed
  pub refused_truth : (turn : NoSpace → PoolPlace → PoolPlace → Type 0) → ((none : NoSpace) (p q : PoolPlace) → turn none p q → KeepsSeat p.seat q.seat) → (fault : EventFault) → LeavesAlone turn fault now next
      → RangeTruth opening now history stakes → Works stakes number claims made → TruthAfter next fault
  refused_truth turn keeps fault left t here = at fault left
    where
      quiet : (fault : EventFault) (r : RangeView) → RangeTruth opening r history stakes → TruthAfter r fault
      quiet fault r u = quiet_truth opening r history (refused_entry claims event fault) stakes number claims made u here (refused_is_quiet opening.geometry.block_size claims.caller event fault) tt refl

      stays : (fault : EventFault) → next ≡ now → TruthAfter next fault
      stays fault e = let T : RangeView → Type 0 = λ r. TruthAfter r fault in subst T (sym e) (quiet fault now t)

      at : (fault : EventFault) → LeavesAlone turn fault now next → TruthAfter next fault
      at (why.Stale a b) left = stays (why.Stale a b) left
      at (why.Away a b) left = stays (why.Away a b) left
      at (why.Cold a) left = stays (why.Cold a) left
      at (why.Settled a) left = stays (why.Settled a) left
      at (why.Unattached a) left = stays (why.Unattached a) left
      at (why.Dirty a) left = stays (why.Dirty a) left
      at (why.Worn a) left = stays (why.Worn a) left
      at why.NoMemory left = stays why.NoMemory left
      at (why.NoSpace a b) left =
          let kept = keeps (no_space a b) (place_of now) (place_of next) left.1 in
          let T : RangeView → Type 0 = λ r. TruthAfter r (why.NoSpace a b) in
          subst T (sym left.0) (quiet (why.NoSpace a b) (at_seat now next.seat) (seat_truth opening now next.seat history stakes (part_kept now.seat next.seat kept) t))
      at (why.Poison a) left = stays (why.Poison a) left
