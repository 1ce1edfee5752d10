-- The range truth after promises of space were taken back.
use Rattle.std.proofs.Common.{◌≡◌, ℕ, ◌+◌, ◌-◌, not, ◌&&◌, if◌then◌else◌, nat_lt, Some, List, [], ◌∷◌, ◌++◌, take, drop, set, refl, sym, ap, arith, append-nil}
use Rattle.space_pool.specs.declared.entry.PoolEntry.{PoolEntry}
use Rattle.turn_cell.specs.Views.{SeatView}
use Rattle.range_core.specs.BlockStates.{becomes_hole}
use Rattle.range_core.specs.ClaimsView.{ClaimsView}
use Rattle.range_core.specs.EntryCounts.{one_where}
use Rattle.range_core.specs.Kinds.{is_delalloc}
use Rattle.range_core.specs.OnRun.{on_each}
use Rattle.range_core.specs.Placing.{count_in, is_unused}
use Rattle.range_core.specs.RangeTruth.{IsUncached, RangeTruth, pending}
use Rattle.range_core.specs.RangeView.{LiesAt, RangeView, part_in}
use Rattle.range_core.specs.Reserves.{unpromised, unreserved_run}
use Rattle.range_core.specs.Stakes.{RangeStake}
use Rattle.range_core.specs.declared.cell.Cell.{Cell}
use Rattle.range_core.specs.declared.entry.Entry.{Entry}
use Rattle.range_core.specs.declared.entry.Event.TheVariants.{Unreserve}
use Rattle.range_core.specs.declared.entry.Outcome.TheVariants.{Counted}
use Rattle.range_core.proofs.AfterEntry.{quiet_tickets}
use Rattle.range_core.proofs.AfterRun.{ChangesRun, CountsNext, changed_truth, in_run-true, keeps_claims}
use Rattle.range_core.proofs.CookieLemmas.{rises-few, unrisen}
use Rattle.range_core.proofs.CountLemmas.{count_on-total, on_each-unpicked, total-run}
use Rattle.range_core.proofs.FirstTruth.{total-zero}
use Rattle.range_core.proofs.KindRuns.{kinds_of}
use Rattle.range_core.proofs.OnRunLemmas.{All-on_each}
use Rattle.range_core.proofs.UnreserveLemmas.{unpromised-other, unpromised-pending, unpromised-state, unpromised-true, unpromised-uncached, space_released}
use Rattle.range_core.proofs.SampleLemmas.{samples_next}
use Rattle.range_core.proofs.StakeTruth.{Works}

module _ (opening now : RangeView) (seat : SeatView PoolEntry) (history : List Entry) (stakes : List RangeStake) (number : ℕ) (claims : ClaimsView) (made : List Entry) (block n k : ℕ) where
  abbrev f : ℕ → Cell → Cell
  f _ c = unpromised c

  abbrev e : Entry
  e = record { caller = claims.caller; event = Unreserve block n; outcome = Counted k }

  abbrev next : RangeView
  next = unreserved_run now block n seat

  abbrev others : List RangeStake
  others = set stakes number (Some claims, made ++ e ∷ [])

  pub unreserve_truth : RangeTruth opening now history stakes → Works stakes number claims made → LiesAt opening block n → part_in seat ≡ part_in now.seat → k ≡ count_in is_unused now block n
      → RangeTruth opening next (history ++ e ∷ []) others
  unreserve_truth t here lies pool counted =
      let size : ℕ = opening.geometry.block_size in
      let low : ℕ = block - opening.first in
      let first : block - now.first ≡ low = ap (λ m. block - m) t.same_run.first in
      let kept = λ (b : ℕ). keeps_claims size b stakes number claims claims made (made ++ e ∷ []) here refl in
      let run : ChangesRun opening now next history e stakes number claims claims made f block n = record {
        low = lies.low;
        cells = ap (λ m. on_each f 0 m n now.cells) first;
        outside = λ b out. record {
          content = λ x. refl;
          state = λ s. ap (λ u. if u && (is_delalloc s.kind && not s.dirty) then becomes_hole s else s) out;
          claims = kept b;
        };
        inside = λ j was content l at h. record {
          state = unpromised-state was _ (in_run-true block n (block + j) (omega arith) (omega arith));
          holds = kept (block + j) (unpromised was) content (unpromised-true size (block + j) was content stakes h);
        };
      } in
      let fewer = total-run f pending (λ c. one_where (is_unused c)) (λ _. 0) (λ _ c. unpromised-pending c) 0 (block - now.first) n now.cells in
      let none = total-zero (λ _. 0) (take n (drop (block - now.first) now.cells)) (λ i d l. refl) in
      let many = count_on-total is_unused (block - now.first) n now.cells in
      let next_counts : CountsNext size now next e = record {
        geometry = refl;
        mode = refl;
        first = refl;
        pool = pool;
        errors = let p = t.errors_counted in omega arith;
        tickets = quiet_tickets opening now history e stakes t refl;
        cookie = ap (λ m. now.cookie + one_where (nat_lt 0 m)) (sym counted);
        log = sym (append-nil now.log);
        headroom = let h = t.cookie_has_headroom in let r = rises-few (count_in is_unused now block n) in omega arith;
        uncached = λ d. All-on_each f IsUncached (λ _. unpromised-uncached) 0 (block - now.first) n now.cells (t.dax_is_uncached d);
        space = space_released size (block - now.first) n now.cells now.space t.pool_claims_sectors;
        found = λ i c at. refl;
      } in
      changed_truth opening now next history e stakes number claims claims made f block n t here run next_counts
      (samples_next now next history e refl (omega arith)
      (λ same. ap kinds_of (on_each-unpicked f is_unused (λ _ c u. unpromised-other c u) 0 (block - now.first) n now.cells (unrisen now.cookie _ same)))
      t.samples_give_extents tt)
      (record { caller = refl; spare = refl; main = refl }) refl
