use Rattle.std.proofs.Common.{◌≡◌, ℕ, ◌+◌, ◌-◌, ◌<◌, ◌≤◌, ◌⊎◌, ◌&&◌, not, if◌then◌else◌, is_some, Some, List, [], ◌∷◌, ◌++◌, set, refl, sym, ap, subst, arith, inl, inr, ⊎_elim}
use Rattle.range_core.specs.BlockStates.{state_after, state_of, without_page}
use Rattle.range_core.specs.BlockTruth.{IsTrueAt}
use Rattle.range_core.specs.DropCleans.{drop_entry, without_clean_page}
use Rattle.range_core.specs.OnRun.{on_run}
use Rattle.range_core.specs.RangeTruth.{IsUncached, RangeTruth, pending}
use Rattle.range_core.specs.RangeView.{RangeView}
use Rattle.range_core.specs.Spots.{in_run}
use Rattle.range_core.specs.declared.cell.Cell.{Cell}
use Rattle.range_core.specs.declared.entry.Entry.{Entry}
use Rattle.range_core.proofs.AfterEntry.{paged_truth}
use Rattle.range_core.proofs.AfterRun.{in_run-false, in_run-true}
use Rattle.range_core.proofs.DropCleanLemmas.{dropped-kind, dropped-pending, dropped-state, dropped-true, dropped-uncached}
use Rattle.range_core.proofs.OnRunLemmas.{All-on_each, IsInRun, IsOutOfRun, length-on_each, map-on_each, on_each-at, total-on_each}
use Rattle.range_core.proofs.range.drop_clean.DropCleanRunChangeRange.apply.Goals as goal
use Rattle.range_core.proofs.StakeTruth.{works}

abbrev drops : ℕ → Cell → Cell
drops _ c = without_clean_page c

beyond : (opened first i block n : ℕ) → first ≡ opened → opened ≤ block → (i < block - first) ⊎ (block - first + n ≤ i) → (opened + i < block) ⊎ (block + n ≤ opened + i)
beyond opened first i block n same low (inl h) = inl (omega arith)
beyond opened first i block n same low (inr h) = inr (omega arith)

pub returns : goal.returns
returns c s =
    let was = c.args.value.now in
    let run = c.args.self.now in
    let claims = c.args._claims.now in
    let low : ℕ = run.block - was.first in
    let cells : List Cell = on_run without_clean_page low run.blocks was.cells in
    let entry : Entry = drop_entry claims run c.drop_clean.result in
    let T : RangeView → Type 0 = λ r. RangeTruth s.opening r (s.history ++ entry ∷ []) (set s.stakes s.number (Some claims, s.made ++ entry ∷ [])) in
    record {
      entry = entry;
      done = record { change = refl; value = c.drop_clean.ensures.state; claims_are = refl; count = c.drop_clean.ensures.count; entry_is = refl };
      holds = subst T (sym c.drop_clean.ensures.state)
          (paged_truth s.opening was cells s.history entry s.stakes s.number claims s.made s.stands.holds (works s.stands.here s.is_ready.own)
          (record { content = λ b x. refl; failed = refl; lent = refl; changed = refl; stamps = refl; found = λ b s. refl })
          tt refl
          (length-on_each drops 0 low run.blocks was.cells)
          (map-on_each drops (λ (x : Cell). x.kind) (λ _. dropped-kind) 0 low run.blocks was.cells)
          (total-on_each drops pending (λ _. dropped-pending) 0 low run.blocks was.cells)
          (All-on_each drops IsUncached (λ _. dropped-uncached) 0 low run.blocks was.cells)
          (λ i old x there at.
          let b : ℕ = s.opening.first + i in
          let first = s.stands.holds.same_run.first in
          let begins = s.is_ready.may.low in
          let S : Cell → Type 0 = λ y. state_of y ≡ state_after s.opening.geometry.block_size b (state_of old) entry in
          ⊎_elim
          (λ (e : IsInRun drops 0 low run.blocks i old x). let low_is = e.low_is in let high = e.high in subst S (sym e.is) (dropped-state old (in_run run.block run.blocks b) (in_run-true run.block run.blocks b (omega arith) (omega arith))))
          (λ (e : IsOutOfRun low run.blocks i old x). subst S (sym e.is) (sym (ap (λ u. if u && (not old.dirty && not (is_some old.away)) then without_page (state_of old) else state_of old) (in_run-false run.block run.blocks b (beyond s.opening.first was.first i run.block run.blocks first begins e.out)))))
          (on_each-at drops 0 low run.blocks i was.cells old x there at))
          (λ i old x b content there at h. let S : Cell → Type 0 = λ y. IsTrueAt s.opening.geometry.block_size b y content s.stakes in
          ⊎_elim (λ (e : IsInRun drops 0 low run.blocks i old x). subst S (sym e.is) (dropped-true _ b old content s.stakes h)) (λ (e : IsOutOfRun low run.blocks i old x). subst S (sym e.is) h) (on_each-at drops 0 low run.blocks i was.cells old x there at)));
    }
