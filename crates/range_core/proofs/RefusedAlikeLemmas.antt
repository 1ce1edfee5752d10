-- What an event is refused for depends on the blocks' states and on the cookie alone.
use Rattle.std.proofs.Common.{◌≡◌, ℕ, zero, suc, ◌+◌, ◌-◌, ◌/◌, ◌==◌, Bool, true, false, ◌&&◌, ◌||◌, not, if◌then◌else◌, Option, Some, None, List, [], ◌∷◌, length, map, take, drop, refl, sym, ◌∙◌, ap, arith}
use Rattle.std.specs.Prelude.{is_none, is_some, slice_get}
use Rattle.std.specs.List.{list_any}
use Rattle.iob_base.specs.declared.sector.Page.{Page}
use Rattle.iob_base.specs.declared.stamp.Op.TheVariants.{Write}
use Rattle.range_core.specs.BlockStates.{BlockState, read_back, state_of, states_replayed}
use Rattle.range_core.specs.Kinds.{has_space, is_delalloc, is_hole, is_mapped, is_unwritten}
use Rattle.range_core.specs.RangeView.{RangeView}
use Rattle.range_core.specs.RefusedAlike.{AreRefusedAlike, FilledIsWarm, HistoryRefuses, cell_in, cells_after, states_after}
use Rattle.range_core.specs.Refusals.{◌orElse◌, away, away_with_page, cold, cold_in_part, covers_in_part, dirty, first_that_stops, is_cold, not_ready, run_of, some_block, stale, warm, where_true, will_convert, worn}
use Rattle.range_core.specs.Spots.{blocks_met}
use Rattle.range_core.specs.declared.cell.Cell.{Cell}
use Rattle.range_core.specs.declared.entry.Entry.{Entry}
use Rattle.range_core.specs.declared.fault.EventFault.{EventFault}
use Rattle.range_core.specs.declared.fault.EventFault.TheVariants.{Cold, Settled, Stale}
use Rattle.range_core.specs.declared.sample.Sample.{Sample}

-- blocks in the same state hinder alike
abbrev Alike : (ℕ → Cell → Option EventFault) → Type 0
Alike stops = (b : ℕ) (c d : Cell) → state_of c ≡ state_of d → stops b c ≡ stops b d

abbrev Passing : (Cell → Bool) → Type 0
Passing p = (c d : Cell) → state_of c ≡ state_of d → p c ≡ p d

cold_in : (c : Cell) → is_cold c ≡ (is_mapped c.kind && (is_none c.away && not (state_of c).uptodate))
cold_in c = at c.page
  where
    at : (o : Option Page) → (is_mapped c.kind && (is_none c.away && is_none o)) ≡ (is_mapped c.kind && (is_none c.away && not (is_some o)))
    at None = refl
    at (Some p) = refl

cold-alike : Passing is_cold
cold-alike c d e = cold_in c ∙ ap (λ (s : BlockState). is_mapped s.kind && (is_none s.away && not s.uptodate)) e ∙ sym (cold_in d)

stops-alike : (stops : ℕ → Cell → Option EventFault) → Alike stops → (b : ℕ) (cells other : List Cell) → map state_of cells ≡ map state_of other → first_that_stops stops b cells ≡ first_that_stops stops b other
stops-alike stops same b [] [] e = refl
stops-alike stops same b [] (d ∷ other) e = absurd (cc)
stops-alike stops same b (c ∷ cells) [] e = absurd (cc)
stops-alike stops same b (c ∷ cells) (d ∷ other) e =
    let here : state_of c ≡ state_of d = cc in
    let rest : map state_of cells ≡ map state_of other = cc in
    ap (λ o. o orElse first_that_stops stops (b + 1) cells) (same b c d here) ∙ ap (λ o. stops b d orElse o) (stops-alike stops same (b + 1) cells other rest)

any-alike : (p : Cell → Bool) → Passing p → (cells other : List Cell) → map state_of cells ≡ map state_of other → list_any p cells ≡ list_any p other
any-alike p same [] [] e = refl
any-alike p same [] (d ∷ other) e = absurd (cc)
any-alike p same (c ∷ cells) [] e = absurd (cc)
any-alike p same (c ∷ cells) (d ∷ other) e =
    let here : state_of c ≡ state_of d = cc in
    let rest : map state_of cells ≡ map state_of other = cc in
    ap (λ t. t || list_any p cells) (same c d here) ∙ ap (λ t. p d || t) (any-alike p same cells other rest)

take-alike : (n : ℕ) (cells other : List Cell) → map state_of cells ≡ map state_of other → map state_of (take n cells) ≡ map state_of (take n other)
take-alike zero cells other e = refl
take-alike (suc n) [] [] e = refl
take-alike (suc n) [] (d ∷ other) e = absurd (cc)
take-alike (suc n) (c ∷ cells) [] e = absurd (cc)
take-alike (suc n) (c ∷ cells) (d ∷ other) e =
    let here : state_of c ≡ state_of d = cc in
    let rest : map state_of cells ≡ map state_of other = cc in
    ap (λ s. s ∷ map state_of (take n cells)) here ∙ ap (λ l. state_of d ∷ l) (take-alike n cells other rest)

drop-alike : (n : ℕ) (cells other : List Cell) → map state_of cells ≡ map state_of other → map state_of (drop n cells) ≡ map state_of (drop n other)
drop-alike zero cells other e = e
drop-alike (suc n) [] [] e = refl
drop-alike (suc n) [] (d ∷ other) e = absurd (cc)
drop-alike (suc n) (c ∷ cells) [] e = absurd (cc)
drop-alike (suc n) (c ∷ cells) (d ∷ other) e =
    let rest : map state_of cells ≡ map state_of other = cc in
    drop-alike n cells other rest

or-alike : (a b x y : Option EventFault) → a ≡ x → b ≡ y → (a orElse b) ≡ (x orElse y)
or-alike a b x y e f = ap (λ o. o orElse b) e ∙ ap (λ o. x orElse o) f

away-alike : Alike away
away-alike b c d e = ap (λ (s : BlockState). away b (cell_in s)) e

away_page-alike : Alike away_with_page
away_page-alike b c d e = ap (λ (s : BlockState). away_with_page b (cell_in s)) e

dirty-alike : Alike dirty
dirty-alike b c d e = ap (λ (s : BlockState). dirty b (cell_in s)) e

ready-alike : Alike not_ready
ready-alike b c d e = ap (λ (s : BlockState). not_ready b (cell_in s)) e

module _ (r q : RangeView) (geometry : r.geometry ≡ q.geometry) (first : r.first ≡ q.first) (cookie : r.cookie ≡ q.cookie) (states : map state_of r.cells ≡ map state_of q.cells) where
  run-alike : (b n : ℕ) → map state_of (run_of r b n) ≡ map state_of (run_of q b n)
  run-alike b n = ap (λ f. map state_of (take n (drop (b - f) r.cells))) first ∙ take-alike n (drop (b - q.first) r.cells) (drop (b - q.first) q.cells) (drop-alike (b - q.first) r.cells q.cells states)

  stops : (f : ℕ → Cell → Option EventFault) → Alike f → (b n : ℕ) → first_that_stops f b (run_of r b n) ≡ first_that_stops f b (run_of q b n)
  stops f same b n = stops-alike f same b (run_of r b n) (run_of q b n) (run-alike b n)

  some : (p : Cell → Bool) → Passing p → (b n : ℕ) → some_block p r b n ≡ some_block p q b n
  some p same b n = any-alike p same (run_of r b n) (run_of q b n) (run-alike b n)

  stale-alike : (seen : Sample) → stale r seen ≡ stale q seen
  stale-alike seen = ap (λ k. where_true (not (seen.cookie == k)) (Stale seen.cookie k)) cookie

  worn-alike : (t u : Bool) → t ≡ u → worn r t ≡ worn q u
  worn-alike t u e = ap (worn r) e ∙ ap (λ k. worn (record q { cookie = k }) u) cookie

  pub refused_alike : AreRefusedAlike r q
  refused_alike = record {
    reserve = λ seen. or-alike _ _ _ _ (stale-alike seen) (worn-alike true true refl);
    attach = λ b n. worn-alike _ _ (some (λ c. is_delalloc c.kind && c.dirty) (λ c d e. ap (λ (s : BlockState). is_delalloc s.kind && s.dirty) e) b n);
    preallocate = λ b n. worn-alike _ _ (some (λ c. not (has_space c.kind)) (λ c d e. ap (λ (s : BlockState). not (has_space s.kind)) e) b n);
    fetch = λ from to.
        let b : ℕ → ℕ = λ size. from / size in
        let n : ℕ → ℕ = λ size. blocks_met size from to in
        let F : ℕ → Option EventFault = λ size. first_that_stops away_with_page (b size) (run_of r (b size) (n size)) orElse first_that_stops cold (b size) (run_of r (b size) (n size)) in
        ap (λ g. F g.block_size) geometry
        ∙ or-alike _ _ _ _ (stops away_with_page away_page-alike (b q.geometry.block_size) (n q.geometry.block_size)) (stops cold (λ i c d e. ap (λ t. where_true t (Cold i)) (cold-alike c d e)) (b q.geometry.block_size) (n q.geometry.block_size));
    lend_read = λ b. or-alike _ _ _ _ (stops away away-alike b 1) (stops warm (λ i c d e. ap (λ t. where_true (not t) (Settled i)) (cold-alike c d e)) b 1);
    store = λ seen from to.
        let b : ℕ → ℕ = λ size. from / size in
        let n : ℕ → ℕ = λ size. blocks_met size from to in
        let F : ℕ → Option EventFault = λ size. stale r seen orElse first_that_stops away_with_page (b size) (run_of r (b size) (n size)) orElse first_that_stops (cold_in_part size from to) (b size) (run_of r (b size) (n size)) in
        ap (λ g. F g.block_size) geometry
        ∙ or-alike _ _ _ _ (stale-alike seen)
        (or-alike _ _ _ _ (stops away_with_page away_page-alike (b q.geometry.block_size) (n q.geometry.block_size))
        (stops (cold_in_part q.geometry.block_size from to) (λ i c d e. ap (λ t. where_true (covers_in_part q.geometry.block_size from to i && t) (Cold i)) (cold-alike c d e)) (b q.geometry.block_size) (n q.geometry.block_size)));
    lend_writeback = λ b. or-alike _ _ _ _ (stops away away-alike b 1)
        (or-alike _ _ _ _ (stops not_ready ready-alike b 1) (worn-alike _ _ (some (λ c. is_unwritten c.kind) (λ c d e. ap (λ (s : BlockState). is_unwritten s.kind) e) b 1)));
    lend_direct = λ seen op b n. or-alike _ _ _ _ (stale-alike seen)
        (or-alike _ _ _ _ (stops away away-alike b n) (or-alike _ _ _ _ (stops dirty dirty-alike b n) (worn-alike (will_convert op seen.extent.kind) (will_convert op seen.extent.kind) refl)));
    lend_part = λ seen b. or-alike _ _ _ _ (stale-alike seen)
        (or-alike _ _ _ _ (stops away away-alike b 1)
        (or-alike _ _ _ _ (stops cold (λ i c d e. ap (λ t. where_true t (Cold i)) (cold-alike c d e)) b 1)
        (or-alike _ _ _ _ (stops dirty dirty-alike b 1) (worn-alike (will_convert Write seen.extent.kind) (will_convert Write seen.extent.kind) refl))));
    direct_now = λ b. or-alike _ _ _ _ (stops away away-alike b 1) (stops dirty dirty-alike b 1);
    wipe = λ b n. or-alike _ _ _ _ (stops away away-alike b n) (worn-alike _ _ (some (λ c. not (is_hole c.kind)) (λ c d e. ap (λ (s : BlockState). not (is_hole s.kind)) e) b n));
    dax_put = λ seen. or-alike _ _ _ _ (stale-alike seen) (worn-alike (not (is_mapped seen.extent.kind)) (not (is_mapped seen.extent.kind)) refl);
    dax = stale-alike;
  }

-- the block made of a state is in it
in_state : (s : BlockState) → state_of (cell_in s) ≡ s
in_state s = at s.uptodate
  where
    at : (u : Bool) → state_of (cell_in (record s { uptodate = u })) ≡ record s { uptodate = u }
    at true = refl
    at false = refl

after-alike : (size b : ℕ) (opened now : List Cell) (history : List Entry) → length now ≡ length opened
    → ((i : ℕ) (was c : Cell) → slice_get opened i ≡ Some was → slice_get now i ≡ Some c → state_of c ≡ states_replayed size (b + i) (state_of was) history) → map state_of now ≡ map state_of (cells_after size b opened history)
after-alike size b [] [] history many e = refl
after-alike size b [] (c ∷ now) history many e = absurd (omega arith)
after-alike size b (o ∷ opened) [] history many e = absurd (omega arith)
after-alike size b (o ∷ opened) (c ∷ now) history many e =
    let z : b + 0 ≡ b = omega arith in
    let here : state_of c ≡ states_replayed size b (state_of o) history = e 0 o c refl refl ∙ ap (λ x. states_replayed size x (state_of o) history) z in
    let rest : map state_of now ≡ map state_of (cells_after size (b + 1) opened history) =
    after-alike size (b + 1) opened now history (omega arith)
    (λ i was d f g. let x : b + suc i ≡ b + 1 + i = omega arith in e (suc i) was d f g ∙ ap (λ y. states_replayed size y (state_of was) history) x) in
    ap (λ s. s ∷ map state_of now) (here ∙ sym (in_state (states_replayed size b (state_of o) history)))
    ∙ ap (λ l. state_of (cell_in (states_replayed size b (state_of o) history)) ∷ l) rest

pub history_refuses : HistoryRefuses
history_refuses opening now history stakes t =
    refused_alike now (states_after opening history) t.same_run.geometry t.same_run.first t.cookie_counts_changes
    (after-alike opening.geometry.block_size opening.first opening.cells now.cells history t.same_run.blocks t.states)

pub filled_is_warm : FilledIsWarm
filled_is_warm size b caller ticket block n done s whole met =
    ap (λ u. is_cold (cell_in (if u then read_back done.failed s else s))) met ∙ ap (λ u. is_cold (cell_in (read_back u s))) whole ∙ none (is_mapped s.kind)
  where
    none : (m : Bool) → (m && (true && false)) ≡ false
    none true = refl
    none false = refl
