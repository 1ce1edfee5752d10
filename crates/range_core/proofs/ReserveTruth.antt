-- The range truth after space was promised to holes.
use Rattle.std.proofs.Common.{◌≡◌, ◌≢◌, ℕ, zero, suc, ◌+◌, ◌-◌, ◌<◌, ◌≤◌, ◌%◌, true, if◌then◌else◌, Option, Some, None, Result, Ok, Err, IfOk, IfErr, List, [], ◌∷◌, ◌++◌, length, drop, get_or, min, set, refl, sym, ◌∙◌, ap, subst, arith, append-nil, length-drop}
use Rattle.std.specs.Prelude.{IsSomeAnd, slice_get}
use Rattle.std.proofs.lemmas.Option.{slice_get-get_or}
use Rattle.iob_base.specs.declared.TheConstants.{STRIPE, WORN}
use Rattle.io_model.specs.Contents.{Content}
use Rattle.io_model.specs.Kinds.{is_kind}
use Rattle.io_model.specs.declared.file.Kind.{Kind}
use Rattle.io_model.specs.declared.file.Kind.TheVariants.{Delalloc, Hole}
use Rattle.space_pool.specs.Pool.{PoolView}
use Rattle.space_pool.specs.declared.entry.PoolEntry.{PoolEntry}
use Rattle.turn_cell.specs.Views.{SeatView}
use Rattle.range_core.specs.BlockStates.{state_of}
use Rattle.range_core.specs.BlockTruth.{IsTrueAt}
use Rattle.range_core.specs.Cells.{HasPlace, cold_cell}
use Rattle.range_core.specs.ClaimsView.{ClaimsView}
use Rattle.range_core.specs.Kinds.{has_space, is_mapped, is_hole}
use Rattle.range_core.specs.Lookups.{GivesPresent, extent_at, first_kind}
use Rattle.range_core.specs.OnRun.{on_each}
use Rattle.range_core.specs.PoolTurns.{LeavesAlone, ReservesSomeAt, place_of}
use Rattle.range_core.specs.RangeTruth.{RangeTruth, pending}
use Rattle.range_core.specs.RangeView.{RangeView, part_in}
use Rattle.range_core.specs.Reserves.{AsksHoles, RefusesReserve, Reserves, promised_cell, reserve_fault, reserve_outcome, reserved_run, reserved_sample}
use Rattle.range_core.specs.Refusals.{reserve_refusal, stale, worn}
use Rattle.range_core.specs.Runs.{run_from, run_length}
use Rattle.range_core.specs.KnownSamples.{IsExtentOf, IsKnown}
use Rattle.range_core.specs.Stakes.{RangeStake}
use Rattle.range_core.specs.declared.cell.Cell.{Cell}
use Rattle.range_core.specs.declared.entry.Entry.{Entry}
use Rattle.range_core.specs.declared.entry.Event.TheVariants.{Reserve}
use Rattle.range_core.specs.declared.entry.Outcome.TheVariants.{Sampled}
use Rattle.range_core.specs.declared.fault.EventFault.{EventFault}
use Rattle.range_core.specs.declared.sample.Sample.{Sample}
use Rattle.range_core.proofs.AfterEntry.{quiet_tickets}
use Rattle.range_core.proofs.AfterRun.{ChangesRun, CountsNext, changed_truth, in_run-true, keeps_claims}
use Rattle.range_core.proofs.FirstTruth.{total-few}
use Rattle.range_core.proofs.HomeLemmas.{home_content, home_of, home_true, pending-few, unnamed}
use Rattle.range_core.proofs.KindRuns.{first_kind-drop}
use Rattle.range_core.proofs.OnRunLemmas.{length-on_each, on_each-in}
use Rattle.range_core.proofs.ReserveLemmas.{AreHoles, sampled_holes, space_promised, unstale}
use Rattle.range_core.proofs.SampleLemmas.{samples_next, slice_get-drop}
use Rattle.range_core.proofs.SeatTruth.{refused_truth}
use Rattle.range_core.proofs.StopLemmas.{neither, unworn}
use Rattle.range_core.proofs.FoundLemmas.{found_run}
use Rattle.range_core.proofs.PoolLemmas.{part_kept}
use Rattle.range_core.proofs.StakeTruth.{Works}
use Rattle.range_core.specs.Samples.{SampleLies}

-- where a block has a page that passes no test, it is nothing
none_and : {A : Type 0} (P Q : A → Type 0) (o : Option A) → ((x : A) → P x → Q x) → IsSomeAnd o P → IsSomeAnd o Q
none_and P Q None h s = s
none_and P Q (Some x) h s = h x s

-- a hole to which space is promised keeps its content
promised-true : (size b : ℕ) (c : Cell) (content : Content) (stakes : List RangeStake) → c.kind ≡ Hole → IsTrueAt size b c content stakes → IsTrueAt size b (promised_cell c) content stakes
promised-true size b c content stakes k t =
    let home : c.away ≡ None = home_of size c.kind c.sector c.away (ap has_space k) t.place in
    let P : Kind → Type 0 = λ q. HasPlace size q c.sector c.away in
    let had = home_content size c content home t.home_is_on_device in
    home_true size b (promised_cell c) content stakes (record {
      home = home;
      whole = t.whole;
      place = subst P k t.place;
      uptodate = t.uptodate_is_replay;
      reads = record { clean_is_on_device = λ m d. absurd (cc); spaceless_is_zeros = λ m d. had.spaceless_is_zeros (ap is_mapped k) d };
      dirty = λ d. none_and (λ p. c.kind ≢ Hole) (λ p. Delalloc ≢ Hole) c.page (λ p not. absurd (not k)) (t.dirty_is_uptodate d);
      unclaimed = unnamed size b c content stakes home t.away_is_claimed;
    })

-- so many blocks with promised space are one run
promised-run_from : (i : ℕ) (cells : List Cell) (n : ℕ) → n ≤ length cells → ((k : ℕ) (c : Cell) → k < n → slice_get cells k ≡ Some c → c.kind ≡ Delalloc) → run_from Delalloc i cells n ≡ n
promised-run_from i [] n h all = let z : n ≡ 0 = omega arith in sym z
promised-run_from i (c ∷ cells) zero h all = refl
promised-run_from i (c ∷ cells) (suc n) h all =
    let here : c.kind ≡ Delalloc = all 0 c (omega arith) refl in
    ap (λ k. if is_kind Delalloc k then suc (run_from Delalloc (i + 1) cells n) else 0) here
    ∙ ap suc (promised-run_from (i + 1) cells n (omega arith) (λ k d l at. all (suc k) d (omega arith) at))

promised-run_length : (cells : List Cell) (n : ℕ) → n ≤ length cells → ((k : ℕ) (c : Cell) → k < n → slice_get cells k ≡ Some c → c.kind ≡ Delalloc) → run_length cells n ≡ n
promised-run_length [] n h all = let z : n ≡ 0 = omega arith in sym z
promised-run_length (c ∷ cells) zero h all = refl
promised-run_length (c ∷ cells) (suc n) h all = let here : c.kind ≡ Delalloc = all 0 c (omega arith) refl in ap (λ k. run_from k 0 (c ∷ cells) (suc n)) here ∙ promised-run_from 0 (c ∷ cells) (suc n) h all

module _ (now : RangeView) (seat : SeatView PoolEntry) (seen : Sample) (m : ℕ) where
  abbrev f : ℕ → Cell → Cell
  f _ c = promised_cell c

  abbrev next : RangeView
  next = reserved_run now seen m seat

  -- the sample is the present one
  pub reserved_present : AreHoles now.cells (seen.extent.block - now.first) m → 0 < m → m ≤ STRIPE - seen.extent.block % STRIPE → (reserved_sample now seen m).extent ≡ extent_at next seen.extent.block m
  reserved_present holes least few =
      let low : ℕ = seen.extent.block - now.first in
      let within = holes.within in
      let cells : List Cell = on_each f 0 low m now.cells in
      let many : length cells ≡ length now.cells = length-on_each f 0 low m now.cells in
      let kinds : (k : ℕ) (c : Cell) → k < m → slice_get (drop low cells) k ≡ Some c → c.kind ≡ Delalloc =
      λ k c l at. let u = on_each-in f 0 low m k now.cells c l (sym (slice_get-drop low k cells) ∙ at) in ap (λ (x : Cell). x.kind) u.is in
      let bound : min m (STRIPE - seen.extent.block % STRIPE) ≡ m = omega arith in
      let inside : m ≤ length (drop low cells) = omega (arith, length-drop low cells) in
      let long : m ≡ run_length (drop low cells) (min m (STRIPE - seen.extent.block % STRIPE)) = sym (ap (run_length (drop low cells)) bound ∙ promised-run_length (drop low cells) m inside kinds) in
      let d : Cell = get_or cells low (cold_cell Hole None) in
      let at : slice_get cells low ≡ Some d = slice_get-get_or cells low (cold_cell Hole None) (omega arith) in
      let zeroth : low ≡ low + 0 = omega arith in
      let kind : Delalloc ≡ first_kind (drop low cells) = sym (first_kind-drop cells low d at ∙ ap (λ (x : Cell). x.kind) (on_each-in f 0 low m 0 now.cells d least (ap (slice_get cells) (sym zeroth) ∙ at)).is) in
      λ i. record { block = seen.extent.block; length = long i; kind = kind i }

module _ (opening now : RangeView) (seat : SeatView PoolEntry) (history : List Entry) (stakes : List RangeStake) (number : ℕ) (claims : ClaimsView) (made : List Entry) (seen : Sample) (n m : ℕ) where
  abbrev e : Entry
  e = record { caller = claims.caller; event = Reserve seen n; outcome = Sampled (reserved_sample now seen m) }

  pub reserve_truth : RangeTruth opening now history stakes → Works stakes number claims made → AsksHoles now seen n → part_in seat ≡ part_in now.seat → AreHoles now.cells (seen.extent.block - now.first) m
      → 0 < m → m ≤ n → m ≤ STRIPE - seen.extent.block % STRIPE → now.cookie < WORN → RangeTruth opening (reserved_run now seen m seat) (history ++ e ∷ []) (set stakes number (Some claims, made ++ e ∷ []))
  reserve_truth t here asks pool holes least few stripe unworn =
      let size : ℕ = opening.geometry.block_size in
      let block : ℕ = seen.extent.block in
      let first : block - now.first ≡ block - opening.first = ap (λ i. block - i) t.same_run.first in
      let lies = asks.inside in
      let low = lies.low in
      let same_first = t.same_run.first in
      let kept = λ (b : ℕ). keeps_claims size b stakes number claims claims made (made ++ e ∷ []) here refl in
      let run : ChangesRun opening now (next now seat seen m) history e stakes number claims claims made (f now seat seen m) block m = record {
        low = omega arith;
        cells = ap (λ i. on_each (f now seat seen m) 0 i m now.cells) first;
        outside = λ b out. record {
          content = λ x. refl;
          state = λ s. ap (λ u. if u then record s { kind = Delalloc } else s) out;
          claims = kept b;
        };
        inside = λ j was content l at h.
            let hole : was.kind ≡ Hole = holes.holes j was l (ap (λ i. slice_get now.cells (i + j)) first ∙ at) in
            record {
              state = sym (ap (λ u. if u then record (state_of was) { kind = Delalloc } else state_of was) (in_run-true block m (block + j) (omega arith) (omega arith)));
              holds = kept (block + j) (promised_cell was) content (promised-true size (block + j) was content stakes hole h);
            };
      } in
      let many : length (next now seat seen m).cells ≡ length now.cells = length-on_each (f now seat seen m) 0 (block - now.first) m now.cells in
      let counts : CountsNext size now (next now seat seen m) e = record {
        geometry = refl;
        mode = refl;
        first = refl;
        pool = pool;
        errors = let p = t.errors_counted in omega arith;
        tickets = quiet_tickets opening now history e stakes t refl;
        cookie = refl;
        log = sym (append-nil now.log);
        headroom = let p = total-few pending (next now seat seen m).cells pending-few in let q = t.few in let r = t.same_run.blocks in omega arith;
        uncached = λ d. absurd (let c = asks.mode in cc);
        space = space_promised size (block - now.first) m now.cells now.space holes t.pool_claims_sectors;
        found = found_run now block m (λ b s. is_hole s.kind) low (λ k c l at. ap is_hole (holes.holes k c l at));
      } in
      let le : now.cookie + 1 ≤ now.cookie + 1 = omega arith in
      let gives : GivesPresent (next now seat seen m) e = record { past = le; begins = low; present = λ _. reserved_present now seat seen m holes least stripe } in
      changed_truth opening now (next now seat seen m) history e stakes number claims claims made (f now seat seen m) block m t here run counts
      (samples_next now (next now seat seen m) history e refl (omega arith) (λ same. absurd (omega arith)) t.samples_give_extents gives)
      (record { caller = refl; spare = refl; main = refl }) refl

module _ (pool : PoolView) (before : RangeView) (seen : Sample) (n : ℕ) (after : RangeView) where
  -- what is told of an answer, by what it is
  pub told_ok : (answer : Result Sample EventFault) → IfOk answer (λ s. reserve_refusal before seen ≡ None) → IfOk answer (λ s. 0 < s.extent.length) → IfOk answer (λ s. s.extent.length ≤ n)
      → IfOk answer (λ s. s ≡ reserved_sample before seen s.extent.length) → IfOk answer (λ s. after ≡ reserved_run before seen s.extent.length after.seat)
      → IfOk answer (λ s. ReservesSomeAt pool n (Ok s.extent.length) (place_of before) (place_of after)) → IfOk answer (Reserves pool before seen n after)
  told_ok (Ok s) made least few is state turn = record { made = made; some = least; few = few; sample_is = is; state = state; pool = turn }
  told_ok (Err fault) made least few is state turn = tt

  pub told_err : (answer : Result Sample EventFault) → IfErr answer (λ e. e ≡ reserve_fault before seen n) → IfErr answer (λ e. LeavesAlone (λ none. ReservesSomeAt pool n (Err none)) e before after)
      → IfErr answer (RefusesReserve pool before seen n after)
  told_err (Ok s) is left = tt
  told_err (Err fault) is left = record { is = is; left = left }

-- a sample of the blocks to which space was promised is of blocks of the range
pub reserve_lies : (opening now next : RangeView) (seen : Sample) (n : ℕ) (pool : PoolView) (answer : Result Sample EventFault) → AsksHoles opening seen n → IfOk answer (Reserves pool now seen n next) → IfOk answer (SampleLies opening)
reserve_lies opening now next seen n pool (Err fault) asks ok = tt
reserve_lies opening now next seen n pool (Ok sample) asks ok =
    let low = asks.inside.low in
    let high = asks.inside.high in
    let few = ok.few in
    let block : sample.extent.block ≡ seen.extent.block = ap (λ (s : Sample). s.extent.block) ok.sample_is in
    record { low = omega arith; some = ok.some; high = omega arith }

module _ (pool : PoolView) (opening now next : RangeView) (history : List Entry) (stakes : List RangeStake) (number : ℕ) (claims : ClaimsView) (made : List Entry) (seen : Sample) (n : ℕ) where
  abbrev entry : Result Sample EventFault → Entry
  entry answer = record { caller = claims.caller; event = Reserve seen n; outcome = reserve_outcome answer }

  -- the truth holds whether the event came about or was refused
  pub reserve_turn : (answer : Result Sample EventFault) → IfOk answer (Reserves pool now seen n next) → IfErr answer (RefusesReserve pool now seen n next) → RangeTruth opening now history stakes → Works stakes number claims made
      → AsksHoles now seen n → IsKnown now seen → RangeTruth opening next (history ++ entry answer ∷ []) (set stakes number (Some claims, made ++ entry answer ∷ []))
  reserve_turn (Ok sample) ok err t here asks known =
      let m : ℕ = sample.extent.length in
      let calm = neither (stale now seen) (worn now true) ok.made in
      let extent : IsExtentOf now seen.extent = known (unstale now seen calm.0) in
      let few = ok.few in
      let enough = asks.enough in
      let stripe = extent.stripe in
      let T : RangeView → Sample → Type 0 = λ r s. let x : Entry = record { caller = claims.caller; event = Reserve seen n; outcome = Sampled s } in RangeTruth opening r (history ++ x ∷ []) (set stakes number (Some claims, made ++ x ∷ [])) in
      let holds = reserve_truth opening now next.seat history stakes number claims made seen n m t here asks (part_kept now.seat next.seat ok.pool.keeps) (sampled_holes now seen n m asks known calm.0 few) ok.some few (omega arith) (unworn now calm.1) in
      let U : Sample → Type 0 = λ s. T (reserved_run now seen m next.seat) s in
      let V : RangeView → Type 0 = λ r. T r sample in
      subst V (sym ok.state) (subst U (sym ok.sample_is) holds)
  reserve_turn (Err fault) ok err t here asks known =
      refused_truth opening now next history stakes number claims made (Reserve seen n) (λ none. ReservesSomeAt pool n (Err none)) (λ none p q turn. turn.keeps) fault err.left t here
