-- The range truth after bytes were written into the sectors of a file.
use Rattle.std.proofs.Common.{◌≡◌, ℕ, ◌+◌, ◌-◌, ◌/◌, ◌<◌, ◌≤◌, ◌⊎◌, inl, inr, Bool, true, false, not, ◌&&◌, ◌||◌, if◌then◌else◌, Option, Some, None, List, [], ◌∷◌, ◌++◌, length, set, All, refl, sym, ◌∙◌, ap, subst, arith}
use Rattle.std.specs.Prelude.{IfErr, IsSomeAnd, OnOk, Result, Ok, Err, max, nat_le, nat_lt, slice_get}
use Rattle.std.proofs.lemmas.Bool.{leb-false, ltb-false}
use Rattle.std.proofs.lemmas.List.{length-replicate}
use Rattle.iob_base.specs.DeviceBlock.{DeviceBlock}
use Rattle.iob_base.specs.declared.TheConstants.{WORN}
use Rattle.io_model.specs.Contents.{Content, zeros}
use Rattle.io_model.specs.declared.file.Kind.{Kind}
use Rattle.io_model.specs.declared.file.Kind.TheVariants.{Hole, Delalloc, Unwritten, Mapped}
use Rattle.iov_iter.specs.IovView.{IovView}
use Rattle.space_pool.specs.Claims.{with_more, with_taken}
use Rattle.space_pool.specs.Pool.{HasSize, PoolView}
use Rattle.space_pool.specs.Seats.{pool_cell}
use Rattle.turn_cell.specs.Stakes.{Begins, total}
use Rattle.range_core.specs.Attaches.{pairs_taken}
use Rattle.range_core.specs.BlockStates.{put_through, state_of, taken_by}
use Rattle.range_core.specs.BlockTruth.{IsTrueAt}
use Rattle.range_core.specs.ByteRuns.{HasNext, IsByteRun, run_between}
use Rattle.range_core.specs.Cells.{HasPlace}
use Rattle.range_core.specs.ClaimsView.{ClaimsView}
use Rattle.range_core.specs.DaxPuts.{CanPutDax, LeavesPut, PutMade, PutsDax, holes_met, put_bytes, put_entry, put_placed}
use Rattle.range_core.specs.DaxGets.{IsThrough}
use Rattle.range_core.specs.EntryCounts.{one_where}
use Rattle.range_core.specs.Events.{with_stamps}
use Rattle.range_core.specs.Kinds.{is_hole, is_mapped, is_unwritten}
use Rattle.range_core.specs.OnRun.{on_each, with_each}
use Rattle.range_core.specs.Placing.{count_in, is_empty, picked_with}
use Rattle.range_core.specs.PoolTurns.{ReservesAt, TakesAt, UnreservesAt, at_seat, place_of}
use Rattle.range_core.specs.RangeTruth.{IsUncached, RangeTruth, is_lent_for_writing, pending}
use Rattle.range_core.specs.RangeView.{IsSound, RangeView, part_in}
use Rattle.range_core.specs.Refusals.{dax_put_refusal, stale, worn}
use Rattle.range_core.specs.KnownSamples.{IsExtentOf, IsKnown}
use Rattle.range_core.specs.Space.{ClaimsSpace, SpaceClaims}
use Rattle.range_core.specs.Spots.{blocks_met, in_run, is_met, overlaid}
use Rattle.range_core.specs.Stakes.{RangeStake}
use Rattle.range_core.specs.Through.{made_mapped, through}
use Rattle.range_core.specs.declared.cell.Cell.{Cell}
use Rattle.range_core.specs.declared.entry.Entry.{Entry}
use Rattle.range_core.specs.declared.entry.Event.TheVariants.{DaxPut}
use Rattle.range_core.specs.declared.entry.Outcome.TheVariants.{Refused, Took}
use Rattle.range_core.specs.declared.fault.EventFault.{EventFault}
use Rattle.range_core.specs.declared.fault.EventFault.TheVariants as why
use Rattle.range_core.specs.declared.lending.Away.{Away}
use Rattle.range_core.specs.declared.parts.ByteRun.{ByteRun}
use Rattle.range_core.specs.declared.range.dax_put.DaxPutRun.{DaxPutRun}
use Rattle.range_core.proofs.AfterEntry.{quiet_tickets, quiet_truth}
use Rattle.range_core.proofs.AfterRun.{ChangesRun, CountsNext, changed_truth, keeps_claims}
use Rattle.range_core.proofs.AttachTruth.{Enters}
use Rattle.range_core.proofs.ByteRunLemmas.{met-inside, met-outside}
use Rattle.range_core.proofs.DaxPutLemmas.{put-uncached}
use Rattle.range_core.proofs.DaxZeroTruth.{through_now}
use Rattle.range_core.proofs.FirstTruth.{All-there, total-zero}
use Rattle.range_core.proofs.KindRuns.{kinds_of}
use Rattle.range_core.proofs.KindSteps.{mapped-after}
use Rattle.range_core.proofs.LayLemmas.{length-overlaid}
use Rattle.range_core.proofs.OnRunLemmas.{All-on_each, map-on_each_at}
use Rattle.range_core.proofs.PlaceLemmas.{number_of, taken-in_run}
use Rattle.range_core.proofs.PlaceSpace.{All-got}
use Rattle.range_core.proofs.PlaceTruth.{picked-true, picked-uncached}
use Rattle.range_core.proofs.PoolLemmas.{kept_for, part_kept}
use Rattle.range_core.proofs.ReserveLemmas.{unstale}
use Rattle.range_core.proofs.RefusedLemmas.{refused_is_quiet}
use Rattle.range_core.proofs.SampleLemmas.{given_later, known_sample, samples_next}
use Rattle.range_core.proofs.SeatTruth.{refused_entry, seat_truth}
use Rattle.range_core.proofs.StopLemmas.{neither, unworn}
use Rattle.range_core.proofs.StoreLemmas.{length-next_bytes}
use Rattle.range_core.proofs.StoreTruth.{if_met, if_unmet}
use Rattle.range_core.proofs.ThroughTruth.{home_content, written_true}
use Rattle.iob_base.specs.declared.stamp.Tag.{Tag}
use Rattle.range_core.specs.OnRun.{count_on}
use Rattle.range_core.specs.KnownSamples.{WasGiven}
use Rattle.range_core.specs.Stamps.{done_by, stamps_from}
use Rattle.range_core.specs.declared.entry.Event.{Event}
use Rattle.range_core.specs.declared.sample.Sample.{Sample}
use Rattle.range_core.proofs.EachLemmas.{is_there}
use Rattle.range_core.proofs.DaxPutLemmas.{count-below, empty-spaceless}
use Rattle.range_core.proofs.FoundLemmas.{bare-found, found_taken, if_any, met-run}
use Rattle.range_core.proofs.LawfulLemmas.{both}
use Rattle.range_core.specs.Happened.{took_just}
use Rattle.range_core.proofs.StakeTruth.{Works}

-- a block of which nothing is cached or lent is true of the bytes written into its sector
put_true : (size b : ℕ) (g : Content → Content) (c : Cell) (content : Content) (stakes : List RangeStake) → ((x : Content) → length x ≡ size → length (g x) ≡ size) → is_hole c.kind ≡ false → IsUncached c → IsTrueAt size b c content stakes
    → IsTrueAt size b (through g (made_mapped c)) (g content) stakes
put_true size b g c content stakes long hole u t = at c.kind c.sector hole u t
  where
    at : (k : Kind) (s : Option DeviceBlock) → is_hole k ≡ false → IsUncached (record c { kind = k; sector = s }) → IsTrueAt size b (record c { kind = k; sector = s }) content stakes
        → IsTrueAt size b (through g (made_mapped (record c { kind = k; sector = s }))) (g content) stakes
    at Hole s hole u t = absurd (cc)
    at Delalloc s hole u t = let r = u.reserved in absurd (cc)
    at (Unwritten n) None hole u t =
        let P : Option Away → Type 0 = λ a. HasPlace size (Unwritten n) None a in
        absurd (subst P u.home t.place)
    at (Unwritten n) (Some s) hole u t =
        let P : Option Away → Type 0 = λ a. HasPlace size (Unwritten n) (Some s) a in
        let Q : Option Away → Type 0 = λ a. HasPlace size (Mapped n) (Some (record s { bytes = g (zeros (length s.bytes)) })) a in
        let p = subst P u.home t.place in
        let blank = (home_content size b (record c { kind = Unwritten n; sector = Some s }) content stakes u t).spaceless_is_zeros refl u.clean in
        written_true size b (record c { kind = Unwritten n; sector = Some s }) (through g (made_mapped (record c { kind = Unwritten n; sector = Some s }))) content (g content) stakes u
        (put-uncached g (record c { kind = Unwritten n; sector = Some s }) u) (long content t.whole)
        (subst Q (sym u.home) (record { is = p.is; whole = long (zeros (length s.bytes)) (length-replicate (length s.bytes) 0 ∙ p.whole) }))
        (record { clean_is_on_device = λ m d. ap g (ap zeros p.whole ∙ sym blank); spaceless_is_zeros = λ m d. absurd (cc) }) t
    at (Mapped n) None hole u t =
        let P : Option Away → Type 0 = λ a. HasPlace size (Mapped n) None a in
        absurd (subst P u.home t.place)
    at (Mapped n) (Some s) hole u t =
        let P : Option Away → Type 0 = λ a. HasPlace size (Mapped n) (Some s) a in
        let Q : Option Away → Type 0 = λ a. HasPlace size (Mapped n) (Some (record s { bytes = g s.bytes })) a in
        let p = subst P u.home t.place in
        let same = (home_content size b (record c { kind = Mapped n; sector = Some s }) content stakes u t).clean_is_on_device refl u.clean in
        written_true size b (record c { kind = Mapped n; sector = Some s }) (through g (made_mapped (record c { kind = Mapped n; sector = Some s }))) content (g content) stakes u
        (put-uncached g (record c { kind = Mapped n; sector = Some s }) u) (long content t.whole)
        (subst Q (sym u.home) (record { is = p.is; whole = long s.bytes p.whole }))
        (record { clean_is_on_device = λ m d. ap g same; spaceless_is_zeros = λ m d. absurd (cc) }) t

-- the state of a block that took a sector where it is a hole, and was written then
put_state : (g : Content → Content) (t : Bool) (o : Option DeviceBlock) (c : Cell) → state_of (through g (made_mapped (picked_with t o c))) ≡ put_through (if t then number_of o else None) (state_of c)
put_state g true None c = plain c.kind
  where
    plain : (k : Kind) → state_of (through g (made_mapped (record c { kind = k }))) ≡ put_through None (state_of (record c { kind = k }))
    plain Hole = refl
    plain Delalloc = refl
    plain (Unwritten d) = refl
    plain (Mapped d) = refl
put_state g true (Some s) c = refl
put_state g false o c = plain c.kind
  where
    plain : (k : Kind) → state_of (through g (made_mapped (record c { kind = k }))) ≡ put_through None (state_of (record c { kind = k }))
    plain Hole = refl
    plain Delalloc = refl
    plain (Unwritten d) = refl
    plain (Mapped d) = refl

-- a mapped block keeps its kind
put_kind : (g : Content → Content) (o : Option DeviceBlock) (c : Cell) → is_mapped c.kind ≡ true → (through g (made_mapped (picked_with (is_empty c) o c))).kind ≡ c.kind
put_kind g o c m = at c.kind m
  where
    at : (k : Kind) → is_mapped k ≡ true → (through g (made_mapped (picked_with (is_empty (record c { kind = k })) o (record c { kind = k })))).kind ≡ k
    at Hole m = absurd (cc)
    at Delalloc m = absurd (cc)
    at (Unwritten d) m = absurd (cc)
    at (Mapped d) m = refl

-- a block that took a whole sector where it was a hole is no hole
no_hole : (t : Bool) (o : Option DeviceBlock) (c : Cell) → is_hole c.kind ≡ t → (t ≡ true → IsSomeAnd o (λ _. Unit {0})) → is_hole (picked_with t o c).kind ≡ false
no_hole true None c e took = absurd (took refl)
no_hole true (Some s) c e took = refl
no_hole false o c e took = e

-- no block of which nothing is cached or lent will change its kind without refusal
pending-none : (c : Cell) → IsUncached c → pending c ≡ 0
pending-none c u =
    ap (λ d. one_where (d || (is_unwritten c.kind && is_lent_for_writing c.away))) u.reserved ∙ ap (λ a. one_where (is_unwritten c.kind && is_lent_for_writing a)) u.home ∙ at (is_unwritten c.kind)
  where
    at : (t : Bool) → one_where (t && false) ≡ 0
    at true = refl
    at false = refl

module _ (opening now next : RangeView) (history : List Entry) (stakes : List RangeStake) (number : ℕ) (claims : ClaimsView) (made : List Entry) (by : Tag) (seen : Sample) (from to : ℕ) (bytes : List ℕ) (sectors : List DeviceBlock) (t : RangeTruth opening now history stakes) (through : IsThrough opening seen from to) where
  abbrev size : ℕ
  size = opening.geometry.block_size

  abbrev run : ByteRun
  run = run_between size from to

  abbrev f : ℕ → Cell → Cell
  f = put_placed run bytes (run.first - now.first) now.cells sectors

  abbrev e : Entry
  e = record { caller = claims.caller; event = DaxPut by seen from to bytes; outcome = Took (pairs_taken is_empty now run.first run.blocks sectors) }

  -- the range that the write leaves, where a block has n bytes
  abbrev after_at : ℕ → SpaceClaims → RangeView
  after_at n space =
      let r = run_between n from to in
      record (with_stamps (with_each (put_placed r bytes (r.first - now.first) now.cells sectors) now r.first r.blocks) (stamps_from r.first r.blocks (done_by by))) { cookie = now.cookie + one_where (not (is_mapped seen.extent.kind)); seat = next.seat; space = space }

  -- a block of the run is of the sample's extent
  seen_kind : IsExtentOf now seen.extent → (k : ℕ) (c : Cell) → k < run.blocks → slice_get now.cells (run.first - now.first + k) ≡ Some c → is_mapped c.kind ≡ is_mapped seen.extent.kind
  seen_kind known k c l at =
      let begins = known.begins in
      let low = through.extent.low in
      let high = through.extent.high in
      let first = t.same_run.first in
      let place : seen.extent.block - now.first + (run.first + k - seen.extent.block) ≡ run.first - now.first + k = omega arith in
      ap is_mapped (known.kinds (run.first + k - seen.extent.block) c (omega arith) (ap (slice_get now.cells) place ∙ at)) ∙ mapped-after seen.extent.kind (run.first + k - seen.extent.block)

  beyond : (b : ℕ) → in_run run.first run.blocks b ≡ false → (b < run.first) ⊎ (run.first + run.blocks ≤ b)
  beyond b out = at (nat_le run.first b) refl
    where
      at : (u : Bool) → nat_le run.first b ≡ u → (b < run.first) ⊎ (run.first + run.blocks ≤ b)
      at false u = inl (leb-false run.first b u)
      at true u = inr (ltb-false b (run.first + run.blocks) (ap (λ v. v && nat_lt b (run.first + run.blocks)) (sym u) ∙ out))

  put_truth : Works stakes number claims made → IsByteRun run → length bytes ≡ to - from → IsKnown now seen → dax_put_refusal now seen ≡ None → length sectors ≡ holes_met now from to → All (HasSize size) sectors
      → (claimed : SpaceClaims) → next ≡ after_at size claimed → part_in next.seat ≡ part_in now.seat → ClaimsSpace size next.cells next.space
      → RangeTruth opening next (history ++ e ∷ []) (set stakes number (Some claims, made ++ e ∷ []))
  put_truth here met all known free many whole claimed is pool space =
      let refusals = neither (stale now seen) (worn now (not (is_mapped seen.extent.kind))) free in
      let extent : IsExtentOf now seen.extent = known (unstale now seen refusals.0) in
      let low : ℕ = run.first - now.first in
      let first = t.same_run.first in
      let place : run.first - now.first ≡ run.first - opening.first = ap (λ m. run.first - m) first in
      let begins = through.lies.low in
      let ends = through.lies.high in
      let blocks = t.same_run.blocks in
      let within : low + run.blocks ≤ length now.cells = omega arith in
      let cells : next.cells ≡ on_each f 0 low run.blocks now.cells = ap (λ (r : RangeView). r.cells) is in
      let cookie : next.cookie ≡ now.cookie + one_where (not (is_mapped seen.extent.kind)) = ap (λ (r : RangeView). r.cookie) is in
      let uncached = t.dax_is_uncached (t.same_run.mode ∙ through.dax) in
      let stay = All-on_each f IsUncached (λ j c u. put-uncached _ _ (picked-uncached (is_empty c) _ c u)) 0 low run.blocks now.cells uncached in
      let U : List Cell → Type 0 = λ xs. All IsUncached xs in
      let next_uncached : All IsUncached next.cells = subst U (sym cells) stay in
      let kept = λ (b : ℕ). keeps_claims size b stakes number claims claims made (made ++ e ∷ []) here refl in
      let changes_run : ChangesRun opening now next history e stakes number claims claims made f run.first run.blocks = record {
        low = begins;
        cells = cells ∙ ap (λ m. on_each f 0 m run.blocks now.cells) place;
        outside = λ b out. record {
          content = λ x. if_unmet (is_met size from to b) (overlaid size from to bytes b x) x (met-outside run met b out);
          state = λ s. if_unmet (is_met size from to b) (put_through (taken_by b (pairs_taken is_empty now run.first run.blocks sectors)) s) s (met-outside run met b out);
          claims = kept b;
        };
        inside = λ k was content l at h.
            let b : ℕ = run.first + k in
            let there : slice_get now.cells (low + k) ≡ Some was = ap (λ m. slice_get now.cells (m + k)) place ∙ at in
            let g : Content → Content = overlaid size from to bytes b in
            let un = All-there IsUncached now.cells (low + k) was uncached there in
            let o : Option DeviceBlock = slice_get sectors (count_on is_empty low k now.cells) in
            let placed = picked-true size b (is_empty was) o was content stakes (empty-spaceless.spaceless was) (All-got (HasSize size) sectors _ whole) h in
            let solid = no_hole (is_empty was) o was refl (λ p. got_some sectors (count_on is_empty low k now.cells) (let below = count-below is_empty low run.blocks k now.cells was l there p in let z : now.geometry.block_size ≡ size = ap (λ q. q.block_size) t.same_run.geometry in let H : ℕ → Type 0 = λ n. length sectors ≡ count_in is_empty now (from / n) (blocks_met n from to) in let m = subst H z many in omega arith)) in
            let made_true = put_true size b g (picked_with (is_empty was) o was) content stakes (length-overlaid run met bytes all k l) solid (picked-uncached (is_empty was) o was un) placed in
            let B : Content → Type 0 = λ x. IsTrueAt size b (f k was) x stakes in
            record {
              state = put_state g (is_empty was) o was ∙ ap (λ p. put_through p (state_of was)) (sym (taken-in_run is_empty run.first low run.blocks k now.cells sectors was l there)) ∙ if_met (is_met size from to b) (put_through (taken_by b (pairs_taken is_empty now run.first run.blocks sectors)) (state_of was)) (state_of was) (met-inside run met k l);
              holds = kept b (f k was) _ (subst B (if_met (is_met size from to b) (g content) content (met-inside run met k l)) made_true);
            };
      } in
      let counts : CountsNext size now next e = record {
        geometry = ap (λ (r : RangeView). r.geometry) is;
        mode = ap (λ (r : RangeView). r.mode) is;
        first = ap (λ (r : RangeView). r.first) is;
        pool = pool;
        errors = let p = t.errors_counted in let q : next.errors ≡ now.errors = ap (λ (r : RangeView). r.errors) is in omega arith;
        tickets = ap (λ (r : RangeView). r.tickets) is ∙ quiet_tickets opening now history e stakes t refl;
        cookie = cookie;
        log = ap (λ (r : RangeView). r.log) is;
        headroom =
            let none : total pending next.cells ≡ 0 = total-zero pending next.cells (λ i d l. pending-none _ (next_uncached i d l)) in
            rises now.cookie next.cookie (not (is_mapped seen.extent.kind)) (total pending now.cells) (total pending next.cells) cookie none t.cookie_has_headroom (λ u. unworn now (ap (worn now) (sym u) ∙ refusals.1));
        uncached = λ d. next_uncached;
        space = space;
        found = λ i c at.
            let b : ℕ = now.first + i in
            let H : ℕ → Type 0 = λ n. length sectors ≡ count_in is_empty now (from / n) (blocks_met n from to) in
            let as_many : length sectors ≡ count_in is_empty now run.first run.blocks = subst H (ap (λ q. q.block_size) t.same_run.geometry) many in
            let took = found_taken is_empty now run.first run.blocks sectors (omega arith) as_many i c at in
            let pairs : List (ℕ × ℕ) = pairs_taken is_empty now run.first run.blocks sectors in
            both (took_just (is_met size from to b && is_hole c.kind) (taken_by b pairs)) _ (ap (λ u. took_just (u && is_hole c.kind) (taken_by b pairs)) (met-run run met b) ∙ took)
            (if_any (is_met size from to b) _ (bare-found c (All-there IsUncached now.cells i c uncached at)));
      } in
      changed_truth opening now next history e stakes number claims claims made f run.first run.blocks t here changes_run counts
      (samples_next now next history e (ap (λ (r : RangeView). r.first) is) (omega arith)
      (λ still.
      let mapped : is_mapped seen.extent.kind ≡ true = unrisen_kind (is_mapped seen.extent.kind) now.cookie (sym cookie ∙ still) in
      ap kinds_of cells ∙ map-on_each_at f (λ (c : Cell). c.kind) 0 low run.blocks now.cells within (λ j c l at. put_kind (overlaid size from to bytes (run.first + (0 + j))) (slice_get sectors (count_on is_empty low (0 + j) now.cells)) c (seen_kind extent j c l at ∙ mapped)))
      t.samples_give_extents tt)
      (record { caller = refl; spare = refl; main = refl })
      refl
    where
      got_some : (xs : List DeviceBlock) (i : ℕ) → i < length xs → IsSomeAnd (slice_get xs i) (λ _. Unit {0})
      got_some xs i l = let r = is_there xs i l in let P : Option DeviceBlock → Type 0 = λ o. IsSomeAnd o (λ _. Unit {0}) in subst P (sym r.here) tt

      rises : (a b : ℕ) (u : Bool) (p q : ℕ) → b ≡ a + one_where u → q ≡ 0 → max a WORN + p ≤ WORN + 65536 → (u ≡ true → a < WORN) → max b WORN + q ≤ WORN + 65536
      rises a b true p q e none h w = let l = w refl in omega arith
      rises a b false p q e none h w = omega arith

      unrisen_kind : (m : Bool) (a : ℕ) → a + one_where (not m) ≡ a → m ≡ true
      unrisen_kind true a e = refl
      unrisen_kind false a e = absurd (omega arith)

-- the truth holds where a write was refused
module _ (opening now next : RangeView) (history : List Entry) (stakes : List RangeStake) (number : ℕ) (claims : ClaimsView) (made : List Entry) (event : Event) (pool : PoolView) (holes : ℕ) where
  abbrev TruthAfter : RangeView → EventFault → Type 0
  TruthAfter r fault = RangeTruth opening r (history ++ refused_entry claims event fault ∷ []) (set stakes number (Some claims, made ++ refused_entry claims event fault ∷ []))

  put_refused : (fault : EventFault) → LeavesPut pool holes fault now next → RangeTruth opening now history stakes → Works stakes number claims made → TruthAfter next fault
  put_refused fault left t here = at fault left
    where
      quiet : (fault : EventFault) (r : RangeView) → RangeTruth opening r history stakes → TruthAfter r fault
      quiet fault r u = quiet_truth opening r history (refused_entry claims event fault) stakes number claims made u here (refused_is_quiet opening.geometry.block_size claims.caller event fault) tt refl

      stays : (fault : EventFault) → next ≡ now → TruthAfter next fault
      stays fault e = let T : RangeView → Type 0 = λ r. TruthAfter r fault in subst T (sym e) (quiet fault now t)

      seated : (fault : EventFault) → next ≡ at_seat now next.seat → part_in next.seat ≡ part_in now.seat → TruthAfter next fault
      seated fault e same = let T : RangeView → Type 0 = λ r. TruthAfter r fault in subst T (sym e) (quiet fault (at_seat now next.seat) (seat_truth opening now next.seat history stakes same t))

      at : (fault : EventFault) → LeavesPut pool holes fault now next → TruthAfter next fault
      at (why.Stale a b) left = stays (why.Stale a b) left
      at (why.Away a b) left = stays (why.Away a b) left
      at (why.Cold a) left = stays (why.Cold a) left
      at (why.Settled a) left = stays (why.Settled a) left
      at (why.Unattached a) left = stays (why.Unattached a) left
      at (why.Dirty a) left = stays (why.Dirty a) left
      at (why.Worn a) left = stays (why.Worn a) left
      at why.NoMemory left = stays why.NoMemory left
      at (why.NoSpace a b) left = seated (why.NoSpace a b) left.0 (part_kept now.seat next.seat left.1.keeps)
      at (why.Poison a) left =
          let up = left.1 in
          let one = kept_for holes (ReservesAt pool holes (Ok tt)) (λ p q turn. turn.keeps) (place_of now) up.promised up.reserved in
          let two = kept_for holes (UnreservesAt pool holes) (λ p q turn. turn.keeps) up.promised (place_of next) up.unreserved in
          seated (why.Poison a) left.0 (two ∙ one)

-- the event may be made at a turn of a seat that was given the sample
pub can_put_dax : (opening now : RangeView) (history : List Entry) (stakes : List RangeStake) (seen : Sample) (from to : ℕ) (t : RangeTruth opening now history stakes) (bytes : IsThrough opening seen from to) (given : List Entry) (v : IovView) → Begins given history → WasGiven seen given → HasNext v (to - from) → CanPutDax now seen from to v
can_put_dax opening now history stakes seen from to t bytes given v begins was room = record {
  bytes = through_now opening now history stakes seen from to t bytes;
  room = room;
  known = known_sample opening now history stakes seen t (given_later seen given history begins was);
  uncached = t.dax_is_uncached (t.same_run.mode ∙ bytes.dax);
}

module _ {R F : Type 0} (change : DaxPutRun R F) (opening now next : RangeView) (history : List Entry) (stakes : List RangeStake) (number : ℕ) (claims : ClaimsView) (made : List Entry) where
  -- what is told of an answer, and the truth
  pub put_turn : (answer : Result (Unit {0}) EventFault)
      → IfErr answer (λ e. LeavesPut (pool_cell change.space.now).opening (holes_met now change.from change.to) e now next) → OnOk answer (dax_put_refusal now change.seen ≡ None)
      → OnOk answer (PutsDax (pool_cell change.space.now).opening now change.by change.seen change.from change.to (put_bytes change) next) → IsByteRun (run_between now.geometry.block_size change.from change.to) → IsSound next
      → CanPutDax now change.seen change.from change.to change.iov.now → RangeTruth opening now history stakes → Works stakes number claims made → IsThrough opening change.seen change.from change.to
      → Enters opening now next history stakes number claims made (λ entry. OnOk answer (PutMade change now next claims entry) × IfErr answer (λ e. entry ≡ put_entry claims change (Refused e)))
  put_turn (Err fault) left calm puts cut sound can t here bytes = record {
    entry = refused_entry claims (DaxPut change.by change.seen change.from change.to (put_bytes change)) fault;
    told = (tt, refl);
    holds = put_refused opening now next history stakes number claims made (DaxPut change.by change.seen change.from change.to (put_bytes change)) (pool_cell change.space.now).opening (holes_met now change.from change.to) fault left t here;
  }
  put_turn (Ok x) left calm puts cut sound can t here bytes = record {
    entry = entry now.geometry.block_size;
    told = (record { puts = puts; entry_is = refl }, tt);
    holds =
        let same : now.geometry.block_size ≡ opening.geometry.block_size = ap (λ q. q.block_size) t.same_run.geometry in
        let opened : PoolView = (pool_cell change.space.now).opening in
        let holes : ℕ = holes_met now change.from change.to in
        let claimed : SpaceClaims = with_taken (with_more now.space holes) puts.sectors in
        let one = kept_for holes (ReservesAt opened holes (Ok tt)) (λ p q turn. turn.keeps) (place_of now) puts.promised puts.reserved in
        let two = kept_for holes (TakesAt opened holes puts.sectors) (λ p q turn. turn.keeps) puts.promised (place_of next) puts.took in
        let T : ℕ → Type 0 = λ n. RangeTruth opening next (history ++ entry n ∷ []) (set stakes number (Some claims, made ++ entry n ∷ [])) in
        let A : ℕ → Type 0 = λ n. next ≡ after_at opening now next history stakes number claims made change.by change.seen change.from change.to (put_bytes change) puts.sectors t bytes n claimed in
        let C : ℕ → Type 0 = λ n. IsByteRun (run_between n change.from change.to) in
        let W : ℕ → Type 0 = λ n. All (HasSize n) puts.sectors in
        let S : ℕ → Type 0 = λ n. ClaimsSpace n next.cells next.space in
        let length_is : next.geometry.block_size ≡ opening.geometry.block_size = ap (λ (r : RangeView). r.geometry.block_size) puts.state ∙ same in
        subst T (sym same)
        (put_truth opening now next history stakes number claims made change.by change.seen change.from change.to (put_bytes change) puts.sectors t bytes here (subst C same cut) (length-next_bytes change.iov.now (change.to - change.from) can.room) can.known calm puts.as_many
        (subst W same puts.whole) claimed (subst A same puts.state) (two ∙ one) (subst S length_is sound.space));
  }
    where
      entry : ℕ → Entry
      entry n = record { caller = claims.caller; event = DaxPut change.by change.seen change.from change.to (put_bytes change); outcome = Took (pairs_taken is_empty now (change.from / n) (blocks_met n change.from change.to) puts.sectors) }
