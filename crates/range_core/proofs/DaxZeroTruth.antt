-- The range truth after zeros were laid over the sectors of a file.
use Rattle.std.proofs.Common.{◌≡◌, ℕ, ◌+◌, ◌-◌, ◌/◌, ◌≤◌, Some, List, [], ◌∷◌, ◌++◌, set, refl, sym, ◌∙◌, ap, subst, arith}
use Rattle.std.specs.Prelude.{OnErr, OnOk, Result, Ok, Err}
use Rattle.std.proofs.lemmas.List.{length-replicate}
use Rattle.iob_base.specs.declared.stamp.Tag.{Tag}
use Rattle.io_model.specs.Contents.{Content}
use Rattle.turn_cell.specs.Stakes.{Begins}
use Rattle.range_core.specs.BlockTruth.{IsTrueAt}
use Rattle.range_core.specs.ByteRuns.{IsByteRun, after_bytes, run_between}
use Rattle.range_core.specs.ClaimsView.{ClaimsView}
use Rattle.range_core.specs.DaxGets.{IsThrough}
use Rattle.range_core.specs.DaxZeros.{CanZeroDax, after_dax_zero, dax_zero_entry, zeroed_through}
use Rattle.range_core.specs.RangeTruth.{IsUncached, RangeTruth}
use Rattle.range_core.specs.RangeView.{LiesAt, RangeView}
use Rattle.range_core.specs.KnownSamples.{WasGiven}
use Rattle.range_core.specs.Spots.{blocks_met, is_met, overlaid}
use Rattle.range_core.specs.Stakes.{RangeStake}
use Rattle.range_core.specs.StoreZeros.{zeros_of}
use Rattle.range_core.specs.declared.entry.Entry.{Entry}
use Rattle.range_core.specs.declared.entry.Event.TheVariants.{DaxZero}
use Rattle.range_core.specs.declared.fault.EventFault.{EventFault}
use Rattle.range_core.specs.declared.parts.ByteRun.{ByteRun}
use Rattle.range_core.specs.declared.sample.Sample.{Sample}
use Rattle.range_core.proofs.ByteRunLemmas.{met-inside, met-outside}
use Rattle.range_core.proofs.DaxZeroLemmas.{zeroed-stays}
use Rattle.range_core.proofs.FetchTruth.{refused_truth}
use Rattle.range_core.proofs.FirstTruth.{All-there}
use Rattle.range_core.proofs.LayLemmas.{length-overlaid}
use Rattle.range_core.proofs.SampleLemmas.{given_later, known_sample}
use Rattle.range_core.proofs.StoreTruth.{if_met, if_unmet}
use Rattle.range_core.proofs.ThroughTruth.{state-stays, through_truth, where_mapped_true}
use Rattle.range_core.proofs.StoreZerosLemmas.{zeros_over}
use Rattle.range_core.proofs.FoundLemmas.{bare-found, if_any}
use Rattle.range_core.proofs.StakeTruth.{Works}

module _ (opening now : RangeView) (history : List Entry) (stakes : List RangeStake) (seen : Sample) (from to : ℕ) (t : RangeTruth opening now history stakes) (bytes : IsThrough opening seen from to) where
  same_size : now.geometry.block_size ≡ opening.geometry.block_size
  same_size = ap (λ g. g.block_size) t.same_run.geometry

  -- such bytes lie in the range as it is
  pub through_now : IsThrough now seen from to
  through_now =
      let first = t.same_run.first in
      let many = t.same_run.blocks in
      let low = bytes.lies.low in
      let high = bytes.lies.high in
      let L : ℕ → Type 0 = λ size. LiesAt now (from / size) (blocks_met size from to) in
      let E : ℕ → Type 0 = λ size. (seen.extent.block ≤ from / size) × (from / size + blocks_met size from to ≤ seen.extent.block + seen.extent.length) in
      let extent : E now.geometry.block_size = subst E (sym same_size) (bytes.extent.low, bytes.extent.high) in
      record {
        dax = t.same_run.mode ∙ bytes.dax;
        some = bytes.some;
        lies = subst L (sym same_size) (record { low = omega arith; some = bytes.lies.some; high = omega arith });
        extent = record { low = extent.0; high = extent.1 };
      }

  pub can_zero_dax : (given : List Entry) → Begins given history → WasGiven seen given → CanZeroDax now seen from to
  can_zero_dax given begins was = record {
    bytes = through_now;
    known = known_sample opening now history stakes seen t (given_later seen given history begins was);
    uncached = t.dax_is_uncached (t.same_run.mode ∙ bytes.dax);
  }

  module _ (number : ℕ) (claims : ClaimsView) (made : List Entry) (by : Tag) (here : Works stakes number claims made) (after : RangeView) (cut : IsByteRun (run_between now.geometry.block_size from to)) where
    -- the truth after zeros that came about
    zeroed_truth : RangeTruth opening (after_dax_zero now by from to) (history ++ dax_zero_entry claims by seen from to (Ok tt) ∷ []) (set stakes number (Some claims, made ++ dax_zero_entry claims by seen from to (Ok tt) ∷ []))
    zeroed_truth =
        let size : ℕ = opening.geometry.block_size in
        let run : ByteRun = run_between size from to in
        let e : Entry = dax_zero_entry claims by seen from to (Ok tt) in
        let C : ℕ → Type 0 = λ n. IsByteRun (run_between n from to) in
        let met_blocks : IsByteRun run = subst C same_size cut in
        let T : ℕ → Type 0 = λ n. RangeTruth opening (after_bytes (zeroed_through (run_between n from to)) now by (run_between n from to)) (history ++ e ∷ []) (set stakes number (Some claims, made ++ e ∷ [])) in
        subst T (sym same_size)
        (through_truth (zeroed_through run) (zeroed-stays run) opening now history e stakes number claims made by run t here bytes.lies.low
        (record { caller_is = refl; failed = refl; lent = refl; changed = refl; stamps = refl; sample = tt; found = λ i c at. if_any (is_met size from to (now.first + i)) _ (bare-found c (All-there IsUncached now.cells i c (t.dax_is_uncached (t.same_run.mode ∙ bytes.dax)) at)) })
        (record {
          content = λ b x out. if_unmet (is_met size from to b) (overlaid size from to (zeros_of run) b x) x (met-outside run met_blocks b out);
          state = λ b x out. refl;
          becomes = λ k was l at. state-stays (zeroed_through run) (zeroed-stays run) k was;
          holds = λ k was content l at h.
              let b : ℕ = run.first + k in
              let un = All-there IsUncached now.cells (run.first - opening.first + k) was (t.dax_is_uncached (t.same_run.mode ∙ bytes.dax)) at in
              let f : Content → Content = overlaid size from to (zeros_of run) b in
              let B : Content → Type 0 = λ x. IsTrueAt size b (zeroed_through run k was) x stakes in
              subst B (if_met (is_met size from to b) (f content) content (met-inside run met_blocks k l))
              (where_mapped_true size b f was content stakes (length-overlaid run met_blocks (zeros_of run) (length-replicate (to - from) 0) k l) (zeros_over run met_blocks k l) un h);
        }))

    -- the truth after the turn, whatever came of it
    pub dax_zero_keeps : (answer : Result (Unit {0}) EventFault) → OnErr answer (after ≡ now) → OnOk answer (after ≡ after_dax_zero now by from to)
        → RangeTruth opening after (history ++ dax_zero_entry claims by seen from to answer ∷ []) (set stakes number (Some claims, made ++ dax_zero_entry claims by seen from to answer ∷ []))
    dax_zero_keeps (Ok x) same state =
        let T : RangeView → Type 0 = λ r. RangeTruth opening r (history ++ dax_zero_entry claims by seen from to (Ok x) ∷ []) (set stakes number (Some claims, made ++ dax_zero_entry claims by seen from to (Ok x) ∷ [])) in
        subst T (sym state) zeroed_truth
    dax_zero_keeps (Err f) same state =
        let T : RangeView → Type 0 = λ r. RangeTruth opening r (history ++ dax_zero_entry claims by seen from to (Err f) ∷ []) (set stakes number (Some claims, made ++ dax_zero_entry claims by seen from to (Err f) ∷ [])) in
        subst T (sym same) (refused_truth opening now history stakes number claims made (DaxZero by seen from to) f t here)
