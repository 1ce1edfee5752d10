-- The range truth after bytes were read straight from the sectors, and the bytes that it gives.
use Rattle.std.proofs.Common.{◌≡◌, ℕ, ◌+◌, ◌-◌, ◌/◌, ◌<◌, ◌≤◌, false, Some, None, List, [], ◌∷◌, ◌++◌, get_or, set, refl, sym, ◌∙◌, ap, subst, arith}
use Rattle.std.specs.Prelude.{OnErr, OnOk, Result, Ok, Err, slice_get}
use Rattle.std.proofs.lemmas.Option.{slice_get-get_or}
use Rattle.iob_base.specs.declared.stamp.Mode.TheVariants.{Dax}
use Rattle.iob_base.specs.declared.stamp.Tag.{Tag}
use Rattle.io_model.specs.declared.file.Kind.TheVariants.{Hole}
use Rattle.iov_iter.specs.IovView.{IovView, written_on}
use Rattle.turn_cell.specs.Stakes.{Begins}
use Rattle.range_core.specs.ByteRuns.{HasNext, run_between, run_bytes}
use Rattle.range_core.specs.ClaimsView.{ClaimsView}
use Rattle.range_core.specs.DaxGets.{CanGetDax, IsThrough, after_dax_get, dax_get_entry, stored_at, stored_of, stored_run}
use Rattle.range_core.specs.EntryStamps.{stamps_met}
use Rattle.range_core.specs.Fetches.{replayed_run}
use Rattle.range_core.specs.RangeTruth.{IsUncached, RangeTruth, content_at}
use Rattle.range_core.specs.RangeView.{LiesAt, RangeView}
use Rattle.range_core.specs.KnownSamples.{WasGiven}
use Rattle.range_core.specs.Spots.{blocks_met, is_met}
use Rattle.range_core.specs.Stakes.{RangeStake}
use Rattle.range_core.specs.declared.cell.Cell.{Cell}
use Rattle.range_core.specs.declared.entry.Entry.{Entry}
use Rattle.range_core.specs.declared.entry.Event.TheVariants.{DaxGet}
use Rattle.range_core.specs.declared.fault.EventFault.{EventFault}
use Rattle.range_core.specs.declared.parts.ByteRun.{ByteRun}
use Rattle.range_core.specs.declared.sample.Sample.{Sample}
use Rattle.range_core.proofs.ByteRunLemmas.{gathered-same}
use Rattle.range_core.proofs.FetchTruth.{refused_truth}
use Rattle.range_core.proofs.FirstTruth.{All-there}
use Rattle.range_core.proofs.DirectNowLemmas.{stored-content}
use Rattle.range_core.proofs.SampleLemmas.{given_later, known_sample}
use Rattle.range_core.proofs.StampedTruth.{stamped_truth}
use Rattle.range_core.proofs.FoundLemmas.{bare-found, if_any}
use Rattle.range_core.proofs.StakeTruth.{Works}

module _ (opening now : RangeView) (history : List Entry) (stakes : List RangeStake) (seen : Sample) (from to : ℕ) (t : RangeTruth opening now history stakes) (bytes : IsThrough opening seen from to) where
  same_size : now.geometry.block_size ≡ opening.geometry.block_size
  same_size = ap (λ g. g.block_size) t.same_run.geometry

  is_dax : now.mode ≡ Dax
  is_dax = t.same_run.mode ∙ bytes.dax

  -- the event may be made at a turn of a seat that was given the sample
  pub can_get_dax : (given : List Entry) (v : IovView) → Begins given history → WasGiven seen given → HasNext v (to - from) → CanGetDax now seen from to v
  can_get_dax given v begins was room =
      let first = t.same_run.first in
      let many = t.same_run.blocks in
      let low = bytes.lies.low in
      let high = bytes.lies.high in
      let L : ℕ → Type 0 = λ size. LiesAt now (from / size) (blocks_met size from to) in
      let E : ℕ → Type 0 = λ size. (seen.extent.block ≤ from / size) × (from / size + blocks_met size from to ≤ seen.extent.block + seen.extent.length) in
      let extent : E now.geometry.block_size = subst E (sym same_size) (bytes.extent.low, bytes.extent.high) in
      record {
        bytes = record {
          dax = is_dax;
          some = bytes.some;
          lies = subst L (sym same_size) (record { low = omega arith; some = bytes.lies.some; high = omega arith });
          extent = record { low = extent.0; high = extent.1 };
        };
        room = room;
        known = known_sample opening now history stakes seen t (given_later seen given history begins was);
        uncached = t.dax_is_uncached is_dax;
      }

  -- what the device has of the blocks met is what the history leaves
  pub dax_replay : stored_run now from to ≡ replayed_run opening history from to
  dax_replay =
      let size : ℕ = opening.geometry.block_size in
      let run : ByteRun = run_between size from to in
      let B : ℕ → List ℕ = λ n. run_bytes (run_between n from to) (stored_at n now.first now.cells) in
      ap B same_size ∙ gathered-same run (stored_at size now.first now.cells) (λ b. content_at opening history (b - opening.first)) run.first run.blocks same_at
    where
      same_at : (k : ℕ) → k < blocks_met opening.geometry.block_size from to
          → stored_at opening.geometry.block_size now.first now.cells (from / opening.geometry.block_size + k) ≡ content_at opening history (from / opening.geometry.block_size + k - opening.first)
      same_at k l =
          let size : ℕ = opening.geometry.block_size in
          let b : ℕ = from / size + k in
          let i : ℕ = b - opening.first in
          let first = t.same_run.first in
          let many = t.same_run.blocks in
          let low = bytes.lies.low in
          let high = bytes.lies.high in
          let blank : Cell = record { kind = Hole; sector = None; away = None; page = None; dirty = false } in
          let c : Cell = get_or now.cells i blank in
          let at : slice_get now.cells i ≡ Some c = slice_get-get_or now.cells i blank (omega arith) in
          let place : b - now.first ≡ i = ap (λ n. b - n) first in
          let un = All-there IsUncached now.cells i c (t.dax_is_uncached is_dax) at in
          ap (λ j. stored_of size (slice_get now.cells j)) place ∙ ap (stored_of size) at
          ∙ stored-content size (opening.first + i) c (content_at opening history i) stakes (record { home = un.home; clean = un.clean }) (t.blocks i c at)

  module _ (number : ℕ) (claims : ClaimsView) (made : List Entry) (by : Tag) (here : Works stakes number claims made) (after : RangeView) where
    -- the truth after the turn, whatever came of it
    pub dax_get_keeps : (answer : Result (Unit {0}) EventFault) → OnErr answer (after ≡ now) → OnOk answer (after ≡ after_dax_get now by from to)
        → RangeTruth opening after (history ++ dax_get_entry claims by seen from to answer ∷ []) (set stakes number (Some claims, made ++ dax_get_entry claims by seen from to answer ∷ []))
    dax_get_keeps (Ok x) same state =
        let e : Entry = dax_get_entry claims by seen from to (Ok x) in
        let T : RangeView → Type 0 = λ r. RangeTruth opening r (history ++ e ∷ []) (set stakes number (Some claims, made ++ e ∷ [])) in
        subst T (sym state) (stamped_truth opening now history e _ stakes number claims made t here
        (record {
          caller_is = refl;
          content = λ b y. refl;
          state = λ b s. refl;
          failed = refl;
          lent = refl;
          changed = refl;
          stamps_are = ap (λ n. stamps_met n by from to) (sym same_size);
          sample = tt;
          found = λ i c at. if_any (is_met opening.geometry.block_size from to (now.first + i)) _ (bare-found c (All-there IsUncached now.cells i c (t.dax_is_uncached is_dax) at));
        }))
    dax_get_keeps (Err f) same state =
        let T : RangeView → Type 0 = λ r. RangeTruth opening r (history ++ dax_get_entry claims by seen from to (Err f) ∷ []) (set stakes number (Some claims, made ++ dax_get_entry claims by seen from to (Err f) ∷ [])) in
        subst T (sym same) (refused_truth opening now history stakes number claims made (DaxGet by seen from to) f t here)

  -- the bytes that it gave are those that the history leaves
  pub dax_get_gives : (answer : Result (Unit {0}) EventFault) (v w : IovView) → OnOk answer (w ≡ written_on (stored_run now from to) v) → OnOk answer (w ≡ written_on (replayed_run opening history from to) v)
  dax_get_gives (Ok x) v w got = got ∙ ap (λ b. written_on b v) dax_replay
  dax_get_gives (Err f) v w got = tt
