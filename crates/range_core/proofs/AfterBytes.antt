-- The range truth after an entry that changes pages and dirty bits of the blocks of a run of bytes, and leaves a stamp on each.
use Rattle.std.proofs.Common.{◌≡◌, ℕ, ◌+◌, ◌-◌, ◌<◌, ◌≤◌, false, Some, List, [], ◌∷◌, ◌++◌, set, refl, sym, ◌∙◌, ap, arith}
use Rattle.std.specs.Prelude.{slice_get}
use Rattle.iob_base.specs.declared.stamp.Mode.{Mode}
use Rattle.iob_base.specs.declared.stamp.Mode.TheVariants.{Cached, Dax}
use Rattle.iob_base.specs.declared.stamp.Tag.{Tag}
use Rattle.io_model.specs.Contents.{Content}
use Rattle.turn_cell.specs.Stakes.{total}
use Rattle.range_core.specs.BlockContents.{content_after}
use Rattle.range_core.specs.BlockStates.{BlockState, state_after, state_of}
use Rattle.range_core.specs.BlockTruth.{IsTrueAt}
use Rattle.range_core.specs.ByteRuns.{after_bytes}
use Rattle.range_core.specs.ClaimsView.{ClaimsView}
use Rattle.range_core.specs.EntryCounts.{changes, failures, lendings}
use Rattle.range_core.specs.EntryStamps.{stamps_of}
use Rattle.range_core.specs.Lookups.{GivesPresent}
use Rattle.range_core.specs.OnRun.{on_each}
use Rattle.range_core.specs.RangeTruth.{RangeTruth, pending}
use Rattle.range_core.specs.RangeView.{RangeView}
use Rattle.range_core.specs.Spots.{in_run}
use Rattle.range_core.specs.Stakes.{RangeStake}
use Rattle.range_core.specs.Stamps.{done_by, stamps_from}
use Rattle.range_core.specs.declared.cell.Cell.{Cell}
use Rattle.range_core.specs.declared.entry.Entry.{Entry}
use Rattle.range_core.specs.declared.parts.ByteRun.{ByteRun}
use Rattle.range_core.proofs.AfterEntry.{quiet_tickets}
use Rattle.range_core.proofs.AfterRun.{changed_truth, keeps_claims}
use Rattle.range_core.proofs.KeptPlaces.{KeepsPlaces, kept_kinds, kept_pending, kept_space}
use Rattle.range_core.proofs.SampleLemmas.{samples_next}
use Rattle.range_core.specs.Happened.{IsAsFound}
use Rattle.range_core.proofs.StakeTruth.{Works}

-- An entry of this caller leaves a stamp of `by` on each block of the run, and no count of the range changes
pub record StampsRun (size caller : ℕ) (now next : RangeView) (by : Tag) (run : ByteRun) (e : Entry) : Type 0 where
  pub caller_is : e.caller ≡ caller
  pub failed : failures e ≡ 0
  pub lent : lendings e ≡ 0
  pub changed : changes e ≡ 0
  pub stamps : stamps_of size e ≡ stamps_from run.first run.blocks (done_by by)
  pub sample : GivesPresent next e
  pub found : IsAsFound size now e

-- The entry changes the blocks of the run by f, each as it says, and is true of its content afterwards; any other it leaves
pub record ActsOnRun (size first : ℕ) (now : RangeView) (stakes : List RangeStake) (f : ℕ → Cell → Cell) (run : ByteRun) (e : Entry) : Type 0 where
  pub content : (b : ℕ) (x : Content) → in_run run.first run.blocks b ≡ false → content_after size b x e ≡ x
  pub state : (b : ℕ) (s : BlockState) → in_run run.first run.blocks b ≡ false → state_after size b s e ≡ s
  pub becomes : (k : ℕ) (was : Cell) → k < run.blocks → slice_get now.cells (run.first - first + k) ≡ Some was → state_of (f k was) ≡ state_after size (run.first + k) (state_of was) e
  pub holds : (k : ℕ) (was : Cell) (content : Content) → k < run.blocks → slice_get now.cells (run.first - first + k) ≡ Some was → IsTrueAt size (run.first + k) was content stakes
      → IsTrueAt size (run.first + k) (f k was) (content_after size (run.first + k) content e) stakes

not_dax : (m : Mode) → m ≡ Cached → m ≡ Dax → ⊥
not_dax m e d = cc

pub bytes_truth : (opening now : RangeView) (history : List Entry) (e : Entry) (stakes : List RangeStake) (number : ℕ) (claims : ClaimsView) (made : List Entry) (f : ℕ → Cell → Cell) (by : Tag) (run : ByteRun) → RangeTruth opening now history stakes
    → Works stakes number claims made → opening.mode ≡ Cached → opening.first ≤ run.first → KeepsPlaces f → StampsRun opening.geometry.block_size claims.caller now (after_bytes f now by run) by run e
    → ActsOnRun opening.geometry.block_size opening.first now stakes f run e
    → RangeTruth opening (after_bytes f now by run) (history ++ e ∷ []) (set stakes number (Some claims, made ++ e ∷ []))
bytes_truth opening now history e stakes number claims made f by run t here cached low keeps s acts =
    let size : ℕ = opening.geometry.block_size in
    let next : RangeView = after_bytes f now by run in
    let at : ℕ = run.first - now.first in
    let kinds = kept_kinds f keeps at run.blocks now.cells in
    let pends : total pending next.cells ≡ total pending now.cells = kept_pending f keeps at run.blocks now.cells in
    let claims_stay = λ (b : ℕ). keeps_claims size b stakes number claims claims made (made ++ e ∷ []) here refl in
    changed_truth opening now next history e stakes number claims claims made f run.first run.blocks t here
    (record {
      low = low;
      cells = ap (λ n. on_each f 0 (run.first - n) run.blocks now.cells) t.same_run.first;
      outside = λ b out. record { content = λ x. acts.content b x out; state = λ st. acts.state b st out; claims = claims_stay b };
      inside = λ k was content l at h. record { state = acts.becomes k was l at; holds = claims_stay (run.first + k) (f k was) _ (acts.holds k was content l at h) };
    })
    (record {
      geometry = refl;
      mode = refl;
      first = refl;
      pool = refl;
      errors = let n = s.failed in let p = t.errors_counted in omega arith;
      tickets = quiet_tickets opening now history e stakes t s.lent;
      cookie = let n = s.changed in omega arith;
      log = ap (λ l. now.log ++ l) (sym s.stamps);
      headroom = let h = t.cookie_has_headroom in omega arith;
      uncached = λ d. absurd (not_dax now.mode (t.same_run.mode ∙ cached) d);
      space = kept_space f keeps size at run.blocks now.cells now.space t.pool_claims_sectors;
      found = s.found;
    })
    (samples_next now next history e refl (omega arith) (λ _. kinds) t.samples_give_extents s.sample)
    (record { caller = refl; spare = refl; main = refl })
    s.caller_is
