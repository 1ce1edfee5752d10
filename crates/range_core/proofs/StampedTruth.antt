-- The range truth after an entry that leaves stamps and changes nothing else, and what every range keeps.
use Rattle.std.proofs.Common.{List, Some, [], ap, arith, length, refl, set, sym, ℕ, ◌++◌, ◌-◌, ◌∙◌, ◌∷◌, ◌≡◌}
use Rattle.iob_base.specs.declared.stamp.Stamp.{Stamp}
use Rattle.io_model.specs.Contents.{Content}
use Rattle.range_core.specs.BlockContents.{content_after}
use Rattle.range_core.specs.BlockStates.{BlockState, state_after}
use Rattle.range_core.specs.ClaimsView.{ClaimsView}
use Rattle.range_core.specs.EntryCounts.{changes, failures, lendings}
use Rattle.range_core.specs.EntryStamps.{stamps_of}
use Rattle.range_core.specs.Events.{with_stamps}
use Rattle.range_core.specs.Lookups.{GivesPresent}
use Rattle.range_core.specs.RangeTruth.{RangeTruth}
use Rattle.range_core.specs.RangeView.{IsSound, LiesAt, RangeView, range_view}
use Rattle.range_core.specs.Stakes.{RangeStake}
use Rattle.range_core.specs.Stamps.{stamps_from}
use Rattle.range_core.specs.declared.cell.Cell.{Cell}
use Rattle.range_core.specs.declared.entry.Entry.{Entry}
use Rattle.range_core.proofs.AfterEntry.{quiet_tickets}
use Rattle.range_core.proofs.AfterRun.{changed_truth, keeps_claims}
use Rattle.range_core.proofs.OnRunLemmas.{on_each-none}
use Rattle.range_core.proofs.SampleLemmas.{samples_next}
use Rattle.range_core.proofs.SoundLemmas.{sound_next, stamps_from-range}
use Rattle.range_core.specs.Happened.{IsAsFound}
use Rattle.range_core.proofs.StakeTruth.{Works}

-- No block has another content, kind, dirty bit or ticket after the entry of this caller, none of the counts rose, and it left these stamps
pub record OnlyStamps (size caller : ℕ) (now : RangeView) (e : Entry) (stamps : List (ℕ × Stamp)) : Type 0 where
  pub caller_is : e.caller ≡ caller
  pub content : (b : ℕ) (x : Content) → content_after size b x e ≡ x
  pub state : (b : ℕ) (s : BlockState) → state_after size b s e ≡ s
  pub failed : failures e ≡ 0
  pub lent : lendings e ≡ 0
  pub changed : changes e ≡ 0
  pub stamps_are : stamps_of size e ≡ stamps
  pub sample : GivesPresent (with_stamps now stamps) e
  pub found : IsAsFound size now e

pub stamped_truth : (opening now : RangeView) (history : List Entry) (e : Entry) (stamps : List (ℕ × Stamp)) (stakes : List RangeStake) (number : ℕ) (claims : ClaimsView) (made : List Entry) → RangeTruth opening now history stakes
    → Works stakes number claims made → OnlyStamps opening.geometry.block_size claims.caller now e stamps
    → RangeTruth opening (with_stamps now stamps) (history ++ e ∷ []) (set stakes number (Some claims, made ++ e ∷ []))
stamped_truth opening now history e stamps stakes number claims made t here only =
    let size : ℕ = opening.geometry.block_size in
    let next : RangeView = with_stamps now stamps in
    let f : ℕ → Cell → Cell = λ _ c. c in
    changed_truth opening now next history e stakes number claims claims made f opening.first 0 t here
    (record {
      low = omega arith;
      cells = on_each-none f 0 (opening.first - opening.first) now.cells;
      outside = λ b out. record { content = only.content b; state = only.state b; claims = keeps_claims size b stakes number claims claims made _ here refl };
      inside = λ k was content l at true_at. absurd (omega arith);
    })
    (record {
      geometry = refl;
      mode = refl;
      first = refl;
      pool = refl;
      errors = let f = only.failed in let p = t.errors_counted in omega arith;
      tickets = quiet_tickets opening now history e stakes t only.lent;
      cookie = let c = only.changed in omega arith;
      log = ap (λ l. now.log ++ l) (sym only.stamps_are);
      headroom = t.cookie_has_headroom;
      uncached = t.dax_is_uncached;
      space = t.pool_claims_sectors;
      found = only.found;
    })
    (samples_next now next history e refl (let c = only.changed in omega arith) (λ _. refl) t.samples_give_extents only.sample)
    (record { caller = refl; spare = refl; main = refl })
    only.caller_is

-- a range stays sound with one stamp more of each block of a run
pub stamped_sound : (r : RangeView) (kept log : List (ℕ × Stamp)) (b n : ℕ) (st : Stamp) → IsSound r → LiesAt r b n → kept ≡ r.log → log ≡ kept ++ stamps_from b n st
    → IsSound (range_view r.geometry r.mode r.first r.cells log r.cookie r.errors r.tickets r.seat r.space)
stamped_sound r kept log b n st s lies same more =
    sound_next r r.cells log (stamps_from b n st) r.cookie r.errors r.tickets r.seat r.space s refl s.places (more ∙ ap (λ l. l ++ stamps_from b n st) same)
    (stamps_from-range r.first (length r.cells) b n st lies.low lies.high) s.space
