-- The truth after a read past the page cache, and what it gave.
use Rattle.std.proofs.Common.{◌≡◌, ℕ, zero, suc, ◌+◌, ◌-◌, ◌<◌, ◌≤◌, Some, Ok, Err, List, [], ◌∷◌, ◌++◌, length, set, refl, sym, ◌∙◌, ap, subst, arith}
use Rattle.std.specs.Prelude.{IfOk, OnErr, slice_get, ◌&&◌, if◌then◌else◌}
use Rattle.iob_base.specs.Layout.{Layout}
use Rattle.iob_base.specs.declared.sector.Page.{Page}
use Rattle.iob_base.specs.declared.stamp.Mode.TheVariants.{Cached, Dax}
use Rattle.iob_base.specs.declared.stamp.Tag.{Tag}
use Rattle.turn_cell.specs.Stakes.{total}
use Rattle.range_core.specs.ClaimsView.{ClaimsView}
use Rattle.range_core.specs.DirectNows.{after_direct_now, now_length, pages_filled, stored_bytes, without_mapped_page}
use Rattle.range_core.specs.OnRun.{on_each}
use Rattle.range_core.specs.RangeTruth.{RangeTruth, content_at, pending}
use Rattle.range_core.specs.RangeView.{RangeView, cells_from}
use Rattle.range_core.specs.DirectNowTurns.{HaveContents, NowAnswer, now_entry}
use Rattle.range_core.specs.Stakes.{RangeStake}
use Rattle.range_core.specs.declared.cell.Cell.{Cell}
use Rattle.range_core.specs.declared.entry.Entry.{Entry}
use Rattle.range_core.specs.declared.entry.Event.TheVariants.{DirectNow}
use Rattle.range_core.proofs.AfterEntry.{quiet_tickets, quiet_truth}
use Rattle.range_core.proofs.AfterRun.{changed_truth, keeps_claims, in_run-true}
use Rattle.range_core.proofs.DirectNowLemmas.{filled-at, now_length-clean, now_length-within, stored-content, unmapped-kind, unmapped-pending, unmapped-state, unmapped-true}
use Rattle.range_core.proofs.OnRunLemmas.{map-on_each, total-on_each}
use Rattle.range_core.proofs.RefusedLemmas.{refused_is_quiet}
use Rattle.range_core.proofs.SampleLemmas.{samples_next, slice_get-drop}
use Rattle.range_core.proofs.SpaceLemmas.{space_by_kinds}
use Rattle.range_core.specs.Happened.{is_settled}
use Rattle.range_core.proofs.FoundLemmas.{found_run, settled-found}
use Rattle.range_core.specs.BlockStates.{without_page}
use Rattle.range_core.specs.Spots.{in_run}
use Rattle.range_core.specs.Kinds.{is_mapped}
use Rattle.range_core.proofs.StakeTruth.{Works}

abbrev drops : ℕ → Cell → Cell
drops _ c = without_mapped_page c

module _ (opening now : RangeView) (history : List Entry) (by : Tag) (b most : ℕ) (stakes : List RangeStake) (number : ℕ) (claims : ClaimsView) (made : List Entry) where
  -- the truth holds after n blocks were read that are at home and not dirty
  read_truth : (n : ℕ) → RangeTruth opening now history stakes → Works stakes number claims made → now.mode ≡ Cached → now.first ≤ b → n ≡ now_length (cells_from now b) most
      → RangeTruth opening (after_direct_now now by b n) (history ++ now_entry claims by b most (Ok n) ∷ []) (set stakes number (Some claims, made ++ now_entry claims by b most (Ok n) ∷ []))
  read_truth n t here cached low count =
      let e : Entry = now_entry claims by b most (Ok n) in
      let next : RangeView = after_direct_now now by b n in
      let size : ℕ = opening.geometry.block_size in
      let kinds = map-on_each drops (λ (x : Cell). x.kind) (λ _. unmapped-kind) 0 (b - now.first) n now.cells in
      let first = t.same_run.first in
      changed_truth opening now next history e stakes number claims claims made drops b n t here
      (record {
        low = omega arith;
        cells = ap (λ f. on_each drops 0 (b - f) n now.cells) first;
        outside = λ i out. record { content = λ x. refl; state = λ s. ap (λ u. if u && is_mapped s.kind then without_page s else s) out; claims = keeps_claims size i stakes number claims claims made (made ++ e ∷ []) here refl };
        inside = λ k was content l at h.
            let place : slice_get now.cells (b - now.first + k) ≡ Some was = ap (λ f. slice_get now.cells (b - f + k)) first ∙ at in
            let is = now_length-clean (cells_from now b) most k was (omega arith) (slice_get-drop (b - now.first) k now.cells ∙ place) in
            record {
              state = unmapped-state was (in_run b n (b + k)) (in_run-true b n (b + k) (omega arith) (omega arith));
              holds = keeps_claims size (b + k) stakes number claims claims made (made ++ e ∷ []) here refl (without_mapped_page was) content (unmapped-true size (b + k) was content stakes is h);
            };
      })
      (record {
        geometry = refl;
        mode = refl;
        first = refl;
        pool = refl;
        errors = let p = t.errors_counted in omega arith;
        tickets = quiet_tickets opening now history e stakes t refl;
        cookie = omega arith;
        log = refl;
        headroom = let h = t.cookie_has_headroom in let p : total pending next.cells ≡ total pending now.cells = total-on_each drops pending (λ _. unmapped-pending) 0 (b - now.first) n now.cells in omega arith;
        uncached = λ d. let no : Cached ≡ Dax = sym cached ∙ d in absurd (cc);
        space = space_by_kinds size now.cells next.cells now.space kinds t.pool_claims_sectors;
        found = found_run now b n (λ _ s. is_settled s) low
            (λ k c l at. let is = now_length-clean (cells_from now b) most k c (omega arith) (slice_get-drop (b - now.first) k now.cells ∙ at) in settled-found c is.home is.clean);
      })
      (samples_next now next history e refl (omega arith) (λ _. kinds) t.samples_give_extents tt)
      (record { caller = refl; spare = refl; main = refl }) refl

  -- the truth holds after the turn, whatever its answer
  pub answered_truth : (next : RangeView) (answer : NowAnswer) → RangeTruth opening now history stakes → Works stakes number claims made → now.mode ≡ Cached → now.first ≤ b
      → IfOk answer (λ n. n ≡ now_length (cells_from now b) most) → IfOk answer (λ n. next ≡ after_direct_now now by b n) → OnErr answer (next ≡ now)
      → RangeTruth opening next (history ++ now_entry claims by b most answer ∷ []) (set stakes number (Some claims, made ++ now_entry claims by b most answer ∷ []))
  answered_truth next (Ok n) t here cached low count state same =
      let T : RangeView → Type 0 = λ r. RangeTruth opening r (history ++ now_entry claims by b most (Ok n) ∷ []) (set stakes number (Some claims, made ++ now_entry claims by b most (Ok n) ∷ [])) in
      subst T (sym state) (read_truth n t here cached low count)
  answered_truth next (Err fault) t here cached low count state same =
      let e : Entry = now_entry claims by b most (Err fault) in
      let T : RangeView → Type 0 = λ r. RangeTruth opening r (history ++ e ∷ []) (set stakes number (Some claims, made ++ e ∷ [])) in
      subst T (sym same) (quiet_truth opening now history e stakes number claims made t here (refused_is_quiet opening.geometry.block_size claims.caller (DirectNow by b most) fault) tt refl)

-- there is an item at each place of a list
some_at : {A : Type 0} (xs : List A) (k : ℕ) → k < length xs → (x : A) × (slice_get xs k ≡ Some x)
some_at [] k h = absurd (omega arith)
some_at (x ∷ xs) zero h = (x, refl)
some_at (x ∷ xs) (suc k) h = some_at xs k (omega arith)

-- the pages have the contents of the blocks that were read
pub read_contents : (opening now : RangeView) (history : List Entry) (stakes : List RangeStake) (b most : ℕ) (before after : List Page) (answer : NowAnswer) → RangeTruth opening now history stakes
    → IfOk answer (λ n. n ≡ now_length (cells_from now b) most) → IfOk answer (λ n. after ≡ pages_filled now.geometry.block_size n (cells_from now b) before)
    → IfOk answer (λ n. HaveContents opening history b n after)
read_contents opening now history stakes b most before after (Err fault) t count read = tt
read_contents opening now history stakes b most before after (Ok n) t count read = λ k p l at.
    let low : ℕ = b - now.first in
    let cells : List Cell = cells_from now b in
    let within = now_length-within cells most in
    let there = some_at cells k (omega arith) in
    let c : Cell = there.0 in
    let first = t.same_run.first in
    let place : slice_get now.cells (b - opening.first + k) ≡ Some c = ap (λ f. slice_get now.cells (b - f + k)) (sym first) ∙ sym (slice_get-drop low k now.cells) ∙ there.1 in
    let is = now_length-clean cells most k c (omega arith) there.1 in
    filled-at now.geometry.block_size n cells before k c p l there.1 (ap (λ ps. slice_get ps k) (sym read) ∙ at)
    ∙ ap (λ (g : Layout). stored_bytes g.block_size c) t.same_run.geometry
    ∙ stored-content opening.geometry.block_size (opening.first + (b - opening.first + k)) c (content_at opening history (b - opening.first + k)) stakes is (t.blocks (b - opening.first + k) c place)
