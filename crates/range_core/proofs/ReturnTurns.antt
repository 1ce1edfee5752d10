-- A turn that takes blocks back keeps the truth.
use Rattle.std.proofs.Common.{◌≡◌, ℕ, ◌+◌, ◌-◌, ◌*◌, ◌<◌, ◌≤◌, ◌^◌, true, false, Some, List, [], ◌∷◌, ◌++◌, length, set, All, refl, sym, ◌∙◌, ap, subst, arith}
use Rattle.std.specs.Prelude.{min, max, slice_get}
use Rattle.iob_base.specs.declared.TheConstants.{WORN}
use Rattle.iob_base.specs.declared.stamp.Mode.TheVariants.{Dax}
use Rattle.iob_base.specs.declared.stamp.Op.{Op}
use Rattle.iob_base.specs.declared.stamp.Stamp.{Stamp}
use Rattle.fault_device.specs.declared.lane.Done.{Done}
use Rattle.io_model.specs.Contents.{Content}
use Rattle.turn_cell.specs.Stakes.{total}
use Rattle.range_core.specs.BlockContents.{content_after}
use Rattle.range_core.specs.BlockStates.{BlockState, state_after}
use Rattle.range_core.specs.BlockTruth.{IsTrueAt, is_gone}
use Rattle.range_core.specs.ClaimsView.{ClaimsView, released}
use Rattle.range_core.specs.EntryCounts.{changes, failures, lendings}
use Rattle.range_core.specs.EntryStamps.{stamps_of}
use Rattle.range_core.specs.Lookups.{GivesPresent}
use Rattle.range_core.specs.OnRun.{on_each}
use Rattle.range_core.specs.RangeTruth.{IsUncached, RangeTruth, content_at, pending}
use Rattle.range_core.specs.RangeView.{RangeView}
use Rattle.range_core.specs.Returning.{MayComeBack}
use Rattle.range_core.specs.Space.{ClaimsSpace}
use Rattle.range_core.specs.Spots.{in_run}
use Rattle.range_core.specs.Stakes.{RangeStake, names_block}
use Rattle.range_core.specs.declared.cell.Cell.{Cell}
use Rattle.range_core.specs.declared.entry.Entry.{Entry}
use Rattle.range_core.specs.declared.lending.Lender.{Lender}
use Rattle.range_core.specs.declared.lending.Lent.{Lent}
use Rattle.range_core.proofs.AfterEntry.{quiet_tickets}
use Rattle.range_core.proofs.AfterRun.{ChangesBlock, changed_truth, in_run-true}
use Rattle.range_core.proofs.ReturnHomeLemmas.{AllHome, at_claim, returned_space}
use Rattle.range_core.proofs.KindRuns.{kinds_of}
use Rattle.range_core.proofs.LoanTruth.{IsLentBlock, changes_seat, lent_block, true_outside}
use Rattle.range_core.proofs.ReturnLemmas.{are_out}
use Rattle.range_core.proofs.SampleLemmas.{samples_next}
use Rattle.range_core.proofs.SoundLemmas.{All-on_each_at, total-moved}
use Rattle.range_core.specs.Happened.{IsAsFound}
use Rattle.range_core.proofs.StakeTruth.{Works}

module _ (opening now : RangeView) (history : List Entry) (stakes : List RangeStake) (number : ℕ) (claims : ClaimsView) (made : List Entry) (lender : Lender) (op : Op) (back : Lent) (done : Done) (entry : Entry) (f : ℕ → Cell → Cell) (log : List (ℕ × Stamp)) (cookie errors : ℕ) where
  abbrev size : ℕ
  size = opening.geometry.block_size

  abbrev low : ℕ
  low = back.block - now.first

  abbrev n : ℕ
  n = length back.parts

  abbrev others : List RangeStake
  others = set stakes number (Some (released claims), made ++ entry ∷ [])

  abbrev next : RangeView
  next = record now { cells = on_each f 0 low n now.cells; log = log; cookie = cookie; errors = errors }

  -- the entry says that these blocks came back, and nothing of others
  pub record IsHomecoming : Type 0 where
    pub content : (x : ℕ) (y : Content) → in_run back.block n x ≡ false → content_after size x y entry ≡ y
    pub outside : (x : ℕ) (s : BlockState) → in_run back.block n x ≡ false → state_after size x s entry ≡ s
    pub failed : errors ≡ min (now.errors + failures entry) (2 ^ 64 - 1)
    pub lent : lendings entry ≡ 0
    pub changed : cookie ≡ now.cookie + changes entry
    pub stamps : log ≡ now.log ++ stamps_of size entry
    pub sample : GivesPresent next entry
    pub caller : entry.caller ≡ claims.caller
    pub found : IsAsFound size now entry

  module _ (truth : RangeTruth opening now history stakes) (here : Works stakes number claims made) (may : MayComeBack opening claims lender op back done) where
    -- what comes back is what was claimed
    pub back_named : (x : ℕ) → names_block x (Some may.claim) ≡ in_run back.block n x
    back_named x =
        let place = at_claim 0 claims may.claim op back done may.is_return in
        ap (λ b. in_run b (length may.claim.lent.value.parts) x) (sym may.is_return.block) ∙ ap (λ m. in_run back.block m x) (sym place.many)

    -- each block that comes back tells what it was lent for
    pub back_lent : (k : ℕ) (was : Cell) (content : Content) → k < n → IsTrueAt size (back.block + k) was content stakes → IsLentBlock size k was content may.claim
    back_lent k was content l t =
        let b = may.is_return.block in
        lent_block size (back.block + k) k was content stakes number claims made may.claim (omega arith) t here may.is_return.held (back_named (back.block + k) ∙ in_run-true back.block n (back.block + k) (omega arith) (omega arith))

    -- the blocks are blocks of the range
    pub back_within : (low + n ≤ length now.cells) × (now.first ≤ back.block)
    back_within =
        let place = at_claim 0 claims may.claim op back done may.is_return in
        let p = place.many in
        let b = may.is_return.block in
        let begins = may.lies.low in
        let ends = may.lies.high in
        let first = truth.same_run.first in
        let m = truth.same_run.blocks in
        (omega arith, omega arith)

    -- the same of the blocks as they are now
    pub now_lent : (k : ℕ) (c : Cell) → k < n → slice_get now.cells (low + k) ≡ Some c → IsLentBlock size k c (content_at opening history (low + k)) may.claim
    now_lent k c l at =
        let w = back_within.1 in
        let first = truth.same_run.first in
        let x : opening.first + (low + k) ≡ back.block + k = omega arith in
        let T : ℕ → Type 0 = λ y. IsTrueAt size y c (content_at opening history (low + k)) stakes in
        back_lent k c (content_at opening history (low + k)) l (subst T x (truth.blocks (low + k) c at))

    -- how many blocks an event without refusal may still change, where that changes alike for each block that comes back
    pub back_pending : (a b : ℕ) → ((k : ℕ) (c : Cell) (content : Content) → k < n → IsLentBlock size k c content may.claim → pending (f k c) + a ≡ pending c + b) → total pending next.cells + n * a ≡ total pending now.cells + n * b
    back_pending a b e =
        total-moved f pending a b 0 low n now.cells back_within.0
        (λ k c l at. let zk : 0 + k ≡ k = omega arith in let W : ℕ → Type 0 = λ j. pending (f j c) + a ≡ pending c + b in subst W (sym zk) (e k c _ l (now_lent k c l at)))

    back_uncached : next.mode ≡ Dax → All IsUncached next.cells
    back_uncached dax =
        All-on_each_at f is_gone IsUncached 0 low n now.cells back_within.0
        (λ k c l at u. absurd (let gone = (now_lent k c l at).gone in let home = u.home in cc))
        (truth.dax_is_uncached dax)

    back_space : AllHome now may.claim op done.landed f → ClaimsSpace size next.cells now.space
    back_space home =
        let out = are_out opening now history stakes number claims made may.claim truth here may.is_return.held may.lies in
        let place = at_claim now.first claims may.claim op back done may.is_return in
        let S : ℕ → Type 0 = λ l. ClaimsSpace size (on_each f 0 l n now.cells) now.space in
        let M : ℕ → Type 0 = λ m. ClaimsSpace size (on_each f 0 (may.claim.lent.value.block - now.first) m now.cells) now.space in
        subst S (sym place.low) (subst M (sym place.many) (returned_space now may.claim op done.landed f out home size now.space truth.pool_claims_sectors))

    pub return_truth : IsHomecoming → AllHome now may.claim op done.landed f
        → ((k : ℕ) (was : Cell) (content : Content) → k < n → IsTrueAt size (back.block + k) was content stakes → IsLentBlock size k was content may.claim → in_run back.block n (back.block + k) ≡ true → ChangesBlock size (back.block + k) was (f k was) content entry others)
        → (cookie ≡ now.cookie → kinds_of next.cells ≡ kinds_of now.cells) → max cookie WORN + total pending next.cells ≤ WORN + 65536
        → RangeTruth opening next (history ++ entry ∷ []) others
    return_truth is home inside kinds headroom =
        let rises = is.changed in
        changed_truth opening now next history entry stakes number claims (released claims) made f back.block n truth here
        (record {
          low = let l = may.lies.low in let b = may.is_return.block in omega arith;
          cells = ap (λ b. on_each f 0 (back.block - b) n now.cells) truth.same_run.first;
          outside = λ x out. record {
            content = λ y. is.content x y out;
            state = λ s. is.outside x s out;
            claims = λ c y t. true_outside size x c y stakes others claims (released claims) (changes_seat stakes number claims (released claims) made entry here) (ap (names_block x) may.is_return.held ∙ back_named x ∙ out) refl t;
          };
          inside = λ k was content l at t. inside k was content l t (back_lent k was content l t) (in_run-true back.block n (back.block + k) (omega arith) (omega arith));
        })
        (record {
          geometry = refl;
          mode = refl;
          first = refl;
          pool = refl;
          errors = is.failed;
          tickets = quiet_tickets opening now history entry stakes truth is.lent;
          cookie = is.changed;
          log = is.stamps;
          headroom = headroom;
          uncached = back_uncached;
          space = back_space home;
          found = is.found;
        })
        (samples_next now next history entry refl (omega arith) kinds truth.samples_give_extents is.sample)
        (record { caller = refl; spare = refl; main = refl }) is.caller
