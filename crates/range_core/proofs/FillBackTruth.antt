-- The turn that takes blocks back from a read keeps the truth.
use Rattle.std.proofs.Common.{◌≡◌, ℕ, ◌+◌, ◌-◌, ◌<◌, Bool, true, false, if◌then◌else◌, Option, Some, None, IfSome, List, [], ◌∷◌, ◌++◌, length, set, refl, sym, ◌∙◌, ap, subst, arith, append-nil}
use Rattle.std.specs.Prelude.{nat_lt, slice_get}
use Rattle.std.proofs.lemmas.Bool.{ltb-false}
use Rattle.iob_base.specs.DeviceBlock.{DeviceBlock}
use Rattle.iob_base.specs.declared.stamp.Op.TheVariants.{Read}
use Rattle.fault_device.specs.declared.lane.Done.{Done}
use Rattle.iob_base.specs.declared.part.Part.{Part}
use Rattle.io_model.specs.Contents.{Content}
use Rattle.io_model.specs.Kinds.{device_number}
use Rattle.range_core.specs.BlockStates.{read_back as state_back, state_of}
use Rattle.range_core.specs.BlockTruth.{FitsLender, IsHomeContent, IsTrueAt}
use Rattle.range_core.specs.Cells.{IsBlock}
use Rattle.range_core.specs.ClaimsView.{ClaimsView, released}
use Rattle.range_core.specs.LendReads.{fill_entry, after_fill_back, filled_cell, filled_of}
use Rattle.range_core.specs.Kinds.{is_mapped}
use Rattle.range_core.specs.Loans.{ChangesSeat}
use Rattle.range_core.specs.RangeTruth.{RangeTruth, pending}
use Rattle.range_core.specs.RangeView.{RangeView}
use Rattle.range_core.specs.Returning.{MayComeBack}
use Rattle.range_core.specs.Stakes.{RangeStake, names_block}
use Rattle.range_core.specs.declared.cell.Cell.{Cell}
use Rattle.range_core.specs.declared.entry.Entry.{Entry}
use Rattle.range_core.specs.declared.lending.Held.{Held}
use Rattle.range_core.specs.declared.lending.Lender.{Lender}
use Rattle.range_core.specs.declared.lending.Lender.TheVariants.{Reading}
use Rattle.range_core.specs.declared.lending.Lent.{Lent}
use Rattle.range_core.proofs.AfterRun.{ChangesBlock}
use Rattle.range_core.proofs.LendReadLemmas.{filled-kind, filled_home, mapped_pending, mapped_space}
use Rattle.range_core.proofs.ReturnHomeLemmas.{IsReadBack, at_claim, home_placed, read_back}
use Rattle.range_core.proofs.LoanTruth.{IsLentBlock, changes_seat, clean_without_page, true_returned}
use Rattle.range_core.proofs.OnRunLemmas.{map-on_each}
use Rattle.range_core.proofs.ReturnTurns.{back_named, back_pending, return_truth, back_within, now_lent}
use Rattle.range_core.specs.Happened.{is_out}
use Rattle.range_core.proofs.FoundLemmas.{found_run, out-found}
use Rattle.range_core.proofs.StakeTruth.{Works}

-- what a read that came back leaves of a block: its sector is as it was lent, and where all landed its page has the sector's bytes
filled_true : (size b : ℕ) (was : Cell) (content : Content) (lent back : Part) (failed : Bool) (landed k : ℕ) (h : Held) (stakes others : List RangeStake) (claims left : ClaimsView) → ChangesSeat stakes others claims left
    → claims.held ≡ Some h → left.held ≡ None → names_block b (Some h) ≡ true → IsReadBack landed k lent back → (failed ≡ false → k < landed)
    → IfSome (device_number was.kind) (λ d. IsBlock size d lent.sector) → FitsLender size was content lent Reading
    → IsTrueAt size b was content stakes → IsTrueAt size b (filled_cell failed (Some back) was) content others
filled_true size b was content lent back failed landed k h stakes others claims left seat held none named is whole block fits t =
    at failed whole
  where
    home_block : IfSome (device_number was.kind) (λ d. IsBlock size d back.sector)
    home_block = let D : DeviceBlock → Type 0 = λ s. IfSome (device_number was.kind) (λ d. IsBlock size d s) in subst D (sym is.sector) block

    bytes : back.sector.bytes ≡ content
    bytes = ap (λ (s : DeviceBlock). s.bytes) is.sector ∙ fits.1

    at_home : (c : Cell) → c.kind ≡ was.kind → c.sector ≡ Some back.sector → IsHomeContent size c content
    at_home c kind sector = record {
      clean_is_on_device = λ mapped clean. let S : Option DeviceBlock → Type 0 = λ o. IfSome o (λ s. s.bytes ≡ content) in subst S (sym sector) bytes;
      spaceless_is_zeros = λ unmapped clean. absurd (let m : is_mapped c.kind ≡ true = ap is_mapped kind ∙ fits.0 in cc);
    }

    at : (u : Bool) → (u ≡ false → k < landed) → IsTrueAt size b (filled_cell u (Some back) was) content others
    at true w =
        let c : Cell = filled_cell true (Some back) was in
        true_returned size b was c content content h stakes others claims left seat held none named refl
        (home_placed size was c back (record { sector = refl; away = refl; number = refl; delalloc = refl }) home_block (mapped_space was.kind fits.0)) t.whole t.uptodate_is_replay (at_home c refl refl) t.dirty_is_uptodate t
    at false w =
        let c : Cell = filled_cell false (Some back) was in
        let clean : was.dirty ≡ false = clean_without_page size b was content stakes t fits.2 in
        true_returned size b was c content content h stakes others claims left seat held none named refl
        (home_placed size was c back (record { sector = refl; away = refl; number = refl; delalloc = refl }) home_block (mapped_space was.kind fits.0)) t.whole (is.landed_page (w refl) ∙ fits.1) (at_home c refl refl) (λ dirty. absurd (cc)) t

filled_state : (u : Bool) (p : Part) (c : Cell) → state_of (filled_cell u (Some p) c) ≡ state_back u (state_of c)
filled_state true p c = refl
filled_state false p c = refl

pub filled_holds : (opening now : RangeView) (history : List Entry) (stakes : List RangeStake) (number : ℕ) (claims : ClaimsView) (made : List Entry) (back : Lent) (done : Done) → RangeTruth opening now history stakes
    → Works stakes number claims made → MayComeBack opening claims Reading Read back done → RangeTruth opening (after_fill_back now back done) (history ++ fill_entry claims back done ∷ []) (set stakes number (Some (released claims), made ++ fill_entry claims back done ∷ []))
filled_holds opening now history stakes number claims made back done truth here may =
    let size : ℕ = opening.geometry.block_size in
    let n : ℕ = length back.parts in
    let entry : Entry = fill_entry claims back done in
    let fills : ℕ → Cell → Cell = filled_of done.failed back.parts in
    let seat = changes_seat stakes number claims (released claims) made entry here in
    let place = at_claim 0 claims may.claim Read back done may.is_return in
    let kind : (j : ℕ) (c : Cell) → (fills j c).kind ≡ c.kind = λ j c. filled-kind done.failed back.parts j c in
    let lent_for : (k : ℕ) (c : Cell) (content : Content) (b : IsLentBlock size k c content may.claim) → FitsLender size c content b.part Reading =
    λ k c content b. let F : Lender → Type 0 = λ r. FitsLender size c content b.part r in subst F may.lent_for b.fits in
    let same = back_pending opening now history stakes number claims made Reading Read back done entry fills now.log now.cookie now.errors truth here may 0 0
    (λ k c content l b. let mapped = (lent_for k c content b).0 in let x : pending (fills k c) ≡ 0 = mapped_pending (fills k c) (ap is_mapped (kind k c) ∙ mapped) in let y : pending c ≡ 0 = mapped_pending c mapped in omega arith) in
    return_truth opening now history stakes number claims made Reading Read back done entry fills now.log now.cookie now.errors truth here may
    (record {
      content = λ x y out. refl;
      outside = λ x s out. ap (λ u. if u then state_back done.failed s else s) out;
      failed = let e = truth.errors_counted in omega arith;
      lent = refl;
      changed = omega arith;
      stamps = sym (append-nil now.log);
      sample = tt;
      caller = refl;
      found = found_run now back.block n (λ b s. is_out back.ticket Reading s.away) (back_within opening now history stakes number claims made Reading Read back done entry fills now.log now.cookie now.errors truth here may).1
          (λ k c l at.
          let b = now_lent opening now history stakes number claims made Reading Read back done entry fills now.log now.cookie now.errors truth here may k c l at in
          out-found back.ticket Reading c.away b.away b.gone (b.ticket ∙ sym may.is_return.ticket) (b.lender ∙ may.lent_for));
    })
    (λ k c part l at. filled_home done.failed back.parts k c part (ap (λ ps. slice_get ps k) may.is_return.parts ∙ at))
    (λ k was content l t b met.
    let q = read_back done.landed k may.claim.lent.value.parts b.part b.part_is in
    let at : slice_get back.parts k ≡ Some q.part = ap (λ ps. slice_get ps k) may.is_return.parts ∙ q.at in
    let all : done.failed ≡ false → k < done.landed =
    λ e. let less : nat_lt done.landed (length may.claim.lent.value.parts) ≡ false = sym may.is_return.failed ∙ e in let m = ltb-false _ _ less in let p = place.many in omega arith in
    let S : Option Part → Type 0 = λ o. ChangesBlock size (back.block + k) was (filled_cell done.failed o was) content entry (set stakes number (Some (released claims), made ++ entry ∷ [])) in
    subst S (sym at) (record {
      state = filled_state done.failed q.part was ∙ sym (ap (λ u. if u then state_back done.failed (state_of was) else state_of was) met);
      holds = filled_true size (back.block + k) was content b.part q.part done.failed done.landed k may.claim stakes _ claims (released claims) seat may.is_return.held refl
          (back_named opening now history stakes number claims made Reading Read back done entry fills now.log now.cookie now.errors truth here may (back.block + k) ∙ met) q.is all b.sector (lent_for k was content b) t;
    }))
    (λ _. map-on_each fills (λ (c : Cell). c.kind) kind 0 (back.block - now.first) n now.cells)
    (let r = truth.cookie_has_headroom in omega (arith, same))
