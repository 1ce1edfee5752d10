-- What the truth tells of blocks that a seat's claim names.
use Rattle.std.proofs.Common.{◌≡◌, ℕ, ◌+◌, ◌-◌, ◌<◌, ◌≤◌, true, Option, Some, None, List, length, refl, sym, ◌∙◌, ap, subst, arith}
use Rattle.std.specs.Prelude.{slice_get}
use Rattle.iob_base.specs.declared.stamp.Op.{Op}
use Rattle.fault_device.specs.declared.lane.Done.{Done}
use Rattle.io_model.specs.Contents.{Content}
use Rattle.io_model.specs.Kinds.{kind_after}
use Rattle.turn_cell.specs.Stakes.{total}
use Rattle.turn_cell.proofs.Sums.{total-at}
use Rattle.range_core.specs.BlockTruth.{FitsAway, FitsClaim, IsTrueAt, gone}
use Rattle.range_core.specs.Cells.{HasPlace}
use Rattle.range_core.specs.ClaimsView.{ClaimsView}
use Rattle.range_core.specs.EntryCounts.{one_where}
use Rattle.range_core.specs.RangeTruth.{RangeTruth, content_at}
use Rattle.range_core.specs.RangeView.{LiesAt, RangeView}
use Rattle.range_core.specs.Returning.{AreOut, ComesBack, IsOutOn, MayComeBack}
use Rattle.range_core.specs.Stakes.{RangeStake, names, names_block}
use Rattle.range_core.specs.declared.cell.Cell.{Cell}
use Rattle.range_core.specs.declared.entry.Entry.{Entry}
use Rattle.range_core.specs.declared.lending.Away.{Away}
use Rattle.range_core.specs.declared.lending.Held.{Held}
use Rattle.range_core.specs.declared.lending.Lender.{Lender}
use Rattle.range_core.specs.declared.lending.Lent.{Lent}
use Rattle.range_core.proofs.AfterRun.{in_run-true}
use Rattle.range_core.proofs.StakeTruth.{Works}

-- a block that a claim names is away, and the claim fits it
pub record IsClaimed (size b : ℕ) (c : Cell) (content : Content) (h : Held) : Type 0 where
  pub away : Away
  pub is : c.away ≡ Some away
  pub fits : FitsClaim size b c content away h

pub claim_at : (size b : ℕ) (c : Cell) (content : Content) (stakes : List RangeStake) (number : ℕ) (claims : ClaimsView) (made : List Entry) (h : Held) → IsTrueAt size b c content stakes
    → Works stakes number claims made → claims.held ≡ Some h → names_block b (Some h) ≡ true → IsClaimed size b c content h
claim_at size b c content stakes number claims made h t here held named =
    let one : names b (Some claims, made) ≡ 1 = ap (λ x. one_where (names_block b x)) held ∙ ap one_where named in
    let most : names b (Some claims, made) ≤ total (names b) stakes = total-at (names b) stakes number (Some claims, made) here.here in
    let once = t.away_is_claimed.once in
    let F : Option Held → Type 0 = λ x. FitsAway size b c content c.away x in
    at c.away refl (omega arith) (subst F held (t.away_is_claimed.fits number (Some claims, made) here.here (omega arith)))
  where
    at : (a : Option Away) → c.away ≡ a → 1 ≤ gone c.away → FitsAway size b c content c.away (Some h) → IsClaimed size b c content h
    at None e g f = absurd (let z : gone c.away ≡ 0 = ap gone e in omega arith)
    at (Some away) e g f = let G : Option Away → Type 0 = λ o. FitsAway size b c content o (Some h) in record { away = away; is = e; fits = subst G e f }

-- such a block is out on the claim
pub out_on : (size b k : ℕ) (c : Cell) (content : Content) (h : Held) → b ≡ h.lent.value.block + k → HasPlace size c.kind c.sector c.away → IsClaimed size b c content h → IsOutOn size h k c
out_on size b k c content h at place claimed =
    let fits = claimed.fits in
    let P : Option Away → Type 0 = λ a. HasPlace size c.kind c.sector a in
    let off : b - h.lent.value.block ≡ k = omega arith in
    let same : claimed.away ≡ record { ticket = h.lent.value.ticket; lender = h.lender } = λ i. record { ticket = (sym fits.ticket) i; lender = (sym fits.lender) i } in
    record {
      away = claimed.is ∙ ap Some same;
      gone = (subst P claimed.is place).0;
      kind = ap (λ j. kind_after h.kind j) (sym off) ∙ fits.kind;
      part = fits.part;
      part_is = ap (slice_get h.lent.value.parts) (sym off) ∙ fits.part_is;
      sector = fits.sector;
      page = fits.page;
    }

-- the blocks of a seat's claim are all away on it
pub are_out : (opening now : RangeView) (history : List Entry) (stakes : List RangeStake) (number : ℕ) (claims : ClaimsView) (made : List Entry) (h : Held) → RangeTruth opening now history stakes
    → Works stakes number claims made → claims.held ≡ Some h → LiesAt opening h.lent.value.block (length h.lent.value.parts) → AreOut now h
are_out opening now history stakes number claims made h t here held lies =
    let first = t.same_run.first in
    let many = t.same_run.blocks in
    let low = lies.low in
    let high = lies.high in
    let S : ℕ → Type 0 = λ size. (k : ℕ) (c : Cell) → k < length h.lent.value.parts → slice_get now.cells (h.lent.value.block - now.first + k) ≡ Some c → IsOutOn size h k c in
    record {
      low = omega arith;
      high = omega arith;
      out = subst S (ap (λ g. g.block_size) (sym t.same_run.geometry)) (λ k c l at.
          let i : ℕ = h.lent.value.block - now.first + k in
          let b : ℕ = opening.first + i in
          let is : b ≡ h.lent.value.block + k = omega arith in
          let true_at = t.blocks i c at in
          let named : names_block b (Some h) ≡ true = in_run-true h.lent.value.block (length h.lent.value.parts) b (omega arith) (omega arith) in
          out_on opening.geometry.block_size b k c (content_at opening history i) h is true_at.place (claim_at opening.geometry.block_size b c (content_at opening history i) stakes number claims made h true_at here held named));
    }

-- what a seat claims comes back to blocks that are out on it
pub comes_back : (opening now : RangeView) (history : List Entry) (stakes : List RangeStake) (number : ℕ) (claims : ClaimsView) (made : List Entry) (lender : Lender) (op : Op) (back : Lent) (done : Done) → RangeTruth opening now history stakes
    → Works stakes number claims made → MayComeBack opening claims lender op back done → ComesBack now claims lender op back done
comes_back opening now history stakes number claims made lender op back done t here may = record {
  claim = may.claim;
  lent_for = may.lent_for;
  is_return = may.is_return;
  out = are_out opening now history stakes number claims made may.claim t here may.is_return.held may.lies;
}
