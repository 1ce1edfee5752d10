-- What a loan and its return do to the claim on a block, whatever other seats claim.
use Rattle.std.specs.Prelude.{◌≡◌, ℕ, true, false, Some, None, List, slice_set}
use mathlib.Core.Option.{some}
use lib.ListN.{get_elem?}
use Rattle.io_model.specs.Contents.{Content}
use Rattle.range_core.specs.BlockTruth.{AwayIsClaimed, FitsClaim}
use Rattle.range_core.specs.ClaimsView.{ClaimsView}
use Rattle.range_core.specs.Stakes.{RangeStake, names_block}
use Rattle.range_core.specs.declared.cell.Cell.{Cell}
use Rattle.range_core.specs.declared.entry.Entry.{Entry}
use Rattle.range_core.specs.declared.lending.Away.{Away}
use Rattle.range_core.specs.declared.lending.Held.{Held}

-- One seat's claims change from `claims` to `left`, and its entries from `made` to `now`
pub record ChangesSeat (stakes others : List RangeStake) (claims left : ClaimsView) : Type 0 where
  pub number : ℕ
  pub made : List Entry
  pub now : List Entry
  pub here : get_elem? stakes number ≡ some (Some claims, made)
  pub is : others ≡ slice_set stakes number (Some left, now)

-- a block at home that a seat without a claim borrows is away on exactly that seat's claim
abbrev pub LoanIsClaimed : Type 0
LoanIsClaimed = (size b : ℕ) (was c : Cell) (content : Content) (away : Away) (h : Held) (stakes others : List RangeStake) (claims left : ClaimsView) → ChangesSeat stakes others claims left
    → claims.held ≡ None → left.held ≡ Some h → names_block b (Some h) ≡ true → was.away ≡ None → c.away ≡ Some away → FitsClaim size b c content away h
    → AwayIsClaimed size b was content stakes → AwayIsClaimed size b c content others

-- a block that comes back from a seat which gives up its claim is at home, and nobody claims it
abbrev pub ReturnFreesClaim : Type 0
ReturnFreesClaim = (size b : ℕ) (was c : Cell) (content after : Content) (h : Held) (stakes others : List RangeStake) (claims left : ClaimsView) → ChangesSeat stakes others claims left
    → claims.held ≡ Some h → left.held ≡ None → names_block b (Some h) ≡ true → c.away ≡ None → AwayIsClaimed size b was content stakes → AwayIsClaimed size b c after others

-- a block that a claim does not name is claimed as before, whether the claim is made or given up
abbrev pub OthersStayClaimed : Type 0
OthersStayClaimed = (size b : ℕ) (c : Cell) (content : Content) (stakes others : List RangeStake) (claims left : ClaimsView) → ChangesSeat stakes others claims left
    → names_block b claims.held ≡ false → names_block b left.held ≡ false → AwayIsClaimed size b c content stakes → AwayIsClaimed size b c content others
