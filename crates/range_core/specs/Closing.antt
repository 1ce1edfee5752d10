-- What the truth of a range tells of the seat that made a turn, of a loan that is split off, and of a cell that is closed.
use Rattle.std.specs.Prelude.{◌≡◌, ℕ, ◌<◌, ◌^◌, true, None, List, All}
use Rattle.turn_cell.specs.Laws.{Stands}
use Rattle.turn_cell.specs.Stakes.{total}
use Rattle.turn_cell.specs.Views.{Closed, SeatView}
use Rattle.range_core.specs.ClaimsView.{ClaimsView, MayMerge, loan_claims, merged_claims, released}
use Rattle.range_core.specs.EntryCounts.{made_as}
use Rattle.range_core.specs.RangeTruth.{RangeTruth}
use Rattle.range_core.specs.RangeView.{RangeView, part_in}
use Rattle.range_core.specs.Stakes.{RangeStake}
use Rattle.range_core.specs.declared.entry.Entry.{Entry}

-- where a cell is closed and its one seat claims no blocks, each block is at home
abbrev pub ClosedIsHome : Type 0
ClosedIsHome = (opening value : RangeView) (seat : SeatView Entry) (claims : ClaimsView) → Closed RangeTruth opening value seat claims → claims.held ≡ None → All (λ c. c.away ≡ None) value.cells

-- the range that a closed cell gives has its seat at the pool with the share that it was opened with
abbrev pub ClosedKeepsShare : Type 0
ClosedKeepsShare = (opening value : RangeView) (seat : SeatView Entry) (claims : ClaimsView) → Closed RangeTruth opening value seat claims → part_in value.seat ≡ part_in opening.seat

-- whatever others claim, the history has as many entries under the number of a caller's own seat as that seat made: no other seat made one
abbrev pub OwnEntriesAlone : Type 0
OwnEntriesAlone = (opening value : RangeView) (history : List Entry) (stakes : List RangeStake) (number : ℕ) (claims : ClaimsView) (made : List Entry)
    → Stands RangeTruth opening value history stakes number claims made → claims.main ≡ true → claims.caller < 2 ^ 32
    → total (made_as claims.caller) history ≡ total (made_as claims.caller) made

-- a loan that is split off and joined again leaves the claims as they were
abbrev pub LoanComesHome : Type 0
LoanComesHome = (claims : ClaimsView) → MayMerge (released claims) (loan_claims claims) × (merged_claims (released claims) (loan_claims claims) ≡ claims)
