-- A caller goes on after a turn, and takes what it is lent.
use Rattle.std.proofs.Common.{◌≡◌, ℕ, ◌+◌, ◌<◌, ◌≤◌, nat_lt, List, [], ◌∷◌, ◌++◌, length, sym, ◌∙◌, subst, ap, append_assoc, arith}
use Rattle.std.specs.Prelude.{Option, Some, None, IfSome}
use Rattle.iob_base.specs.declared.stamp.Mode.{Mode}
use Rattle.fault_device.specs.Transfer.{CanTransfer, parts_after}
use Rattle.fault_device.specs.declared.lane.Done.{Done}
use Rattle.iob_base.specs.declared.stamp.Op.{Op}
use Rattle.io_model.specs.declared.file.Kind.{Kind}
use Rattle.turn_cell.specs.Stakes.{Begins}
use Rattle.turn_cell.specs.Views.{CellView, SeatView}
use Rattle.range_core.proofs.SampleLemmas.{given_later}
use Rattle.range_core.specs.ClaimsView.{ClaimsView, released}
use Rattle.range_core.specs.Lends.{TakesHold}
use Rattle.range_core.specs.RangeView.{LiesAt, RangeView}
use Rattle.range_core.specs.Returning.{MayComeBack}
use Rattle.range_core.specs.KnownSamples.{WasGiven}
use Rattle.range_core.specs.declared.entry.Entry.{Entry}
use Rattle.range_core.specs.declared.lending.Lender.{Lender}
use Rattle.range_core.specs.declared.lending.Lent.{Lent}
use Rattle.range_core.specs.declared.sample.Sample.{Sample}
use Rattle.worked_ranges.specs.SmallRanges.{Holds, IsCaller, IsSmall}

-- the seat has seen all that it had seen, and one entry more at least
pub record GoesOn (before after : SeatView Entry) : Type 0 where
  pub cell : after.cell ≡ before.cell
  pub others : List Entry
  pub entry : Entry
  pub seen : after.seen ≡ (before.seen ++ others) ++ entry ∷ []

begins : (before after : SeatView Entry) → GoesOn before after → Begins before.seen after.seen
begins before after on = (on.others ++ on.entry ∷ [], sym (on.seen ∙ append_assoc before.seen on.others (on.entry ∷ [])))

still_given : (before after : SeatView Entry) (sample : Option Sample) → GoesOn before after → IfSome sample (λ s. WasGiven s before.seen) → IfSome sample (λ s. WasGiven s after.seen)
still_given before after None on given = given
still_given before after (Some s) on given = given_later s before.seen after.seen (begins before after on) given

pub goes_on : (cell : CellView RangeView) (before after : SeatView Entry) (claims left : ClaimsView) (sample : Option Sample) (loan : Option (Lender × Lent)) → IsCaller cell before claims sample loan → GoesOn before after → left ≡ claims
    → IsCaller cell after left sample loan
goes_on cell before after claims left sample loan was on same = record {
  at_cell = on.cell ∙ was.at_cell;
  given = still_given before after sample on was.given;
  holds = let P : ClaimsView → Type 0 = λ c. Holds cell.opening c loan in subst P (sym same) was.holds;
  own = ap (λ (c : ClaimsView). c.main) same ∙ was.own;
}

pub takes : (cell : CellView RangeView) (before after : SeatView Entry) (claims left : ClaimsView) (sample : Option Sample) (loan : Option (Lender × Lent)) (lender : Lender) (lent : Lent) (kind : Kind) → IsCaller cell before claims sample loan
    → GoesOn before after → TakesHold claims left lent lender kind → CanTransfer lent.parts → LiesAt cell.opening lent.block (length lent.parts) → IsCaller cell after left sample (Some (lender, lent))
takes cell before after claims left sample loan lender lent kind was on t ready lies = record {
  at_cell = on.cell ∙ was.at_cell;
  given = still_given before after sample on was.given;
  holds = record {
    claim = t.claim;
    held = ap (λ (c : ClaimsView). c.held) t.left_is;
    lent_is = t.lent_is;
    lender_is = t.lender_is;
    ready = ready;
    lies = lies;
  };
  own = ap (λ (c : ClaimsView). c.main) t.left_is ∙ was.own;
}

-- blocks of a small range
pub small_lies : (mode : Mode) (r : RangeView) (b n : ℕ) → IsSmall mode r → 0 < n → b + n ≤ 6 → LiesAt r b n
small_lies mode r b n small some within =
    let first : r.first ≡ 0 = small.first in
    let blocks : length r.cells ≡ 6 = small.blocks in
    record { low = omega arith; some = some; high = omega arith }

pub gives_back : (cell : CellView RangeView) (before after : SeatView Entry) (claims left : ClaimsView) (sample : Option Sample) (loan : Option (Lender × Lent)) → IsCaller cell before claims sample loan → GoesOn before after → left ≡ released claims
    → IsCaller cell after left sample None
gives_back cell before after claims left sample loan was on gone = record {
  at_cell = on.cell ∙ was.at_cell;
  given = still_given before after sample on was.given;
  holds = ap (λ (c : ClaimsView). c.held) gone;
  own = ap (λ (c : ClaimsView). c.main) gone ∙ was.own;
}

-- the loan's seat has joined, and the caller's turn has brought the loan home
pub comes_home : (cell : CellView RangeView) (mine both after : SeatView Entry) (claims merged left : ClaimsView) (sample : Option Sample) (loan : Option (Lender × Lent)) → IsCaller cell mine claims sample loan → both.cell ≡ mine.cell → Begins mine.seen both.seen
    → merged.main ≡ claims.main → GoesOn both after → left ≡ released merged → IsCaller cell after left sample None
comes_home cell mine both after claims merged left sample loan was same more main on gone = record {
  at_cell = on.cell ∙ same ∙ was.at_cell;
  given = still_given both after sample on (later sample was.given);
  holds = ap (λ (c : ClaimsView). c.held) gone;
  own = ap (λ (c : ClaimsView). c.main) gone ∙ main ∙ was.own;
}
  where
    later : (sample : Option Sample) → IfSome sample (λ s. WasGiven s mine.seen) → IfSome sample (λ s. WasGiven s both.seen)
    later None given = given
    later (Some s) given = given_later s mine.seen both.seen more given

-- what a caller holds comes back after a transfer of it
pub may_come_back : (cell : CellView RangeView) (seat : SeatView Entry) (claims : ClaimsView) (sample : Option Sample) (lender : Lender) (op : Op) (lent back : Lent) (done : Done) → IsCaller cell seat claims sample (Some (lender, lent))
    → back.ticket ≡ lent.ticket → back.block ≡ lent.block → back.parts ≡ parts_after op done.landed lent.parts → done.landed ≤ length lent.parts → done.failed ≡ nat_lt done.landed (length lent.parts)
    → MayComeBack cell.opening claims lender op back done
may_come_back cell seat claims sample lender op lent back done was ticket block parts landed failed =
    let holds = was.holds in
    let is : lent ≡ holds.claim.lent.value = sym holds.lent_is in
    let L : Lent → Type 0 = λ l. LiesAt cell.opening l.block (length l.parts) in
    let S : Lent → Type 0 = λ l. 0 < length l.parts in
    let N : Lent → Type 0 = λ l. done.landed ≤ length l.parts in
    record {
      claim = holds.claim;
      lent_for = holds.lender_is;
      is_return = record {
        held = holds.held;
        ticket = ticket ∙ ap (λ (l : Lent). l.ticket) is;
        block = block ∙ ap (λ (l : Lent). l.block) is;
        some = subst S is holds.lies.some;
        parts = parts ∙ ap (λ (l : Lent). parts_after op done.landed l.parts) is;
        landed = subst N is landed;
        failed = failed ∙ ap (λ (l : Lent). nat_lt done.landed (length l.parts)) is;
      };
      lies = subst L is holds.lies;
    }
