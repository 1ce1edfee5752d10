-- What a turn that drops clean pages does.
use Rattle.std.specs.Prelude.{◌≡◌, ℕ, ◌-◌, Bool, ◌&&◌, not, is_some, is_none, None, if◌then◌else◌}
use Rattle.range_core.specs.ClaimsView.{ClaimsView}
use Rattle.range_core.specs.OnRun.{count_on, with_run}
use Rattle.range_core.specs.RangeView.{RangeView}
use Rattle.range_core.specs.declared.cell.Cell.{Cell}
use Rattle.range_core.specs.declared.entry.Entry.{Entry}
use Rattle.range_core.specs.declared.entry.Event.TheVariants.{DropClean}
use Rattle.range_core.specs.declared.entry.Outcome.TheVariants.{Counted}
use Rattle.range_core.specs.declared.range.drop_clean.DropCleanRun.{DropCleanRun}

-- a block is uptodate, clean and at home
abbrev pub is_droppable : Cell → Bool
is_droppable c = not c.dirty && (is_none c.away && is_some c.page)

-- such a block loses its page, and any other stays as it is
abbrev pub without_clean_page : Cell → Cell
without_clean_page c = if is_droppable c then record c { page = None } else c

abbrev pub dropped_run : RangeView → ℕ → ℕ → RangeView
dropped_run r b n = with_run without_clean_page r b n

abbrev pub dropped_count : RangeView → ℕ → ℕ → ℕ
dropped_count r b n = count_on is_droppable (b - r.first) n r.cells

abbrev pub drop_entry : ClaimsView → DropCleanRun → ℕ → Entry
drop_entry claims run n = record { caller = claims.caller; event = DropClean run.block run.blocks; outcome = Counted n }

-- The turn dropped the clean pages of the run, and answered their number
pub record Dropped (run later : DropCleanRun) (before after : RangeView) (claims left : ClaimsView) (n : ℕ) (entry : Entry) : Type 0 where
  pub change : later ≡ run
  pub value : after ≡ dropped_run before run.block run.blocks
  pub claims_are : left ≡ claims
  pub count : n ≡ dropped_count before run.block run.blocks
  pub entry_is : entry ≡ drop_entry claims run n
