-- What a turn that looks for work finds.
use Rattle.std.specs.Prelude.{◌≡◌, ℕ, ◌+◌, ◌-◌, ◌<◌, ◌≤◌, Bool, true, false, ◌&&◌, ◌||◌, not, ◌==◌, min, Option, Some, None, is_none, is_some, IfSome, List, length, slice_get, if◌then◌else◌}
use Rattle.range_core.specs.ClaimsView.{ClaimsView}
use Rattle.range_core.specs.Samples.{SampleLies}
use Rattle.range_core.specs.Lookups.{sample_at}
use Rattle.range_core.specs.RangeView.{LiesAt, RangeView, cells_from}
use Rattle.range_core.specs.Runs.{leading}
use Rattle.range_core.specs.declared.cell.Cell.{Cell}
use Rattle.range_core.specs.declared.entry.Entry.{Entry}
use Rattle.range_core.specs.declared.entry.Event.TheVariants as events
use Rattle.range_core.specs.declared.entry.Outcome.TheVariants.{Sampled}
use Rattle.range_core.specs.declared.range.find_due.FindDueRun.{FindDueRun}
use Rattle.range_core.specs.declared.range.find_due.Found.{Found}

-- a block is at home and not dirty
abbrev pub is_calm : Cell → Bool
is_calm c = not c.dirty && is_none c.away

-- of at most n blocks, how many are calm before the first that is not
abbrev pub calm_run : List Cell → ℕ → ℕ
calm_run cells n = leading (λ _ c. is_calm c) 0 cells n

-- the first of these blocks, of at most n, that is dirty or away; the first block is b
abbrev pub due_in : List Cell → ℕ → ℕ → Option ℕ
due_in cells b n = if calm_run cells n == min (length cells) n then None else Some (b + calm_run cells n)

-- the same of the blocks of a range from b on
abbrev pub due_at : RangeView → ℕ → ℕ → Option ℕ
due_at r b n = due_in (cells_from r b) b n

-- a block comes before the one that was found, where one was
abbrev pub IsBefore : Option ℕ → ℕ → Type 0
IsBefore None b = Unit {0}
IsBefore (Some due) b = b < due

-- a block has nothing to be written, and nobody has its sector
pub record IsCalm (c : Cell) : Type 0 where
  pub clean : c.dirty ≡ false
  pub home : c.away ≡ None

-- of at most n blocks from b on, all before the one that was found are calm
abbrev pub AreCalmBefore : RangeView → ℕ → ℕ → Option ℕ → Type 0
AreCalmBefore r b n due = (k : ℕ) (c : Cell) → k < n → IsBefore due (b + k) → slice_get r.cells (b - r.first + k) ≡ Some c → IsCalm c

-- the block that was found is one of them, and is dirty or away
pub record IsDue (r : RangeView) (b n due : ℕ) : Type 0 where
  pub low : b ≤ due
  pub high : due < b + n
  pub cell : Cell
  pub here : slice_get r.cells (due - r.first) ≡ Some cell
  pub is : cell.dirty || is_some cell.away ≡ true

-- The turn gave the present sample and the first block that is due, and nothing changed
pub record FoundDue (opening : RangeView) (change later : FindDueRun) (before after : RangeView) (claims left : ClaimsView) (found : Found) (entry : Entry) : Type 0 where
  pub change_is : later ≡ change
  pub value : after ≡ before
  pub claims_are : left ≡ claims
  pub sample_is : found.sample ≡ sample_at before change.block change.most
  pub lies : SampleLies opening found.sample
  pub due_is : found.due ≡ due_at before change.block change.most
  pub calm : AreCalmBefore before change.block change.most found.due
  pub due : IfSome found.due (IsDue before change.block change.most)
  pub due_lies : IfSome found.due (λ d. LiesAt opening d 1)
  pub entry_is : entry ≡ record { caller = claims.caller; event = events.Sample change.block change.most; outcome = Sampled found.sample }
