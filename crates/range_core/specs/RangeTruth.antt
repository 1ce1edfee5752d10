-- What is true of a range, its history, and what all seats claim, between two turns.
use Rattle.std.specs.Prelude.{◌≡◌, ℕ, ◌+◌, ◌%◌, ◌<◌, ◌≤◌, ◌^◌, ◌-◌, Bool, true, false, ◌&&◌, ◌||◌, min, max, Option, Some, None, List, ◌++◌, length, slice_get, All}
use Rattle.iob_base.specs.declared.TheConstants.{WORN}
use Rattle.iob_base.specs.declared.stamp.Mode.TheVariants.{Dax}
use Rattle.iob_base.specs.declared.stamp.Op.TheVariants.{Write}
use Rattle.io_model.specs.Contents.{Content}
use Rattle.turn_cell.specs.Stakes.{total}
use Rattle.range_core.specs.BlockContents.{opening_bytes, replayed}
use Rattle.range_core.specs.BlockStates.{state_of, states_replayed}
use Rattle.range_core.specs.BlockTruth.{IsTrueAt}
use Rattle.range_core.specs.EntryCounts.{changes, failures, lendings, one_where}
use Rattle.range_core.specs.EntryStamps.{stamps_in}
use Rattle.range_core.specs.Happened.{HasHappened}
use Rattle.range_core.specs.Kinds.{is_delalloc, is_unwritten}
use Rattle.range_core.specs.Lookups.{GivesPresent}
use Rattle.range_core.specs.RangeView.{RangeView, part_in}
use Rattle.range_core.specs.Space.{ClaimsSpace}
use Rattle.range_core.specs.Stakes.{RangeStake, IsApart}
use Rattle.range_core.specs.declared.cell.Cell.{Cell}
use Rattle.range_core.specs.declared.entry.Entry.{Entry}
use Rattle.range_core.specs.declared.lending.Away.{Away}
use Rattle.range_core.specs.declared.lending.Lender.{Lender}
use Rattle.range_core.specs.declared.lending.Lender.TheVariants.{Reading, Writeback, Direct, Part as InPart}

-- a range is the run of blocks as which it was opened, and its seat stays at its pool, with its share
pub record IsSameRun (opening now : RangeView) : Type 0 where
  pub geometry : now.geometry ≡ opening.geometry
  pub mode : now.mode ≡ opening.mode
  pub first : now.first ≡ opening.first
  pub blocks : length now.cells ≡ length opening.cells
  pub pool : part_in now.seat ≡ part_in opening.seat

-- the content of the i-th block: the replay of the history from its content at the opening
abbrev pub content_at : RangeView → List Entry → ℕ → Content
content_at opening history i =
    replayed opening.geometry.block_size (opening.first + i) (opening_bytes opening.geometry.block_size (slice_get opening.cells i)) history

-- each block is as the history leaves it: its kind, its dirty bit, and which ticket has its sector
abbrev pub StatesAreReplayed : RangeView → RangeView → List Entry → Type 0
StatesAreReplayed opening now history = (i : ℕ) (was c : Cell) → slice_get opening.cells i ≡ Some was → slice_get now.cells i ≡ Some c
    → state_of c ≡ states_replayed opening.geometry.block_size (opening.first + i) (state_of was) history

-- lent for a write, which may change its kind when it comes back
abbrev pub is_lent_for_writing : Option Away → Bool
is_lent_for_writing None = false
is_lent_for_writing (Some away) = for_writing away.lender
  where
    for_writing : Lender → Bool
    for_writing Reading = false
    for_writing Writeback = true
    for_writing (Direct by Write) = true
    for_writing (Direct by _) = false
    for_writing (InPart by from to) = true

-- 1 for a block whose kind an event without refusal may change
abbrev pub pending : Cell → ℕ
pending c = one_where (is_delalloc c.kind || (is_unwritten c.kind && is_lent_for_writing c.away))

-- nothing of a block is in the page cache
pub record IsUncached (c : Cell) : Type 0 where
  pub page : c.page ≡ None
  pub clean : c.dirty ≡ false
  pub reserved : is_delalloc c.kind ≡ false
  pub home : c.away ≡ None

-- The range truth, of a range as it was opened and as it is now
pub record RangeTruth (opening now : RangeView) (history : List Entry) (stakes : List RangeStake) : Type 0 where
  pub same_run : IsSameRun opening now
  pub few : opening.first + length opening.cells ≤ 65536
  pub blocks : (i : ℕ) (c : Cell) → slice_get now.cells i ≡ Some c → IsTrueAt opening.geometry.block_size (opening.first + i) c (content_at opening history i) stakes
  pub states : StatesAreReplayed opening now history
  pub errors_counted : now.errors ≡ min (opening.errors + total failures history) (2 ^ 64 - 1)
  pub tickets_counted : now.tickets ≡ (opening.tickets + total lendings history) % (2 ^ 64)
  pub cookie_counts_changes : now.cookie ≡ opening.cookie + total changes history
  pub samples_give_extents : All (GivesPresent now) history
  pub journal_is_history : now.log ≡ opening.log ++ stamps_in opening.geometry.block_size history
  pub pool_claims_sectors : ClaimsSpace opening.geometry.block_size now.cells now.space
  pub cookie_has_headroom : max now.cookie WORN + total pending now.cells ≤ WORN + 65536
  pub dax_is_uncached : now.mode ≡ Dax → All IsUncached now.cells
  pub callers_are_apart : (caller : ℕ) → caller < 2 ^ 32 → IsApart caller history stakes
  pub has_happened : HasHappened opening history
