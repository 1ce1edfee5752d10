-- What an event is refused for is a function of the history.
use Rattle.std.specs.Prelude.{◌≡◌, ℕ, ◌+◌, Bool, true, false, Option, Some, None, List, [], ◌∷◌}
use Rattle.fault_device.specs.declared.lane.Done.{Done}
use Rattle.iob_base.specs.declared.sector.Page.{Page}
use Rattle.iob_base.specs.declared.stamp.Op.{Op}
use Rattle.turn_cell.specs.Stakes.{total}
use Rattle.range_core.specs.BlockStates.{BlockState, state_after, state_of, states_replayed}
use Rattle.range_core.specs.EntryCounts.{changes}
use Rattle.range_core.specs.RangeTruth.{RangeTruth}
use Rattle.range_core.specs.RangeView.{RangeView}
use Rattle.range_core.specs.Refusals.{attach_refusal, dax_put_refusal, direct_now_refusal, fetch_refusal, is_cold, lend_direct_refusal, lend_part_refusal, lend_read_refusal, lend_writeback_refusal, preallocate_refusal, reserve_refusal, stale, store_refusal, wipe_refusal}
use Rattle.range_core.specs.Spots.{in_run}
use Rattle.range_core.specs.Stakes.{RangeStake}
use Rattle.range_core.specs.declared.cell.Cell.{Cell}
use Rattle.range_core.specs.declared.entry.Entry.{Entry}
use Rattle.range_core.specs.declared.entry.Event.TheVariants.{FillBack}
use Rattle.range_core.specs.declared.entry.Outcome.TheVariants.{Finished}
use Rattle.range_core.specs.declared.sample.Sample.{Sample}

-- a page of which no byte is told
abbrev pub page_where : Bool → Option Page
page_where true = Some (record { number = 0; bytes = [] })
page_where false = None

-- a block in this state, of which neither the sector nor a byte is told
abbrev pub cell_in : BlockState → Cell
cell_in s = record { kind = s.kind; sector = None; away = s.away; page = page_where s.uptodate; dirty = s.dirty }

-- the blocks from b on in the states that a history leaves
abbrev pub cells_after : ℕ → ℕ → List Cell → List Entry → List Cell
cells_after size b [] history = []
cells_after size b (c ∷ cells) history = cell_in (states_replayed size b (state_of c) history) ∷ cells_after size (b + 1) cells history

-- a range in the states that a history leaves, and with its cookie
abbrev pub states_after : RangeView → List Entry → RangeView
states_after opening history = record opening { cells = cells_after opening.geometry.block_size opening.first opening.cells history; cookie = opening.cookie + total changes history }

-- Each event is refused for the same at both ranges
pub record AreRefusedAlike (r q : RangeView) : Type 0 where
  pub reserve : (seen : Sample) → reserve_refusal r seen ≡ reserve_refusal q seen
  pub attach : (b n : ℕ) → attach_refusal r b n ≡ attach_refusal q b n
  pub preallocate : (b n : ℕ) → preallocate_refusal r b n ≡ preallocate_refusal q b n
  pub fetch : (from to : ℕ) → fetch_refusal r from to ≡ fetch_refusal q from to
  pub lend_read : (b : ℕ) → lend_read_refusal r b ≡ lend_read_refusal q b
  pub store : (seen : Sample) (from to : ℕ) → store_refusal r seen from to ≡ store_refusal q seen from to
  pub lend_writeback : (b : ℕ) → lend_writeback_refusal r b ≡ lend_writeback_refusal q b
  pub lend_direct : (seen : Sample) (op : Op) (b n : ℕ) → lend_direct_refusal r seen op b n ≡ lend_direct_refusal q seen op b n
  pub lend_part : (seen : Sample) (b : ℕ) → lend_part_refusal r seen b ≡ lend_part_refusal q seen b
  pub direct_now : (b : ℕ) → direct_now_refusal r b ≡ direct_now_refusal q b
  pub wipe : (b n : ℕ) → wipe_refusal r b n ≡ wipe_refusal q b n
  pub dax_put : (seen : Sample) → dax_put_refusal r seen ≡ dax_put_refusal q seen
  pub dax : (seen : Sample) → stale r seen ≡ stale q seen

-- At a range of which the truth holds, what each event is refused for is what its history says
abbrev pub HistoryRefuses : Type 0
HistoryRefuses = (opening now : RangeView) (history : List Entry) (stakes : List RangeStake) → RangeTruth opening now history stakes → AreRefusedAlike now (states_after opening history)

-- once a read of a block came back whole, the block is not cold
abbrev pub FilledIsWarm : Type 0
FilledIsWarm = (size b caller ticket block n : ℕ) (done : Done) (s : BlockState) → done.failed ≡ false → in_run block n b ≡ true
    → is_cold (cell_in (state_after size b s (record { caller = caller; event = FillBack ticket block n done; outcome = Finished }))) ≡ false
