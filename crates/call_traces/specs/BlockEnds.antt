-- What the end of a run shows of a block.
use Rattle.std.specs.Prelude.{◌≡◌, ℕ, ◌<◌, true, false, ◌||◌, not, is_some, None, List, [], All, slice_get}
use Rattle.io_model.specs.Contents.{extents_of}
use Rattle.io_model.specs.Conversion.{has_good_writeback, is_converted}
use Rattle.io_model.specs.Kinds.{kind_at, mapped_number}
use Rattle.io_model.specs.Ranges.{Ranged, ranged_calls}
use Rattle.io_model.specs.Space.{keeps_block}
use Rattle.io_model.specs.declared.file.BlockEnd.{BlockEnd}
use Rattle.io_model.specs.declared.file.Extent.{Extent}
use Rattle.io_model.specs.declared.run.Run.{Run}
use Rattle.io_model.specs.declared.script.Script.{Script}
use Rattle.turn_cell.specs.Stakes.{total}
use Rattle.range_core.specs.BlockStates.{state_of}
use Rattle.range_core.specs.Happened.{lawful_from}
use Rattle.range_core.specs.declared.cell.Cell.{Cell}
use Rattle.range_core.specs.declared.entry.Entry.{Entry}
use Rattle.mount_parts.specs.Ends.{EndsBlock}
use Rattle.call_traces.specs.BlockCalls.{IsOfCalls, writebacks}

-- Block b of file f was opened clean and at home, with the kind that the script gives it, and what happened to it since is the work of these calls
pub record RanOn (script : Script) (f b : ℕ) (calls : List Ranged) (was : Cell) (history : List Entry) : Type 0 where
  pub clean : was.dirty ≡ false
  pub here : was.away ≡ None
  pub kind : was.kind ≡ kind_at (extents_of (slice_get script.files f)) b
  pub happened : lawful_from script.geometry.block_size b (state_of was) history ≡ true
  pub works : All (IsOfCalls script.geometry.block_size f b calls) history

-- At the end such a block has kept its space, has other space only by the calls, and is no hole where it is dirty
abbrev pub EndsKeepSpace : Type 0
EndsKeepSpace = (script : Script) (f b : ℕ) (calls : List Ranged) (was : Cell) (history : List Entry) → RanOn script f b calls was history
    → (extents : List Extent) (end : BlockEnd) → EndsBlock script.geometry.block_size b was [] history (kind_at extents b) end → keeps_block script calls f extents b end ≡ true

-- and where it is mapped, the run shows that it was converted, if a writeback shows in it that did not fail where there was one
abbrev pub EndsConvert : Type 0
EndsConvert = (script : Script) (run : Run) (f b : ℕ) (was : Cell) (history : List Entry) → RanOn script f b (ranged_calls script run) was history
    → (0 < total writebacks history → has_good_writeback script run f ≡ true)
    → (extents : List Extent) (end : BlockEnd) → EndsBlock script.geometry.block_size b was [] history (kind_at extents b) end
    → (not (is_some (mapped_number (kind_at extents b))) || is_converted script run f b end.journal) ≡ true
