-- What a whole run shows of the space of its blocks, and of what was written of them.
use Rattle.std.specs.Prelude.{◌≡◌, ℕ, ◌<◌, true, false, None, List}
use Rattle.iob_base.specs.DeviceBlock.{DeviceBlock}
use Rattle.iob_base.specs.Layout.{Layout}
use Rattle.io_model.specs.Conversion.{ShowsConversion, has_good_writeback}
use Rattle.io_model.specs.Kinds.{kind_at}
use Rattle.io_model.specs.Ranges.{ranged_calls}
use Rattle.io_model.specs.Space.{KeepsSpace}
use Rattle.io_model.specs.declared.file.FileSpec.{FileSpec}
use Rattle.io_model.specs.declared.run.Run.{Run}
use Rattle.io_model.specs.declared.script.Script.{Script}
use Rattle.turn_cell.specs.Stakes.{total}
use Rattle.range_core.specs.declared.cell.Cell.{Cell}
use Rattle.mount_parts.specs.MountView.{HasBlock, MountView, stripe_at}
use Rattle.call_traces.specs.BlockCalls.{strays, writebacks}
use Rattle.call_traces.specs.Runs.{IsRun, file_in}
use Rattle.call_traces.specs.SeatTraces.{all_calls, own_weight}
use Rattle.call_traces.specs.Traces.{Traced}

-- A block was opened without a page, at home, and with the kind that its file gives it
pub record IsOpened (file : FileSpec) (b : ℕ) (was : Cell) : Type 0 where
  pub clean : was.dirty ≡ false
  pub here : was.away ≡ None
  pub kind : was.kind ≡ kind_at file.extents b

module _ (script : Script) (run : Run) (calls : List Traced) (m : MountView) where
  -- what the calls of a trace made at the stripe of a block is, for this block, the work of the script's calls
  abbrev pub CallsStrayNot : Type 0
  CallsStrayNot = (f b : ℕ) → HasBlock m (file_in f) b → total (own_weight (stripe_at m (file_in f) b) (strays m.geometry.block_size f b (ranged_calls script run))) calls ≡ 0

  -- where a writeback came back to one of them at the stripe of a block and did not fail, the run shows one of the file that did not
  abbrev pub WritebacksShow : Type 0
  WritebacksShow = (f b : ℕ) → HasBlock m (file_in f) b → 0 < total (own_weight (stripe_at m (file_in f) b) writebacks) calls → has_good_writeback script run f ≡ true

-- A run whose calls are those of a script keeps the space of its blocks
abbrev pub RunsKeepSpace : Type 0
RunsKeepSpace = (geometry : Layout) (cookie : ℕ) (sectors : List DeviceBlock) (script : Script) (run : Run) (phases : List (List (List Traced)))
    → (did : IsRun geometry cookie sectors script.files phases run.ends) → did.mount.geometry.block_size ≡ script.geometry.block_size → CallsStrayNot script run (all_calls phases) did.mount → KeepsSpace script run

-- and it maps no block but by a write that succeeded
abbrev pub RunsConvert : Type 0
RunsConvert = (geometry : Layout) (cookie : ℕ) (sectors : List DeviceBlock) (script : Script) (run : Run) (phases : List (List (List Traced)))
    → (did : IsRun geometry cookie sectors script.files phases run.ends) → did.mount.geometry.block_size ≡ script.geometry.block_size → CallsStrayNot script run (all_calls phases) did.mount
    → WritebacksShow script run (all_calls phases) did.mount → ShowsConversion script run
