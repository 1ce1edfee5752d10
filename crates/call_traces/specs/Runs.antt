-- A whole run at a mount, from its start to its end.
use Rattle.std.specs.Prelude.{◌≡◌, ℕ, ◌<◌, List, Some, map, slice_get}
use Rattle.iob_base.specs.DeviceBlock.{DeviceBlock}
use Rattle.iob_base.specs.Layout.{Layout}
use Rattle.iob_base.specs.declared.stamp.FileId.{FileId}
use Rattle.iob_base.specs.declared.stamp.Stamp.{Stamp}
use Rattle.io_model.specs.declared.file.BlockEnd.{BlockEnd}
use Rattle.io_model.specs.declared.file.FileEnd.{FileEnd}
use Rattle.io_model.specs.declared.file.FileSpec.{FileSpec}
use Rattle.io_model.specs.declared.file.Unmounted.{Unmounted}
use Rattle.turn_cell.specs.Stakes.{total}
use Rattle.mount_parts.specs.MountView.{IsLaidOut, MountView}
use Rattle.mount_parts.specs.Unmounts.{Unmounts}
use Rattle.mount_parts.specs.declared.file.FilePlace.{FilePlace}
use Rattle.mini_fs.specs.PassView.{PassView}
use Rattle.mini_fs.specs.Starts.{Started}
use Rattle.mini_fs.specs.Wholes.{seat_of_size}
use Rattle.call_traces.specs.Journals.{answer_weight, answers}
use Rattle.call_traces.specs.Orders.{times_stamped}
use Rattle.call_traces.specs.SeatTraces.{all_calls}
use Rattle.call_traces.specs.Traces.{Phases, Traced}

-- A mount began with these files over these sectors, its first pass became the last one by these phases of calls, and the mount was taken apart
pub record IsRun (geometry : Layout) (cookie : ℕ) (sectors : List DeviceBlock) (files : List FileSpec) (phases : List (List (List Traced))) (u : Unmounted) : Type 0 where
  pub mount : MountView
  pub first : PassView
  pub last : PassView
  pub laid : IsLaidOut mount
  pub some : 0 < mount.geometry.block_size
  pub started : Started geometry cookie sectors files mount first
  pub did : Phases mount phases first last
  pub left : Unmounts mount last.stripes (map seat_of_size last.sizes) u

-- the file in this place
abbrev pub file_in : ℕ → FileId
file_in k = record { 0 = k }

-- At the end of a run the journal of each block weighs what the stamps of the calls weigh that answered the block, however stamps are weighed
abbrev pub RunsWeighCalls : Type 0
RunsWeighCalls = (geometry : Layout) (cookie : ℕ) (sectors : List DeviceBlock) (files : List FileSpec) (phases : List (List (List Traced))) (u : Unmounted) (run : IsRun geometry cookie sectors files phases u)
    (k b : ℕ) (file : FilePlace) (end : FileEnd) (block : BlockEnd) → slice_get run.mount.files k ≡ Some file → slice_get u.files k ≡ Some end → slice_get end.blocks b ≡ Some block
    → (f : Stamp → ℕ) → total f block.journal ≡ total (answer_weight run.mount.geometry.block_size (file_in k) b f) (all_calls phases)

-- So it has as many stamps of a number as calls of that number answered the block
abbrev pub RunsHoldCalls : Type 0
RunsHoldCalls = (geometry : Layout) (cookie : ℕ) (sectors : List DeviceBlock) (files : List FileSpec) (phases : List (List (List Traced))) (u : Unmounted) (run : IsRun geometry cookie sectors files phases u)
    (k b : ℕ) (file : FilePlace) (end : FileEnd) (block : BlockEnd) → slice_get run.mount.files k ≡ Some file → slice_get u.files k ≡ Some end → slice_get end.blocks b ≡ Some block
    → (n : ℕ) → times_stamped n block.journal ≡ total (answers run.mount.geometry.block_size (file_in k) b n) (all_calls phases)
