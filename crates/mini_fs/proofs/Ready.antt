-- That a run of blocks of a file lies in the range of its stripe, and what that range keeps of the mount.
use Rattle.std.proofs.Common.{◌≡◌, ℕ, ◌+◌, ◌<◌, ◌≤◌, Some, arith}
use Rattle.std.specs.Prelude.{◌/◌, ◌%◌, slice_get}
use Rattle.std.proofs.lemmas.Option.{slice_get-get_or}
use Rattle.iob_base.specs.declared.stamp.FileId.{FileId}
use Rattle.turn_cell.specs.Views.{CellView}
use Rattle.range_core.specs.RangeView.{LiesAt, RangeView}
use Rattle.mount_parts.specs.MountView.{MountView, HasBlock, IsLaidOut, IsStripe, file_at, no_file, stripe_at}
use Rattle.mini_fs.proofs.Layouts.{has_file}

module _ (m : MountView) (file : FileId) (laid : IsLaidOut m) where
  -- the range of a block was opened as the stripe of its file in which the block lies
  pub stripe-here : (b : ℕ) (cell : CellView RangeView) → HasBlock m file b → slice_get m.stripes (stripe_at m file b) ≡ Some cell → IsStripe m.geometry m.pool.cell (file_at m file) (b / 64) cell.opening
  stripe-here b cell has here =
      let there : slice_get m.files file.0 ≡ Some (file_at m file) = slice_get-get_or m.files file.0 no_file (has_file m file b has) in
      laid.stripes file.0 (file_at m file) (b / 64) cell there (omega arith) here

  -- a run of blocks of the file that crosses no multiple of 64 lies in the range of its first block
  pub run-lies : (b n : ℕ) → 0 < n → b + n ≤ (file_at m file).blocks → b % 64 + n ≤ 64 → (cell : CellView RangeView) → slice_get m.stripes (stripe_at m file b) ≡ Some cell → LiesAt cell.opening b n
  run-lies b n some within stripe cell here =
      let s = stripe-here b cell (omega arith) here in
      let first = s.first in
      let blocks = s.blocks in
      record { low = omega arith; some = some; high = omega arith }
