-- What contracts see of a mount: its files, and which cells and locks are theirs.
use Rattle.std.specs.Prelude.{◌≡◌, ℕ, ◌+◌, ◌-◌, ◌*◌, ◌/◌, ◌<◌, ◌≤◌, ◌^◌, All, min, Option, Some, None, List, [], ◌∷◌, length, get_or, slice_get}
use Rattle.atomic_table.specs.Seated.{TableId}
use Rattle.iob_base.specs.DeviceBlock.{DeviceBlock}
use Rattle.iob_base.specs.Layout.{Layout}
use Rattle.iob_base.specs.declared.stamp.FileId.{FileId}
use Rattle.iob_base.specs.declared.stamp.Mode.TheVariants.{Cached}
use Rattle.turn_cell.specs.Stakes.{total}
use Rattle.turn_cell.specs.Views.{CellView}
use Rattle.range_core.specs.RangeView.{RangeView}
use Rattle.size_core.specs.SizesView.{SizesView}
use Rattle.space_pool.specs.Pool.{PoolView}
use Rattle.bio_pages.specs.Queue.{QueueView}
use Rattle.mount_parts.specs.declared.file.FilePlace.{FilePlace}

-- the sizes of blocks and folios, the files, the cells of all stripes of all files and of the sizes of those files that have one, the lock of each file, the pool, the sectors of a device without files, and the queue through which bios go
pub record MountView : Type 0 where
  pub geometry : Layout
  pub files : List FilePlace
  pub stripes : List (CellView RangeView)
  pub sizes : List (CellView SizesView)
  pub locks : List TableId
  pub pool : CellView PoolView
  pub idle : List DeviceBlock
  pub queue : QueueView

abbrev pub mount_view : Layout → List FilePlace → List (CellView RangeView) → List (CellView SizesView) → List TableId → CellView PoolView → List DeviceBlock → QueueView → MountView
mount_view geometry files stripes sizes locks pool idle queue = record { geometry = geometry; files = files; stripes = stripes; sizes = sizes; locks = locks; pool = pool; idle = idle; queue = queue }

-- how many stripes so many blocks make
abbrev pub stripes_of : ℕ → ℕ
stripes_of blocks = (blocks + 63) / 64

-- a place that no file has
abbrev pub no_file : FilePlace
no_file = record { mode = Cached; blocks = 0; stripe = 0; size = None }

-- where a file lies
abbrev pub file_at : MountView → FileId → FilePlace
file_at m file = get_or m.files file.0 no_file

-- the file exists
abbrev pub HasFile : MountView → FileId → Type 0
HasFile m file = file.0 < length m.files

-- the block is one of the file, which exists
abbrev pub HasBlock : MountView → FileId → ℕ → Type 0
HasBlock m file b = b < (file_at m file).blocks

-- the stripe of a block of a file, among all stripes
abbrev pub stripe_at : MountView → FileId → ℕ → ℕ
stripe_at m file b = (file_at m file).stripe + b / 64

-- how many size cells a file has
abbrev pub size_cells : Option ℕ → ℕ
size_cells None = 0
size_cells (Some cell) = 1

-- the size cell of a file is this one, where it has one
abbrev pub IsNumbered : ℕ → Option ℕ → Type 0
IsNumbered n None = Unit {0}
IsNumbered n (Some cell) = cell ≡ n

-- from this stripe and this size cell on the files lie one after the other, up to the other two
abbrev pub LieInOrder : ℕ → ℕ → List FilePlace → ℕ → ℕ → Type 0
LieInOrder stripe size [] stripes sizes = (stripe ≡ stripes) × (size ≡ sizes)
LieInOrder stripe size (f ∷ fs) stripes sizes = (f.stripe ≡ stripe) × IsNumbered size f.size × LieInOrder (stripe + stripes_of f.blocks) (size + size_cells f.size) fs stripes sizes

-- A range was opened as the i-th stripe of a file, with a seat at this pool
pub record IsStripe (geometry : Layout) (home : TableId) (file : FilePlace) (i : ℕ) (opening : RangeView) : Type 0 where
  pub sizes : opening.geometry ≡ geometry
  pub mode : opening.mode ≡ file.mode
  pub first : opening.first ≡ i * 64
  pub blocks : length opening.cells ≡ min 64 (file.blocks - i * 64)
  pub pool : opening.seat.cell ≡ home

-- the share that the seat of a range had at its pool when the range was opened
abbrev pub pool_share : CellView RangeView → ℕ
pool_share c = c.opening.seat.share

-- The files of a mount, each of at most 65,536 blocks: their stripes and size cells lie in the order of the files, each stripe has its blocks, each size ends with its file's blocks, and each file has a lock. The seats of the stripes have the whole share of the pool, and where there is a file no sector is idle
pub record IsLaidOut (m : MountView) : Type 0 where
  pub few : All (λ f. f.blocks ≤ 65536) m.files
  pub order : LieInOrder 0 0 m.files (length m.stripes) (length m.sizes)
  pub stripes : (f : ℕ) (file : FilePlace) (i : ℕ) (cell : CellView RangeView) → slice_get m.files f ≡ Some file → i < stripes_of file.blocks → slice_get m.stripes (file.stripe + i) ≡ Some cell → IsStripe m.geometry m.pool.cell file i cell.opening
  pub ends : (f : ℕ) (file : FilePlace) (at : ℕ) (cell : CellView SizesView) → slice_get m.files f ≡ Some file → file.size ≡ Some at → slice_get m.sizes at ≡ Some cell → cell.opening.end ≡ file.blocks * m.geometry.block_size
  pub locks : length m.locks ≡ length m.files
  pub shares : 0 < length m.stripes → total pool_share m.stripes ≡ 2 ^ 63
  pub idle : 0 < length m.files → m.idle ≡ []
