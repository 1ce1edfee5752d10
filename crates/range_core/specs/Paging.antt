-- Blocks that get a page of zeros.
use Rattle.std.specs.Prelude.{◌≡◌, ℕ, ◌+◌, ◌-◌, ◌<◌, Bool, ◌&&◌, not, is_none, Option, Some, None, List, [], All, IfSome, IsSomeAnd, if◌then◌else◌, slice_get}
use Rattle.iob_base.specs.declared.sector.Page.{Page}
use Rattle.io_model.specs.Contents.{Content}
use Rattle.range_core.specs.BlockTruth.{IsWholePage}
use Rattle.range_core.specs.BlockStates.{is_zero_already, state_of}
use Rattle.range_core.specs.Pages.{zero_page}
use Rattle.range_core.specs.RangeView.{RangeView}
use Rattle.range_core.specs.declared.cell.Cell.{Cell}
use Rattle.range_core.specs.declared.parts.ByteRun.{ByteRun}

-- the page of a block, where it has one, has a block's length
abbrev pub HasWholePage : ℕ → Cell → Type 0
HasWholePage size c = IfSome c.page (IsWholePage size)

abbrev pub lacks_page : Cell → Bool
lacks_page c = is_none c.page

-- the same of a block that zeros would change
abbrev pub lacks_page_for_zeros : Cell → Bool
lacks_page_for_zeros c = lacks_page c && not (is_zero_already (state_of c))

-- a block of those that pass a test has a page of zeros
abbrev pub filled_where : (Cell → Bool) → ℕ → Cell → Cell
filled_where needs size c = if needs c then record c { page = Some (zero_page size) } else c

-- a block without a page has one of zeros
abbrev pub filled : ℕ → Cell → Cell
filled size c = filled_where lacks_page size c

-- the bytes of a page, and of the page of a block
abbrev pub bytes_of : Option Page → Content
bytes_of None = []
bytes_of (Some p) = p.bytes

abbrev pub cached_bytes : Option Cell → Content
cached_bytes None = []
cached_bytes (Some c) = bytes_of c.page

-- the bytes of the page of block b, of blocks the first of which has this number
abbrev pub cached_at : ℕ → List Cell → ℕ → Content
cached_at first cells b = cached_bytes (slice_get cells (b - first))

-- the pages of a range have a block's length, as the range truth says of every range
abbrev pub HaveWholePages : RangeView → Type 0
HaveWholePages r = All (HasWholePage r.geometry.block_size) r.cells

-- the blocks of a run, of blocks the first of which has this number, have whole pages
abbrev pub HavePages : ByteRun → ℕ → List Cell → Type 0
HavePages run first cells = (k : ℕ) (c : Cell) → k < run.blocks → slice_get cells (run.first - first + k) ≡ Some c → IsSomeAnd c.page (IsWholePage run.size)

-- a block without a page gets one of zeros
abbrev pub fill_each : ByteRun → ℕ → Cell → Cell
fill_each run k c = filled run.size c
