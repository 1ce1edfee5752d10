-- The bytes from one place of a file up to another, block by block.
use Rattle.std.specs.Prelude.{◌≡◌, ℕ, zero, suc, ◌+◌, ◌-◌, ◌*◌, ◌/◌, ◌<◌, ◌≤◌, List, [], ◌++◌, length, take, drop}
use Rattle.iob_base.specs.declared.stamp.Mode.TheVariants.{Cached}
use Rattle.iob_base.specs.declared.stamp.Tag.{Tag}
use Rattle.io_model.specs.Contents.{Content}
use Rattle.io_model.specs.Parts.{part_in, span}
use Rattle.iov_iter.specs.Home.{AreHome}
use Rattle.iov_iter.specs.IovView.{IovView}
use Rattle.range_core.specs.Events.{with_stamps}
use Rattle.range_core.specs.OnRun.{with_each}
use Rattle.range_core.specs.RangeView.{LiesAt, RangeView}
use Rattle.range_core.specs.Spots.{blocks_met}
use Rattle.range_core.specs.Stamps.{done_by, stamps_from}
use Rattle.range_core.specs.declared.cell.Cell.{Cell}
use Rattle.range_core.specs.declared.parts.BlockPart.{BlockPart}
use Rattle.range_core.specs.declared.parts.ByteRun.{ByteRun}

-- the bytes from one place up to another, where a block has so many: the blocks that have some of them
abbrev pub run_between : ℕ → ℕ → ℕ → ByteRun
run_between size from to = record { size = size; from = from; to = to; first = from / size; blocks = blocks_met size from to }

-- The blocks of the run are those that have some of its bytes, and there are some
pub record IsByteRun (run : ByteRun) : Type 0 where
  pub some : run.from < run.to
  pub met : 0 < run.blocks
  pub begins : run.first * run.size ≤ run.from
  pub starts : run.from < run.first * run.size + run.size
  pub reaches : run.to ≤ (run.first + run.blocks) * run.size
  pub ends : (run.first + run.blocks) * run.size < run.to + run.size

-- what of the run lies in a block: where it begins in it, and how many bytes it has
abbrev pub part_at : ByteRun → ℕ → BlockPart
part_at run b =
    let part = part_in run.size (span run.from run.to) b in record { at = part.from - b * run.size; length = part.to - part.from }

-- the bytes of a content that lie in a part of its block
abbrev pub part_bytes : BlockPart → Content → List ℕ
part_bytes part content = take part.length (drop part.at content)

-- the bytes of a run that lie in n blocks from b on, as these blocks' contents give them
abbrev pub gathered : ByteRun → (ℕ → Content) → ℕ → ℕ → List ℕ
gathered run contents b zero = []
gathered run contents b (suc n) = part_bytes (part_at run b) (contents b) ++ gathered run contents (b + 1) n

-- the bytes of a run, as the contents of its blocks give them
abbrev pub run_bytes : ByteRun → (ℕ → Content) → List ℕ
run_bytes run contents = gathered run contents run.first run.blocks

-- A run of bytes as it is cut in a range, which has its blocks
pub record IsRunIn (r : RangeView) (run : ByteRun) : Type 0 where
  pub is : run ≡ run_between r.geometry.block_size run.from run.to
  pub met : IsByteRun run
  pub lies : LiesAt r run.first run.blocks

-- Bytes from one place up to another lie in one folio of a range whose bytes go through the page cache
pub record IsInFolio (r : RangeView) (from to : ℕ) : Type 0 where
  pub cached : r.mode ≡ Cached
  pub some : from < to
  pub blocks : LiesAt r (from / r.geometry.block_size) (blocks_met r.geometry.block_size from to)
  pub folio : from / r.geometry.block_size / r.geometry.folio_blocks ≡ (to - 1) / r.geometry.block_size / r.geometry.folio_blocks

-- An iov has so many bytes after its place, on pages that are at home
pub record HasNext (v : IovView) (n : ℕ) : Type 0 where
  pub within : v.place + n ≤ length v.bytes
  pub home : AreHome v.pages v.place n

-- a range after an event on a run of bytes, which changes each block of the run by its number in it, and leaves a stamp on each
abbrev pub after_bytes : (ℕ → Cell → Cell) → RangeView → Tag → ByteRun → RangeView
after_bytes f r by run = with_stamps (with_each f r run.first run.blocks) (stamps_from run.first run.blocks (done_by by))
