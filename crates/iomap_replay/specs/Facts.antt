use Rattle.std.specs.Prelude.{◌≡◌, ℕ, ◌+◌, ◌-◌, ◌/◌, ◌<◌, ◌≤◌, Bool, ◌&&◌, ◌==◌, nat_lt, IsTrue, List, length}
use Rattle.iob_base.specs.Geometry.{is_block_size}
use Rattle.iob_base.specs.Layout.{Layout}
use Rattle.io_model.specs.declared.file.Extent.{Extent}
use Rattle.io_model.specs.declared.file.Kind.TheVariants.{Mapped}
use Rattle.iomap_replay.specs.declared.job.Asked.{Asked}
use Rattle.iomap_replay.specs.declared.job.Device.{Device}

-- a device of 1 to 65,536 whole blocks
pub record IsDevice (d : Device) : Type 0 where
  pub size : IsTrue (is_block_size d.block_size)
  pub some : 1 ≤ d.blocks
  pub few : d.blocks ≤ 65536

-- a mapped extent of at least one block, in a file and on a device of so many
pub record LiesOn (blocks device_blocks : ℕ) (e : Extent) : Type 0 where
  pub some : 1 ≤ e.length
  pub inside : e.block + e.length ≤ blocks
  pub mapped : (d : ℕ) × (e.kind ≡ Mapped d) × (d + e.length ≤ device_blocks)

-- the block in which a range of bytes begins, and the block of its last byte
abbrev pub first_block : ℕ → Asked → ℕ
first_block size asked = asked.off / size

abbrev pub last_block : ℕ → Asked → ℕ
last_block size asked = (asked.off + asked.length - 1) / size

-- how many blocks a range of bytes meets
abbrev pub blocks_met : ℕ → Asked → ℕ
blocks_met size asked = last_block size asked + 1 - first_block size asked

-- a range of at least one byte that lies in an extent and in one folio, and meets at most 16 blocks
pub record LiesInFolio (size folio : ℕ) (e : Extent) (asked : Asked) : Type 0 where
  pub some : 1 ≤ asked.length
  pub low : e.block ≤ first_block size asked
  pub high : last_block size asked < e.block + e.length
  pub few : last_block size asked < first_block size asked + 16
  pub together : first_block size asked / folio ≡ last_block size asked / folio

-- a block of a device is given whole
abbrev pub is_whole : Device → ℕ × List ℕ → Bool
is_whole d g = nat_lt g.0 d.blocks && length g.1 == d.block_size

-- the last four lines of a script, on a device and with folios of so many blocks
pub record IsTail (d : Device) (folio blocks : ℕ) (e : Extent) (asked : Asked) : Type 0 where
  pub some : 1 ≤ blocks
  pub few : blocks ≤ 65536
  pub extent : LiesOn blocks d.blocks e
  pub range : LiesInFolio d.block_size folio e asked

-- all lines of a script but the data lines
pub record IsShape (d : Device) (geometry : Layout) (blocks : ℕ) (e : Extent) (asked : Asked) : Type 0 where
  pub device : IsDevice d
  pub size : geometry.block_size ≡ d.block_size
  pub tail : IsTail d geometry.folio_blocks blocks e asked
