use Rattle.std.specs.Prelude.{◌≡◌, ℕ, false, Option, Some, None, List, [], ◌∷◌, length, drop, slice_get, IsSomeAnd, IsTrue, if◌then◌else◌}
use Rattle.iob_base.specs.DeviceBlock.{DeviceBlock}
use Rattle.io_model.specs.Kinds.{device_number}
use Rattle.io_model.specs.declared.file.Kind.{Kind}
use Rattle.range_core.specs.Kinds.{has_space}
use Rattle.range_core.specs.declared.cell.Cell.{Cell}
use Rattle.range_core.specs.declared.lending.Away.{Away}

-- a block of the device is the one of this number, and whole
pub record IsBlock (size number : ℕ) (sector : DeviceBlock) : Type 0 where
  pub is : sector.number ≡ number
  pub whole : length sector.bytes ≡ size

-- a kind with space has its sector, and any other kind none
abbrev pub HasSector : ℕ → Option ℕ → Option DeviceBlock → Type 0
HasSector size None sector = sector ≡ None
HasSector size (Some number) sector = IsSomeAnd sector (IsBlock size number)

-- at home a block has the sector of its kind, and away its kind has one that is elsewhere
abbrev pub HasPlace : ℕ → Kind → Option DeviceBlock → Option Away → Type 0
HasPlace size kind sector None = HasSector size (device_number kind) sector
HasPlace size kind sector (Some away) = (sector ≡ None) × IsTrue (has_space kind)

abbrev pub IsPlaced : ℕ → Cell → Type 0
IsPlaced size c = HasPlace size c.kind c.sector c.away

-- a block of this kind and with this sector, without a page
abbrev pub cold_cell : Kind → Option DeviceBlock → Cell
cold_cell kind sector = record { kind = kind; sector = sector; away = None; page = None; dirty = false }

-- a block of this kind, with the next sector where it has space
abbrev pub cell_of : Kind → List DeviceBlock → Cell
cell_of kind sectors = cold_cell kind (if has_space kind then slice_get sectors 0 else None)

-- the sectors that are left for the blocks after it
abbrev pub sectors_after : Kind → List DeviceBlock → List DeviceBlock
sectors_after kind sectors = if has_space kind then drop 1 sectors else sectors

-- blocks of these kinds, with the sectors in order
abbrev pub cells_of : List Kind → List DeviceBlock → List Cell
cells_of [] sectors = []
cells_of (kind ∷ kinds) sectors = cell_of kind sectors ∷ cells_of kinds (sectors_after kind sectors)
