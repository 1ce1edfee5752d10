-- Blocks that take sectors, in order of blocks.
use Rattle.std.specs.Prelude.{ℕ, ◌+◌, ◌-◌, Bool, ◌&&◌, not, Option, Some, None, List, [], ◌∷◌, ◌++◌, drop, slice_get, if◌then◌else◌}
use Rattle.iob_base.specs.DeviceBlock.{DeviceBlock}
use Rattle.io_model.specs.declared.file.Kind.TheVariants.{Unwritten}
use Rattle.range_core.specs.Kinds.{has_space, is_delalloc, is_hole}
use Rattle.range_core.specs.OnRun.{count_on}
use Rattle.range_core.specs.RangeView.{RangeView}
use Rattle.range_core.specs.declared.cell.Cell.{Cell}

-- space is promised to a block that has nothing in memory to be written
abbrev pub is_unused : Cell → Bool
is_unused c = is_delalloc c.kind && not c.dirty

-- space is promised to a block that has bytes in memory to be written
abbrev pub awaits_sector : Cell → Bool
awaits_sector c = is_delalloc c.kind && c.dirty

-- a block has no space, promised or not
abbrev pub is_empty : Cell → Bool
is_empty c = is_hole c.kind

-- a block has no sector, here or away
abbrev pub lacks_sector : Cell → Bool
lacks_sector c = not (has_space c.kind)

-- space is promised to a block
abbrev pub is_promised : Cell → Bool
is_promised c = is_delalloc c.kind

-- a block has space, or a promise of it
abbrev pub is_used : Cell → Bool
is_used c = not (is_hole c.kind)

-- how many blocks of a run pass a test
abbrev pub count_in : (Cell → Bool) → RangeView → ℕ → ℕ → ℕ
count_in p r b n = count_on p (b - r.first) n r.cells

-- a block that took a sector has space that was never written
abbrev pub with_sector : Option DeviceBlock → Cell → Cell
with_sector None c = c
with_sector (Some s) c = record c { kind = Unwritten s.number; sector = Some s }

-- a block that was picked, with its sector, and any other as it is
abbrev pub picked_with : Bool → Option DeviceBlock → Cell → Cell
picked_with picked sector c = if picked then with_sector sector c else c

-- the k-th block of a run: it takes the first sector that the picked blocks before it leave
abbrev pub placed_at : (Cell → Bool) → ℕ → List Cell → List DeviceBlock → ℕ → Cell → Cell
placed_at picks low cells sectors k c = picked_with (picks c) (slice_get sectors (count_on picks low k cells)) c

-- the sectors that a block leaves for those after it
abbrev pub left_by : Bool → List DeviceBlock → List DeviceBlock
left_by picked sectors = if picked then drop 1 sectors else sectors

-- the number of a block, with that of the first of these sectors
abbrev pub pair_with : ℕ → List DeviceBlock → List (ℕ × ℕ)
pair_with b [] = []
pair_with b (s ∷ sectors) = (b, s.number) ∷ []

-- the number of each picked block, the first of these blocks being b, with that of the sector that it took
abbrev pub pairs_from : (Cell → Bool) → ℕ → List Cell → List DeviceBlock → List (ℕ × ℕ)
pairs_from picks b [] sectors = []
pairs_from picks b (c ∷ cells) sectors = if picks c then pair_with b sectors ++ pairs_from picks (b + 1) cells (drop 1 sectors) else pairs_from picks (b + 1) cells sectors
