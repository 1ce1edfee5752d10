-- The stripes of files, which are to be the ranges of a mount.
use Rattle.std.specs.Prelude.{◌≡◌, ℕ, ◌+◌, ◌-◌, ◌<◌, ◌≤◌, ◌^◌, Option, List, [], ◌∷◌, ◌++◌, length, map, All}
use Rattle.atomic_table.specs.Seated.{TableId}
use Rattle.iob_base.specs.DeviceBlock.{DeviceBlock}
use Rattle.iob_base.specs.Layout.{Layout}
use Rattle.iob_base.specs.declared.stamp.Mode.{Mode}
use Rattle.io_model.specs.declared.file.FileSpec.{FileSpec}
use Rattle.file_stripes.specs.Files.{blocks_of_files, kinds_of_file, numbers_of_file, numbers_of_files}
use Rattle.file_stripes.specs.Kinds.{LiesIn, kinds_from, numbers_of}
use Rattle.file_stripes.specs.Stripes.{AreStripes, sectors_in}
use Rattle.file_stripes.specs.Taking.{sector_numbers}
use Rattle.file_stripes.specs.declared.stripe.Stripe.{Stripe}
use Rattle.turn_cell.specs.Stakes.{total}
use Rattle.turn_cell.specs.Views.{CellView, SeatView, first_seat}
use Rattle.space_pool.specs.Claims.{ClaimsView}
use Rattle.space_pool.specs.Pool.{PoolView}
use Rattle.space_pool.specs.declared.entry.PoolEntry.{PoolEntry}
use Rattle.range_core.specs.Opening.{ClaimsSectors}
use Rattle.range_core.specs.RangeView.{RangeView, range_of}
use Rattle.mount_parts.specs.Trims.{trimmed_in}
use Rattle.mount_parts.specs.declared.piece.Piece.{Piece}

abbrev pub piece_of : Mode → Option ℕ → Stripe → Piece
piece_of mode size stripe = record { mode = mode; size = size; stripe = stripe }

-- the sectors of stripes of files, in order
abbrev pub sectors_of : List Piece → List DeviceBlock
sectors_of [] = []
sectors_of (p ∷ ps) = p.stripe.sectors ++ sectors_of ps

-- how many blocks stripes have
abbrev pub blocks_of : List Piece → ℕ
blocks_of [] = 0
blocks_of (p ∷ ps) = p.stripe.blocks + blocks_of ps

-- A stripe may be a range: its extents lie in it, and its sectors are those of its blocks, in order
pub record IsPiece (p : Piece) : Type 0 where
  pub some : 0 < p.stripe.blocks
  pub below : p.stripe.first + p.stripe.blocks ≤ 65536
  pub inside : All (LiesIn p.stripe.first p.stripe.blocks) p.stripe.extents
  pub sectors_are : sector_numbers p.stripe.sectors ≡ numbers_of (kinds_from p.stripe.extents p.stripe.first p.stripe.blocks)
  pub few : length p.stripe.sectors ≤ p.stripe.blocks

-- these are the stripes of files, in order of file and block, each with the mode and the size of its file
abbrev pub AreCut : List FileSpec → List Piece → Type 0
AreCut [] ps = ps ≡ []
AreCut (f ∷ fs) ps = (own : List Stripe) × (rest : List Piece) × (ps ≡ map (piece_of f.mode f.size) own ++ rest) × AreStripes 64 0 (kinds_of_file f) own × AreCut fs rest

-- the sectors that a range has at first: those of its stripe, with zeros past the size of the file
abbrev pub first_sectors : ℕ → Piece → List DeviceBlock
first_sectors size p = trimmed_in size p.size p.stripe.first (kinds_from p.stripe.extents p.stripe.first p.stripe.blocks) p.stripe.sectors

-- a range that was opened with a stripe and a seat at a pool, which claims so much
abbrev pub range_with : Layout → ℕ → Piece → SeatView PoolEntry → ClaimsView → RangeView
range_with geometry cookie p seat claims = range_of geometry p.mode p.stripe.first p.stripe.blocks p.stripe.extents (first_sectors geometry.block_size p) seat claims cookie

-- A range was opened with this stripe, and with a new seat of this share at a pool: the seat claims the numbers of the stripe's sectors, has reserved none, and may claim one for each block
pub record IsOpenedWith (geometry : Layout) (cookie : ℕ) (pool : TableId) (share : ℕ) (p : Piece) (opening : RangeView) : Type 0 where
  pub claims : ClaimsView
  pub opening_is : opening ≡ range_with geometry cookie p (first_seat pool share) claims
  pub claimed : ClaimsSectors geometry.block_size p.stripe.blocks p.stripe.sectors claims

-- of so much share at a pool, what goes to the seat of a stripe: 1 where others follow, and all that is left for the last
abbrev pub share_before : ℕ → List Piece → ℕ
share_before share [] = share
share_before share (p ∷ ps) = 1

-- ranges were opened with these stripes, one by one, whose seats have so much share at the pool together
abbrev pub AreOpened : Layout → ℕ → TableId → ℕ → List Piece → List RangeView → Type 0
AreOpened geometry cookie pool share [] openings = openings ≡ []
AreOpened geometry cookie pool share (p ∷ ps) [] = ⊥
AreOpened geometry cookie pool share (p ∷ ps) (o ∷ os) = IsOpenedWith geometry cookie pool (share_before share ps) p o × AreOpened geometry cookie pool (share - 1) ps os

-- the sectors of a device that stay as they are: all of them where there are no files
abbrev pub idle_of : List FileSpec → List DeviceBlock → List DeviceBlock
idle_of [] sectors = sectors
idle_of (f ∷ fs) sectors = []

-- What a seat at a pool keeps for these sectors, of so many blocks: it claims their numbers, has reserved none, and may claim one for each block
pub record KeepsFor (size blocks : ℕ) (sectors : List DeviceBlock) (claims : ClaimsView) : Type 0 where
  pub numbers : (f : ℕ → ℕ) → total f claims.numbers ≡ total (λ s. f s.number) sectors
  pub reserved : claims.reserved ≡ 0
  pub cap : claims.cap ≡ blocks
  pub sized : claims.size ≡ size

-- a caller's first seat at a cell
abbrev pub is_first_at : {T E : Type 0} → CellView T → SeatView E
is_first_at c = first_seat c.cell (2 ^ 63)

-- The stripes of a file came to the end of those of other files, and took their sectors from the front of those that were left
pub record AddsFile (file : FileSpec) (before : List Piece) (held : List DeviceBlock) (after : List Piece) (left : List DeviceBlock) : Type 0 where
  pub stripes : List Stripe
  pub pieces_are : after ≡ before ++ map (piece_of file.mode file.size) stripes
  pub cut : AreStripes 64 0 (kinds_of_file file) stripes
  pub numbers : sector_numbers (sectors_in stripes) ≡ numbers_of_file file
  pub sectors : sectors_in stripes ++ left ≡ held

-- The stripes of files lie over a device: these ranges were opened with the stripes that the files are cut into, over the sectors of the files' blocks, and the pool with all other sectors, so that each is there once. Without files all sectors are idle, and the pool has none
pub record LaidStripes (geometry : Layout) (cookie : ℕ) (sectors : List DeviceBlock) (files : List FileSpec) (openings : List RangeView) (pool : CellView PoolView) (idle : List DeviceBlock) : Type 0 where
  pub pieces : List Piece
  pub cut : AreCut files pieces
  pub opened : AreOpened geometry cookie pool.cell (2 ^ 63) pieces openings
  pub numbers : sector_numbers (sectors_of pieces) ≡ numbers_of_files files
  pub all : (f : DeviceBlock → ℕ) → total f (sectors_of pieces) + total f pool.opening.free + total f idle ≡ total f sectors
  pub free : pool.opening.reserved ≡ 0
  pub known : (f : ℕ → ℕ) → total f pool.opening.numbers + total (λ s. f s.number) idle ≡ total (λ s. f s.number) sectors
  pub cap : pool.opening.cap ≡ blocks_of_files files
  pub size : pool.opening.size ≡ geometry.block_size
  pub idle_is : idle ≡ idle_of files sectors
