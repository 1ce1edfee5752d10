-- How the sectors of a run of blocks are lent with pages, and come home.
use Rattle.std.specs.Prelude.{◌≡◌, ℕ, ◌+◌, ◌-◌, ◌%◌, ◌^◌, ◌<◌, min, false, Option, Some, None, IsSome, List, [], ◌∷◌, slice_get, unwrap_or}
use Rattle.iob_base.specs.DeviceBlock.{BLANK}
use Rattle.iob_base.specs.Layout.{Layout}
use Rattle.iob_base.specs.declared.sector.Page.{Page}
use Rattle.iob_base.specs.declared.part.Part.{Part}
use Rattle.io_model.specs.declared.file.Kind.{Kind}
use Rattle.range_core.specs.ClaimsView.{ClaimsView, holding}
use Rattle.range_core.specs.Kinds.{written_kind}
use Rattle.range_core.specs.OnRun.{on_run}
use Rattle.range_core.specs.RangeView.{RangeView}
use Rattle.range_core.specs.declared.cell.Cell.{Cell}
use Rattle.range_core.specs.declared.lending.Away.{Away}
use Rattle.range_core.specs.declared.lending.Held.{Held}
use Rattle.range_core.specs.declared.lending.Lender.{Lender}
use Rattle.range_core.specs.declared.lending.Lender.TheVariants.{Reading, Writeback, Direct, Part as InPart}
use Rattle.range_core.specs.declared.lending.Lent.{Lent}

-- a block whose sector is lent: for writeback its page stays and is clean, and where a caller's own page is read or written, it has none
abbrev pub lent_cell : Away → Cell → Cell
lent_cell away c = by_lender away.lender
  where
    by_lender : Lender → Cell
    by_lender Reading = record c { sector = None; away = Some away }
    by_lender Writeback = record c { sector = None; away = Some away; dirty = false }
    by_lender (Direct by op) = record c { sector = None; away = Some away; page = None }
    by_lender (InPart by from to) = record c { sector = None; away = Some away; page = None }

-- the sector of a block that has it, with a page
abbrev pub part_of : Cell → Page → Part
part_of c page = record { sector = unwrap_or c.sector BLANK; page = page }

-- the sectors of blocks with pages, in order, as many as there are pages
abbrev pub parts_of : List Cell → List Page → List Part
parts_of cells [] = []
parts_of [] (page ∷ pages) = []
parts_of (c ∷ cells) (page ∷ pages) = part_of c page ∷ parts_of cells pages

-- so many blocks from b on are lent together at most: 16, and those of one folio
abbrev pub lend_most : Layout → ℕ → ℕ → ℕ
lend_most sizes b most = min (min most 16) (sizes.folio_blocks - b % sizes.folio_blocks)

-- a range that lent the n blocks from b on, on its next ticket
abbrev pub with_lent : Lender → RangeView → ℕ → ℕ → RangeView
with_lent lender r b n = record r { cells = on_run (lent_cell (record { ticket = r.tickets; lender = lender })) (b - r.first) n r.cells; tickets = (r.tickets + 1) % (2 ^ 64) }

-- each of so many blocks from a place on has its sector
pub record HaveSectors (cells : List Cell) (low n : ℕ) : Type 0 where
  pub each : (k : ℕ) (c : Cell) → k < n → slice_get cells (low + k) ≡ Some c → IsSome c.sector

-- what is lent on a ticket
abbrev pub lent_of : ℕ → ℕ → List Part → Lent
lent_of ticket block parts = record { ticket = ticket; block = block; parts = parts }

-- a seat claims what it was lent, and goes on with all else that it claims
pub record TakesHold (claims left : ClaimsView) (lent : Lent) (lender : Lender) (kind : Kind) : Type 0 where
  pub claim : Held
  pub left_is : left ≡ holding claims claim
  pub lent_is : claim.lent.value ≡ lent
  pub lender_is : claim.lender ≡ lender
  pub kind_is : claim.kind ≡ kind

-- a block that is at home again, with the sector of a part
abbrev pub home_cell : Option Part → Cell → Cell
home_cell None c = c
home_cell (Some part) c = record c { sector = Some part.sector; away = None }

-- the same of the k-th block that comes back with these parts
abbrev pub home_of : List Part → ℕ → Cell → Cell
home_of parts k c = home_cell (slice_get parts k) c

-- a block that was written, where it has space
abbrev pub written_cell : Cell → Cell
written_cell c = record c { kind = written_kind c.kind }
