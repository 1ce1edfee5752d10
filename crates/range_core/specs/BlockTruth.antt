-- What is true of each block of a range between two turns.
use Rattle.std.specs.Prelude.{◌≡◌, ◌≢◌, ℕ, ◌-◌, ◌<◌, Bool, true, false, Option, Some, None, IsTrue, IfSome, IsSomeAnd, List, length, slice_get}
use mathlib.Core.Option.{some}
use lib.ListN.{get_elem?}
use Rattle.iob_base.specs.declared.sector.Page.{Page}
use Rattle.iob_base.specs.declared.part.Part.{Part}
use Rattle.io_model.specs.Contents.{Content, zeros}
use Rattle.io_model.specs.Kinds.{device_number, kind_after}
use Rattle.io_model.specs.declared.file.Kind.TheVariants.{Hole}
use Rattle.turn_cell.specs.Stakes.{total}
use Rattle.range_core.specs.Cells.{HasPlace, IsBlock}
use Rattle.range_core.specs.Kinds.{is_mapped}
use Rattle.range_core.specs.Spots.{bytes_of_part, overlaid}
use Rattle.range_core.specs.Stakes.{RangeStake, held_by, names}
use Rattle.range_core.specs.declared.cell.Cell.{Cell}
use Rattle.range_core.specs.declared.lending.Away.{Away}
use Rattle.range_core.specs.declared.lending.Held.{Held}
use Rattle.range_core.specs.declared.lending.Lender.{Lender}
use Rattle.range_core.specs.declared.lending.Lender.TheVariants.{Reading, Writeback, Direct, Part as InPart}
use Rattle.range_core.specs.declared.lending.Lent.{Lent}

-- a page has a block's length
abbrev pub IsWholePage : ℕ → Page → Type 0
IsWholePage size p = length p.bytes ≡ size

-- at home, the sector of a mapped block that is clean has the content; a block of another kind that is not dirty reads as zeros
pub record IsHomeContent (size : ℕ) (c : Cell) (content : Content) : Type 0 where
  pub clean_is_on_device : is_mapped c.kind ≡ true → c.dirty ≡ false → IfSome c.sector (λ s. s.bytes ≡ content)
  pub spaceless_is_zeros : is_mapped c.kind ≡ false → c.dirty ≡ false → content ≡ zeros size

abbrev pub HomeContent : ℕ → Cell → Content → Option Away → Type 0
HomeContent size c content None = IsHomeContent size c content
HomeContent size c content (Some away) = Unit {0}

-- a lent sector of a mapped block has the content, and a block lent unwritten reads as zeros
abbrev pub IsLentContent : ℕ → Bool → Content → Part → Type 0
IsLentContent size true content part = part.sector.bytes ≡ content
IsLentContent size false content part = content ≡ zeros size

-- what a lent part has, by what it was lent for: for a read of it into the cache, or for a caller's own pages, the sector as the content is, and no page stays here; for writeback a snapshot of the page that stays, which is the page itself while no store changed it
abbrev pub FitsLender : ℕ → Cell → Content → Part → Lender → Type 0
FitsLender size c content part Reading = IsTrue (is_mapped c.kind) × (part.sector.bytes ≡ content) × (c.page ≡ None)
FitsLender size c content part (Direct by op) = IsLentContent size (is_mapped c.kind) content part × (c.page ≡ None)
FitsLender size c content part (InPart by from to) = IsLentContent size (is_mapped c.kind) content part × (c.page ≡ None)
FitsLender size c content part Writeback = IsSomeAnd c.page (λ p. c.dirty ≡ false → p.bytes ≡ part.page.bytes)

-- a block that was lent for a write of a part of it was lent alone, and its page has the content around that part
pub record IsInPart (size b from to : ℕ) (content : Content) (lent : Lent) (page : Page) : Type 0 where
  pub alone : length lent.parts ≡ 1
  pub around : page.bytes ≡ overlaid size from to (bytes_of_part size from to b page.bytes) b content

-- of other loans it is not said
abbrev pub IsAround : ℕ → ℕ → Content → Lent → Page → Lender → Type 0
IsAround size b content lent page Reading = Unit {0}
IsAround size b content lent page Writeback = Unit {0}
IsAround size b content lent page (Direct by op) = Unit {0}
IsAround size b content lent page (InPart by from to) = IsInPart size b from to content lent page

-- a claim on a block that is away: its ticket, what it was lent for, its kind, and its part, which has the sector of that kind, and around a part that was lent alone the page that the block has
pub record FitsClaim (size b : ℕ) (c : Cell) (content : Content) (away : Away) (h : Held) : Type 0 where
  pub ticket : h.lent.value.ticket ≡ away.ticket
  pub lender : h.lender ≡ away.lender
  pub kind : kind_after h.kind (b - h.lent.value.block) ≡ c.kind
  pub part : Part
  pub part_is : slice_get h.lent.value.parts (b - h.lent.value.block) ≡ Some part
  pub sector : IfSome (device_number c.kind) (λ d. IsBlock size d part.sector)
  pub page : IsWholePage size part.page
  pub fits : FitsLender size c content part away.lender
  pub around : IsAround size b content h.lent.value part.page away.lender

-- each claim that names a block fits it
abbrev pub FitsAway : ℕ → ℕ → Cell → Content → Option Away → Option Held → Type 0
FitsAway size b c content None held = Unit {0}
FitsAway size b c content (Some away) None = Unit {0}
FitsAway size b c content (Some away) (Some h) = FitsClaim size b c content away h

-- 1 for a block whose sector is away
abbrev pub gone : Option Away → ℕ
gone None = 0
gone (Some away) = 1

abbrev pub is_gone : Cell → ℕ
is_gone c = gone c.away

-- Where a block is away, exactly one claim names it, and that claim fits it; where it is at home, none does
pub record AwayIsClaimed (size b : ℕ) (c : Cell) (content : Content) (stakes : List RangeStake) : Type 0 where
  pub once : total (names b) stakes ≡ gone c.away
  pub fits : (n : ℕ) (s : RangeStake) → get_elem? stakes n ≡ some s → 0 < names b s → FitsAway size b c content c.away (held_by s.0)

-- What is true of block b, where the replay of its journal is this content
pub record IsTrueAt (size b : ℕ) (c : Cell) (content : Content) (stakes : List RangeStake) : Type 0 where
  pub whole : length content ≡ size
  pub place : HasPlace size c.kind c.sector c.away
  pub uptodate_is_replay : IfSome c.page (λ p. p.bytes ≡ content)
  pub home_is_on_device : HomeContent size c content c.away
  pub dirty_is_uptodate : c.dirty ≡ true → IsSomeAnd c.page (λ p. c.kind ≢ Hole)
  pub away_is_claimed : AwayIsClaimed size b c content stakes
