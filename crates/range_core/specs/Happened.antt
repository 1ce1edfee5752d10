-- Histories that can have happened: each entry says of a block what the block was.
use Rattle.std.specs.Prelude.{◌≡◌, ℕ, ◌+◌, ◌-◌, Bool, true, false, ◌&&◌, not, ◌==◌, Option, Some, None, is_none, List, [], ◌∷◌, length, slice_get, if◌then◌else◌}
use Rattle.iob_base.specs.declared.stamp.Op.{Op}
use Rattle.iob_base.specs.declared.stamp.Op.TheVariants.{Read, Write}
use Rattle.io_model.specs.Kinds.{is_kind, kind_after}
use Rattle.io_model.specs.declared.file.Kind.{Kind}
use Rattle.range_core.specs.BlockStates.{BlockState, state_after, state_of, taken_by}
use Rattle.range_core.specs.Kinds.{has_space, is_delalloc, is_hole, is_mapped}
use Rattle.range_core.specs.RangeView.{RangeView}
use Rattle.range_core.specs.Refusals.{covers_in_part}
use Rattle.range_core.specs.Spots.{in_run, is_met}
use Rattle.range_core.specs.declared.cell.Cell.{Cell}
use Rattle.range_core.specs.declared.entry.Entry.{Entry}
use Rattle.range_core.specs.declared.entry.Event.{Event}
use Rattle.range_core.specs.declared.entry.Event.TheVariants.{Sample, Reserve, Unreserve, Attach, Preallocate, Fetch, LendRead, FillBack, Store, StoreZeros, LendWriteback, WrittenBack, DropClean, LendDirect, LendPart, DirectBack, PartBack, DirectNow, Wipe, DaxGet, DaxPut, DaxZero}
use Rattle.range_core.specs.declared.entry.Outcome.{Outcome}
use Rattle.range_core.specs.declared.entry.Outcome.TheVariants.{Refused, Sampled, Counted, Took, Lending, Finished}
use Rattle.range_core.specs.declared.lending.Away.{Away}
use Rattle.range_core.specs.declared.lending.Lender.{Lender}
use Rattle.range_core.specs.declared.lending.Lender.TheVariants.{Reading, Writeback, Direct, Part as InPart}

abbrev pub is_same_op : Op → Op → Bool
is_same_op Read Read = true
is_same_op Write Write = true
is_same_op _ _ = false

abbrev pub is_same_lender : Lender → Lender → Bool
is_same_lender Reading Reading = true
is_same_lender Writeback Writeback = true
is_same_lender (Direct by op) (Direct tag way) = (by.caller == tag.caller) && ((by.call == tag.call) && is_same_op op way)
is_same_lender (InPart by from to) (InPart tag low high) = (by.caller == tag.caller) && ((by.call == tag.call) && ((from == low) && (to == high)))
is_same_lender _ _ = false

-- away on this ticket, to this lender
abbrev pub is_out : ℕ → Lender → Option Away → Bool
is_out ticket lender None = false
is_out ticket lender (Some away) = (away.ticket == ticket) && is_same_lender away.lender lender

-- a block's page is here: it is at home, or away for writeback, where its page stays
abbrev pub keeps_page : Option Away → Bool
keeps_page None = true
keeps_page (Some away) = is_same_lender away.lender Writeback

abbrev pub is_at_home : BlockState → Bool
is_at_home s = is_none s.away

-- at home and not dirty
abbrev pub is_settled : BlockState → Bool
is_settled s = is_at_home s && not s.dirty

-- at home, not dirty, and with no space only promised to it
abbrev pub is_bare : BlockState → Bool
is_bare s = is_settled s && not (is_delalloc s.kind)

-- a block would have to be read from the device first
abbrev pub is_cold_in : BlockState → Bool
is_cold_in s = is_mapped s.kind && (is_at_home s && not s.uptodate)

-- a block of this kind is lent with a caller's own page: to be written where it has space, to be read where it is mapped
abbrev pub is_lendable : Op → Kind → Bool
is_lendable Read kind = is_mapped kind
is_lendable Write kind = has_space kind

-- a part of a block is lent for a write where the block has space, is at home and clean, and need not be read first
abbrev pub is_lendable_in_part : BlockState → Bool
is_lendable_in_part s = has_space s.kind && (is_settled s && not (is_cold_in s))

-- a sector was taken exactly where this is so
abbrev pub took_just : Bool → Option ℕ → Bool
took_just t None = not t
took_just t (Some d) = t

-- What an event that came about found of block b. A refused one says nothing of it, and no event comes to what another comes to
abbrev pub found_by : ℕ → ℕ → Event → Outcome → BlockState → Bool
found_by size b _ (Refused fault) s = true
found_by size b (Sample block most) (Sampled sample) s = true
found_by size b (Reserve seen blocks) (Sampled sample) s = if in_run sample.extent.block sample.extent.length b then is_hole s.kind else true
found_by size b (Unreserve block blocks) (Counted n) s = true
found_by size b (Attach block blocks) (Took sectors) s = took_just (in_run block blocks b && (is_delalloc s.kind && s.dirty)) (taken_by b sectors)
found_by size b (Preallocate block blocks) (Took sectors) s = took_just (in_run block blocks b && not (has_space s.kind)) (taken_by b sectors)
found_by size b (Fetch by from to) Finished s = if is_met size from to b then keeps_page s.away && not (is_cold_in s) else true
found_by size b (LendRead block most) (Lending ticket n) s = if in_run block n b then is_cold_in s && not s.dirty else true
found_by size b (FillBack ticket block n done) Finished s = if in_run block n b then is_out ticket Reading s.away else true
found_by size b (Store by seen from to bytes) Finished s = if is_met size from to b then not (is_hole s.kind) && (keeps_page s.away && not (covers_in_part size from to b && is_cold_in s)) else true
found_by size b (StoreZeros by seen from to) Finished s = if is_met size from to b then keeps_page s.away && not (covers_in_part size from to b && is_cold_in s) else true
found_by size b (LendWriteback block most) (Lending ticket n) s = if in_run block n b then has_space s.kind && (is_at_home s && s.dirty) else true
found_by size b (WrittenBack ticket block kind n done) (Counted m) s = if in_run block n b then is_out ticket Writeback s.away && is_kind (kind_after kind (b - block)) s.kind else true
found_by size b (DropClean block blocks) (Counted n) s = true
found_by size b (LendDirect by seen op block n) (Lending ticket m) s = if in_run block n b then is_lendable op s.kind && is_settled s else true
found_by size b (LendDirect by seen op block n) Finished s = if in_run block n b then not (is_mapped s.kind) && is_settled s else true
found_by size b (LendPart by seen block from to) (Lending ticket m) s = if in_run block 1 b then is_lendable_in_part s else true
found_by size b (DirectBack by op ticket block kind pages done) Finished s =
    if in_run block (length pages) b then is_out ticket (Direct by op) s.away && is_kind (kind_after kind (b - block)) s.kind else true
found_by size b (PartBack by ticket block kind from to bytes done) Finished s = if in_run block 1 b then is_out ticket (InPart by from to) s.away && is_kind kind s.kind else true
found_by size b (DirectNow by block most) (Counted n) s = if in_run block n b then is_settled s else true
found_by size b (Wipe by block blocks) (Counted n) s = if in_run block blocks b then is_at_home s else true
found_by size b (DaxGet by seen from to) Finished s = if is_met size from to b then is_bare s else true
found_by size b (DaxPut by seen from to bytes) (Took sectors) s = took_just (is_met size from to b && is_hole s.kind) (taken_by b sectors) && (if is_met size from to b then is_bare s else true)
found_by size b (DaxZero by seen from to) Finished s = if is_met size from to b then is_bare s else true
found_by size b _ _ s = false

abbrev pub fits_by : ℕ → ℕ → Entry → BlockState → Bool
fits_by size b e s = found_by size b e.event e.outcome s

-- each entry found the block as those before it leave it
abbrev pub lawful_from : ℕ → ℕ → BlockState → List Entry → Bool
lawful_from size b s [] = true
lawful_from size b s (e ∷ history) = fits_by size b e s && lawful_from size b (state_after size b s e) history

-- a range's blocks are as an entry says that it found them
abbrev pub IsAsFound : ℕ → RangeView → Entry → Type 0
IsAsFound size r e = (i : ℕ) (c : Cell) → slice_get r.cells i ≡ Some c → fits_by size (r.first + i) e (state_of c) ≡ true

-- The history can have happened, from the blocks as which the range was opened
abbrev pub HasHappened : RangeView → List Entry → Type 0
HasHappened opening history = (i : ℕ) (c : Cell) → slice_get opening.cells i ≡ Some c → lawful_from opening.geometry.block_size (opening.first + i) (state_of c) history ≡ true
