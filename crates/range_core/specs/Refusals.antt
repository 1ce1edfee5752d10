-- What an event is refused for, as a function of the range at its turn. Want of memory or of space, and a transfer that failed, come only where there is none of these.
use Rattle.std.specs.Prelude.{ℕ, ◌+◌, ◌*◌, ◌/◌, Bool, true, false, ◌&&◌, ◌||◌, not, ◌==◌, nat_le, nat_lt, is_none, Option, Some, None, List, [], ◌∷◌, take, if◌then◌else◌}
use Rattle.std.specs.List.{list_any}
use Rattle.iob_base.specs.declared.TheConstants.{WORN}
use Rattle.iob_base.specs.declared.stamp.Op.{Op}
use Rattle.iob_base.specs.declared.stamp.Op.TheVariants.{Read, Write}
use Rattle.io_model.specs.declared.file.Kind.{Kind}
use Rattle.range_core.specs.Kinds.{has_space, is_delalloc, is_hole, is_mapped, is_unwritten}
use Rattle.range_core.specs.RangeView.{RangeView, cells_from}
use Rattle.range_core.specs.Spots.{blocks_met}
use Rattle.range_core.specs.declared.cell.Cell.{Cell}
use Rattle.range_core.specs.declared.fault.EventFault.{EventFault}
use Rattle.range_core.specs.declared.fault.EventFault.TheVariants.{Stale, Away, Cold, Settled, Unattached, Dirty, Worn}
use Rattle.range_core.specs.declared.lending.Away.{Away as AwayOn}
use Rattle.range_core.specs.declared.lending.Lender.{Lender}
use Rattle.range_core.specs.declared.lending.Lender.TheVariants.{Writeback}
use Rattle.range_core.specs.declared.sample.Sample.{Sample}

-- the first of two refusals
infixr 30 ◌orElse◌
abbrev pub ◌orElse◌ : Option EventFault → Option EventFault → Option EventFault
None orElse other = other
(Some fault) orElse other = Some fault

abbrev pub where_true : Bool → EventFault → Option EventFault
where_true t fault = if t then Some fault else None

-- the first of these blocks, the first of which is b, that hinders
abbrev pub first_that_stops : (ℕ → Cell → Option EventFault) → ℕ → List Cell → Option EventFault
first_that_stops stops b [] = None
first_that_stops stops b (c ∷ cells) = stops b c orElse first_that_stops stops (b + 1) cells

abbrev pub run_of : RangeView → ℕ → ℕ → List Cell
run_of r b n = take n (cells_from r b)

-- the sample is of another cookie
abbrev pub stale : RangeView → Sample → Option EventFault
stale r seen = where_true (not (seen.cookie == r.cookie)) (Stale seen.cookie r.cookie)

-- the event would use a cookie, and there is none left
abbrev pub worn : RangeView → Bool → Option EventFault
worn r uses = where_true (uses && nat_le WORN r.cookie) (Worn r.cookie)

-- the block is away
abbrev pub away_at : ℕ → Option AwayOn → Option EventFault
away_at b None = None
away_at b (Some away) = Some (Away b away.ticket)

abbrev pub away : ℕ → Cell → Option EventFault
away b c = away_at b c.away

-- the block is away, and its page with it: for writeback the page stays
abbrev pub pageless_at : ℕ → Option AwayOn → Option EventFault
pageless_at b None = None
pageless_at b (Some lent) = by_lender lent.lender
  where
    by_lender : Lender → Option EventFault
    by_lender Writeback = None
    by_lender _ = Some (Away b lent.ticket)

abbrev pub away_with_page : ℕ → Cell → Option EventFault
away_with_page b c = pageless_at b c.away

-- the block would have to be read from the device first
abbrev pub is_cold : Cell → Bool
is_cold c = is_mapped c.kind && (is_none c.away && is_none c.page)

abbrev pub cold : ℕ → Cell → Option EventFault
cold b c = where_true (is_cold c) (Cold b)

abbrev pub dirty : ℕ → Cell → Option EventFault
dirty b c = where_true c.dirty (Dirty b)

-- the same of a block that bytes from one place up to another cover in part
abbrev pub covers_in_part : ℕ → ℕ → ℕ → ℕ → Bool
covers_in_part size from to b = nat_lt (b * size) from || nat_lt to ((b + 1) * size)

abbrev pub cold_in_part : ℕ → ℕ → ℕ → ℕ → Cell → Option EventFault
cold_in_part size from to b c = where_true (covers_in_part size from to b && is_cold c) (Cold b)

abbrev pub met : RangeView → ℕ → ℕ → List Cell
met r from to = run_of r (from / r.geometry.block_size) (blocks_met r.geometry.block_size from to)

-- the first of the blocks from b on
abbrev pub at_first : (ℕ → Cell → Option EventFault) → RangeView → ℕ → Option EventFault
at_first stops r b = first_that_stops stops b (run_of r b 1)

abbrev pub some_block : (Cell → Bool) → RangeView → ℕ → ℕ → Bool
some_block p r b n = list_any p (run_of r b n)

abbrev pub reserve_refusal : RangeView → Sample → Option EventFault
reserve_refusal r seen = stale r seen orElse worn r true

abbrev pub attach_refusal : RangeView → ℕ → ℕ → Option EventFault
attach_refusal r b n = worn r (some_block (λ c. is_delalloc c.kind && c.dirty) r b n)

abbrev pub preallocate_refusal : RangeView → ℕ → ℕ → Option EventFault
preallocate_refusal r b n = worn r (some_block (λ c. not (has_space c.kind)) r b n)

abbrev pub fetch_refusal : RangeView → ℕ → ℕ → Option EventFault
fetch_refusal r from to =
    let b = from / r.geometry.block_size in first_that_stops away_with_page b (met r from to) orElse first_that_stops cold b (met r from to)

-- nothing is to be read at a block that is uptodate or not mapped
abbrev pub warm : ℕ → Cell → Option EventFault
warm b c = where_true (not (is_cold c)) (Settled b)

abbrev pub lend_read_refusal : RangeView → ℕ → Option EventFault
lend_read_refusal r b = at_first away r b orElse at_first warm r b

abbrev pub store_refusal : RangeView → Sample → ℕ → ℕ → Option EventFault
store_refusal r seen from to =
    let b = from / r.geometry.block_size in
    stale r seen orElse first_that_stops away_with_page b (met r from to) orElse first_that_stops (cold_in_part r.geometry.block_size from to) b (met r from to)

-- nothing is to be written of a block that is clean, and nowhere to a block without space
abbrev pub not_ready : ℕ → Cell → Option EventFault
not_ready b c = where_true (not c.dirty) (Settled b) orElse where_true (is_delalloc c.kind) (Unattached b)

abbrev pub lend_writeback_refusal : RangeView → ℕ → Option EventFault
lend_writeback_refusal r b = at_first away r b orElse at_first not_ready r b orElse worn r (some_block (λ c. is_unwritten c.kind) r b 1)

-- a direct write into space that was never written will change its kind
abbrev pub will_convert : Op → Kind → Bool
will_convert Read kind = false
will_convert Write kind = is_unwritten kind

abbrev pub lend_direct_refusal : RangeView → Sample → Op → ℕ → ℕ → Option EventFault
lend_direct_refusal r seen op b n =
    stale r seen orElse first_that_stops away b (run_of r b n) orElse first_that_stops dirty b (run_of r b n) orElse worn r (will_convert op seen.extent.kind)

-- the same of a write of a part of one block, the block of the first byte. Around the part a mapped block's page is needed
abbrev pub lend_part_refusal : RangeView → Sample → ℕ → Option EventFault
lend_part_refusal r seen b = stale r seen orElse at_first away r b orElse at_first cold r b orElse at_first dirty r b orElse worn r (will_convert Write seen.extent.kind)

abbrev pub direct_now_refusal : RangeView → ℕ → Option EventFault
direct_now_refusal r b = at_first away r b orElse at_first dirty r b

abbrev pub wipe_refusal : RangeView → ℕ → ℕ → Option EventFault
wipe_refusal r b n = first_that_stops away b (run_of r b n) orElse worn r (some_block (λ c. not (is_hole c.kind)) r b n)

abbrev pub dax_put_refusal : RangeView → Sample → Option EventFault
dax_put_refusal r seen = stale r seen orElse worn r (not (is_mapped seen.extent.kind))
