-- How the range of a read is cut into parts.
use Rattle.std.specs.Prelude.{ℕ, ◌+◌, ◌*◌, ◌/◌, min, List}
use Rattle.iob_base.specs.Layout.{Layout}
use Rattle.iob_base.specs.declared.stamp.Stamp.{Stamp}
use Rattle.iob_base.specs.declared.stamp.Tag.{Tag}
use Rattle.io_model.specs.Parts.{Span, blocks_met, range_in, span_length}
use Rattle.range_core.specs.Stamps.{stamps_from}
use Rattle.range_core.specs.declared.entry.Event.{Event}
use Rattle.range_core.specs.declared.entry.Event.TheVariants.{Fetch}

-- where a read of so many bytes from an offset on ends, in a file that ends at a byte
abbrev pub read_to : ℕ → ℕ → ℕ → ℕ
read_to end off asked = off + span_length (range_in end off asked)

-- how many bytes a folio has
abbrev pub folio_size : Layout → ℕ
folio_size g = g.block_size * g.folio_blocks

-- where the part that begins at a place ends: with its folio, or with the range
abbrev pub part_end : Layout → ℕ → ℕ → ℕ
part_end g to at = min to ((at / folio_size g + 1) * folio_size g)

-- the event that reads the part that begins at a place
abbrev pub part_fetch : Layout → Tag → ℕ → ℕ → Event
part_fetch g by to at = Fetch by at (part_end g to at)

-- one stamp for each block that has bytes of a span
abbrev pub stamps_over : ℕ → Span → Stamp → List (ℕ × Stamp)
stamps_over size s stamp = stamps_from (s.from / size) (blocks_met size s) stamp
