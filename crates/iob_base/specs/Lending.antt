use Rattle.std.specs.Prelude.{List, ℕ, length}
use Rattle.std.specs.List.{refill}
use Rattle.std.specs.Borrow.{Lends, MutBor, Fml, Array, u8}
use Rattle.iob_base.specs.DeviceBlock.{DeviceBlock}
use Rattle.iob_base.specs.contracts.part.Part.{the_row as part_row}
use Rattle.iob_base.specs.contracts.part.Parts.{the_row as parts_row}
use Rattle.iob_base.specs.contracts.sector.Sector.{the_row}
use Rattle.iob_base.specs.declared.part.Part.{Part}

-- a block with its bytes written anew: their number stays
abbrev pub with_bytes : DeviceBlock → List ℕ → DeviceBlock
with_bytes d bytes = record d { bytes = refill (length d.bytes) d.bytes bytes }

-- the block ends with the bytes that were last behind the slice
abbrev pub LendsBytes : MutBor DeviceBlock → MutBor (List ℕ) → Fml
LendsBytes block slice = Lends the_row (Array u8 0) block slice (with_bytes block.now)

-- parts written anew: there are as many as before
abbrev pub with_parts : List Part → List Part → List Part
with_parts old new = refill (length old) old new

-- the list ends with the parts that were last behind the slice
abbrev pub LendsParts : MutBor (List Part) → MutBor (List Part) → Fml
LendsParts parts slice = Lends parts_row (Array part_row 0) parts slice (with_parts parts.now)
