-- Bytes are laid over the sectors of blocks, past the page cache.
use Rattle.std.specs.Prelude.{Option, Some, None, length, if◌then◌else◌}
use Rattle.iob_base.specs.DeviceBlock.{DeviceBlock}
use Rattle.io_model.specs.Contents.{Content, zeros}
use Rattle.range_core.specs.Kinds.{is_mapped, is_unwritten, written_kind}
use Rattle.range_core.specs.declared.cell.Cell.{Cell}

-- a sector with its bytes changed, where there is one
abbrev pub on_sector : (Content → Content) → Option DeviceBlock → Option DeviceBlock
on_sector f None = None
on_sector f (Some s) = Some (record s { bytes = f s.bytes })

-- a block with the bytes of its sector changed
abbrev pub through : (Content → Content) → Cell → Cell
through f c = record c { sector = on_sector f c.sector }

-- the same of a mapped block, and any other as it is
abbrev pub where_mapped : (Content → Content) → Cell → Cell
where_mapped f c = if is_mapped c.kind then through f c else c

-- as many zeros
abbrev pub blanked : Content → Content
blanked x = zeros (length x)

-- a block with space that was never written is mapped, with zeros in its sector, and any other stays as it is
abbrev pub made_mapped : Cell → Cell
made_mapped c = if is_unwritten c.kind then record (through blanked c) { kind = written_kind c.kind } else c
