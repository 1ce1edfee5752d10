-- Runs of blocks, and runs of bytes in them.
use Rattle.std.specs.Prelude.{ℕ, Bool, ◌&&◌, ◌+◌, ◌-◌, ◌*◌, ◌/◌, List, nat_le, nat_lt}
use Rattle.io_model.specs.Contents.{Content}
use Rattle.io_model.specs.Effects.{overlay}
use Rattle.io_model.specs.Lists.{bytes_between}
use Rattle.io_model.specs.Parts.{span, part_in, meets}

-- a block is one of so many from `low` on
abbrev pub in_run : ℕ → ℕ → ℕ → Bool
in_run low blocks b = nat_le low b && nat_lt b (low + blocks)

-- how many blocks of this size have bytes from one place up to another
abbrev pub blocks_met : ℕ → ℕ → ℕ → ℕ
blocks_met size from to = (to - 1) / size + 1 - from / size

-- a block has bytes from one place up to another
abbrev pub is_met : ℕ → ℕ → ℕ → ℕ → Bool
is_met size from to b = meets size (span from to) b

-- the bytes of a block's content that lie from one place of the file up to another
abbrev pub bytes_of_part : ℕ → ℕ → ℕ → ℕ → Content → List ℕ
bytes_of_part size from to b content =
    let part = part_in size (span from to) b in
    bytes_between (part.from - b * size) (part.to - b * size) content

-- a block's content with its part of the bytes that go from one place up to another
abbrev pub overlaid : ℕ → ℕ → ℕ → List ℕ → ℕ → Content → Content
overlaid size from to bytes b content =
    let part = part_in size (span from to) b in
    overlay (part.from - b * size) (bytes_between (part.from - from) (part.to - from) bytes) content
