use Rattle.std.specs.Prelude.{ℕ}

-- the sizes that a device and its cache are cut by: bytes in a block, blocks in a folio, and the bytes
-- that offsets and segments of direct calls are multiples of
pub record Layout : Type 0 where
  pub block_size : ℕ
  pub folio_blocks : ℕ
  pub grain : ℕ

-- sizes whose grain is the block size
abbrev pub layout : ℕ → ℕ → Layout
layout size blocks = record { block_size = size; folio_blocks = blocks; grain = size }

-- sizes with a grain of their own
abbrev pub layout_with_grain : ℕ → ℕ → ℕ → Layout
layout_with_grain size blocks grain = record { block_size = size; folio_blocks = blocks; grain = grain }
