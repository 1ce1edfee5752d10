-- Pages that a part of a block is laid over.
use Rattle.std.specs.Prelude.{◌≡◌, ℕ, List, length}
use Rattle.iob_base.specs.declared.sector.Page.{Page}
use Rattle.io_model.specs.Contents.{zeros}
use Rattle.io_model.specs.Effects.{overlay}
use Rattle.range_core.specs.declared.parts.BlockPart.{BlockPart}

-- a page of the cache that has a block's length, over whose part bytes can be laid as over zeros
pub record IsReadyFor (size : ℕ) (part : BlockPart) (p : Page) : Type 0 where
  pub number : p.number ≡ 18446744073709551615
  pub whole : length p.bytes ≡ size
  pub over : (xs : List ℕ) → length xs ≡ part.length → overlay part.at xs p.bytes ≡ overlay part.at xs (zeros size)
