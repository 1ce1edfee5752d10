-- A file cut into stripes.
use Rattle.std.specs.Prelude.{◌≡◌, ℕ, ◌+◌, ◌<◌, ◌≤◌, List, [], ◌∷◌, ◌++◌, length, take, drop, All, IsTrue}
use Rattle.iob_base.specs.DeviceBlock.{DeviceBlock}
use Rattle.io_model.specs.Fitting.{is_merged_from}
use Rattle.io_model.specs.declared.file.Extent.{Extent}
use Rattle.io_model.specs.declared.file.Kind.{Kind}
use Rattle.file_stripes.specs.Kinds.{LiesIn, kinds_from, numbers_of}
use Rattle.file_stripes.specs.Runs.{placed}
use Rattle.file_stripes.specs.Taking.{sector_numbers}
use Rattle.file_stripes.specs.declared.stripe.Stripe.{Stripe}

-- A stripe of the blocks of these kinds, from a block on: its extents are those of the merged list of the kinds that have
-- space, they give each block its kind, and its sectors are those of the blocks, in order.
pub record IsStripe (first : ℕ) (kinds : List Kind) (stripe : Stripe) : Type 0 where
  pub first_is : stripe.first ≡ first
  pub blocks_are : stripe.blocks ≡ length kinds
  pub some : 0 < stripe.blocks
  pub below : stripe.first + stripe.blocks ≤ 65536
  pub whole : List Extent
  pub merged : IsTrue (is_merged_from first (first + length kinds) whole)
  pub extents_are : stripe.extents ≡ placed whole
  pub kinds_are : kinds_from stripe.extents stripe.first stripe.blocks ≡ kinds
  pub inside : All (LiesIn stripe.first stripe.blocks) stripe.extents
  pub sectors_are : sector_numbers stripe.sectors ≡ numbers_of (kinds_from stripe.extents stripe.first stripe.blocks)
  pub few : length stripe.sectors ≤ stripe.blocks

-- stripes of so many blocks each, from a block on, that together have these kinds: the last has those that are left
abbrev pub AreStripes : ℕ → ℕ → List Kind → List Stripe → Type 0
AreStripes width b kinds [] = kinds ≡ []
AreStripes width b kinds (s ∷ ss) = IsStripe b (take width kinds) s × AreStripes width (b + width) (drop width kinds) ss

-- the kinds of the blocks of stripes, in order
abbrev pub kinds_in : List Stripe → List Kind
kinds_in [] = []
kinds_in (s ∷ ss) = kinds_from s.extents s.first s.blocks ++ kinds_in ss

-- the sectors of stripes, in order
abbrev pub sectors_in : List Stripe → List DeviceBlock
sectors_in [] = []
sectors_in (s ∷ ss) = s.sectors ++ sectors_in ss
