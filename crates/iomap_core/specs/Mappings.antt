-- Mappings of ranges of a file, after the operations guide of iomap.
use Rattle.std.specs.Prelude.{◌≡◌, ℕ, ◌+◌, ◌<◌, ◌≤◌, ◌^◌, ◌⊎◌, Bool, true, false, is_some, Option, Some, None}
use Rattle.std.proofs.Common.{ap, inl, inr}
use Rattle.iob_base.specs.declared.stamp.FileId.{FileId}
use Rattle.iomap_core.specs.declared.mapping.Iomap.{Iomap}
use Rattle.iomap_core.specs.declared.mapping.IomapType.{IomapType}
use Rattle.iomap_core.specs.declared.mapping.IomapType.TheVariants.{Hole, Delalloc, Mapped, Unwritten}

-- bytes of this type have a place on the device
abbrev pub has_address : IomapType → Bool
has_address Hole = false
has_address Delalloc = false
has_address Mapped = true
has_address Unwritten = true

-- A begin at this position of this file may give this mapping: it covers the position, its end is a number of 64 bits, it has an address where its type has one, and it is not stale
pub record IsBegun (file : FileId) (pos : ℕ) (m : Iomap) : Type 0 where
  pub file_is : m.file ≡ file
  pub from : m.offset ≤ pos
  pub to : pos < m.offset + m.length
  pub fits : m.offset + m.length < 2 ^ 64
  pub addr : is_some m.addr ≡ has_address m.kind
  pub fresh : m.flags.stale ≡ false

-- the mapping, found stale
abbrev pub found_stale : Iomap → Iomap
found_stale m = record m { flags = record m.flags { stale = true } }

-- the second is the first mapping, of which the stale flag may have been set
abbrev pub IsSameMapping : Option Iomap → Iomap → Type 0
IsSameMapping None m = ⊥
IsSameMapping (Some was) m = (m ≡ was) ⊎ (m ≡ found_stale was)

-- a mapping that is found stale is still the same
pub stale-same : (was : Option Iomap) (m : Iomap) → IsSameMapping was m → IsSameMapping was (found_stale m)
stale-same None m same = same
stale-same (Some was) m same = elim same [ inl e ↦ inr (ap found_stale e) | inr e ↦ inr (ap found_stale e) ]
