use Rattle.std.specs.Prelude.{ℕ, zero, suc, ◌+◌, ◌≤◌, ◌^◌, Bool, true, false, is_some, List, [], ◌∷◌, IfSome}
use Rattle.std.specs.List.{filter_map}
use Rattle.io_model.specs.Kinds.{kind_at, device_number, is_kind, mapped_number}
use Rattle.io_model.specs.declared.file.Kind.{Kind}
use Rattle.io_model.specs.declared.file.Kind.TheVariants.{Hole, Delalloc, Unwritten, Mapped}
use Rattle.io_model.specs.declared.file.Extent.{Extent}

-- the device numbers of an extent are numbers of a device
abbrev pub HasNumbers : Extent → Type 0
HasNumbers e = IfSome (device_number e.kind) (λ d. d + e.length ≤ 2 ^ 32)

-- a block of this kind has a sector
abbrev pub has_space : Kind → Bool
has_space k = is_some (device_number k)

-- the kinds of so many blocks from one on, as the extents give them
abbrev pub kinds_from : List Extent → ℕ → ℕ → List Kind
kinds_from extents b zero = []
kinds_from extents b (suc n) = kind_at extents b ∷ kinds_from extents (b + 1) n

-- the device numbers of these kinds, in order
abbrev pub numbers_of : List Kind → List ℕ
numbers_of kinds = filter_map device_number kinds

-- a block of this kind has bytes of its own on the device
abbrev pub is_mapped : Kind → Bool
is_mapped k = is_some (mapped_number k)

abbrev pub is_delalloc : Kind → Bool
is_delalloc k = is_kind k Delalloc

-- the kind of a block that was written, where it has space
abbrev pub written_kind : Kind → Kind
written_kind Hole = Hole
written_kind Delalloc = Delalloc
written_kind (Unwritten d) = Mapped d
written_kind (Mapped d) = Mapped d

abbrev pub is_unwritten : Kind → Bool
is_unwritten Hole = false
is_unwritten Delalloc = false
is_unwritten (Unwritten d) = true
is_unwritten (Mapped d) = false

abbrev pub is_hole : Kind → Bool
is_hole k = is_kind k Hole
