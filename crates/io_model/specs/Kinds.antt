use Rattle.std.specs.Prelude.{ℕ, Bool, true, false, ◌&&◌, ◌==◌, nat_le, nat_lt, ◌+◌, ◌-◌, List, [], ◌∷◌, Option, Some, None, if◌then◌else◌}
use Rattle.io_model.specs.declared.file.Kind.{Kind}
use Rattle.io_model.specs.declared.file.Kind.TheVariants.{Hole, Delalloc, Unwritten, Mapped}
use Rattle.io_model.specs.declared.file.Extent.{Extent}

-- the extent has this block
abbrev pub covers : Extent → ℕ → Bool
covers e b = nat_le e.block b && nat_lt b (e.block + e.length)

-- the kind of the i-th block of an extent: device numbers go on by one
abbrev pub kind_after : Kind → ℕ → Kind
kind_after Hole i = Hole
kind_after Delalloc i = Delalloc
kind_after (Unwritten d) i = Unwritten (d + i)
kind_after (Mapped d) i = Mapped (d + i)

-- the kind of a block: what the extent that has it says, and a hole where none has it
abbrev pub kind_at : List Extent → ℕ → Kind
kind_at [] b = Hole
kind_at (e ∷ es) b = if covers e b then kind_after e.kind (b - e.block) else kind_at es b

-- the device number of a kind that has space
abbrev pub device_number : Kind → Option ℕ
device_number Hole = None
device_number Delalloc = None
device_number (Unwritten d) = Some d
device_number (Mapped d) = Some d

-- the device number of a block whose bytes are its own
abbrev pub mapped_number : Kind → Option ℕ
mapped_number Hole = None
mapped_number Delalloc = None
mapped_number (Unwritten d) = None
mapped_number (Mapped d) = Some d

-- two kinds are equal
abbrev pub is_kind : Kind → Kind → Bool
is_kind Hole Hole = true
is_kind Delalloc Delalloc = true
is_kind (Unwritten d) (Unwritten e) = d == e
is_kind (Mapped d) (Mapped e) = d == e
is_kind _ _ = false
