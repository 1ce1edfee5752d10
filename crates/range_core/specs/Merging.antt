use Rattle.std.specs.Prelude.{ℕ, ◌+◌, ◌<◌, List, [], ◌∷◌, if◌then◌else◌}
use Rattle.io_model.specs.Kinds.{kind_after, is_kind}
use Rattle.io_model.specs.declared.file.Extent.{Extent}
use Rattle.io_model.specs.declared.file.Kind.{Kind}

abbrev pub one_block : ℕ → Kind → Extent
one_block b kind = record { block = b; length = 1; kind = kind }

abbrev pub grown : Extent → Extent
grown e = record e { length = e.length + 1 }

-- the extents with the next block: it joins the last one where it goes on with it
abbrev pub with_block : List Extent → ℕ → Kind → List Extent
with_block [] b kind = one_block b kind ∷ []
with_block (e ∷ []) b kind = if is_kind (kind_after e.kind e.length) kind then grown e ∷ [] else e ∷ one_block b kind ∷ []
with_block (e ∷ f ∷ extents) b kind = e ∷ with_block (f ∷ extents) b kind

-- an extent has fewer blocks than a file may have
abbrev pub IsShort : Extent → Type 0
IsShort e = e.length < 65536
