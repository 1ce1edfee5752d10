use Rattle.std.specs.Prelude.{ℕ, zero, suc, ◌+◌, ◌-◌, nat_le, List, [], ◌∷◌, if◌then◌else◌}
use Rattle.io_model.specs.Fitting.{could_be_joined}
use Rattle.io_model.specs.Kinds.{kind_after}
use Rattle.io_model.specs.declared.file.Extent.{Extent}

-- an extent and so many blocks more
abbrev pub longer : Extent → ℕ → Extent
longer e n = record e { length = e.length + n }

-- an extent in front of others, one with the first of them where it goes on with it
abbrev pub glue : Extent → List Extent → List Extent
glue e [] = e ∷ []
glue e (next ∷ es) = if could_be_joined e next then longer e next.length ∷ es else e ∷ next ∷ es

-- the i-th extent and the next are one where they could be joined
abbrev pub joined_at : ℕ → List Extent → List Extent
joined_at i [] = []
joined_at zero (e ∷ es) = glue e es
joined_at (suc i) (e ∷ es) = e ∷ joined_at i es

-- the blocks of an extent below b, and those from b on
abbrev pub below_part : Extent → ℕ → Extent
below_part e b = record e { length = b - e.block }

abbrev pub rest_part : Extent → ℕ → Extent
rest_part e b = record { block = b; length = e.length - (b - e.block); kind = kind_after e.kind (b - e.block) }

-- the part of an extent below b, if there is one, and the part from b on, if there is one
abbrev pub below_list : Extent → ℕ → List Extent
below_list e b = if nat_le b e.block then [] else below_part e b ∷ []

abbrev pub rest_list : Extent → ℕ → List Extent
rest_list e b = if nat_le e.length (b - e.block) then [] else rest_part e b ∷ []

-- extents in front of others, the last of them one with the first of the others where they could be joined
abbrev pub attach : List Extent → List Extent → List Extent
attach [] rest = rest
attach (e ∷ []) rest = glue e rest
attach (e ∷ next ∷ es) rest = e ∷ attach (next ∷ es) rest
