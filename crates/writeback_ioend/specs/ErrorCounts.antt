-- How many failed writebacks of each file a caller has been told of.
use Rattle.std.specs.Prelude.{ℕ, max, List, [], ◌∷◌, get_or}
use Rattle.iob_base.specs.declared.stamp.FileId.{FileId}

-- how many of a file, in the place of its number
abbrev pub count_of : List ℕ → FileId → ℕ
count_of counts file = get_or counts file.0 0

-- of each file the greater count of two callers
abbrev pub greater_counts : List ℕ → List ℕ → List ℕ
greater_counts (a ∷ rest) (b ∷ others) = max a b ∷ greater_counts rest others
greater_counts _ _ = []
