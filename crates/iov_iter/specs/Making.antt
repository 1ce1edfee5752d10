use Rattle.std.specs.Prelude.{ℕ, zero, suc, ◌/◌, ◌%◌, ◌≤◌, false, List, [], ◌∷◌, ◌++◌, length, map, replicate, Vec}
use Rattle.std.specs.List.{flat_map}
use Rattle.iov_iter.specs.IovView.{IovView, PagePlace}

-- a page has from 16 to 4096 bytes, as a block of the device has
pub record IsPageSize (size : ℕ) : Type 0 where
  pub least : 16 ≤ size
  pub most : size ≤ 4096

-- what is left over is a page of its own, if there is any
abbrev pub rest_size : ℕ → List ℕ
rest_size zero = []
rest_size (suc n) = suc n ∷ []

-- the pages of a segment: all have the page size but the last, which has what is left over
abbrev pub page_sizes : ℕ → ℕ → List ℕ
page_sizes size n = replicate (n / size) size ++ rest_size (n % size)

-- the pages of all segments, in order
abbrev pub sizes_of : ℕ → List ℕ → List ℕ
sizes_of size lengths = flat_map (page_sizes size) lengths

-- pages of these sizes, all at home, with numbers from this one on
abbrev pub numbered : ℕ → List ℕ → List PagePlace
numbered k [] = []
numbered k (x ∷ xs) = record { number = k; size = x; out = false } ∷ numbered (suc k) xs

-- an iov of segments of these lengths with these bytes, at its start
abbrev pub iov_of : ℕ → ℕ → List ℕ → List ℕ → IovView
iov_of size first lengths bytes =
    record { page_size = size; bytes = bytes; pages = numbered first (sizes_of size lengths); lengths = lengths; place = 0 }

-- the lengths of segments, and their bytes one after another
abbrev pub lengths_of : {A : Type 0} → List (Vec ℕ A) → List ℕ
lengths_of segments = map (λ s. length s.items) segments

abbrev pub bytes_in : {A : Type 0} → List (Vec ℕ A) → List ℕ
bytes_in segments = flat_map (λ s. s.items) segments
