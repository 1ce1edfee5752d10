use Rattle.std.specs.Prelude.{ℕ, zero, suc, ◌+◌, Bool, List, [], ◌∷◌, ◌++◌, length, map, take, drop}

-- the place of a page in an iov: the number and the bytes' count of its page, and whether the page is out
pub record PagePlace : Type 0 where
  pub number : ℕ
  pub size : ℕ
  pub out : Bool

-- what contracts see of an iov: the joined bytes of all its segments, also of pages that are out, the
-- places of its pages in order, how many bytes each segment has, and how far a caller has come
pub record IovView : Type 0 where
  pub page_size : ℕ
  pub bytes : List ℕ
  pub pages : List PagePlace
  pub lengths : List ℕ
  pub place : ℕ

-- how many bytes each page has
abbrev pub sizes : List PagePlace → List ℕ
sizes pages = map (λ p. p.size) pages

-- where the i-th of parts of these sizes begins
abbrev pub start_in : List ℕ → ℕ → ℕ
start_in xs zero = 0
start_in [] (suc i) = 0
start_in (x ∷ xs) (suc i) = x + start_in xs i

-- the first byte of the i-th page
abbrev pub start_of : List PagePlace → ℕ → ℕ
start_of pages i = start_in (sizes pages) i

-- bytes written over others, from a place on
abbrev pub put_at : ℕ → List ℕ → List ℕ → List ℕ
put_at at xs bytes = take at bytes ++ xs ++ drop (at + length xs) bytes

-- an iov with other bytes, or at another place
abbrev pub with_bytes : List ℕ → IovView → IovView
with_bytes bytes v = record v { bytes = bytes }

abbrev pub moved_to : ℕ → IovView → IovView
moved_to place v = record v { place = place }

-- after so many bytes were written at the place, which moves on by them
abbrev pub written_on : List ℕ → IovView → IovView
written_on from v = record v { bytes = put_at v.place from v.bytes; place = v.place + length from }
