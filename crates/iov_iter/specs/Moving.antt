use Rattle.std.specs.Prelude.{◌≡◌, ℕ, zero, suc, ◌+◌, ◌-◌, ◌*◌, min, nat_lt, Bool, true, false, List, [], ◌∷◌, ◌++◌, length, map, take, drop, if◌then◌else◌}
use Rattle.std.specs.List.{flat_map}
use Rattle.iob_base.specs.declared.sector.Page.{Page}
use Rattle.iov_iter.specs.IovView.{IovView, PagePlace, start_of, put_at}

-- the index of the page of a byte, or how many pages there are
abbrev pub page_of : List PagePlace → ℕ → ℕ
page_of [] b = 0
page_of (p ∷ ps) b = if nat_lt b p.size then 0 else suc (page_of ps (b - p.size))

-- the first n of these pages are there, at home and whole
abbrev pub AreWhole : ℕ → ℕ → List PagePlace → Type 0
AreWhole size zero ps = Unit {0}
AreWhole size (suc n) [] = ⊥
AreWhole size (suc n) (p ∷ ps) = (p.out ≡ false) × (p.size ≡ size) × AreWhole size n ps

-- the place is at a page's start, and the next n pages are at home and whole
pub record CanTake (v : IovView) (n : ℕ) : Type 0 where
  pub begins : start_of v.pages (page_of v.pages v.place) ≡ v.place
  pub ready : AreWhole v.page_size n (drop (page_of v.pages v.place) v.pages)

abbrev pub page : ℕ → List ℕ → Page
page number bytes = record { number = number; bytes = bytes }

-- the pages of these places, over their joined bytes
abbrev pub cut_pages : List PagePlace → List ℕ → List Page
cut_pages [] bytes = []
cut_pages (p ∷ ps) bytes = page p.number (take p.size bytes) ∷ cut_pages ps (drop p.size bytes)

-- a place whose page is out, or at home
abbrev pub marked : Bool → PagePlace → PagePlace
marked out p = record p { out = out }

-- the n places from the i-th on, so marked
abbrev pub marked_from : Bool → ℕ → ℕ → List PagePlace → List PagePlace
marked_from out i n pages = take i pages ++ map (marked out) (take n (drop i pages)) ++ drop (i + n) pages

-- the next n pages, with their bytes
abbrev pub next_pages : IovView → ℕ → List Page
next_pages v n = cut_pages (take n (drop (page_of v.pages v.place) v.pages)) (drop v.place v.bytes)

-- the iov without them, and past them
abbrev pub after_take : IovView → ℕ → IovView
after_take v n = record v {
  pages = marked_from true (page_of v.pages v.place) n v.pages;
  place = v.place + n * v.page_size;
}

-- a page may be put in a place: it has the place's number and a page's size, and the place is empty
pub record IsPageOf (size : ℕ) (p : PagePlace) (g : Page) : Type 0 where
  pub number : g.number ≡ p.number
  pub whole : length g.bytes ≡ size
  pub empty : p.out ≡ true

-- so each of these pages, in the first of these places
abbrev pub ArePagesOf : ℕ → List PagePlace → List Page → Type 0
ArePagesOf size ps [] = Unit {0}
ArePagesOf size [] (g ∷ gs) = ⊥
ArePagesOf size (p ∷ ps) (g ∷ gs) = IsPageOf size p g × ArePagesOf size ps gs

-- pages may be put from the i-th place on
abbrev pub CanPut : IovView → ℕ → List Page → Type 0
CanPut v i pages = ArePagesOf v.page_size (drop i v.pages) pages

abbrev pub page_bytes : List Page → List ℕ
page_bytes pages = flat_map (λ g. g.bytes) pages

-- the iov with pages in their places from the i-th on
abbrev pub after_put : IovView → ℕ → List Page → IovView
after_put v i pages = record v {
  bytes = put_at (start_of v.pages i) (page_bytes pages) v.bytes;
  pages = marked_from false i (length pages) v.pages;
}

-- the places of the first n bytes, the last of which is cut where these end
abbrev pub first_places : ℕ → List PagePlace → List PagePlace
first_places n [] = []
first_places zero (p ∷ ps) = []
first_places (suc n) (p ∷ ps) = record p { size = min (suc n) p.size } ∷ first_places (suc n - p.size) ps

-- one segment of the first n bytes
abbrev pub kept_first : ℕ → IovView → IovView
kept_first n v = record v { bytes = take n v.bytes; pages = first_places n v.pages; lengths = n ∷ [] }
