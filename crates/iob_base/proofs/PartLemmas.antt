use Rattle.std.proofs.Common.{◌≡◌, ℕ, zero, suc, ◌+◌, ◌<◌, List, [], ◌∷◌, ◌++◌, All, length, map, replicate, get_or, take, drop, arith, refl, ap, ◌∙◌, length-take}
use Rattle.std.proofs.lemmas.List.{drop_more, get_or_at, length-map}
use Rattle.std.proofs.lemmas.List.Elements.{All-cons, All-nil}
use Rattle.iob_base.specs.Parting.{IsBare, bare_part, bare_parts, pages_of, without_sector}
use Rattle.iob_base.specs.declared.part.Part.{Part}
use Rattle.iob_base.specs.declared.sector.Page.{Page}

-- pages that go with no block have no block
pub bare_parts-bare : (pages : List Page) → All IsBare (bare_parts pages)
bare_parts-bare [] = All-nil IsBare
bare_parts-bare (p ∷ ps) = All-cons IsBare (bare_part p) (bare_parts ps) refl (bare_parts-bare ps)

-- and are those pages
pub pages_of-bare : (pages : List Page) → pages_of (bare_parts pages) ≡ pages
pages_of-bare [] = refl
pages_of-bare (p ∷ ps) = ap (λ l. p ∷ l) (pages_of-bare ps)

-- as many pages as parts
pub many_pages : (parts : List Part) → length (pages_of parts) ≡ length parts
many_pages parts = length-map parts (λ (p : Part). p.page)

-- the pages of as many parts that are alike
pub pages_of-alike : (n : ℕ) (page : Page) → pages_of (replicate n (bare_part page)) ≡ replicate n page
pages_of-alike zero page = refl
pages_of-alike (suc n) page = ap (λ l. page ∷ l) (pages_of-alike n page)

-- parts without their sectors have their pages
pub pages_of-without : (parts : List Part) → pages_of (map without_sector parts) ≡ pages_of parts
pages_of-without [] = refl
pages_of-without (p ∷ ps) = ap (λ l. p.page ∷ l) (pages_of-without ps)

-- and no block
pub without-bare : (parts : List Part) → All IsBare (map without_sector parts)
without-bare [] = All-nil IsBare
without-bare (p ∷ ps) = All-cons IsBare (without_sector p) (map without_sector ps) refl (without-bare ps)

-- an item that a loop over a list has not reached is as it was
pub read_rest : {X : Type 0} (f : X → X) (xs ys : List X) (i : ℕ) (x : X) → i < length xs → ys ≡ map f (take i xs) ++ drop i xs → x ≡ get_or ys i x → x ≡ get_or xs i x
read_rest f xs ys i x lt h is =
    let front = map f (take i xs) in
    let long : length front ≡ i = length-map (take i xs) f ∙ omega (arith, length-take i xs) in
    let parts : ys ≡ front ++ get_or xs i x ∷ drop (i + 1) xs = h ∙ ap (λ l. front ++ l) (drop_more xs i x lt) in
    is ∙ ap (λ l. get_or l i x) parts ∙ get_or_at front _ _ x i long
