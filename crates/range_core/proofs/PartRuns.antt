-- How a list of parts is gone through, sector by sector.
use Rattle.std.proofs.Common.{◌≡◌, ℕ, zero, suc, ◌+◌, Some, List, [], ◌∷◌, map, drop, get_or, All, arith, refl, sym, ap, ◌∙◌, add-zero}
use Rattle.std.specs.Prelude.{slice_get}
use Rattle.std.proofs.lemmas.List.{drop-drop, get_or-drop}
use Rattle.std.proofs.lemmas.List.Elements.{All-tail}
use Rattle.iob_base.specs.DeviceBlock.{DeviceBlock}
use Rattle.iob_base.specs.Parting.{IsBare, bare_part, bare_parts, pages_of}
use Rattle.iob_base.specs.declared.part.Part.{Part}
use Rattle.range_core.specs.LendDirects.{part_zeroed}
use Rattle.range_core.specs.Pages.{zeroed_page}

-- a list of pages with no block, all zeros now
pub zeroed-bare : (parts : List Part) → All IsBare parts → map part_zeroed parts ≡ bare_parts (map zeroed_page (pages_of parts))
zeroed-bare [] h = refl
zeroed-bare (p ∷ ps) h =
    let none : p.sector ≡ (bare_part p.page).sector = h 0 p (omega arith) in
    let P : DeviceBlock → Part = λ s. record { sector = s; page = zeroed_page p.page } in
    ap (λ q. q ∷ map part_zeroed ps) (ap P none) ∙ ap (λ l. bare_part (zeroed_page p.page) ∷ l) (zeroed-bare ps (All-tail IsBare p ps h))

-- lists that agree from one place on agree in its item
pub same_item : {X : Type 0} (xs ys : List X) (i : ℕ) (d : X) → drop i xs ≡ drop i ys → get_or xs i d ≡ get_or ys i d
same_item xs ys i d e =
    ap (λ k. get_or xs k d) (sym (add-zero i)) ∙ sym (get_or-drop i xs 0 d) ∙ ap (λ l. get_or l 0 d) e ∙ get_or-drop i ys 0 d ∙ ap (λ k. get_or ys k d) (add-zero i)

-- and from the next one on
pub same_rest : {X : Type 0} (xs ys : List X) (i : ℕ) → drop i xs ≡ drop i ys → drop (i + 1) xs ≡ drop (i + 1) ys
same_rest xs ys i e = sym (drop-drop 1 i xs) ∙ ap (drop 1) e ∙ drop-drop 1 i ys

-- the page of a part, among the pages
pub page_at : (k : ℕ) (parts : List Part) (part : Part) → slice_get parts k ≡ Some part → slice_get (pages_of parts) k ≡ Some part.page
page_at k [] part e = absurd (cc)
page_at zero (x ∷ parts) part e = let is : x ≡ part = cc in ap (λ (q : Part). Some q.page) is
page_at (suc k) (x ∷ parts) part e = page_at k parts part e
