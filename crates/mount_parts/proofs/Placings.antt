-- Files lie one after the other.
use Rattle.std.proofs.Common.{◌≡◌, ℕ, ◌+◌, ◌<◌, get_or, Option, Some, None, List, [], ◌∷◌, ◌++◌, length, drop, refl, sym, ap, ◌∙◌, arith}
use Rattle.std.proofs.lemmas.List.{append_assoc, drop_more}
use Rattle.io_model.specs.declared.file.FileSpec.{FileSpec}
use Rattle.mount_parts.specs.MountView.{IsNumbered, LieInOrder, size_cells, stripes_of}
use Rattle.mount_parts.specs.FilePlaces.{place_of, places_from, sized_at, sizes_of_files, stripes_of_files}
use Rattle.mount_parts.specs.declared.file.FilePlace.{FilePlace}

pub place-next : (files : List FileSpec) (i stripe cell stripe' cell' : ℕ) (f : FileSpec) (places places' : List FilePlace) → i < length files → f ≡ get_or files i f → places ++ places_from stripe cell (drop i files) ≡ places_from 0 0 files
    → places' ≡ places ++ place_of f stripe cell ∷ [] → stripe' ≡ stripe + stripes_of f.blocks → cell' ≡ cell + size_cells (sized_at f.size cell) → places' ++ places_from stripe' cell' (drop (i + 1) files) ≡ places_from 0 0 files
place-next files i stripe cell stripe' cell' f places places' below is so made s n =
    let rest : List FileSpec = drop (i + 1) files in
    let here : drop i files ≡ f ∷ rest = drop_more files i f below ∙ ap (λ g. g ∷ rest) (sym is) in
    ap (λ l. l ++ places_from stripe' cell' rest) made ∙ append_assoc places (place_of f stripe cell ∷ []) (places_from stripe' cell' rest)
    ∙ ap (λ x. places ++ place_of f stripe cell ∷ places_from x cell' rest) s ∙ ap (λ x. places ++ place_of f stripe cell ∷ places_from (stripe + stripes_of f.blocks) x rest) n
    ∙ ap (λ l. places ++ places_from stripe cell l) (sym here) ∙ so

cells-alike : (size : Option ℕ) (m n : ℕ) → size_cells (sized_at size m) ≡ size_cells (sized_at size n)
cells-alike None m n = refl
cells-alike (Some s) m n = refl

numbered : (size : Option ℕ) (n : ℕ) → IsNumbered n (sized_at size n)
numbered None n = tt
numbered (Some s) n = refl

pub lie-in-order : (stripe cell : ℕ) (fs : List FileSpec) (stripes cells : ℕ) → stripes ≡ stripe + stripes_of_files fs → cells ≡ cell + sizes_of_files fs → LieInOrder stripe cell (places_from stripe cell fs) stripes cells
lie-in-order stripe cell [] stripes cells s n = (omega arith, omega arith)
lie-in-order stripe cell (f ∷ fs) stripes cells s n =
    (refl, numbered f.size cell, lie-in-order (stripe + stripes_of f.blocks) (cell + size_cells (sized_at f.size cell)) fs stripes cells (omega arith) (omega (arith, cells-alike f.size cell 0)))
