use Rattle.std.proofs.Common.{◌≡◌, ℕ, zero, suc, ◌+◌, ◌-◌, ◌<◌, List, [], ◌∷◌, ◌++◌, length, map, get_or, All, IfSome, append_assoc, add-zero, arith, refl, sym, ◌∙◌, ap, subst}
use Rattle.iob_base.specs.DeviceBlock.{DeviceBlock}
use Rattle.io_model.specs.Kinds.{kind_at}
use Rattle.io_model.specs.declared.file.Extent.{Extent}
use Rattle.io_model.specs.declared.file.Kind.{Kind}
use Rattle.io_model.specs.declared.file.Kind.TheVariants.{Hole, Delalloc, Unwritten, Mapped}
use Rattle.std.proofs.lemmas.List.Elements.{All-cons, All-nil, All-tail}
use Rattle.range_core.specs.Cells.{IsPlaced, cell_of, cells_of, sectors_after}
use Rattle.range_core.specs.Kinds.{kinds_from, numbers_of}
use Rattle.range_core.specs.declared.cell.Cell.{Cell}

glue : (all cells new tail more : List Cell) (x : Cell) → all ≡ cells ++ more → more ≡ x ∷ tail → new ≡ cells ++ x ∷ [] → all ≡ new ++ tail
glue all cells new tail more x e m p =
    e ∙ ap (λ ys. cells ++ ys) m ∙ sym (append_assoc cells (x ∷ []) tail) ∙ ap (λ ys. ys ++ tail) (sym p)

-- one more block of a range
pub cells_of-next : (extents : List Extent) (first i n : ℕ) (sectors rest : List DeviceBlock) (all cells new : List Cell) (kind : Kind) → i < n → all ≡ cells ++ cells_of (kinds_from extents (first + i) (n - i)) sectors → kind ≡ kind_at extents (first + i) → new ≡ cells ++ cell_of kind sectors ∷ [] → rest ≡ sectors_after kind sectors → all ≡ new ++ cells_of (kinds_from extents (first + (i + 1)) (n - (i + 1))) rest
cells_of-next extents first i n sectors rest all cells new kind h e k p r =
    let m : n - i ≡ suc (n - (i + 1)) = omega arith in
    let at : first + i + 1 ≡ first + (i + 1) = omega arith in
    let tail : List DeviceBlock → List Cell = λ ss. cells_of (kinds_from extents (first + (i + 1)) (n - (i + 1))) ss in
    let next : cells_of (kinds_from extents (first + i) (n - i)) sectors ≡ cell_of (kind_at extents (first + i)) sectors ∷ tail (sectors_after (kind_at extents (first + i)) sectors) =
    ap (λ j. cells_of (kinds_from extents (first + i) j) sectors) m
    ∙ ap (λ j. cell_of (kind_at extents (first + i)) sectors ∷ cells_of (kinds_from extents j (n - (i + 1))) (sectors_after (kind_at extents (first + i)) sectors)) at in
    let here : cells_of (kinds_from extents (first + i) (n - i)) sectors ≡ cell_of kind sectors ∷ tail rest =
    next ∙ ap (λ q. cell_of q sectors ∷ tail (sectors_after q sectors)) (sym k) ∙ ap (λ ss. cell_of kind sectors ∷ tail ss) (sym r) in
    glue all cells new _ _ _ e here p

-- blocks with the sectors of their kinds are at home
pub cells_of-home : (size : ℕ) (kinds : List Kind) (sectors : List DeviceBlock) → map (λ s. s.number) sectors ≡ numbers_of kinds → All (λ s. length s.bytes ≡ size) sectors → All (IsPlaced size) (cells_of kinds sectors)
cells_of-home size [] sectors e w = All-nil (IsPlaced size)
cells_of-home size (Hole ∷ kinds) sectors e w = All-cons (IsPlaced size) _ _ refl (cells_of-home size kinds sectors e w)
cells_of-home size (Delalloc ∷ kinds) sectors e w = All-cons (IsPlaced size) _ _ refl (cells_of-home size kinds sectors e w)
cells_of-home size (Unwritten d ∷ kinds) [] e w = absurd (cc)
cells_of-home size (Unwritten d ∷ kinds) (s ∷ sectors) e w =
    let is : s.number ≡ d = cc in
    let others : map (λ s. s.number) sectors ≡ numbers_of kinds = cc in
    All-cons (IsPlaced size) _ _ (record { is = is; whole = w 0 s (omega arith) })
    (cells_of-home size kinds sectors others (λ k x h. w (suc k) x (omega arith)))
cells_of-home size (Mapped d ∷ kinds) [] e w = absurd (cc)
cells_of-home size (Mapped d ∷ kinds) (s ∷ sectors) e w =
    let is : s.number ≡ d = cc in
    let others : map (λ s. s.number) sectors ≡ numbers_of kinds = cc in
    All-cons (IsPlaced size) _ _ (record { is = is; whole = w 0 s (omega arith) })
    (cells_of-home size kinds sectors others (λ k x h. w (suc k) x (omega arith)))

-- so many kinds, and as many blocks
pub length-kinds_from : (extents : List Extent) (b n : ℕ) → length (kinds_from extents b n) ≡ n
length-kinds_from extents b zero = refl
length-kinds_from extents b (suc n) = ap suc (length-kinds_from extents (b + 1) n)

pub length-cells_of : (kinds : List Kind) (sectors : List DeviceBlock) → length (cells_of kinds sectors) ≡ length kinds
length-cells_of [] sectors = refl
length-cells_of (kind ∷ kinds) sectors = ap suc (length-cells_of kinds (sectors_after kind sectors))

pub homes_of : (size : ℕ) (kinds : List Kind) (sectors : List DeviceBlock) (cells : List Cell) → cells ≡ cells_of kinds sectors → map (λ s. s.number) sectors ≡ numbers_of kinds → All (λ s. length s.bytes ≡ size) sectors → All (IsPlaced size) cells
homes_of size kinds sectors cells are e w =
    let P : List Cell → Type 0 = λ xs. All (IsPlaced size) xs in subst P (sym are) (cells_of-home size kinds sectors e w)

-- what holds of every sector holds of those that the blocks have
pub cells_of-hold : (P : DeviceBlock → Type 0) (kinds : List Kind) (sectors : List DeviceBlock) → All P sectors → All (λ c. IfSome c.sector P) (cells_of kinds sectors)
cells_of-hold P [] sectors h = All-nil (λ c. IfSome c.sector P)
cells_of-hold P (Hole ∷ kinds) sectors h = All-cons (λ c. IfSome c.sector P) _ _ tt (cells_of-hold P kinds sectors h)
cells_of-hold P (Delalloc ∷ kinds) sectors h = All-cons (λ c. IfSome c.sector P) _ _ tt (cells_of-hold P kinds sectors h)
cells_of-hold P (Unwritten d ∷ kinds) [] h = All-cons (λ c. IfSome c.sector P) _ _ tt (cells_of-hold P kinds [] h)
cells_of-hold P (Unwritten d ∷ kinds) (s ∷ sectors) h =
    All-cons (λ c. IfSome c.sector P) _ _ (h 0 s (omega arith)) (cells_of-hold P kinds sectors (All-tail P s sectors h))
cells_of-hold P (Mapped d ∷ kinds) [] h = All-cons (λ c. IfSome c.sector P) _ _ tt (cells_of-hold P kinds [] h)
cells_of-hold P (Mapped d ∷ kinds) (s ∷ sectors) h =
    All-cons (λ c. IfSome c.sector P) _ _ (h 0 s (omega arith)) (cells_of-hold P kinds sectors (All-tail P s sectors h))

-- the blocks have the kinds that they were made of
pub kinds-cells_of : (kinds : List Kind) (sectors : List DeviceBlock) → map (λ c. c.kind) (cells_of kinds sectors) ≡ kinds
kinds-cells_of [] sectors = refl
kinds-cells_of (kind ∷ kinds) sectors = ap (λ l. kind ∷ l) (kinds-cells_of kinds (sectors_after kind sectors))

-- the kind of the i-th block
pub get_or-kinds_from : (extents : List Extent) (b n i : ℕ) (d : Kind) → i < n → get_or (kinds_from extents b n) i d ≡ kind_at extents (b + i)
get_or-kinds_from extents b zero i d h = absurd (omega arith)
get_or-kinds_from extents b (suc n) zero d h = ap (kind_at extents) (sym (add-zero b))
get_or-kinds_from extents b (suc n) (suc i) d h = get_or-kinds_from extents (b + 1) n i d (omega arith) ∙ ap (kind_at extents) (omega arith)
