-- What a seat at the pool claims depends on the kinds of the blocks alone.
use Rattle.std.proofs.Common.{◌≡◌, ℕ, suc, ◌+◌, List, [], ◌∷◌, length, refl, sym, ◌∙◌, ap}
use Rattle.io_model.specs.Kinds.{device_number}
use Rattle.io_model.specs.declared.file.Kind.{Kind}
use Rattle.turn_cell.specs.Stakes.{total}
use Rattle.range_core.specs.EntryCounts.{one_where}
use Rattle.range_core.specs.Kinds.{is_delalloc}
use Rattle.range_core.specs.Space.{ClaimsSpace, SpaceClaims, weigh_number}
use Rattle.range_core.specs.declared.cell.Cell.{Cell}
use Rattle.range_core.proofs.KindRuns.{kinds_of}

-- a weight of blocks by their kinds is a weight of these kinds
pub total-by_kind : (w : Kind → ℕ) (cells : List Cell) → total (λ (c : Cell). w c.kind) cells ≡ total w (kinds_of cells)
total-by_kind w [] = refl
total-by_kind w (c ∷ cells) = ap (λ n. w c.kind + n) (total-by_kind w cells)

pub total-same_kinds : (w : Kind → ℕ) (xs ys : List Cell) → kinds_of ys ≡ kinds_of xs → total (λ (c : Cell). w c.kind) ys ≡ total (λ (c : Cell). w c.kind) xs
total-same_kinds w xs ys e = total-by_kind w ys ∙ ap (total w) e ∙ sym (total-by_kind w xs)

length-kinds_of : (xs : List Cell) → length (kinds_of xs) ≡ length xs
length-kinds_of [] = refl
length-kinds_of (x ∷ xs) = ap suc (length-kinds_of xs)

-- blocks of the same kinds have the same space
pub space_by_kinds : (size : ℕ) (xs ys : List Cell) (space : SpaceClaims) → kinds_of ys ≡ kinds_of xs → ClaimsSpace size xs space → ClaimsSpace size ys space
space_by_kinds size xs ys space e s = record {
  numbers = λ f. s.numbers f ∙ sym (total-same_kinds (λ k. weigh_number f (device_number k)) xs ys e);
  distinct = s.distinct;
  reserved = s.reserved ∙ sym (total-same_kinds (λ k. one_where (is_delalloc k)) xs ys e);
  cap = s.cap ∙ sym (length-kinds_of xs) ∙ sym (ap length e) ∙ length-kinds_of ys;
  sized = s.sized;
}
