-- What is left of a closed range and of its pool has every number that the pool began with.
use Rattle.std.proofs.Common.{◌≡◌, ℕ, suc, ◌+◌, Option, Some, None, List, [], ◌∷◌, ◌++◌, map, All, refl, sym, ◌∙◌, ap, subst, arith, append-nil, append_assoc}
use Rattle.iob_base.specs.DeviceBlock.{DeviceBlock}
use Rattle.iob_base.specs.declared.stamp.Stamp.{Stamp}
use Rattle.io_model.specs.declared.file.BlockEnd.{BlockEnd}
use Rattle.turn_cell.specs.Stakes.{total}
use Rattle.turn_cell.proofs.Sums.{total-append, total-map}
use Rattle.space_pool.specs.Claims.{numbers_of}
use Rattle.io_model.specs.Kinds.{device_number}
use Rattle.range_core.specs.Cells.{HasPlace, HasSector, IsPlaced}
use Rattle.range_core.specs.RangeView.{IsSound, RangeView}
use Rattle.range_core.specs.Space.{number_weight, weigh_number}
use Rattle.range_core.specs.Stamps.{bare_end, journaled}
use Rattle.range_core.specs.declared.cell.Cell.{Cell}
use Rattle.range_core.specs.declared.lending.Away.{Away}
use Rattle.worked_ranges.specs.SmallEnds.{end_numbers, sector_number}

journaled-sectors : (b : ℕ) (log : List (ℕ × Stamp)) (ends : List BlockEnd) → end_numbers (journaled b log ends) ≡ end_numbers ends
journaled-sectors b log [] = refl
journaled-sectors b log (e ∷ ends) = ap (λ l. sector_number e.sector ++ l) (journaled-sectors (b + 1) log ends)

-- a block has the sector of its kind
sector_weighs : (f : ℕ → ℕ) (size : ℕ) (d : Option ℕ) (s : Option DeviceBlock) → HasSector size d s → total f (sector_number s) ≡ weigh_number f d
sector_weighs f size None s is = ap (λ o. total f (sector_number o)) is
sector_weighs f size (Some n) None is = absurd is
sector_weighs f size (Some n) (Some s) is = let e : f s.number ≡ f n = ap f is.is in let q : f s.number + 0 ≡ f n = omega arith in q

cell_weighs : (f : ℕ → ℕ) (size : ℕ) (c : Cell) → IsPlaced size c → c.away ≡ None → total f (sector_number c.sector) ≡ number_weight f c
cell_weighs f size c placed home =
    let P : Option Away → Type 0 = λ a. HasPlace size c.kind c.sector a in
    sector_weighs f size (device_number c.kind) c.sector (subst P home placed)

cells_weigh : (f : ℕ → ℕ) (size : ℕ) (cells : List Cell) → All (IsPlaced size) cells → All (λ c. c.away ≡ None) cells → total f (end_numbers (map bare_end cells)) ≡ total (number_weight f) cells
cells_weigh f size [] placed home = refl
cells_weigh f size (c ∷ cells) placed home =
    let here = cell_weighs f size c (placed 0 c (omega arith)) (home 0 c (omega arith)) in
    let rest = cells_weigh f size cells (λ i d h. placed (suc i) d (omega (arith, h))) (λ i d h. home (suc i) d (omega (arith, h))) in
    total-append f (sector_number c.sector) (end_numbers (map bare_end cells)) ∙ ap (λ n. n + total f (end_numbers (map bare_end cells))) here ∙ ap (λ n. number_weight f c + n) rest

-- the sectors of a range, all of whose blocks are at home, have the numbers that its seat at the pool claims
pub ends_weigh : (f : ℕ → ℕ) (r : RangeView) → IsSound r → All (λ c. c.away ≡ None) r.cells → total f (end_numbers (journaled r.first r.log (map bare_end r.cells))) ≡ total f r.space.numbers
ends_weigh f r sound home = ap (total f) (journaled-sectors r.first r.log (map bare_end r.cells)) ∙ cells_weigh f r.geometry.block_size r.cells sound.places home ∙ sym (sound.space.numbers f)

-- with the free sectors they have all numbers of the pool, where the pool's other seats claim none
pub all_weigh : (f : ℕ → ℕ) (ends kept own both opening : List ℕ) (free : List DeviceBlock) → total f ends ≡ total f own → kept ≡ [] → both ≡ kept ++ own → total (λ s. f s.number) free + total f both ≡ total f opening
    → total f (ends ++ numbers_of free) ≡ total f opening
all_weigh f ends kept own both opening free same none is all =
    let a = total-append f ends (numbers_of free) in
    let m : total f (numbers_of free) ≡ total (λ s. f s.number) free = total-map f (λ (s : DeviceBlock). s.number) free in
    let b : total f both ≡ total f own = ap (total f) (is ∙ ap (λ l. l ++ own) none) in
    omega arith

-- one block more
pub ends-more : (ends : List BlockEnd) (e : BlockEnd) → end_numbers (ends ++ e ∷ []) ≡ end_numbers ends ++ sector_number e.sector
ends-more [] e = append-nil (sector_number e.sector)
ends-more (d ∷ ends) e = ap (λ l. sector_number d.sector ++ l) (ends-more ends e) ∙ sym (append_assoc (sector_number d.sector) (end_numbers ends) (sector_number e.sector))

pub pushed_more : (start now next : List ℕ) (ends : List BlockEnd) (e : BlockEnd) → now ≡ start ++ end_numbers ends → next ≡ now ++ sector_number e.sector → next ≡ start ++ end_numbers (ends ++ e ∷ [])
pushed_more start now next ends e is more =
    more ∙ ap (λ l. l ++ sector_number e.sector) is ∙ append_assoc start (end_numbers ends) (sector_number e.sector) ∙ ap (λ l. start ++ l) (sym (ends-more ends e))
