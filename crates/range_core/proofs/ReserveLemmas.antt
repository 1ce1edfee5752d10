-- Holes to which space is promised, and what the range claims then.
use Rattle.std.proofs.Common.{◌≡◌, ℕ, zero, suc, ◌+◌, ◌-◌, ◌<◌, ◌≤◌, ◌==◌, Bool, true, false, not, Some, None, List, [], ◌∷◌, length, All, refl, sym, ◌∙◌, ap, subst, arith}
use Rattle.std.specs.Prelude.{slice_get}
use Rattle.std.proofs.lemmas.Bool.{eqb-true}
use Rattle.io_model.specs.Kinds.{kind_after}
use Rattle.io_model.specs.declared.file.Kind.{Kind}
use Rattle.io_model.specs.declared.file.Kind.TheVariants.{Delalloc, Hole, Mapped, Unwritten}
use Rattle.space_pool.specs.Claims.{Fits, with_more}
use Rattle.turn_cell.specs.Stakes.{total}
use Rattle.turn_cell.proofs.Sums.{total-count}
use Rattle.range_core.specs.Cells.{HasPlace, IsPlaced}
use Rattle.range_core.specs.EntryCounts.{one_where}
use Rattle.range_core.specs.Kinds.{is_hole}
use Rattle.range_core.specs.OnRun.{count_on, on_each}
use Rattle.range_core.specs.Placing.{is_empty}
use Rattle.range_core.specs.RangeTruth.{IsSameRun, RangeTruth}
use Rattle.range_core.specs.RangeView.{LiesAt, RangeView}
use Rattle.range_core.specs.Refusals.{stale}
use Rattle.range_core.specs.Reserves.{AsksHoles, promised_cell}
use Rattle.range_core.specs.KnownSamples.{IsExtentOf, IsKnown}
use Rattle.range_core.specs.Space.{ClaimsSpace, SpaceClaims, number_weight, promised}
use Rattle.range_core.specs.Stakes.{RangeStake}
use Rattle.range_core.specs.declared.cell.Cell.{Cell}
use Rattle.range_core.specs.declared.entry.Entry.{Entry}
use Rattle.range_core.specs.declared.sample.Sample.{Sample}
use Rattle.range_core.proofs.CountLemmas.{count_on-total, total-run-few}
use Rattle.range_core.proofs.OnRunLemmas.{length-on_each}
use Rattle.range_core.proofs.SoundLemmas.{All-on_each_at, total-moved}
use Rattle.range_core.proofs.StopLemmas.{where_true-not}

-- the n blocks from a place on are holes
pub record AreHoles (cells : List Cell) (low n : ℕ) : Type 0 where
  pub within : low + n ≤ length cells
  pub holes : (k : ℕ) (c : Cell) → k < n → slice_get cells (low + k) ≡ Some c → c.kind ≡ Hole

-- a sample that was not refused is of the range's cookie
pub unstale : (r : RangeView) (seen : Sample) → stale r seen ≡ None → seen.cookie ≡ r.cookie
unstale r seen e = eqb-true seen.cookie r.cookie (is_true (seen.cookie == r.cookie) (where_true-not (not (seen.cookie == r.cookie)) _ e))
  where
    is_true : (t : Bool) → not t ≡ false → t ≡ true
    is_true true e = refl
    is_true false e = absurd (cc)

-- what holds of a range's run of blocks as it was opened holds of it now
pub lies_now : (opening now : RangeView) (b n : ℕ) → IsSameRun opening now → LiesAt opening b n → LiesAt now b n
lies_now opening now b n same lies =
    let first = same.first in
    let many = same.blocks in
    let low = lies.low in
    let high = lies.high in
    record { low = omega arith; some = lies.some; high = omega arith }

pub asks_now : (opening now : RangeView) (history : List Entry) (stakes : List RangeStake) (seen : Sample) (n : ℕ) → RangeTruth opening now history stakes → AsksHoles opening seen n → AsksHoles now seen n
asks_now opening now history stakes seen n t asks = record { mode = t.same_run.mode ∙ asks.mode; hole = asks.hole; enough = asks.enough; inside = lies_now opening now seen.extent.block n t.same_run asks.inside }

hole_after : (kind : Kind) (k : ℕ) → kind ≡ Hole → kind_after kind k ≡ Hole
hole_after kind k e = ap (λ q. kind_after q k) e

-- the first blocks of a sample that may be reserved are holes
pub sampled_holes : (r : RangeView) (seen : Sample) (n m : ℕ) → AsksHoles r seen n → IsKnown r seen → stale r seen ≡ None → m ≤ n → AreHoles r.cells (seen.extent.block - r.first) m
sampled_holes r seen n m asks known fresh few =
    let extent : IsExtentOf r seen.extent = known (unstale r seen fresh) in
    let lies = asks.inside in
    let enough = asks.enough in
    let low = lies.low in
    let high = lies.high in
    record {
      within = omega arith;
      holes = λ k c l at. let inside : k < seen.extent.length = omega arith in extent.kinds k c inside at ∙ hole_after seen.extent.kind k asks.hole;
    }

-- each block weighs one: its sector, the sector that is promised to it, or the hole that it is
weighs_once : (c : Cell) → number_weight (λ _. 1) c + promised c + one_where (is_empty c) ≡ 1
weighs_once c = at c.kind
  where
    at : (k : Kind) → number_weight (λ _. 1) (record c { kind = k }) + promised (record c { kind = k }) + one_where (is_hole k) ≡ 1
    at Hole = refl
    at Delalloc = refl
    at (Unwritten d) = refl
    at (Mapped d) = refl

all_weigh : (cells : List Cell) → total (number_weight (λ _. 1)) cells + total promised cells + total (λ c. one_where (is_empty c)) cells ≡ length cells
all_weigh [] = refl
all_weigh (c ∷ cells) = omega (arith, weighs_once c, all_weigh cells)

-- the cap of the seat has room for the holes of a run
pub fits_holes : (size low n : ℕ) (cells : List Cell) (space : SpaceClaims) → ClaimsSpace size cells space → Fits space (count_on is_empty low n cells)
fits_holes size low n cells space s =
    let all = all_weigh cells in
    let few = total-run-few (λ (c : Cell). one_where (is_empty c)) low n cells in
    let counted = count_on-total is_empty low n cells in
    let numbers = s.numbers (λ _. 1) in
    let many = total-count space.numbers in
    let had = s.reserved in
    let cap = s.cap in
    omega arith

-- a run of holes has as many as it has blocks
pub holes_counted : (low n : ℕ) (cells : List Cell) → AreHoles cells low n → count_on is_empty low n cells ≡ n
holes_counted low n cells h = counted low n cells h.within h.holes
  where
    counted : (low n : ℕ) (cells : List Cell) → low + n ≤ length cells → ((k : ℕ) (c : Cell) → k < n → slice_get cells (low + k) ≡ Some c → c.kind ≡ Hole) → count_on is_empty low n cells ≡ n
    counted zero zero cells w h = refl
    counted zero (suc n) [] w h = absurd (omega arith)
    counted zero (suc n) (c ∷ cells) w h =
        let here : c.kind ≡ Hole = h 0 c (omega arith) refl in
        let one : one_where (is_empty c) ≡ 1 = ap (λ k. one_where (is_hole k)) here in
        let rest = counted zero n cells (omega arith) (λ k d l at. let z : 0 + suc k ≡ suc (0 + k) = omega arith in h (suc k) d (omega arith) (ap (slice_get (c ∷ cells)) z ∙ at)) in
        omega arith
    counted (suc low) n [] w h = let z : n ≡ 0 = omega arith in sym z
    counted (suc low) n (c ∷ cells) w h =
        counted low n cells (omega arith) (λ k d l at. let z : suc low + k ≡ suc (low + k) = omega arith in h k d l (ap (slice_get (c ∷ cells)) z ∙ at))

-- the seat claims the space of the blocks once it is promised
pub space_promised : (size low n : ℕ) (cells : List Cell) (space : SpaceClaims) → AreHoles cells low n → ClaimsSpace size cells space → ClaimsSpace size (on_each (λ _. promised_cell) 0 low n cells) (with_more space n)
space_promised size low n cells space h s =
    let f : ℕ → Cell → Cell = λ _. promised_cell in
    let more = total-moved f promised 0 1 0 low n cells h.within (λ j c l at. let was : promised c ≡ 0 = ap (λ k. promised (record c { kind = k })) (h.holes j c l at) in omega arith) in
    let had = s.reserved in
    record {
      numbers = λ g. let same = total-moved f (number_weight g) 0 0 0 low n cells h.within (λ j c l at. let was : number_weight g c ≡ 0 = ap (λ k. number_weight g (record c { kind = k })) (h.holes j c l at) in omega arith) in
          let all = s.numbers g in omega arith;
      distinct = s.distinct;
      reserved = omega arith;
      cap = s.cap ∙ sym (length-on_each f 0 low n cells);
      sized = s.sized;
    }

-- holes with promised space are placed as they were, and as many blocks are away
pub promised_placed : (size low n : ℕ) (cells : List Cell) → AreHoles cells low n → All (IsPlaced size) cells → All (IsPlaced size) (on_each (λ _. promised_cell) 0 low n cells)
promised_placed size low n cells h all =
    All-on_each_at (λ _. promised_cell) (λ _. 0) (IsPlaced size) 0 low n cells h.within (λ j c l at p. let P : Kind → Type 0 = λ k. HasPlace size k c.sector c.away in subst P (h.holes j c l at) p) all
