-- What every range keeps, after an event.
use Rattle.std.proofs.Common.{◌≡◌, ℕ, zero, suc, ◌+◌, ◌*◌, ◌<◌, ◌≤◌, Some, List, [], ◌∷◌, ◌++◌, length, All, refl, sym, ◌∙◌, ap, subst, arith, append-nil}
use Rattle.std.specs.Prelude.{slice_get}
use Rattle.std.proofs.lemmas.List.Elements.{All-append, All-cons, All-nil}
use Rattle.iob_base.specs.declared.stamp.Stamp.{Stamp}
use Rattle.space_pool.specs.declared.entry.PoolEntry.{PoolEntry}
use Rattle.turn_cell.specs.Stakes.{total}
use Rattle.turn_cell.specs.Views.{SeatView}
use Rattle.range_core.specs.BlockTruth.{gone, is_gone}
use Rattle.range_core.specs.Cells.{IsPlaced}
use Rattle.range_core.specs.OnRun.{on_each}
use Rattle.range_core.specs.RangeView.{IsOfRange, IsSound, RangeView, range_view}
use Rattle.range_core.specs.Space.{ClaimsSpace, SpaceClaims}
use Rattle.range_core.specs.Stamps.{stamps_from}
use Rattle.range_core.specs.declared.cell.Cell.{Cell}
use Rattle.range_core.specs.declared.lending.Away.{Away}
use Rattle.range_core.proofs.FirstTruth.{total-few}

-- the stamps of a run are of the range
pub stamps_from-range : (first blocks b n : ℕ) (st : Stamp) → first ≤ b → b + n ≤ first + blocks → All (IsOfRange first blocks) (stamps_from b n st)
stamps_from-range first blocks b zero st h k = All-nil (IsOfRange first blocks)
stamps_from-range first blocks b (suc n) st h k =
    All-cons (IsOfRange first blocks) (b, st) (stamps_from (b + 1) n st) (record { low = h; high = omega arith })
    (stamps_from-range first blocks (b + 1) n st (omega arith) (omega arith))

-- a range stays sound with other blocks, as many, that are placed and whose space its seat claims, and with more stamps of its blocks
pub sound_next : (r : RangeView) (cells : List Cell) (log more : List (ℕ × Stamp)) (cookie errors tickets : ℕ) (seat : SeatView PoolEntry) (space : SpaceClaims) → IsSound r → length cells ≡ length r.cells → All (IsPlaced r.geometry.block_size) cells
    → log ≡ r.log ++ more → All (IsOfRange r.first (length r.cells)) more → ClaimsSpace r.geometry.block_size cells space → IsSound (range_view r.geometry r.mode r.first cells log cookie errors tickets seat space)
sound_next r cells log more cookie errors tickets seat space s many places joined stamps claims =
    let L : List (ℕ × Stamp) → Type 0 = λ l. All (IsOfRange r.first (length r.cells)) l in
    let N : ℕ → Type 0 = λ n. All (IsOfRange r.first n) log in
    let few = s.few in
    record {
      places = places;
      few = omega arith;
      logged = subst N (sym many) (subst L (sym joined) (All-append (IsOfRange r.first (length r.cells)) r.log more s.logged stamps));
      space = claims;
    }

-- the same where no stamp was left
pub sound_unlogged : (r : RangeView) (cells : List Cell) (cookie errors tickets : ℕ) (seat : SeatView PoolEntry) (space : SpaceClaims) → IsSound r → length cells ≡ length r.cells → All (IsPlaced r.geometry.block_size) cells
    → ClaimsSpace r.geometry.block_size cells space → IsSound (range_view r.geometry r.mode r.first cells r.log cookie errors tickets seat space)
sound_unlogged r cells cookie errors tickets seat space s many places claims =
    sound_next r cells r.log [] cookie errors tickets seat space s many places (sym (append-nil r.log)) (All-nil (IsOfRange r.first (length r.cells))) claims

gone-few : (a : Away) → gone (Some a) ≤ 1
gone-few a = omega arith

is_gone-few : (c : Cell) → is_gone c ≤ 1
is_gone-few c = grind arith

-- no more blocks are away than there are
pub gone-within : (cells : List Cell) → total is_gone cells ≤ length cells
gone-within cells = total-few is_gone cells is_gone-few

-- where room was made for one run of stamps and two more for each block, one run at most leaves room for two of each block that is away
pub room_for_returns : (before after blocks capacity : ℕ) (cells : List Cell) → length cells ≡ blocks → after ≤ before + 1 → before + (1 + 2 * blocks) ≤ capacity → after + 2 * total is_gone cells ≤ capacity
room_for_returns before after blocks capacity cells many few room = omega (arith, gone-within cells)

module _ {A : Type 0} (f : ℕ → A → A) (w : A → ℕ) where
  -- where each item of a run weighs less by one number and more by another, all weigh so many times less and more
  pub total-moved : (a b k low n : ℕ) (xs : List A) → low + n ≤ length xs → ((j : ℕ) (x : A) → j < n → slice_get xs (low + j) ≡ Some x → w (f (k + j) x) + a ≡ w x + b) → total w (on_each f k low n xs) + n * a ≡ total w xs + n * b
  total-moved a b k zero zero xs h e = omega arith
  total-moved a b k zero (suc n) [] h e = absurd (omega arith)
  total-moved a b k zero (suc n) (x ∷ xs) h e =
      let at : k + 0 ≡ k = omega arith in
      let here : w (f (k + 0) x) + a ≡ w x + b = e 0 x (omega arith) refl in
      let here_k : w (f k x) ≡ w (f (k + 0) x) = ap (λ m. w (f m x)) (sym at) in
      let rest = total-moved a b (suc k) zero n xs (omega arith) (λ j y l there. let m : suc k + j ≡ k + suc j = omega arith in let E : ℕ → Type 0 = λ i. w (f i y) + a ≡ w y + b in subst E (sym m) (e (suc j) y (omega arith) (let z : 0 + suc j ≡ suc (0 + j) = omega arith in ap (slice_get (x ∷ xs)) z ∙ there))) in
      omega arith
  total-moved a b k (suc low) n [] h e = let z : n ≡ 0 = omega arith in absurd (omega arith)
  total-moved a b k (suc low) n (x ∷ xs) h e =
      let rest = total-moved a b k low n xs (omega arith) (λ j y l there. e j y l (let z : suc low + j ≡ suc (low + j) = omega arith in ap (slice_get (x ∷ xs)) z ∙ there)) in
      omega arith

  -- each item of a run may keep a property by its number and by what it is
  pub All-on_each_at : (P : A → Type 0) (k low n : ℕ) (xs : List A) → low + n ≤ length xs → ((j : ℕ) (x : A) → j < n → slice_get xs (low + j) ≡ Some x → P x → P (f (k + j) x)) → All P xs → All P (on_each f k low n xs)
  All-on_each_at P k zero zero xs h e all = all
  All-on_each_at P k zero (suc n) [] h e all = all
  All-on_each_at P k zero (suc n) (x ∷ xs) h e all =
      let at : k + 0 ≡ k = omega arith in
      let H : ℕ → Type 0 = λ m. P (f m x) in
      All-cons P (f k x) (on_each f (suc k) zero n xs) (subst H at (e 0 x (omega arith) refl (all 0 x (omega arith))))
      (All-on_each_at P (suc k) zero n xs (omega arith)
      (λ j y l there p. let m : suc k + j ≡ k + suc j = omega arith in let E : ℕ → Type 0 = λ i. P (f i y) in subst E (sym m) (e (suc j) y (omega arith) (let z : 0 + suc j ≡ suc (0 + j) = omega arith in ap (slice_get (x ∷ xs)) z ∙ there) p))
      (λ i d l. all (suc i) d (omega arith)))
  All-on_each_at P k (suc low) n [] h e all = all
  All-on_each_at P k (suc low) n (x ∷ xs) h e all =
      All-cons P x (on_each f k low n xs) (all 0 x (omega arith))
      (All-on_each_at P k low n xs (omega arith) (λ j y l there p. e j y l (let z : suc low + j ≡ suc (low + j) = omega arith in ap (slice_get (x ∷ xs)) z ∙ there) p) (λ i d l. all (suc i) d (omega arith)))
