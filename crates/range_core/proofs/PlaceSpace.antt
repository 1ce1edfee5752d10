-- What the seat of a range claims once blocks took sectors, and where these blocks are then.
use Rattle.std.proofs.Common.{◌≡◌, ℕ, ◌+◌, ◌-◌, ◌<◌, ◌≤◌, Bool, true, false, not, ◌&&◌, if◌then◌else◌, nat_lt, Option, Some, None, IfSome, List, [], ◌∷◌, ◌++◌, length, take, drop, All, refl, sym, ◌∙◌, ap, subst, arith}
use Rattle.std.specs.Prelude.{nat_le, slice_get}
use Rattle.std.proofs.Math.Seq.{take-length}
use Rattle.std.proofs.lemmas.Bool.{and_parts, lt-ltb}
use Rattle.iob_base.specs.DeviceBlock.{DeviceBlock}
use Rattle.iob_base.specs.declared.TheConstants.{WORN}
use Rattle.io_model.specs.declared.file.Kind.{Kind}
use Rattle.io_model.specs.declared.file.Kind.TheVariants.{Delalloc, Hole, Mapped, Unwritten}
use Rattle.space_pool.specs.Claims.{numbers_of, with_more, with_taken}
use Rattle.space_pool.specs.Pool.{AreDistinct, HasSize}
use Rattle.space_pool.specs.declared.entry.PoolEntry.{PoolEntry}
use Rattle.turn_cell.specs.Stakes.{total}
use Rattle.turn_cell.specs.Views.{SeatView}
use Rattle.turn_cell.proofs.Sums.{total-append, total-map}
use Rattle.range_core.specs.BlockTruth.{is_gone}
use Rattle.range_core.specs.Cells.{HasPlace, IsPlaced}
use Rattle.range_core.specs.EntryCounts.{one_where}
use Rattle.range_core.specs.Kinds.{has_space, is_delalloc, is_hole}
use Rattle.range_core.specs.OnRun.{count_on, on_each}
use Rattle.range_core.specs.Placing.{awaits_sector, count_in, is_empty, lacks_sector, picked_with, placed_at}
use Rattle.range_core.specs.RangeView.{IsSound, LiesAt, RangeView, range_view}
use Rattle.range_core.specs.Refusals.{some_block, where_true, worn}
use Rattle.range_core.specs.Space.{ClaimsSpace, SpaceClaims, number_weight, promised}
use Rattle.range_core.specs.declared.cell.Cell.{Cell}
use Rattle.range_core.specs.declared.fault.EventFault.TheVariants.{Worn}
use Rattle.range_core.specs.declared.lending.Away.{Away}
use Rattle.range_core.proofs.CountLemmas.{any-count_on, count_on-total, total-run-few}
use Rattle.range_core.proofs.FirstTruth.{All-there, total-zero}
use Rattle.range_core.proofs.HomeLemmas.{home_of}
use Rattle.range_core.proofs.KindLemmas.{is_kind-true}
use Rattle.range_core.proofs.OnRunLemmas.{length-on_each, total-on_each}
use Rattle.range_core.proofs.PlaceLemmas.{picked_weight, total-placed}
use Rattle.range_core.proofs.SoundLemmas.{All-on_each_at, sound_unlogged}
use Rattle.range_core.proofs.StopLemmas.{unworn}

-- A test picks blocks that have no sector, and in a run so many of these have no space promised to them
pub record PicksSpaceless (picks : Cell → Bool) (holes : Cell → ℕ) : Type 0 where
  pub spaceless : (c : Cell) → picks c ≡ true → has_space c.kind ≡ false
  pub weighs : (c : Cell) → picked_weight picks promised c + holes c ≡ one_where (picks c)

-- A seat has reserved so many sectors more than are promised to blocks, and claims the numbers of the sectors of blocks
pub record HasPromised (size : ℕ) (cells : List Cell) (more : ℕ) (space : SpaceClaims) : Type 0 where
  pub numbers : (f : ℕ → ℕ) → total f space.numbers ≡ total (number_weight f) cells
  pub reserved : space.reserved ≡ total promised cells + more
  pub cap : space.cap ≡ length cells
  pub sized : space.size ≡ size

-- what holds of all sectors holds of one, where there is one
pub All-got : {A : Type 0} (P : A → Type 0) (xs : List A) (i : ℕ) → All P xs → IfSome (slice_get xs i) P
All-got {A} P xs i all = at (slice_get xs i) refl
  where
    at : (o : Option A) → slice_get xs i ≡ o → IfSome o P
    at None e = tt
    at (Some x) e = All-there P xs i x all e

total-sum : {A : Type 0} (u v w : A → ℕ) → ((x : A) → u x + v x ≡ w x) → (xs : List A) → total u xs + total v xs ≡ total w xs
total-sum u v w h [] = refl
total-sum u v w h (x ∷ xs) = omega (arith, h x, total-sum u v w h xs)

-- a picked block that has no sector weighs nothing by its number
number-nothing : (f : ℕ → ℕ) (c : Cell) → has_space c.kind ≡ false → number_weight f c ≡ 0
number-nothing f c e = at c.kind e
  where
    at : (k : Kind) → has_space k ≡ false → number_weight f (record c { kind = k }) ≡ 0
    at Hole e = refl
    at Delalloc e = refl
    at (Unwritten d) e = absurd (cc)
    at (Mapped d) e = absurd (cc)

picked-nothing : (f : ℕ → ℕ) (picks : Cell → Bool) (c : Cell) → (picks c ≡ true → has_space c.kind ≡ false) → picked_weight picks (number_weight f) c ≡ 0
picked-nothing f picks c h = at (picks c) h
  where
    at : (t : Bool) → (t ≡ true → has_space c.kind ≡ false) → (if t then number_weight f c else 0) ≡ 0
    at true h = number-nothing f c (h refl)
    at false h = refl

-- the seat claims the space of the blocks once the picked ones took sectors
pub space_placed : (picks : Cell → Bool) (holes : Cell → ℕ) (size low n : ℕ) (cells : List Cell) (space : SpaceClaims) (sectors : List DeviceBlock) → PicksSpaceless picks holes → low + n ≤ length cells
    → length sectors ≡ count_on picks low n cells → HasPromised size cells (total holes (take n (drop low cells))) space → AreDistinct (with_taken space sectors).numbers
    → ClaimsSpace size (on_each (placed_at picks low cells sectors) 0 low n cells) (with_taken space sectors)
space_placed picks holes size low n cells space sectors p within many s distinct =
    let run : List Cell = take n (drop low cells) in
    record {
      numbers = λ f.
          let weighs = total-placed picks low cells sectors (number_weight f) (λ t. f t.number) (λ t c. refl) n within (omega arith) in
          let none : total (picked_weight picks (number_weight f)) run ≡ 0 = total-zero _ run (λ k d l. picked-nothing f picks _ (p.spaceless _)) in
          let taken : total (λ (t : DeviceBlock). f t.number) (take (count_on picks low n cells) sectors) ≡ total (λ (t : DeviceBlock). f t.number) sectors =
          ap (λ k. total (λ (t : DeviceBlock). f t.number) (take k sectors)) (sym many) ∙ ap (total (λ (t : DeviceBlock). f t.number)) (take-length sectors) in
          let both : total f (space.numbers ++ numbers_of sectors) ≡ total f space.numbers + total f (numbers_of sectors) = total-append f space.numbers (numbers_of sectors) in
          let mapped : total f (numbers_of sectors) ≡ total (λ (t : DeviceBlock). f t.number) sectors = total-map f (λ (t : DeviceBlock). t.number) sectors in
          let had = s.numbers f in
          omega arith;
      distinct = distinct;
      reserved =
          let weighs = total-placed picks low cells sectors promised (λ _. 0) (λ t c. refl) n within (omega arith) in
          let none : total (λ (t : DeviceBlock). 0) (take (count_on picks low n cells) sectors) ≡ 0 = total-zero _ _ (λ k d l. refl) in
          let sum = total-sum (picked_weight picks promised) holes (λ c. one_where (picks c)) p.weighs run in
          let counted = count_on-total picks low n cells in
          let had = s.reserved in
          omega arith;
      cap = s.cap ∙ sym (length-on_each (placed_at picks low cells sectors) 0 low n cells);
      sized = s.sized;
    }

-- a picked block with a whole sector is placed, and any other as it was
pub picked-placed : (size : ℕ) (t : Bool) (o : Option DeviceBlock) (c : Cell) → (t ≡ true → has_space c.kind ≡ false) → IfSome o (HasSize size) → IsPlaced size c → IsPlaced size (picked_with t o c)
picked-placed size false o c h whole p = p
picked-placed size true None c h whole p = p
picked-placed size true (Some s) c h whole p =
    let home = home_of size c.kind c.sector c.away (h refl) p in
    let P : Option Away → Type 0 = λ a. HasPlace size (Unwritten s.number) (Some s) a in
    subst P (sym home) (record { is = refl; whole = whole })

pub placed_placed : (picks : Cell → Bool) (holes : Cell → ℕ) (size low n : ℕ) (cells : List Cell) (sectors : List DeviceBlock) → PicksSpaceless picks holes → low + n ≤ length cells → All (HasSize size) sectors → All (IsPlaced size) cells
    → All (IsPlaced size) (on_each (placed_at picks low cells sectors) 0 low n cells)
placed_placed picks holes size low n cells sectors p within whole all =
    All-on_each_at (placed_at picks low cells sectors) (λ _. 0) (IsPlaced size) 0 low n cells within
    (λ j c l at h. picked-placed size (picks c) (slice_get sectors (count_on picks low (0 + j) cells)) c (p.spaceless c) (All-got (HasSize size) sectors _ whole) h) all

-- as many blocks are away
pub picked-gone : (t : Bool) (o : Option DeviceBlock) (c : Cell) → is_gone (picked_with t o c) ≡ is_gone c
picked-gone false o c = refl
picked-gone true None c = refl
picked-gone true (Some s) c = refl

-- both tests pick blocks without a sector
pub awaits-spaceless : PicksSpaceless awaits_sector (λ _. 0)
awaits-spaceless = record {
  spaceless = λ c e. let p = and_parts (is_delalloc c.kind) c.dirty e in ap has_space (is_kind-true c.kind Delalloc p.0);
  weighs = λ c. at c (is_delalloc c.kind) c.dirty refl;
}
  where
    at : (c : Cell) (t d : Bool) → is_delalloc c.kind ≡ t → (if t && d then promised c else 0) + 0 ≡ one_where (t && d)
    at c true true e = let one : promised c ≡ 1 = ap one_where e in omega arith
    at c true false e = refl
    at c false d e = refl

pub lacks-spaceless : PicksSpaceless lacks_sector (λ c. one_where (is_empty c))
lacks-spaceless = record {
  spaceless = λ c e. is_false (has_space c.kind) e;
  weighs = λ c. at c c.kind;
}
  where
    is_false : (t : Bool) → not t ≡ true → t ≡ false
    is_false true e = absurd (cc)
    is_false false e = refl

    at : (c : Cell) (k : Kind) → picked_weight lacks_sector promised (record c { kind = k }) + one_where (is_hole k) ≡ one_where (not (has_space k))
    at c Hole = refl
    at c Delalloc = refl
    at c (Unwritten d) = refl
    at c (Mapped d) = refl

-- a seat that claims the space of blocks has reserved none more
pub promised_none : (size : ℕ) (cells run : List Cell) (space : SpaceClaims) → ClaimsSpace size cells space → HasPromised size cells (total (λ (c : Cell). 0) run) space
promised_none size cells run space s =
    let none : total (λ (c : Cell). 0) run ≡ 0 = total-zero _ run (λ k d l. refl) in
    let had = s.reserved in
    record { numbers = s.numbers; reserved = omega arith; cap = s.cap; sized = s.sized }

-- and one more for each hole of a run, once these were reserved
pub promised_holes : (size low n : ℕ) (cells : List Cell) (space : SpaceClaims) → ClaimsSpace size cells space
    → HasPromised size cells (total (λ (c : Cell). one_where (is_empty c)) (take n (drop low cells))) (with_more space (count_on is_empty low n cells))
promised_holes size low n cells space s =
    let counted = count_on-total is_empty low n cells in
    let had = s.reserved in
    record { numbers = s.numbers; reserved = omega arith; cap = s.cap; sized = s.sized }

-- as many sectors are reserved as picked blocks need
pub reserved-enough : (picks : Cell → Bool) (holes : Cell → ℕ) (size low n : ℕ) (cells : List Cell) (space : SpaceClaims) → PicksSpaceless picks holes → HasPromised size cells (total holes (take n (drop low cells))) space
    → count_on picks low n cells ≤ space.reserved
reserved-enough picks holes size low n cells space p s =
    let run : List Cell = take n (drop low cells) in
    let sum = total-sum (picked_weight picks promised) holes (λ c. one_where (picks c)) p.weighs run in
    let few = total-run-few promised low n cells in
    let less : total (picked_weight picks promised) run ≤ total promised run = total-less (picked_weight picks promised) promised (λ c. picked-few (picks c) (promised c)) run in
    let counted = count_on-total picks low n cells in
    let had = s.reserved in
    omega arith
  where
    total-less : (u v : Cell → ℕ) → ((c : Cell) → u c ≤ v c) → (xs : List Cell) → total u xs ≤ total v xs
    total-less u v h [] = omega arith
    total-less u v h (x ∷ xs) = omega (arith, h x, total-less u v h xs)

    picked-few : (t : Bool) (n : ℕ) → (if t then n else 0) ≤ n
    picked-few true n = omega arith
    picked-few false n = omega arith

-- the refusal for want of a cookie, by the number of picked blocks
pub worn_counted : (picks : Cell → Bool) (r : RangeView) (b n k : ℕ) → k ≡ count_in picks r b n → where_true (nat_lt 0 k && nat_le WORN r.cookie) (Worn r.cookie) ≡ worn r (some_block picks r b n)
worn_counted picks r b n k e =
    ap (λ m. where_true (nat_lt 0 m && nat_le WORN r.cookie) (Worn r.cookie)) e
    ∙ ap (λ t. where_true (t && nat_le WORN r.cookie) (Worn r.cookie)) (sym (any-count_on picks (b - r.first) n r.cells))

-- a cookie is left for an event that changes a kind and is not refused
pub unworn_for : (picks : Cell → Bool) (r : RangeView) (b n : ℕ) → worn r (some_block picks r b n) ≡ None → 0 < count_in picks r b n → r.cookie < WORN
unworn_for picks r b n e more =
    let some : nat_lt 0 (count_in picks r b n) ≡ true = lt-ltb 0 (count_in picks r b n) more in
    unworn r (ap (worn r) (sym (any-count_on picks (b - r.first) n r.cells ∙ some)) ∙ e)

-- a run of a range is a run of its list of blocks
pub lies_within : (r : RangeView) (b n : ℕ) → LiesAt r b n → b - r.first + n ≤ length r.cells
lies_within r b n lies = let low = lies.low in let high = lies.high in omega arith

module _ (picks : Cell → Bool) (holes : Cell → ℕ) (r : RangeView) (low n : ℕ) (cells : List Cell) (sectors : List DeviceBlock) where
  -- a range stays sound where picked blocks took sectors that its seat had reserved
  pub placed_sound : (base space : SpaceClaims) (cookie : ℕ) (seat : SeatView PoolEntry) → PicksSpaceless picks holes → low + n ≤ length r.cells → cells ≡ on_each (placed_at picks low r.cells sectors) 0 low n r.cells
      → length sectors ≡ count_on picks low n r.cells → HasPromised r.geometry.block_size r.cells (total holes (take n (drop low r.cells))) base → All (HasSize base.size) sectors → space ≡ with_taken base sectors → AreDistinct space.numbers
      → IsSound r → IsSound (range_view r.geometry r.mode r.first cells r.log cookie r.errors r.tickets seat space)
  placed_sound base space cookie seat p within is many had whole taken distinct sound =
      let size : ℕ = r.geometry.block_size in
      let F : ℕ → Cell → Cell = placed_at picks low r.cells sectors in
      let W : ℕ → Type 0 = λ m. All (HasSize m) sectors in
      let sized = subst W had.sized whole in
      let D : SpaceClaims → Type 0 = λ s. AreDistinct s.numbers in
      let C : SpaceClaims → Type 0 = λ s. ClaimsSpace size (on_each F 0 low n r.cells) s in
      let claims = subst C (sym taken) (space_placed picks holes size low n r.cells base sectors p within many had (subst D taken distinct)) in
      let S : List Cell → Type 0 = λ xs. IsSound (range_view r.geometry r.mode r.first xs r.log cookie r.errors r.tickets seat space) in
      subst S (sym is) (sound_unlogged r (on_each F 0 low n r.cells) cookie r.errors r.tickets seat space sound (length-on_each F 0 low n r.cells) (placed_placed picks holes size low n r.cells sectors p within sized sound.places) claims)

  pub placed_gone : cells ≡ on_each (placed_at picks low r.cells sectors) 0 low n r.cells → total is_gone cells ≡ total is_gone r.cells
  placed_gone is = ap (total is_gone) is ∙ total-on_each (placed_at picks low r.cells sectors) is_gone (λ j x. picked-gone (picks x) _ x) 0 low n r.cells
