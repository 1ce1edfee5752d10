-- What blocks that become holes leave.
use Rattle.std.proofs.Common.{◌≡◌, ℕ, suc, ◌+◌, ◌-◌, ◌<◌, ◌≤◌, ◌==◌, ◌&&◌, nat_lt, if◌then◌else◌, Option, Some, None, List, [], ◌∷◌, ◌++◌, length, take, drop, get_or, All, refl, sym, ◌∙◌, ap, subst, arith, length-drop}
use Rattle.std.specs.Prelude.{nat_le, slice_get}
use Rattle.std.specs.List.{cons_option}
use Rattle.std.proofs.Math.Seq.{take-suc}
use Rattle.std.proofs.lemmas.List.{get_or-drop}
use Rattle.std.proofs.lemmas.List.Elements.{All-cons, All-drop, All-head, All-nil, All-tail, All-take, filter_map-append}
use Rattle.iob_base.specs.DeviceBlock.{DeviceBlock}
use Rattle.iob_base.specs.declared.TheConstants.{WORN}
use Rattle.io_model.specs.Kinds.{device_number}
use Rattle.io_model.specs.declared.file.Kind.{Kind}
use Rattle.io_model.specs.declared.file.Kind.TheVariants.{Hole}
use Rattle.space_pool.specs.Claims.{AreAmong, numbers_of, with_fewer, with_given}
use Rattle.space_pool.specs.Pool.{CanGive, HasSize}
use Rattle.space_pool.proofs.Removing.{without-weighs}
use Rattle.turn_cell.specs.Stakes.{total}
use Rattle.turn_cell.proofs.Sums.{total-map}
use Rattle.range_core.specs.Cells.{HasPlace, HasSector, IsPlaced}
use Rattle.range_core.specs.OnRun.{count_on, on_each}
use Rattle.range_core.specs.Placing.{is_promised, is_used}
use Rattle.range_core.specs.RangeView.{RangeView}
use Rattle.range_core.specs.Refusals.{◌orElse◌, away, away_at, first_that_stops, run_of, some_block, where_true, wipe_refusal, worn}
use Rattle.range_core.specs.Space.{ClaimsSpace, SpaceClaims, number_weight, promised, weigh_number}
use Rattle.range_core.specs.Wipes.{sectors_of, used_in, wiped}
use Rattle.range_core.specs.declared.cell.Cell.{Cell}
use Rattle.range_core.specs.declared.fault.EventFault.TheVariants.{Worn}
use Rattle.range_core.specs.declared.lending.Away.{Away}
use Rattle.range_core.proofs.CountLemmas.{count_on-total, slice_get-take, total-run, total-run-few}
use Rattle.range_core.proofs.FirstTruth.{All-there, total-zero}
use Rattle.range_core.proofs.OnRunLemmas.{length-on_each, on_each-next}
use Rattle.range_core.proofs.PlaceSpace.{worn_counted}
use Rattle.range_core.proofs.SampleLemmas.{slice_get-drop}
use Rattle.range_core.proofs.SoundLemmas.{All-on_each_at}
use Rattle.range_core.proofs.StopLemmas.{neither}

abbrev pub wipes : ℕ → Cell → Cell
wipes _ c = wiped c

-- a loop that has moved the sectors of i blocks moves that of the next one
pub sectors_more : (low i : ℕ) (first now : List Cell) (cell : Cell) (sectors moved : List DeviceBlock) → now ≡ on_each wipes 0 low i first → cell ≡ get_or now (low + i) cell → low + i < length first
    → sectors ≡ sectors_of (take i (drop low first)) → moved ≡ sectors ++ cons_option cell.sector [] → moved ≡ sectors_of (take (i + 1) (drop low first))
sectors_more low i first now cell sectors moved e at h had is =
    let one : suc i ≡ i + 1 = omega arith in
    let here : cell ≡ get_or first (low + i) cell = at ∙ ap (λ l. get_or l (low + i) cell) e ∙ on_each-next wipes 0 low i (low + i) first cell refl h in
    let inside : i < length (drop low first) = omega (arith, length-drop low first) in
    let next : take (suc i) (drop low first) ≡ take i (drop low first) ++ cell ∷ [] = take-suc (drop low first) i cell inside ∙ ap (λ c. take i (drop low first) ++ c ∷ []) (get_or-drop low first i cell ∙ sym here) in
    is ∙ ap (λ l. l ++ cons_option cell.sector []) had ∙ sym (filter_map-append (λ (c : Cell). c.sector) (take i (drop low first)) (cell ∷ [])) ∙ ap sectors_of (sym next) ∙ ap (λ k. sectors_of (take k (drop low first))) one

-- blocks of which none is away, as an event found them
pub all_home : (b : ℕ) (cells : List Cell) → first_that_stops away b cells ≡ None → All (λ (c : Cell). c.away ≡ None) cells
all_home b [] e = All-nil _
all_home b (c ∷ cells) e =
    let n = neither (away b c) (first_that_stops away (b + 1) cells) e in
    All-cons (λ (x : Cell). x.away ≡ None) c cells (home c.away n.0) (all_home (b + 1) cells n.1)
  where
    home : (a : Option Away) → away_at b a ≡ None → a ≡ None
    home None e = refl
    home (Some a) e = absurd (cc)

-- what holds of all holds of those of a run
pub All-run : {A : Type 0} (P : A → Type 0) (low n : ℕ) (xs : List A) → All P xs → All P (take n (drop low xs))
All-run P low n xs all = All-take P n (drop low xs) (All-drop P low xs all)

-- a block at home has the sector of its kind
sector-weighs : (size : ℕ) (f : ℕ → ℕ) (kind : Kind) (sector : Option DeviceBlock) (sectors : List DeviceBlock) → HasSector size (device_number kind) sector
    → total (λ (s : DeviceBlock). f s.number) (cons_option sector sectors) ≡ weigh_number f (device_number kind) + total (λ (s : DeviceBlock). f s.number) sectors
sector-weighs size f kind sector sectors h = at (device_number kind) sector h
  where
    at : (number : Option ℕ) (sector : Option DeviceBlock) → HasSector size number sector → total (λ (s : DeviceBlock). f s.number) (cons_option sector sectors) ≡ weigh_number f number + total (λ (s : DeviceBlock). f s.number) sectors
    at None None h = omega arith
    at None (Some s) h = absurd (cc)
    at (Some d) None h = absurd h
    at (Some d) (Some s) h = ap (λ n. f n + total (λ (t : DeviceBlock). f t.number) sectors) h.is

sector-whole : (size : ℕ) (number : Option ℕ) (sector : Option DeviceBlock) (sectors : List DeviceBlock) → HasSector size number sector → All (HasSize size) sectors → All (HasSize size) (cons_option sector sectors)
sector-whole size number None sectors h all = all
sector-whole size None (Some s) sectors h all = absurd (cc)
sector-whole size (Some d) (Some s) sectors h all = All-cons (HasSize size) s sectors h.whole all

placed_here : (size : ℕ) (c : Cell) → c.away ≡ None → IsPlaced size c → HasSector size (device_number c.kind) c.sector
placed_here size c home p = let P : Option Away → Type 0 = λ a. HasPlace size c.kind c.sector a in subst P home p

pub sectors-weigh : (size : ℕ) (f : ℕ → ℕ) (run : List Cell) → All (IsPlaced size) run → All (λ (c : Cell). c.away ≡ None) run → total (λ (s : DeviceBlock). f s.number) (sectors_of run) ≡ total (number_weight f) run
sectors-weigh size f [] places homes = refl
sectors-weigh size f (c ∷ run) places homes =
    let here = placed_here size c (All-head (λ (x : Cell). x.away ≡ None) c run homes) (All-head (IsPlaced size) c run places) in
    sector-weighs size f c.kind c.sector (sectors_of run) here ∙ ap (λ n. number_weight f c + n) (sectors-weigh size f run (All-tail (IsPlaced size) c run places) (All-tail (λ (x : Cell). x.away ≡ None) c run homes))

pub sectors-whole : (size : ℕ) (run : List Cell) → All (IsPlaced size) run → All (λ (c : Cell). c.away ≡ None) run → All (HasSize size) (sectors_of run)
sectors-whole size [] places homes = All-nil (HasSize size)
sectors-whole size (c ∷ run) places homes =
    let here = placed_here size c (All-head (λ (x : Cell). x.away ≡ None) c run homes) (All-head (IsPlaced size) c run places) in
    sector-whole size (device_number c.kind) c.sector (sectors_of run) here (sectors-whole size run (All-tail (IsPlaced size) c run places) (All-tail (λ (x : Cell). x.away ≡ None) c run homes))

module _ (size low n : ℕ) (cells : List Cell) (space : SpaceClaims) (places : All (IsPlaced size) cells) (homes : All (λ (c : Cell). c.away ≡ None) (take n (drop low cells))) (s : ClaimsSpace size cells space) where
  abbrev run : List Cell
  run = take n (drop low cells)

  numbers-weigh : (f : ℕ → ℕ) → total f (numbers_of (sectors_of run)) ≡ total (number_weight f) run
  numbers-weigh f = total-map f (λ (t : DeviceBlock). t.number) (sectors_of run) ∙ sectors-weigh size f run (All-run (IsPlaced size) low n cells places) homes

  wiped_among : AreAmong (numbers_of (sectors_of run)) space.numbers
  wiped_among x =
      let f : ℕ → ℕ = λ y. if y == x then 1 else 0 in
      let given = numbers-weigh f in
      let few = total-run-few (number_weight f) low n cells in
      let had = s.numbers f in
      omega arith

  -- the sectors of a run may go back
  pub can_give_run : CanGive (sectors_of run) space
  can_give_run =
      let W : ℕ → Type 0 = λ m. All (HasSize m) (sectors_of run) in
      record { among = wiped_among; sized = subst W (sym s.sized) (sectors-whole size run (All-run (IsPlaced size) low n cells places) homes) }

  -- the seat claims the space that is left
  pub space_wiped : ClaimsSpace size (on_each wipes 0 low n cells) (with_fewer (with_given space (sectors_of run)) (count_on is_promised low n cells))
  space_wiped =
      let nothing : (w : Cell → ℕ) → total (λ (c : Cell). 0) run ≡ 0 = λ w. total-zero _ run (λ k d l. refl) in
      record {
        numbers = λ f.
            let left = without-weighs f (numbers_of (sectors_of run)) space.numbers wiped_among in
            let given = numbers-weigh f in
            let less = total-run wipes (number_weight f) (number_weight f) (λ _. 0) (λ j c. (let z : 0 + number_weight f c ≡ number_weight f c + 0 = omega arith in z)) 0 low n cells in
            let none = nothing (number_weight f) in
            let had = s.numbers f in
            omega arith;
        distinct = λ x.
            let f : ℕ → ℕ = λ y. if y == x then 1 else 0 in
            let left = without-weighs f (numbers_of (sectors_of run)) space.numbers wiped_among in
            let once = s.distinct x in
            omega arith;
        reserved =
            let less = total-run wipes promised promised (λ _. 0) (λ j c. (let z : 0 + promised c ≡ promised c + 0 = omega arith in z)) 0 low n cells in
            let none = nothing promised in
            let counted = count_on-total is_promised low n cells in
            let had = s.reserved in
            omega arith;
        cap = s.cap ∙ sym (length-on_each wipes 0 low n cells);
        sized = s.sized;
      }

-- as many promises as a run has are reserved
pub promised-few : (size low n : ℕ) (cells : List Cell) (space : SpaceClaims) → ClaimsSpace size cells space → count_on is_promised low n cells ≤ space.reserved
promised-few size low n cells space s = let few = total-run-few promised low n cells in let counted = count_on-total is_promised low n cells in let had = s.reserved in omega arith

-- a block of a run that is at home
pub home_at : (low n j : ℕ) (cells : List Cell) (c : Cell) → j < n → slice_get cells (low + j) ≡ Some c → All (λ (x : Cell). x.away ≡ None) (take n (drop low cells)) → c.away ≡ None
home_at low n j cells c l at homes = All-there (λ (x : Cell). x.away ≡ None) (take n (drop low cells)) j c homes (slice_get-take n j (drop low cells) l ∙ slice_get-drop low j cells ∙ at)

-- blocks that became holes are placed where they were at home
pub wiped_placed : (size low n : ℕ) (cells : List Cell) → low + n ≤ length cells → All (λ (c : Cell). c.away ≡ None) (take n (drop low cells)) → All (IsPlaced size) cells → All (IsPlaced size) (on_each wipes 0 low n cells)
wiped_placed size low n cells within homes all =
    All-on_each_at wipes (λ _. 0) (IsPlaced size) 0 low n cells within
    (λ j c l at p. let P : Option Away → Type 0 = λ a. HasPlace size Hole None a in subst P (sym (home_at low n j cells c l at homes)) refl) all

-- the refusal of a wipe, by the number of kinds that it changes
pub wipe_stops : (r : RangeView) (b n k m : ℕ) (cells : List Cell) → k ≡ used_in r b n → m ≡ n → cells ≡ r.cells → None ≡ first_that_stops away b (take m (drop (b - r.first) cells))
    → where_true (nat_lt 0 k && nat_le WORN r.cookie) (Worn r.cookie) ≡ wipe_refusal r b n
wipe_stops r b n k m cells counted same are e =
    let run : take m (drop (b - r.first) cells) ≡ run_of r b n = ap (λ i. take i (drop (b - r.first) cells)) same ∙ ap (λ l. take n (drop (b - r.first) l)) are in
    let none : first_that_stops away b (run_of r b n) ≡ None = sym (e ∙ ap (first_that_stops away b) run) in
    worn_counted is_used r b n k counted ∙ sym (ap (λ o. o orElse worn r (some_block is_used r b n)) none)
