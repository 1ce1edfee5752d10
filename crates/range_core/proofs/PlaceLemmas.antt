-- What blocks that take sectors in order become.
use Rattle.std.proofs.Common.{◌≡◌, ℕ, zero, suc, ◌+◌, ◌<◌, ◌≤◌, ◌==◌, ◌⊎◌, Bool, true, false, if◌then◌else◌, Option, Some, None, List, [], ◌∷◌, ◌++◌, length, take, drop, get_or, set, refl, sym, ◌∙◌, ap, arith, inl, inr, length-drop}
use Rattle.std.specs.Prelude.{slice_get}
use Rattle.std.proofs.Math.Seq.{take-suc}
use Rattle.std.proofs.lemmas.Bool.{eq-eqb, ne_eqb}
use Rattle.std.proofs.lemmas.List.{get_or-drop, length-take}
use Rattle.std.proofs.lemmas.Option.{slice_get-get_or}
use Rattle.iob_base.specs.DeviceBlock.{BLANK, DeviceBlock}
use Rattle.io_model.specs.declared.file.Kind.TheVariants.{Hole}
use Rattle.turn_cell.specs.Stakes.{total}
use Rattle.turn_cell.proofs.Sums.{total-append}
use Rattle.range_core.specs.BlockStates.{state_of, taken_by, with_space}
use Rattle.range_core.specs.Cells.{cold_cell}
use Rattle.range_core.specs.EntryCounts.{one_where}
use Rattle.range_core.specs.OnRun.{count_on, on_each}
use Rattle.range_core.specs.Placing.{left_by, pair_with, pairs_from, picked_with, placed_at, with_sector}
use Rattle.range_core.specs.declared.cell.Cell.{Cell}
use Rattle.range_core.proofs.CountLemmas.{slice_get-take, count_on-total, drop-next, take-take, total-put, total-take-more}
use Rattle.range_core.proofs.OnRunLemmas.{count_on-more, count_on-none, each_more, length-on_each, on_each-more, on_each-next, on_each-none}
use Rattle.range_core.proofs.RunLemmas.{if_false, if_true}
use Rattle.range_core.proofs.SampleLemmas.{slice_get-drop}

-- the sectors that are left for the next block
pub left-next : (t : Bool) (n : ℕ) (sectors : List DeviceBlock) → left_by t (drop n sectors) ≡ drop (n + one_where t) sectors
left-next true n sectors = drop-next n sectors
left-next false n sectors = let z : n ≡ n + 0 = omega arith in ap (λ m. drop m sectors) z

-- a loop that has placed n blocks places the next one
pub placed_more : (p : Cell → Bool) (low n : ℕ) (first now : List Cell) (sectors rest : List DeviceBlock) (cell new : Cell) → now ≡ on_each (placed_at p low first sectors) 0 low n first → cell ≡ get_or now (low + n) cell
    → low + n < length first → rest ≡ drop (count_on p low n first) sectors → new ≡ picked_with (p cell) (slice_get rest 0) cell → set now (low + n) new ≡ on_each (placed_at p low first sectors) 0 low (n + 1) first
placed_more p low n first now sectors rest cell new e at h r is =
    let z : count_on p low n first + 0 ≡ count_on p low n first = omega arith in
    each_more (placed_at p low first sectors) low n first now cell new e at h
    (is ∙ ap (λ o. picked_with (p cell) o cell) (ap (λ l. slice_get l 0) r ∙ slice_get-drop (count_on p low n first) 0 sectors ∙ ap (slice_get sectors) z))

pub left_more : (p : Cell → Bool) (low n : ℕ) (first now : List Cell) (sectors rest left : List DeviceBlock) (cell : Cell) → now ≡ on_each (placed_at p low first sectors) 0 low n first → cell ≡ get_or now (low + n) cell
    → low + n < length first → rest ≡ drop (count_on p low n first) sectors → left ≡ left_by (p cell) rest → left ≡ drop (count_on p low (n + 1) first) sectors
left_more p low n first now sectors rest left cell e at h r is =
    let one : suc n ≡ n + 1 = omega arith in
    let here : cell ≡ get_or first (low + n) cell = at ∙ ap (λ l. get_or l (low + n) cell) e ∙ on_each-next (placed_at p low first sectors) 0 low n (low + n) first cell refl h in
    let counted : count_on p low n first + one_where (p cell) ≡ count_on p low (n + 1) first =
    ap (λ x. count_on p low n first + one_where (p x)) here ∙ sym (count_on-more p low n (low + n) first cell refl h) ∙ ap (λ k. count_on p low k first) one in
    is ∙ ap (left_by (p cell)) r ∙ left-next (p cell) (count_on p low n first) sectors ∙ ap (λ k. drop k sectors) counted

-- what a block weighs that is picked
abbrev pub picked_weight : (Cell → Bool) → (Cell → ℕ) → Cell → ℕ
picked_weight p w c = if p c then w c else 0

-- one block more: what it weighs where it is picked goes, and what its sector weighs comes
placed_weight : (w : Cell → ℕ) (g : DeviceBlock → ℕ) → ((s : DeviceBlock) (c : Cell) → w (with_sector (Some s) c) ≡ g s) → (t : Bool) (k : ℕ) (sectors : List DeviceBlock) (c : Cell) → k + one_where t ≤ length sectors
    → w (picked_with t (slice_get sectors k) c) + (if t then w c else 0) + total g (take k sectors) ≡ w c + total g (take (k + one_where t) sectors)
placed_weight w g h false k sectors c enough = let z : k + 0 ≡ k = omega arith in let e : total g (take (k + 0) sectors) ≡ total g (take k sectors) = ap (λ m. total g (take m sectors)) z in omega arith
placed_weight w g h true k sectors c enough =
    let s : DeviceBlock = get_or sectors k BLANK in
    let at : slice_get sectors k ≡ Some s = slice_get-get_or sectors k BLANK (omega arith) in
    let e : w (with_sector (slice_get sectors k) c) ≡ g s = ap (λ o. w (with_sector o c)) at ∙ h s c in
    omega (arith, total-take-more g k sectors s at)

-- the picked blocks of a run weigh what their sectors do
pub total-placed : (p : Cell → Bool) (low : ℕ) (xs : List Cell) (sectors : List DeviceBlock) (w : Cell → ℕ) (g : DeviceBlock → ℕ) → ((s : DeviceBlock) (c : Cell) → w (with_sector (Some s) c) ≡ g s) → (n : ℕ) → low + n ≤ length xs
    → count_on p low n xs ≤ length sectors → total w (on_each (placed_at p low xs sectors) 0 low n xs) + total (picked_weight p w) (take n (drop low xs)) ≡ total w xs + total g (take (count_on p low n xs) sectors)
total-placed p low xs sectors w g h zero within enough =
    let same : total w (on_each (placed_at p low xs sectors) 0 low 0 xs) ≡ total w xs = ap (total w) (sym (on_each-none (placed_at p low xs sectors) 0 low xs)) in
    let none : total g (take (count_on p low 0 xs) sectors) ≡ 0 = ap (λ k. total g (take k sectors)) (sym (count_on-none p low xs)) in
    omega arith
total-placed p low xs sectors w g h (suc n) within enough =
    step (get_or xs (low + n) (cold_cell Hole None)) refl (total-placed p low xs sectors w g h n (omega arith) (let m = count_on-more p low n (low + n) xs (cold_cell Hole None) refl (omega arith) in omega arith))
  where
    step : (x : Cell) → x ≡ get_or xs (low + n) (cold_cell Hole None) → total w (on_each (placed_at p low xs sectors) 0 low n xs) + total (picked_weight p w) (take n (drop low xs)) ≡ total w xs + total g (take (count_on p low n xs) sectors)
        → total w (on_each (placed_at p low xs sectors) 0 low (suc n) xs) + total (picked_weight p w) (take (suc n) (drop low xs)) ≡ total w xs + total g (take (count_on p low (suc n) xs) sectors)
    step x e before =
        let d : Cell = cold_cell Hole None in
        let F : ℕ → Cell → Cell = placed_at p low xs sectors in
        let lt : low + n < length xs = omega arith in
        let many : length (on_each F 0 low n xs) ≡ length xs = length-on_each F 0 low n xs in
        let counted : count_on p low (suc n) xs ≡ count_on p low n xs + one_where (p x) = count_on-more p low n (low + n) xs d refl lt ∙ ap (λ c. count_on p low n xs + one_where (p c)) (sym e) in
        let zeroth : n ≡ 0 + n = omega arith in
        let put : total w (on_each F 0 low (suc n) xs) ≡ total w (set (on_each F 0 low n xs) (low + n) (F n x)) =
        ap (total w) (on_each-more F 0 low n (low + n) n xs d refl zeroth lt ∙ ap (λ c. set (on_each F 0 low n xs) (low + n) (F n c)) (sym e)) in
        let weighs = total-put w (on_each F 0 low n xs) (low + n) (F n x) d (omega arith) in
        let same : w (get_or (on_each F 0 low n xs) (low + n) d) ≡ w x = ap w (on_each-next F 0 low n (low + n) xs d refl lt ∙ sym e) in
        let inside : n < length (drop low xs) = omega (arith, length-drop low xs) in
        let run : total (picked_weight p w) (take (suc n) (drop low xs)) ≡ total (picked_weight p w) (take n (drop low xs)) + (picked_weight p w x + 0) =
        ap (total (picked_weight p w)) (take-suc (drop low xs) n d inside) ∙ total-append (picked_weight p w) (take n (drop low xs)) (get_or (drop low xs) n d ∷ [])
        ∙ ap (λ c. total (picked_weight p w) (take n (drop low xs)) + (picked_weight p w c + 0)) (get_or-drop low xs n d ∙ sym e) in
        let taken : total g (take (count_on p low (suc n) xs) sectors) ≡ total g (take (count_on p low n xs + one_where (p x)) sectors) = ap (λ k. total g (take k sectors)) counted in
        let here = placed_weight w g h (p x) (count_on p low n xs) sectors x (omega arith) in
        omega arith

-- the number of a sector, where there is one
abbrev pub number_of : Option DeviceBlock → Option ℕ
number_of None = None
number_of (Some s) = Some s.number

-- no block before the first one took a sector
taken-before : (p : Cell → Bool) (a b : ℕ) (cells : List Cell) (sectors : List DeviceBlock) → a < b → taken_by a (pairs_from p b cells sectors) ≡ None
taken-before p a b [] sectors h = refl
taken-before p a b (c ∷ cells) sectors h = at (p c) sectors (λ ss. taken-before p a (b + 1) cells ss (omega arith))
  where
    at : (t : Bool) (sectors : List DeviceBlock) → ((ss : List DeviceBlock) → taken_by a (pairs_from p (b + 1) cells ss) ≡ None)
        → taken_by a (if t then pair_with b sectors ++ pairs_from p (b + 1) cells (drop 1 sectors) else pairs_from p (b + 1) cells sectors) ≡ None
    at false sectors rest = rest sectors
    at true [] rest = rest []
    at true (s ∷ sectors) rest = if_false (b == a) (Some s.number) _ (ne_eqb b a (λ e. omega arith)) ∙ rest sectors

taken-after : (p : Cell → Bool) (a b : ℕ) (cells : List Cell) (sectors : List DeviceBlock) → b + length cells ≤ a → taken_by a (pairs_from p b cells sectors) ≡ None
taken-after p a b [] sectors h = refl
taken-after p a b (c ∷ cells) sectors h = at (p c) sectors (λ ss. taken-after p a (b + 1) cells ss (omega arith))
  where
    at : (t : Bool) (sectors : List DeviceBlock) → ((ss : List DeviceBlock) → taken_by a (pairs_from p (b + 1) cells ss) ≡ None)
        → taken_by a (if t then pair_with b sectors ++ pairs_from p (b + 1) cells (drop 1 sectors) else pairs_from p (b + 1) cells sectors) ≡ None
    at false sectors rest = rest sectors
    at true [] rest = rest []
    at true (s ∷ sectors) rest = if_false (b == a) (Some s.number) _ (ne_eqb b a (λ e. omega arith)) ∙ rest sectors

-- what a block of these took
taken-here : (p : Cell → Bool) (b k : ℕ) (cells : List Cell) (sectors : List DeviceBlock) (c : Cell) → slice_get cells k ≡ Some c
    → taken_by (b + k) (pairs_from p b cells sectors) ≡ (if p c then number_of (slice_get sectors (count_on p 0 k cells)) else None)
taken-here p b k [] sectors c e = absurd (cc)
taken-here p b zero (x ∷ cells) sectors c e =
    let is : x ≡ c = cc in
    at (p x) sectors (λ ss. taken-before p (b + 0) (b + 1) cells ss (omega arith)) ∙ ap (λ y. if p y then number_of (slice_get sectors 0) else None) is
  where
    at : (t : Bool) (sectors : List DeviceBlock) → ((ss : List DeviceBlock) → taken_by (b + 0) (pairs_from p (b + 1) cells ss) ≡ None)
        → taken_by (b + 0) (if t then pair_with b sectors ++ pairs_from p (b + 1) cells (drop 1 sectors) else pairs_from p (b + 1) cells sectors) ≡ (if t then number_of (slice_get sectors 0) else None)
    at false sectors none = none sectors
    at true [] none = none []
    at true (s ∷ sectors) none = if_true (b == (b + 0)) (Some s.number) _ (eq-eqb b (b + 0) (omega arith))
taken-here p b (suc k) (x ∷ cells) sectors c e =
    at (p x) sectors (λ ss. taken-here p (b + 1) k cells ss c e)
  where
    at : (t : Bool) (sectors : List DeviceBlock) → ((ss : List DeviceBlock) → taken_by (b + 1 + k) (pairs_from p (b + 1) cells ss) ≡ (if p c then number_of (slice_get ss (count_on p 0 k cells)) else None))
        → taken_by (b + suc k) (if t then pair_with b sectors ++ pairs_from p (b + 1) cells (drop 1 sectors) else pairs_from p (b + 1) cells sectors)
        ≡ (if p c then number_of (slice_get sectors (one_where t + count_on p 0 k cells)) else None)
    at false sectors rest =
        let z : b + suc k ≡ b + 1 + k = omega arith in
        let n : count_on p 0 k cells ≡ 0 + count_on p 0 k cells = omega arith in
        ap (λ i. taken_by i (pairs_from p (b + 1) cells sectors)) z ∙ rest sectors ∙ ap (λ m. if p c then number_of (slice_get sectors m) else None) n
    at true [] rest =
        let z : b + suc k ≡ b + 1 + k = omega arith in
        ap (λ i. taken_by i (pairs_from p (b + 1) cells [])) z ∙ rest []
    at true (s ∷ sectors) rest =
        let z : b + suc k ≡ b + 1 + k = omega arith in
        let n : suc (count_on p 0 k cells) ≡ 1 + count_on p 0 k cells = omega arith in
        if_false (b == (b + suc k)) (Some s.number) _ (ne_eqb b (b + suc k) (λ e. omega arith))
        ∙ ap (λ i. taken_by i (pairs_from p (b + 1) cells sectors)) z ∙ rest sectors ∙ ap (λ m. if p c then number_of (slice_get (s ∷ sectors) m) else None) n

-- as many blocks took a sector as there are sectors, where there is one for each picked block
pub length-pairs : (p : Cell → Bool) (b : ℕ) (cells : List Cell) (sectors : List DeviceBlock) → length sectors ≡ total (λ c. one_where (p c)) cells → length (pairs_from p b cells sectors) ≡ length sectors
length-pairs p b [] sectors h = sym h
length-pairs p b (c ∷ cells) sectors h = at (p c) sectors h (λ ss g. length-pairs p (b + 1) cells ss g)
  where
    at : (t : Bool) (sectors : List DeviceBlock) → length sectors ≡ one_where t + total (λ x. one_where (p x)) cells → ((ss : List DeviceBlock) → length ss ≡ total (λ x. one_where (p x)) cells → length (pairs_from p (b + 1) cells ss) ≡ length ss)
        → length (if t then pair_with b sectors ++ pairs_from p (b + 1) cells (drop 1 sectors) else pairs_from p (b + 1) cells sectors) ≡ length sectors
    at false sectors h rest = rest sectors (omega arith)
    at true [] h rest = absurd (omega arith)
    at true (s ∷ sectors) h rest = ap suc (rest sectors (omega arith))

-- a block that took a sector is in the state of one that did
pub state-placed : (t : Bool) (o : Option DeviceBlock) (c : Cell) → state_of (picked_with t o c) ≡ with_space (if t then number_of o else None) (state_of c)
state-placed false o c = refl
state-placed true None c = refl
state-placed true (Some s) c = refl

-- what the k-th block of a run took, and that no block outside it took anything
pub taken-in_run : (p : Cell → Bool) (b low n k : ℕ) (cells : List Cell) (sectors : List DeviceBlock) (c : Cell) → k < n → slice_get cells (low + k) ≡ Some c
    → taken_by (b + k) (pairs_from p b (take n (drop low cells)) sectors) ≡ (if p c then number_of (slice_get sectors (count_on p low k cells)) else None)
taken-in_run p b low n k cells sectors c l e =
    let run : List Cell = take n (drop low cells) in
    let here : slice_get run k ≡ Some c = slice_get-take n k (drop low cells) l ∙ slice_get-drop low k cells ∙ e in
    let same : count_on p 0 k run ≡ count_on p low k cells =
    count_on-total p 0 k run ∙ ap (total (λ x. one_where (p x))) (take-take k n (drop low cells) (omega arith)) ∙ sym (count_on-total p low k cells) in
    taken-here p b k run sectors c here ∙ ap (λ m. if p c then number_of (slice_get sectors m) else None) same

pub taken-out_of_run : (p : Cell → Bool) (a b low n : ℕ) (cells : List Cell) (sectors : List DeviceBlock) → (a < b) ⊎ (b + n ≤ a) → taken_by a (pairs_from p b (take n (drop low cells)) sectors) ≡ None
taken-out_of_run p a b low n cells sectors (inl h) = taken-before p a b (take n (drop low cells)) sectors h
taken-out_of_run p a b low n cells sectors (inr h) = taken-after p a b (take n (drop low cells)) sectors (let few : length (take n (drop low cells)) ≤ n = omega (arith, length-take n (drop low cells)) in omega arith)
