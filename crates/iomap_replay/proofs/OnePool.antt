-- The pool of the sectors that no file has.
use Rattle.std.proofs.Common.{◌≡◌, ℕ, zero, suc, ◌+◌, ◌-◌, ◌<◌, ◌≤◌, Bool, true, false, nat_eq, if◌then◌else◌, Some, List, [], ◌∷◌, ◌++◌, length, All, refl, sym, ap, ◌∙◌, arith, add-zero}
use Rattle.std.proofs.lemmas.Bool.{eqb-true}
use Rattle.std.proofs.lemmas.List.{map-append}
use Rattle.std.proofs.lemmas.List.Elements.{All-append, All-from_recursion}
use Rattle.iob_base.specs.DeviceBlock.{DeviceBlock, device_block}
use Rattle.io_model.specs.Contents.{Content}
use Rattle.iomap_replay.proofs.OneRange.{all_whole}
use Rattle.iomap_replay.specs.Devices.{SameNumbers, blocks_beside, blocks_with}
use Rattle.range_core.specs.Opening.{ClaimsSectors}
use Rattle.space_pool.specs.Claims.{claims_with, numbers_of, times}
use Rattle.space_pool.specs.Pool.{AreDistinct, HasSize, PoolView}
use Rattle.space_pool.specs.Sectors.{TakesLowest}
use Rattle.space_pool.specs.Truth.{PoolStake, claimed, number_weight}
use Rattle.space_pool.specs.Turns.{ClosesPool}
use Rattle.space_pool.specs.declared.claims.PoolClaims.{PoolClaims}
use Rattle.space_pool.specs.declared.entry.PoolEntry.{PoolEntry}
use Rattle.turn_cell.specs.Stakes.{total}
use Rattle.turn_cell.specs.Views.{SeatView}
use Rattle.turn_cell.proofs.Sums.{total-alone, total-append}

-- a number stands at most once among those of a run of blocks, and not at all below it
record IsOnce (content : ℕ → Content) (d n x : ℕ) : Type 0 where
  few : times x (numbers_of (blocks_with content d n)) ≤ 1
  below : x < d → times x (numbers_of (blocks_with content d n)) ≡ 0

is_once : (content : ℕ → Content) (d n x : ℕ) → IsOnce content d n x
is_once content d zero x = record { few = omega arith; below = λ _. refl }
is_once content d (suc n) x = at (nat_eq d x) refl (is_once content (d + 1) n x)
  where
    at : (t : Bool) → nat_eq d x ≡ t → IsOnce content (d + 1) n x → IsOnce content d (suc n) x
    at true e rest =
        let same : d ≡ x = eqb-true d x e in
        let none : times x (numbers_of (blocks_with content (d + 1) n)) ≡ 0 = rest.below (omega arith) in
        let one : times x (numbers_of (blocks_with content d (suc n))) ≡ 1 + times x (numbers_of (blocks_with content (d + 1) n)) =
        ap (λ (t : Bool). (if t then 1 else 0) + times x (numbers_of (blocks_with content (d + 1) n))) e in
        record { few = omega arith; below = λ l. absurd (omega arith) }
    at false e rest =
        let few = rest.few in
        let same : times x (numbers_of (blocks_with content d (suc n))) ≡ 0 + times x (numbers_of (blocks_with content (d + 1) n)) =
        ap (λ (t : Bool). (if t then 1 else 0) + times x (numbers_of (blocks_with content (d + 1) n))) e in
        record { few = omega arith; below = λ l. let none = rest.below (omega arith) in omega arith }

-- the numbers of a run of blocks differ
pub distinct_run : (content : ℕ → Content) (d n : ℕ) → AreDistinct (numbers_of (blocks_with content d n))
distinct_run content d n x = (is_once content d n x).few

-- a run of blocks in two parts
blocks_with-split : (content : ℕ → Content) (d m n : ℕ) → blocks_with content d (m + n) ≡ blocks_with content d m ++ blocks_with content (d + m) n
blocks_with-split content d zero n =
    let z : 0 + n ≡ n = omega arith in
    ap (blocks_with content d) z ∙ ap (λ k. blocks_with content k n) (sym (add-zero d))
blocks_with-split content d (suc m) n =
    let z : suc m + n ≡ suc (m + n) = omega arith in
    let k : d + 1 + m ≡ d + suc m = omega arith in
    ap (blocks_with content d) z ∙ ap (λ bs. device_block d (content d) ∷ bs) (blocks_with-split content (d + 1) m n ∙ ap (λ j. blocks_with content (d + 1) m ++ blocks_with content j n) k)

times-append : (x : ℕ) (xs ys : List DeviceBlock) → times x (numbers_of (xs ++ ys)) ≡ times x (numbers_of xs) + times x (numbers_of ys)
times-append x xs ys = ap (times x) (map-append (λ (s : DeviceBlock). s.number) xs ys) ∙ total-append (λ y. if nat_eq y x then 1 else 0) (numbers_of xs) (numbers_of ys)

-- the numbers of a run and of all blocks beside it differ
pub distinct_beside : (content : ℕ → Content) (d n blocks : ℕ) → d + n ≤ blocks → AreDistinct (numbers_of (blocks_with content d n) ++ numbers_of (blocks_beside content d n blocks))
distinct_beside content d n blocks within x =
    let m : ℕ = blocks - (d + n) in
    let front : List DeviceBlock = blocks_with content 0 d in
    let own : List DeviceBlock = blocks_with content d n in
    let back : List DeviceBlock = blocks_with content (d + n) m in
    let zeroth : 0 + d ≡ d = omega arith in
    let all : blocks_with content 0 (d + (n + m)) ≡ front ++ (own ++ back) =
    blocks_with-split content 0 d (n + m) ∙ ap (λ k. front ++ blocks_with content k (n + m)) zeroth ∙ ap (λ bs. front ++ bs) (blocks_with-split content d n m) in
    let once : times x (numbers_of (blocks_with content 0 (d + (n + m)))) ≤ 1 = distinct_run content 0 (d + (n + m)) x in
    let parts : times x (numbers_of (blocks_with content 0 (d + (n + m)))) ≡ times x (numbers_of front) + times x (numbers_of (own ++ back)) =
    ap (λ bs. times x (numbers_of bs)) all ∙ times-append x front (own ++ back) in
    let last : times x (numbers_of (own ++ back)) ≡ times x (numbers_of own) + times x (numbers_of back) = times-append x own back in
    let beside : times x (numbers_of (front ++ back)) ≡ times x (numbers_of front) + times x (numbers_of back) = times-append x front back in
    let both : times x (numbers_of own ++ numbers_of (front ++ back)) ≡ times x (numbers_of own) + times x (numbers_of (front ++ back)) =
    total-append (λ y. if nat_eq y x then 1 else 0) (numbers_of own) (numbers_of (front ++ back)) in
    omega arith

-- all of them are blocks of the device's size
pub sized_run : (content : ℕ → Content) (size d n : ℕ) → ((i : ℕ) → length (content i) ≡ size) → All (HasSize size) (blocks_with content d n)
sized_run content size d n whole = All-from_recursion (HasSize size) (blocks_with content d n) (all_whole content size d n whole)

pub sized_beside : (content : ℕ → Content) (size d n blocks : ℕ) → ((i : ℕ) → length (content i) ≡ size) → All (HasSize size) (blocks_beside content d n blocks)
sized_beside content size d n blocks whole =
    All-append (HasSize size) (blocks_with content 0 d) (blocks_with content (d + n) (blocks - (d + n))) (sized_run content size 0 d whole) (sized_run content size (d + n) (blocks - (d + n)) whole)

total-numbers : (f : ℕ → ℕ) (sectors : List DeviceBlock) → total f (numbers_of sectors) ≡ total (λ (s : DeviceBlock). f s.number) sectors
total-numbers f [] = refl
total-numbers f (s ∷ sectors) = ap (λ n. f s.number + n) (total-numbers f sectors)

-- what the first seat claims are the sectors of the file
pub claims_own : (own : List DeviceBlock) (blocks size : ℕ) → AreDistinct (numbers_of own) → ClaimsSectors size blocks own (claims_with own blocks size)
claims_own own blocks size distinct = record { numbers = λ f. total-numbers f own; distinct = distinct; reserved = refl; cap = refl; sized = refl }

-- taken out in order, all free sectors are the free sectors
all_taken : (free sectors : List DeviceBlock) → TakesLowest (length free) free [] [] sectors → SameNumbers sectors free
all_taken free sectors t f =
    let here : sectors ≡ t.taken = t.appended in
    let moved : total (λ (s : DeviceBlock). f s.number) free ≡ total (λ (s : DeviceBlock). f s.number) t.taken + 0 = t.moved (λ s. f s.number) in
    ap (total (λ (s : DeviceBlock). f s.number)) here ∙ omega arith

-- a pool that is closed gives the sectors that were free, where its one seat claims the others
pub closed_free : (opening : PoolView) (seat : SeatView PoolEntry) (claims : PoolClaims) (sectors own free : List DeviceBlock) → ClosesPool opening seat claims sectors
    → claims.facts.numbers ≡ numbers_of own → opening.numbers ≡ numbers_of own ++ numbers_of free → SameNumbers sectors free
closed_free opening seat claims sectors own free c claimed_are numbers f =
    let stands = c.closed.stands in
    let w : PoolStake → ℕ = claimed (number_weight f) in
    let weighs : total (λ (s : DeviceBlock). f s.number) c.value.free + total w c.closed.stakes ≡ total f opening.numbers = stands.holds.numbers.weighs f in
    let alone : total w c.closed.stakes ≡ total f claims.facts.numbers =
    total-alone w c.closed.stakes c.closed.number (Some claims, seat.made) stands.here (λ j s apart there. ap w (c.closed.alone j s apart there)) in
    let mine : total f claims.facts.numbers ≡ total f (numbers_of own) = ap (total f) claimed_are in
    let all : total f opening.numbers ≡ total f (numbers_of own) + total f (numbers_of free) = ap (total f) numbers ∙ total-append f (numbers_of own) (numbers_of free) in
    let others : total f (numbers_of free) ≡ total (λ (s : DeviceBlock). f s.number) free = total-numbers f free in
    let given : total (λ (s : DeviceBlock). f s.number) sectors ≡ total (λ (s : DeviceBlock). f s.number) c.value.free = all_taken c.value.free sectors c.all f in
    omega arith
