-- The blocks of a file with one mapped extent, as a range that was only read leaves them.
use Rattle.std.proofs.Common.{◌≡◌, ℕ, zero, suc, ◌+◌, ◌-◌, ◌<◌, ◌≤◌, Bool, true, false, List, [], ◌∷◌, Some, None, nat_eq, nat_le, nat_lt, if◌then◌else◌, map, drop, refl, sym, ap, ◌∙◌, arith, ◌⊎◌, inl, inr, subst}
use Rattle.std.specs.Prelude.{max}
use Rattle.std.specs.List.{cons_option}
use Rattle.std.proofs.lemmas.Bool.{ltb-true, ltb-false, lt-ltb, leb-true, leb-false, le-leb, eqb-true, eqb-false}
use Rattle.iob_base.specs.DeviceBlock.{DeviceBlock}
use Rattle.iob_base.specs.declared.stamp.Stamp.{Stamp}
use Rattle.io_model.specs.Contents.{Content}
use Rattle.io_model.specs.Kinds.{covers, kind_after, kind_at, mapped_number, device_number}
use Rattle.io_model.specs.declared.file.Extent.{Extent}
use Rattle.io_model.specs.declared.file.Kind.{Kind}
use Rattle.io_model.specs.declared.file.Kind.TheVariants.{Hole, Mapped}
use Rattle.io_model.specs.Partition.{onto_sectors}
use Rattle.iomap_replay.specs.Devices.{blocks_with}
use Rattle.iomap_replay.specs.Runs.{is_among, tabulated, read_end, sector_with}
use Rattle.iomap_replay.proofs.Spans.{among, apart, is_among-in, is_among-out}
use Rattle.range_core.specs.Cells.{cell_of, cells_of, sectors_after}
use Rattle.range_core.specs.Kinds.{kinds_from}
use Rattle.range_core.specs.declared.cell.Cell.{Cell}
use Rattle.range_core.specs.Stamps.{bare_end, journaled, stamps_at, stamps_from}

-- the sectors of an extent that are left at a block of the file
abbrev pub rest_at : (ℕ → Content) → ℕ → ℕ → ℕ → ℕ → List DeviceBlock
rest_at content d low high b = blocks_with content (d + (b - low)) (high - max b low)

-- a block of this kind takes its sector from these, and leaves those for the next block
pub record Steps (content : ℕ → Content) (kind : Kind) (sectors next : List DeviceBlock) : Type 0 where
  pub cell : (cell_of kind sectors).sector ≡ sector_with content (mapped_number kind)
  pub rest : sectors_after kind sectors ≡ next
  pub own : sectors ≡ onto_sectors (sector_with content (mapped_number kind)) next
  pub numbers : map (λ (s : DeviceBlock). s.number) sectors ≡ cons_option (device_number kind) (map (λ (s : DeviceBlock). s.number) next)

steps-mapped : (content : ℕ → Content) (n m : ℕ) → Steps content (Mapped n) (blocks_with content n (suc m)) (blocks_with content (n + 1) m)
steps-mapped content n m = record { cell = refl; rest = refl; own = refl; numbers = refl }

steps-hole : (content : ℕ → Content) (sectors : List DeviceBlock) → Steps content Hole sectors sectors
steps-hole content sectors = record { cell = refl; rest = refl; own = refl; numbers = refl }

pub inside : (content : ℕ → Content) (e : Extent) (d b : ℕ) → e.kind ≡ Mapped d → e.block ≤ b → b < e.block + e.length
    → Steps content (kind_at (e ∷ []) b) (rest_at content d e.block (e.block + e.length) b) (rest_at content d e.block (e.block + e.length) (b + 1))
inside content e d b kind low high =
    let place = b - e.block in
    let m = e.block + e.length - max (b + 1) e.block in
    let covered : covers e b ≡ true = rw (le-leb _ _ low, lt-ltb _ _ high) refl in
    let is : kind_at (e ∷ []) b ≡ Mapped (d + place) =
    ap (λ (t : Bool). if t then kind_after e.kind place else Hole) covered ∙ ap (λ k. kind_after k place) kind in
    let left : e.block + e.length - max b e.block ≡ suc m = omega (arith, low, high) in
    let next : d + (b + 1 - e.block) ≡ d + place + 1 = omega (arith, low) in
    let K : Kind → Type 0 = λ k. Steps content k (blocks_with content (d + place) (e.block + e.length - max b e.block)) (blocks_with content (d + (b + 1 - e.block)) m) in
    let L : ℕ → Type 0 = λ l. Steps content (Mapped (d + place)) (blocks_with content (d + place) l) (blocks_with content (d + (b + 1 - e.block)) m) in
    let N : ℕ → Type 0 = λ n. Steps content (Mapped (d + place)) (blocks_with content (d + place) (suc m)) (blocks_with content n m) in
    subst K (sym is) (subst L (sym left) (subst N (sym next) (steps-mapped content (d + place) m)))

outside : (content : ℕ → Content) (e : Extent) (d b : ℕ) → covers e b ≡ false → (b < e.block) ⊎ (e.block + e.length ≤ b)
    → Steps content (kind_at (e ∷ []) b) (rest_at content d e.block (e.block + e.length) b) (rest_at content d e.block (e.block + e.length) (b + 1))
outside content e d b out side =
    let is : kind_at (e ∷ []) b ≡ Hole = ap (λ (t : Bool). if t then kind_after e.kind (b - e.block) else Hole) out in
    let sectors = rest_at content d e.block (e.block + e.length) b in
    let same : sectors ≡ rest_at content d e.block (e.block + e.length) (b + 1) = before_or_after side in
    let K : Kind → Type 0 = λ k. Steps content k sectors (rest_at content d e.block (e.block + e.length) (b + 1)) in
    let L : List DeviceBlock → Type 0 = λ next. Steps content Hole sectors next in
    subst K (sym is) (subst L same (steps-hole content sectors))
  where
    two_counts : (p q m n : ℕ) → p ≡ q → m ≡ n → blocks_with content p m ≡ blocks_with content q n
    two_counts p q m n pq mn = ap (λ k. blocks_with content k m) pq ∙ ap (blocks_with content q) mn

    before_or_after : (b < e.block) ⊎ (e.block + e.length ≤ b)
        → rest_at content d e.block (e.block + e.length) b ≡ rest_at content d e.block (e.block + e.length) (b + 1)
    before_or_after (inl below) = two_counts _ _ _ _ (omega (arith, below)) (omega (arith, below))
    before_or_after (inr above) = none_left (e.block + e.length - max b e.block) (e.block + e.length - max (b + 1) e.block) (omega (arith, above)) (omega (arith, above))
      where
        none_left : (m n : ℕ) → m ≡ 0 → n ≡ 0 → blocks_with content (d + (b - e.block)) m ≡ blocks_with content (d + (b + 1 - e.block)) n
        none_left m n mz nz = ap (blocks_with content (d + (b - e.block))) mz ∙ sym (ap (blocks_with content (d + (b + 1 - e.block))) nz)

pub steps : (content : ℕ → Content) (e : Extent) (d b : ℕ) → e.kind ≡ Mapped d
    → Steps content (kind_at (e ∷ []) b) (rest_at content d e.block (e.block + e.length) b) (rest_at content d e.block (e.block + e.length) (b + 1))
steps content e d b kind = by_low (nat_le e.block b) refl
  where
    by_high : (t : Bool) → nat_lt b (e.block + e.length) ≡ t → e.block ≤ b
        → Steps content (kind_at (e ∷ []) b) (rest_at content d e.block (e.block + e.length) b) (rest_at content d e.block (e.block + e.length) (b + 1))
    by_high true is low = inside content e d b kind low (ltb-true b (e.block + e.length) is)
    by_high false is low = outside content e d b (rw (le-leb _ _ low, is) refl) (inr (ltb-false b (e.block + e.length) is))

    by_low : (t : Bool) → nat_le e.block b ≡ t
        → Steps content (kind_at (e ∷ []) b) (rest_at content d e.block (e.block + e.length) b) (rest_at content d e.block (e.block + e.length) (b + 1))
    by_low true is = by_high (nat_lt b (e.block + e.length)) refl (leb-true e.block b is)
    by_low false is = outside content e d b (rw is refl) (inl (leb-false e.block b is))

-- the ends of the blocks, one after the other
ends-from : (content : ℕ → Content) (e : Extent) (d : ℕ) (read : ℕ → Bool) (stamps : List Stamp) (log : List (ℕ × Stamp)) → e.kind ≡ Mapped d
    → ((b : ℕ) → stamps_at b log ≡ (if read b then stamps else [])) → (b n : ℕ)
    → journaled b log (map bare_end (cells_of (kinds_from (e ∷ []) b n) (rest_at content d e.block (e.block + e.length) b)))
    ≡ tabulated (read_end content (λ i. mapped_number (kind_at (e ∷ []) i)) read stamps) b n
ends-from content e d read stamps log kind logged b zero = refl
ends-from content e d read stamps log kind logged b (suc n) =
    let here = steps content e d b kind in
    rw (here.cell, logged b, here.rest) (ap (λ ends. read_end content (λ i. mapped_number (kind_at (e ∷ []) i)) read stamps b ∷ ends)
    (ends-from content e d read stamps log kind logged (b + 1) n))

-- at the first block all sectors are left
pub start_rest : (content : ℕ → Content) (e : Extent) (d : ℕ) → rest_at content d e.block (e.block + e.length) 0 ≡ blocks_with content d e.length
start_rest content e d =
    let p : d + (0 - e.block) ≡ d = omega arith in
    let q : e.block + e.length - max 0 e.block ≡ e.length = omega arith in
    ap (λ k. blocks_with content k (e.block + e.length - max 0 e.block)) p ∙ ap (blocks_with content d) q

-- the ends of all blocks of the file
pub ends-are : (content : ℕ → Content) (e : Extent) (d blocks : ℕ) (read : ℕ → Bool) (stamps : List Stamp) (log : List (ℕ × Stamp)) → e.kind ≡ Mapped d
    → ((b : ℕ) → stamps_at b log ≡ (if read b then stamps else []))
    → journaled 0 log (map bare_end (cells_of (kinds_from (e ∷ []) 0 blocks) (blocks_with content d e.length)))
    ≡ tabulated (read_end content (λ i. mapped_number (kind_at (e ∷ []) i)) read stamps) 0 blocks
ends-are content e d blocks read stamps log kind logged =
    ap (λ sectors. journaled 0 log (map bare_end (cells_of (kinds_from (e ∷ []) 0 blocks) sectors))) (sym (start_rest content e d))
    ∙ ends-from content e d read stamps log kind logged 0 blocks

-- the blocks from one on, with the sectors that are left there
pub cells-dropped : (content : ℕ → Content) (e : Extent) (d : ℕ) → e.kind ≡ Mapped d → (k b n : ℕ)
    → drop k (cells_of (kinds_from (e ∷ []) b n) (rest_at content d e.block (e.block + e.length) b))
    ≡ cells_of (kinds_from (e ∷ []) (b + k) (n - k)) (rest_at content d e.block (e.block + e.length) (b + k))
cells-dropped content e d kind zero b n =
    let cells : ℕ → ℕ → List Cell = λ c m. cells_of (kinds_from (e ∷ []) c m) (rest_at content d e.block (e.block + e.length) c) in
    let many : n ≡ n - 0 = omega arith in
    let place : b ≡ b + 0 = omega arith in
    ap (cells b) many ∙ ap (λ c. cells c (n - 0)) place
cells-dropped content e d kind (suc k) b zero =
    let none : 0 ≡ 0 - suc k = omega arith in
    ap (λ m. cells_of (kinds_from (e ∷ []) (b + suc k) m) (rest_at content d e.block (e.block + e.length) (b + suc k))) none
cells-dropped content e d kind (suc k) b (suc n) =
    let cells : ℕ → ℕ → List Cell = λ c m. cells_of (kinds_from (e ∷ []) c m) (rest_at content d e.block (e.block + e.length) c) in
    let place : b + 1 + k ≡ b + suc k = omega arith in
    let many : n - k ≡ suc n - suc k = omega arith in
    ap (λ sectors. drop k (cells_of (kinds_from (e ∷ []) (b + 1) n) sectors)) (steps content e d b kind).rest
    ∙ cells-dropped content e d kind k (b + 1) n ∙ ap (λ c. cells c (n - k)) place ∙ ap (cells (b + suc k)) many

-- one stamp for each of so many blocks stands at these, and none at any other
pub stamps_at-run : (stamp : Stamp) (b k i : ℕ) → stamps_at i (stamps_from b k stamp) ≡ (if is_among b k i then stamp ∷ [] else [])
stamps_at-run stamp b zero i =
    let none : is_among b 0 i ≡ false = is_among-out b 0 i (side (nat_lt i b) refl) in
    sym (ap (λ (t : Bool). if t then stamp ∷ [] else []) none)
  where
    side : (t : Bool) → nat_lt i b ≡ t → (i < b) ⊎ (b + 0 ≤ i)
    side true is = inl (ltb-true i b is)
    side false is = let above : b ≤ i = ltb-false i b is in inr (omega (arith, above))
stamps_at-run stamp b (suc k) i =
    ap (λ stamps. cons_option (if nat_eq b i then Some stamp else None) stamps) (stamps_at-run stamp (b + 1) k i) ∙ by_first (nat_eq b i) refl
  where
    goal_at : Bool → Type 0
    goal_at t = cons_option (if t then Some stamp else None) (if is_among (b + 1) k i then stamp ∷ [] else []) ≡ (if is_among b (suc k) i then stamp ∷ [] else [])

    by_first : (t : Bool) → nat_eq b i ≡ t → goal_at t
    by_first true is =
        let same : b ≡ i = eqb-true b i is in
        let rest : is_among (b + 1) k i ≡ false = is_among-out (b + 1) k i (inl (omega (arith, same))) in
        let here : is_among b (suc k) i ≡ true = is_among-in b (suc k) i (omega (arith, same)) (omega (arith, same)) in
        ap (λ (t : Bool). cons_option (Some stamp) (if t then stamp ∷ [] else [])) rest ∙ sym (ap (λ (t : Bool). if t then stamp ∷ [] else []) here)
    by_first false is = ap (λ (t : Bool). if t then stamp ∷ [] else []) (by_rest (is_among (b + 1) k i) refl)
      where
        other : b ≡ i → ⊥
        other = eqb-false b i is

        by_rest : (t : Bool) → is_among (b + 1) k i ≡ t → is_among (b + 1) k i ≡ is_among b (suc k) i
        by_rest true in_rest =
            let at = among (b + 1) k i in_rest in
            in_rest ∙ sym (is_among-in b (suc k) i (omega (arith, at.0)) (omega (arith, at.1)))
        by_rest false out = out ∙ sym (is_among-out b (suc k) i (elim (apart (b + 1) k i out) [
          | inl below ↦ inl (omega (arith, below, other))
          | inr above ↦ inr (omega (arith, above))
        ]))

pub stamps_at-none : (read : ℕ → Bool) (b : ℕ) → stamps_at b [] ≡ (if read b then [] else [])
stamps_at-none read b = by_test (read b)
  where
    by_test : (t : Bool) → ◌≡◌ {A = List Stamp} [] (if t then [] else [])
    by_test true = refl
    by_test false = refl
