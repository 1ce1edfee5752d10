-- The device of a run of one read: each of its blocks is in one place.
use Rattle.std.proofs.Common.{◌≡◌, ℕ, zero, suc, ◌+◌, ◌-◌, ◌<◌, ◌≤◌, Bool, true, false, List, [], ◌∷◌, ◌++◌, Some, None, nat_eq, nat_lt, if◌then◌else◌, refl, sym, ap, ◌∙◌, arith, eq-eqb, ◌⊎◌, inl, inr, zero-add}
use Rattle.std.specs.Prelude.{Option, max}
use Rattle.std.proofs.lemmas.Bool.{eqb-true, eqb-false, ne_eqb, ltb-true, ltb-false}
use Rattle.iob_base.specs.DeviceBlock.{DeviceBlock}
use Rattle.iob_base.specs.declared.stamp.Stamp.{Stamp}
use Rattle.io_model.specs.Contents.{Content, device_bytes}
use Rattle.io_model.specs.Kinds.{kind_at, mapped_number}
use Rattle.io_model.specs.Partition.{IsPartition, all_sectors, count_of, each_below, onto_sectors, sectors_of, times_held}
use Rattle.io_model.specs.declared.file.Extent.{Extent}
use Rattle.io_model.specs.declared.file.FileEnd.{FileEnd}
use Rattle.io_model.specs.declared.file.Kind.TheVariants.{Mapped}
use Rattle.io_model.specs.declared.run.CallEnd.{CallEnd}
use Rattle.io_model.specs.declared.run.LaneEnd.{LaneEnd}
use Rattle.io_model.specs.declared.script.Script.{Script}
use Rattle.iomap_replay.proofs.OneFile.{rest_at, start_rest, steps}
use Rattle.iomap_replay.specs.Devices.{SameNumbers, blocks_beside, blocks_with}
use Rattle.iomap_replay.specs.Runs.{one_run, read_end, sector_with, tabulated}
use Rattle.turn_cell.specs.Stakes.{total}

-- one where a number is this one
abbrev is_at : ℕ → ℕ → ℕ
is_at x n = if nat_eq n x then 1 else 0

held-total : (x : ℕ) (sectors : List DeviceBlock) → times_held x sectors ≡ total (λ (s : DeviceBlock). is_at x s.number) sectors
held-total x [] = refl
held-total x (s ∷ sectors) = ap (λ n. is_at x s.number + n) (held-total x sectors)

count-total : (sectors : List DeviceBlock) → count_of sectors ≡ total (λ (s : DeviceBlock). 1) sectors
count-total [] = refl
count-total (s ∷ sectors) = ap (λ n. 1 + n) (count-total sectors)

held-append : (x : ℕ) (xs ys : List DeviceBlock) → times_held x (xs ++ ys) ≡ times_held x xs + times_held x ys
held-append x [] ys = sym (zero-add (times_held x ys))
held-append x (s ∷ xs) ys = ap (λ n. is_at x s.number + n) (held-append x xs ys) ∙ (let e : is_at x s.number + (times_held x xs + times_held x ys) ≡ is_at x s.number + times_held x xs + times_held x ys = omega arith in e)

count-append : (xs ys : List DeviceBlock) → count_of (xs ++ ys) ≡ count_of xs + count_of ys
count-append [] ys = sym (zero-add (count_of ys))
count-append (s ∷ xs) ys = let rest = count-append xs ys in omega (arith, rest)

count-blocks : (content : ℕ → Content) (d n : ℕ) → count_of (blocks_with content d n) ≡ n
count-blocks content d zero = refl
count-blocks content d (suc n) = let rest = count-blocks content (d + 1) n in omega (arith, rest)

-- a number outside of a run of blocks is that of none of them, and one inside of exactly one
held-out : (content : ℕ → Content) (x d n : ℕ) → (x < d) ⊎ (d + n ≤ x) → times_held x (blocks_with content d n) ≡ 0
held-out content x d zero side = refl
held-out content x d (suc n) side =
    let other : nat_eq d x ≡ false = not_first side in
    ap (λ (t : Bool). (if t then 1 else 0) + times_held x (blocks_with content (d + 1) n)) other
    ∙ zero-add (times_held x (blocks_with content (d + 1) n)) ∙ held-out content x (d + 1) n (next side)
  where
    not_first : (x < d) ⊎ (d + suc n ≤ x) → nat_eq d x ≡ false
    not_first (inl below) = ne_eqb d x (λ e. omega (arith, below, e))
    not_first (inr above) = ne_eqb d x (λ e. omega (arith, above, e))

    next : (x < d) ⊎ (d + suc n ≤ x) → (x < d + 1) ⊎ (d + 1 + n ≤ x)
    next (inl below) = inl (omega (arith, below))
    next (inr above) = inr (omega (arith, above))

held-in : (content : ℕ → Content) (x d n : ℕ) → d ≤ x → x < d + n → times_held x (blocks_with content d n) ≡ 1
held-in content x d zero low high = absurd (omega (arith, low, high))
held-in content x d (suc n) low high = by_first (nat_eq d x) refl (λ other. held-in content x (d + 1) n (omega (arith, low, other)) (omega (arith, high)))
  where
    by_first : (t : Bool) → nat_eq d x ≡ t → ((d ≡ x → ⊥) → times_held x (blocks_with content (d + 1) n) ≡ 1) → times_held x (blocks_with content d (suc n)) ≡ 1
    by_first true is later =
        let same : d ≡ x = eqb-true d x is in
        let rest : times_held x (blocks_with content (d + 1) n) ≡ 0 = held-out content x (d + 1) n (inl (omega (arith, same))) in
        ap (λ (t : Bool). (if t then 1 else 0) + times_held x (blocks_with content (d + 1) n)) is ∙ ap (λ m. 1 + m) rest
    by_first false is later =
        ap (λ (t : Bool). (if t then 1 else 0) + times_held x (blocks_with content (d + 1) n)) is
        ∙ zero-add (times_held x (blocks_with content (d + 1) n)) ∙ later (eqb-false d x is)

-- the sectors of the blocks from one on are those of the extent that are left there
sectors-are : (content : ℕ → Content) (e : Extent) (d : ℕ) (read : ℕ → Bool) (stamps : List Stamp) (free : List DeviceBlock) → e.kind ≡ Mapped d → (b n : ℕ)
    → e.block + e.length ≤ b + n
    → sectors_of (tabulated (read_end content (λ i. mapped_number (kind_at (e ∷ []) i)) read stamps) b n) free ≡ rest_at content d e.block (e.block + e.length) b ++ free
sectors-are content e d read stamps free kind b zero past =
    let none : e.block + e.length - max b e.block ≡ 0 = omega (arith, past) in
    sym (ap (λ m. blocks_with content (d + (b - e.block)) m ++ free) none)
sectors-are content e d read stamps free kind b (suc n) past =
    let here = steps content e d b kind in
    let o = sector_with content (mapped_number (kind_at (e ∷ []) b)) in
    ap (onto_sectors o) (sectors-are content e d read stamps free kind (b + 1) n (omega (arith, past)))
    ∙ onto-append o (rest_at content d e.block (e.block + e.length) (b + 1)) free
    ∙ ap (λ sectors. sectors ++ free) (sym here.own)
  where
    onto-append : (o : Option DeviceBlock) (xs ys : List DeviceBlock) → onto_sectors o (xs ++ ys) ≡ onto_sectors o xs ++ ys
    onto-append None xs ys = refl
    onto-append (Some s) xs ys = refl

below-all : (test : ℕ → Bool) (n : ℕ) → ((x : ℕ) → x < n → test x ≡ true) → each_below test n ≡ true
below-all test zero all = refl
below-all test (suc n) all = rw (all n (omega arith)) (below-all test n (λ x within. all x (omega (arith, within))))

-- a number of the device is in exactly one of the extent, what is before it, and what is after it
once-held : (content : ℕ → Content) (x d n blocks : ℕ) → d + n ≤ blocks → x < blocks
    → times_held x (blocks_with content d n) + (times_held x (blocks_with content 0 d) + times_held x (blocks_with content (d + n) (blocks - (d + n)))) ≡ 1
once-held content x d n blocks within below = by_low (nat_lt x d) refl
  where
    by_high : (t : Bool) → nat_lt x (d + n) ≡ t → d ≤ x
        → times_held x (blocks_with content d n) + (times_held x (blocks_with content 0 d) + times_held x (blocks_with content (d + n) (blocks - (d + n)))) ≡ 1
    by_high true is low =
        let high : x < d + n = ltb-true x (d + n) is in
        rw (held-in content x d n low high, held-out content x 0 d (inr (omega (arith, low))), held-out content x (d + n) (blocks - (d + n)) (inl high)) refl
    by_high false is low =
        let high : d + n ≤ x = ltb-false x (d + n) is in
        rw (held-out content x d n (inr high), held-out content x 0 d (inr (omega (arith, low))), held-in content x (d + n) (blocks - (d + n)) high (omega (arith, within, below))) refl

    by_low : (t : Bool) → nat_lt x d ≡ t
        → times_held x (blocks_with content d n) + (times_held x (blocks_with content 0 d) + times_held x (blocks_with content (d + n) (blocks - (d + n)))) ≡ 1
    by_low true is =
        let low : x < d = ltb-true x d is in
        rw (held-out content x d n (inl low), held-in content x 0 d (omega arith) (omega (arith, low)), held-out content x (d + n) (blocks - (d + n)) (inl (omega (arith, low)))) refl
    by_low false is = by_high (nat_lt x (d + n)) refl (ltb-false x d is)

-- the device of a run of one read is parted
pub parted : (script : Script) (end : CallEnd) (file : FileEnd) (free : List DeviceBlock) (lanes : List LaneEnd) (e : Extent) (d blocks : ℕ) (read : ℕ → Bool) (stamps : List Stamp)
    → e.kind ≡ Mapped d → e.block + e.length ≤ blocks → d + e.length ≤ script.device_blocks
    → file.blocks ≡ tabulated (read_end (device_bytes script) (λ i. mapped_number (kind_at (e ∷ []) i)) read stamps) 0 blocks
    → SameNumbers free (blocks_beside (device_bytes script) d e.length script.device_blocks) → IsPartition script (one_run end file free lanes)
parted script end file free lanes e d blocks read stamps kind inside within is same =
    let content : ℕ → Content = device_bytes script in
    let n = e.length in
    let all = script.device_blocks in
    let front = blocks_with content 0 d in
    let back = blocks_with content (d + n) (all - (d + n)) in
    let sectors : all_sectors (file ∷ []) free ≡ blocks_with content d n ++ free =
    ap (λ bs. sectors_of bs free) is ∙ sectors-are content e d read stamps free kind 0 blocks (omega (arith, inside)) ∙ ap (λ own. own ++ free) (start_rest content e d) in
    record {
      once = below-all (λ x. nat_eq (times_held x (all_sectors (file ∷ []) free)) 1) all (λ x below.
          let left : times_held x free ≡ times_held x front + times_held x back =
          held-total x free ∙ same (is_at x) ∙ sym (held-total x (front ++ back)) ∙ held-append x front back in
          let one : times_held x (all_sectors (file ∷ []) free) ≡ 1 =
          ap (times_held x) sectors ∙ held-append x (blocks_with content d n) free ∙ ap (λ m. times_held x (blocks_with content d n) + m) left
          ∙ once-held content x d n all within below in
          eq-eqb _ _ one);
      none_beside =
          (let left : count_of free ≡ count_of front + count_of back = count-total free ∙ same (λ _. 1) ∙ sym (count-total (front ++ back)) ∙ count-append front back in
          let many : count_of (all_sectors (file ∷ []) free) ≡ all =
          ap count_of sectors ∙ count-append (blocks_with content d n) free
          ∙ ap (λ m. count_of (blocks_with content d n) + m) left
          ∙ (let a = count-blocks content d n in
          let b = count-blocks content 0 d in
          let c = count-blocks content (d + n) (all - (d + n)) in
          let t : count_of (blocks_with content d n) + (count_of front + count_of back) ≡ all = omega (arith, a, b, c, within) in t) in
          eq-eqb _ _ many);
    }
