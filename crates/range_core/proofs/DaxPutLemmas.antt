-- Bytes are written into the sectors of a run of blocks, of which holes took sectors.
use Rattle.std.proofs.Common.{◌≡◌, ℕ, suc, zero, ◌+◌, ◌-◌, ◌<◌, ◌≤◌, Bool, true, false, if◌then◌else◌, Option, Some, None, List, [], ◌∷◌, ◌++◌, length, get_or, All, refl, sym, ◌∙◌, ap, subst, arith}
use Rattle.std.specs.Prelude.{IsSomeAnd, slice_get}
use Rattle.std.proofs.lemmas.List.{length-replicate}
use Rattle.iob_base.specs.DeviceBlock.{DeviceBlock}
use Rattle.iob_base.specs.declared.stamp.Stamp.{Stamp}
use Rattle.io_model.specs.Contents.{Content}
use Rattle.io_model.specs.Effects.{overlay}
use Rattle.io_model.specs.Kinds.{device_number}
use Rattle.io_model.specs.Lists.{bytes_between}
use Rattle.io_model.specs.Parts.{part_in, span}
use Rattle.io_model.specs.declared.file.Kind.{Kind}
use Rattle.io_model.specs.declared.file.Kind.TheVariants.{Hole, Delalloc, Unwritten, Mapped}
use Rattle.iov_iter.specs.IovView.{IovView}
use Rattle.space_pool.specs.Pool.{HasSize}
use Rattle.turn_cell.specs.Stakes.{total}
use Rattle.range_core.specs.BlockTruth.{gone, is_gone}
use Rattle.range_core.specs.ByteRuns.{IsByteRun, part_at}
use Rattle.range_core.specs.Cells.{HasPlace, IsPlaced}
use Rattle.range_core.specs.DaxPuts.{AreFull, put}
use Rattle.range_core.specs.EntryCounts.{one_where}
use Rattle.range_core.specs.Kinds.{has_space, is_delalloc, is_hole, is_unwritten, written_kind}
use Rattle.range_core.specs.OnRun.{count_on, on_each}
use Rattle.range_core.specs.Placing.{is_empty, picked_with, placed_at}
use Rattle.range_core.specs.RangeTruth.{IsUncached}
use Rattle.range_core.specs.RangeView.{IsSound, LiesAt, RangeView, range_view}
use Rattle.range_core.specs.Space.{ClaimsSpace, SpaceClaims, number_weight, promised, weigh_number}
use Rattle.range_core.specs.Spots.{overlaid}
use Rattle.range_core.specs.Stamps.{stamps_from}
use Rattle.range_core.specs.Stores.{next_bytes, past}
use Rattle.range_core.specs.Through.{blanked, made_mapped, on_sector, through}
use Rattle.range_core.specs.declared.cell.Cell.{Cell}
use Rattle.range_core.specs.declared.lending.Away.{Away}
use Rattle.range_core.specs.declared.parts.ByteRun.{ByteRun}
use Rattle.range_core.proofs.ByteRunLemmas.{begun, next_part}
use Rattle.range_core.proofs.EachLemmas.{in_run-is, is_there}
use Rattle.range_core.proofs.FirstTruth.{All-there}
use Rattle.range_core.proofs.LayLemmas.{length-overlaid}
use Rattle.range_core.proofs.OnRunLemmas.{length-on_each, total-on_each}
use Rattle.range_core.proofs.PlaceSpace.{PicksSpaceless}
use Rattle.range_core.proofs.PlaceLemmas.{picked_weight}
use Rattle.range_core.proofs.SoundLemmas.{All-on_each_at, sound_next, stamps_from-range}
use Rattle.range_core.proofs.StoreLemmas.{part_piece, piece_of}
use Rattle.range_core.proofs.ThroughLemmas.{next-block, place-changed, sector-fits}

-- a block over which the next bytes of an iov were written
pub put_part-is : (run : ByteRun) → IsByteRun run → (k : ℕ) → k < run.blocks → (v iov : IovView) (c : Cell) → iov ≡ past v (begun run k)
    → through (overlay (part_at run (run.first + k)).at (next_bytes iov (part_at run (run.first + k)).length)) (made_mapped c) ≡ put run (next_bytes v (run.to - run.from)) k c
put_part-is run r k l v iov c e =
    let p = next_part run r k l in
    let n : ℕ = (part_at run (run.first + k)).length in
    let bytes : List ℕ = next_bytes v (run.to - run.from) in
    let is : next_bytes iov n ≡ bytes_between ((part_in run.size (span run.from run.to) (run.first + k)).from - run.from) ((part_in run.size (span run.from run.to) (run.first + k)).to - run.from) bytes =
    ap (λ (x : IovView). next_bytes x n) e ∙ sym (piece_of n (begun run k) (run.to - run.from) v.place v.bytes p.behind) ∙ sym (part_piece run r k l bytes) in
    ap (λ xs. through (overlay (part_at run (run.first + k)).at xs) (made_mapped c)) is

-- the next block's sector holds its part
pub full_part : (run : ByteRun) (first : ℕ) (f : ℕ → Cell → Cell) (cells now : List Cell) (k : ℕ) (c : Cell) (at n : ℕ) → AreFull run first cells → k < run.blocks → run.first - first + run.blocks ≤ length cells
    → now ≡ on_each f 0 (run.first - first) k cells → c ≡ get_or now (run.first - first + k) c → at + n ≤ run.size → IsSomeAnd c.sector (λ s. at + n ≤ length s.bytes)
full_part run first f cells now k c at n full l within are here fits = sector-fits run.size at n c.sector fits (full k c l (next-block run first f cells now k c l within are here))

-- a picked block of a run is counted after those before it
pub count-below : (p : Cell → Bool) (low n k : ℕ) (xs : List Cell) (c : Cell) → k < n → slice_get xs (low + k) ≡ Some c → p c ≡ true → count_on p low k xs < count_on p low n xs
count-below p zero zero k xs c l at t = absurd (omega arith)
count-below p zero (suc n) zero [] c l at t = absurd (cc)
count-below p zero (suc n) zero (x ∷ xs) c l at t =
    let is : x ≡ c = cc in
    let one : one_where (p x) ≡ 1 = ap (λ y. one_where (p y)) is ∙ ap one_where t in
    omega arith
count-below p zero (suc n) (suc k) [] c l at t = absurd (cc)
count-below p zero (suc n) (suc k) (x ∷ xs) c l at t =
    let z : suc (0 + k) ≡ 0 + suc k = omega arith in
    let rest = count-below p zero n k xs c (omega arith) (ap (slice_get (x ∷ xs)) z ∙ at) t in
    omega arith
count-below p (suc low) n k [] c l at t = absurd (cc)
count-below p (suc low) n k (x ∷ xs) c l at t = let z : suc (low + k) ≡ suc low + k = omega arith in count-below p low n k xs c l (ap (slice_get (x ∷ xs)) z ∙ at) t

-- a block with space, of which nothing is lent, has a whole sector
space-full : (size : ℕ) (c : Cell) → IsPlaced size c → IsUncached c → is_hole c.kind ≡ false → IsSomeAnd c.sector (λ s. length s.bytes ≡ size)
space-full size c placed u h =
    let P : Option Away → Type 0 = λ a. HasPlace size c.kind c.sector a in
    at c.kind c.sector h u.reserved (subst P u.home placed)
  where
    at : (k : Kind) (o : Option DeviceBlock) → is_hole k ≡ false → is_delalloc k ≡ false → HasPlace size k o None → IsSomeAnd o (λ s. length s.bytes ≡ size)
    at Hole o h d p = absurd (cc)
    at Delalloc o h d p = absurd (cc)
    at (Unwritten n) None h d p = absurd p
    at (Unwritten n) (Some s) h d p = p.whole
    at (Mapped n) None h d p = absurd p
    at (Mapped n) (Some s) h d p = p.whole

picked-full : (size : ℕ) (t : Bool) (o : Option DeviceBlock) (c : Cell) → (t ≡ true → IsSomeAnd o (HasSize size)) → (t ≡ false → IsSomeAnd c.sector (λ s. length s.bytes ≡ size)) → IsSomeAnd (picked_with t o c).sector (λ s. length s.bytes ≡ size)
picked-full size true None c took had = absurd (took refl)
picked-full size true (Some s) c took had = took refl
picked-full size false o c took had = had refl

-- once the holes took whole sectors, each block of the run has one
pub full_placed : (run : ByteRun) (first : ℕ) (cells now : List Cell) (sectors : List DeviceBlock) → run.first - first + run.blocks ≤ length cells → length sectors ≡ count_on is_empty (run.first - first) run.blocks cells → All (HasSize run.size) sectors → All (IsPlaced run.size) cells → All IsUncached cells
    → now ≡ on_each (placed_at is_empty (run.first - first) cells sectors) 0 (run.first - first) run.blocks cells → AreFull run first now
full_placed run first cells now sectors within many whole places uncached are k d l at =
    let low : ℕ = run.first - first in
    let f : ℕ → Cell → Cell = placed_at is_empty low cells sectors in
    let there = is_there cells (low + k) (omega arith) in
    let c : Cell = there.item in
    let is : d ≡ f k c = in_run-is f low run.blocks k cells c d l there.here (ap (λ xs. slice_get xs (low + k)) (sym are) ∙ at) in
    let P : Cell → Type 0 = λ x. IsSomeAnd x.sector (λ s. length s.bytes ≡ run.size) in
    subst P (sym is)
    (picked-full run.size (is_empty c) (slice_get sectors (count_on is_empty low k cells)) c
    (λ t.
    let below = count-below is_empty low run.blocks k cells c l there.here t in
    let took = is_there sectors (count_on is_empty low k cells) (omega arith) in
    let S : Option DeviceBlock → Type 0 = λ o. IsSomeAnd o (HasSize run.size) in
    subst S (sym took.here) (All-there (HasSize run.size) sectors (count_on is_empty low k cells) took.item whole took.here))
    (λ t. space-full run.size c (All-there (IsPlaced run.size) cells (low + k) c places there.here) (All-there IsUncached cells (low + k) c uncached there.here) t))

-- holes have no space, promised or not
pub empty-spaceless : PicksSpaceless is_empty (λ c. one_where (is_empty c))
empty-spaceless = record { spaceless = λ c e. spaceless c.kind e; weighs = λ c. weighs c c.kind }
  where
    spaceless : (k : Kind) → is_hole k ≡ true → has_space k ≡ false
    spaceless Hole e = refl
    spaceless Delalloc e = absurd (cc)
    spaceless (Unwritten d) e = absurd (cc)
    spaceless (Mapped d) e = absurd (cc)

    weighs : (c : Cell) (k : Kind) → picked_weight is_empty promised (record c { kind = k }) + one_where (is_hole k) ≡ one_where (is_hole k)
    weighs c Hole = refl
    weighs c Delalloc = refl
    weighs c (Unwritten d) = refl
    weighs c (Mapped d) = refl

-- what depends on the kind alone, and is the same once a block is mapped, stays
pub made-kind : {B : Type 0} (w : Kind → B) → ((k : Kind) → w (written_kind k) ≡ w k) → (c : Cell) → w (made_mapped c).kind ≡ w c.kind
made-kind {B} w h c = at (is_unwritten c.kind)
  where
    at : (t : Bool) → w (if t then record (through blanked c) { kind = written_kind c.kind } else c).kind ≡ w c.kind
    at true = h c.kind
    at false = refl

made-away : (c : Cell) → (made_mapped c).away ≡ c.away
made-away c = at (is_unwritten c.kind)
  where
    at : (t : Bool) → (if t then record (through blanked c) { kind = written_kind c.kind } else c).away ≡ c.away
    at true = refl
    at false = refl

made-page : (c : Cell) → (made_mapped c).page ≡ c.page
made-page c = at (is_unwritten c.kind)
  where
    at : (t : Bool) → (if t then record (through blanked c) { kind = written_kind c.kind } else c).page ≡ c.page
    at true = refl
    at false = refl

made-dirty : (c : Cell) → (made_mapped c).dirty ≡ c.dirty
made-dirty c = at (is_unwritten c.kind)
  where
    at : (t : Bool) → (if t then record (through blanked c) { kind = written_kind c.kind } else c).dirty ≡ c.dirty
    at true = refl
    at false = refl

number-written : (k : Kind) → device_number (written_kind k) ≡ device_number k
number-written Hole = refl
number-written Delalloc = refl
number-written (Unwritten d) = refl
number-written (Mapped d) = refl

delalloc-written : (k : Kind) → is_delalloc (written_kind k) ≡ is_delalloc k
delalloc-written Hole = refl
delalloc-written Delalloc = refl
delalloc-written (Unwritten d) = refl
delalloc-written (Mapped d) = refl

pub put-uncached : (g : Content → Content) (c : Cell) → IsUncached c → IsUncached (through g (made_mapped c))
put-uncached g c u = record { page = made-page c ∙ u.page; clean = made-dirty c ∙ u.clean; reserved = made-kind is_delalloc delalloc-written c ∙ u.reserved; home = made-away c ∙ u.home }

pub put-placed : (size : ℕ) (g : Content → Content) → ((x : Content) → length x ≡ size → length (g x) ≡ size) → (c : Cell) → IsPlaced size c → IsPlaced size (through g (made_mapped c))
put-placed size g long c h = at c.kind h
  where
    at : (k : Kind) → IsPlaced size (record c { kind = k }) → IsPlaced size (through g (made_mapped (record c { kind = k })))
    at Hole h = place-changed size g long Hole c.sector c.away h
    at Delalloc h = place-changed size g long Delalloc c.sector c.away h
    at (Unwritten d) h = place-changed size g long (Mapped d) (on_sector blanked c.sector) c.away (place-changed size blanked (λ x e. length-replicate (length x) 0 ∙ e) (Mapped d) c.sector c.away (again c.away h))
      where
        again : (a : Option Away) → HasPlace size (Unwritten d) c.sector a → HasPlace size (Mapped d) c.sector a
        again None p = p
        again (Some x) p = p
    at (Mapped d) h = place-changed size g long (Mapped d) c.sector c.away h

module _ (run : ByteRun) (bytes : List ℕ) where
  abbrev f : ℕ → Cell → Cell
  f = put run bytes

  space_put : (size low n : ℕ) (cells : List Cell) (space : SpaceClaims) → ClaimsSpace size cells space → ClaimsSpace size (on_each f 0 low n cells) space
  space_put size low n cells space s = record {
    numbers = λ w. s.numbers w ∙ sym (total-on_each f (number_weight w) (λ j c. made-kind (λ k. weigh_number w (device_number k)) (λ k. ap (weigh_number w) (number-written k)) c) 0 low n cells);
    distinct = s.distinct;
    reserved = s.reserved ∙ sym (total-on_each f promised (λ j c. made-kind (λ k. one_where (is_delalloc k)) (λ k. ap one_where (delalloc-written k)) c) 0 low n cells);
    cap = s.cap ∙ sym (length-on_each f 0 low n cells);
    sized = s.sized;
  }

  pub put_gone : (low n : ℕ) (cells : List Cell) → total is_gone (on_each f 0 low n cells) ≡ total is_gone cells
  put_gone low n cells = total-on_each f is_gone (λ j c. ap gone (made-away c)) 0 low n cells

  -- a range whose blocks have sectors stays sound
  pub put_sound : (r : RangeView) (cells : List Cell) (log : List (ℕ × Stamp)) (st : Stamp) → IsByteRun run → length bytes ≡ run.to - run.from → run.size ≡ r.geometry.block_size → LiesAt r run.first run.blocks → IsSound r → cells ≡ on_each f 0 (run.first - r.first) run.blocks r.cells
      → log ≡ r.log ++ stamps_from run.first run.blocks st → IsSound (range_view r.geometry r.mode r.first cells log r.cookie r.errors r.tickets r.seat r.space)
  put_sound r cells log st met all size lies s are joined =
      let low : ℕ = run.first - r.first in
      let first = lies.low in
      let last = lies.high in
      let within : low + run.blocks ≤ length r.cells = omega arith in
      let P : ℕ → Type 0 = λ n. All (IsPlaced n) (on_each f 0 low run.blocks r.cells) in
      let Q : ℕ → Type 0 = λ n. All (IsPlaced n) r.cells in
      let places : All (IsPlaced r.geometry.block_size) (on_each f 0 low run.blocks r.cells) = subst P size (All-on_each_at f (λ _. 0) (IsPlaced run.size) 0 low run.blocks r.cells within (λ j c l there h. let z : 0 + j ≡ j = omega arith in let S : ℕ → Type 0 = λ m. IsPlaced run.size (f m c) in subst S (sym z) (put-placed run.size (overlaid run.size run.from run.to bytes (run.first + j)) (length-overlaid run met bytes all j l) c h)) (subst Q (sym size) s.places)) in
      let S : List Cell → Type 0 = λ xs. IsSound (range_view r.geometry r.mode r.first xs log r.cookie r.errors r.tickets r.seat r.space) in
      subst S (sym are)
      (sound_next r (on_each f 0 low run.blocks r.cells) log (stamps_from run.first run.blocks st) r.cookie r.errors r.tickets r.seat r.space s (length-on_each f 0 low run.blocks r.cells) places joined (stamps_from-range r.first (length r.cells) run.first run.blocks st first last)
      (space_put r.geometry.block_size low run.blocks r.cells r.space s.space))
