-- How far a read past the page cache goes, what its pages have then, and what it leaves of the blocks.
use Rattle.std.proofs.Common.{◌≡◌, ℕ, zero, suc, ◌+◌, ◌-◌, ◌<◌, ◌≤◌, Bool, true, false, not, ◌&&◌, if◌then◌else◌, Option, Some, None, List, [], ◌∷◌, ◌++◌, length, map, get_or, set, take, drop, All, refl, sym, ◌∙◌, ap, subst, arith}
use Rattle.std.specs.Prelude.{is_none, slice_get, IfSome}
use Rattle.std.specs.List.{prefix_len, refill}
use Rattle.std.proofs.Math.Seq.{take-append_seam}
use Rattle.std.proofs.lemmas.Bool.{and_parts, not-true}
use Rattle.std.proofs.lemmas.List.{get_or-drop, get_or-take, length-drop, length-replicate, length-take}
use Rattle.std.proofs.lemmas.List.Elements.{All-tail}
use Rattle.std.proofs.lemmas.List.Sums.{prefix_len-le-length, prefix_len_passes}
use Rattle.std.proofs.lemmas.Option.{get_or_from_slice_get}
use Rattle.iob_base.specs.DeviceBlock.{DeviceBlock}
use Rattle.iob_base.specs.Parting.{pages_of}
use Rattle.iob_base.specs.declared.part.Part.{Part}
use Rattle.iob_base.specs.declared.sector.Page.{Page}
use Rattle.iob_base.specs.declared.stamp.Stamp.{Stamp}
use Rattle.io_model.specs.Contents.{Content, zeros}
use Rattle.io_model.specs.Finals.{device_content}
use Rattle.io_model.specs.Kinds.{device_number, is_kind, mapped_number}
use Rattle.io_model.specs.declared.file.Kind.{Kind}
use Rattle.io_model.specs.declared.file.Kind.TheVariants.{Hole, Delalloc, Unwritten, Mapped}
use Rattle.turn_cell.specs.Stakes.{total}
use Rattle.range_core.specs.BlockStates.{state_of, without_page}
use Rattle.range_core.specs.BlockTruth.{HomeContent, IsHomeContent, IsTrueAt, IsWholePage, is_gone}
use Rattle.range_core.specs.Cells.{HasPlace, HasSector, IsPlaced}
use Rattle.range_core.specs.DirectNows.{AreReady, IsReady, filled_page, filled_part, is_clean_home, now_length, pages_filled, part_sectors, parts_filled, stored_bytes, without_mapped_page}
use Rattle.range_core.specs.Events.{page_shape}
use Rattle.range_core.specs.Kinds.{is_mapped}
use Rattle.range_core.specs.OnRun.{on_each, on_run}
use Rattle.range_core.specs.RangeTruth.{pending}
use Rattle.range_core.specs.RangeView.{IsSound, RangeView, range_view}
use Rattle.range_core.specs.Refusals.{◌orElse◌, away, away_at, dirty, first_that_stops}
use Rattle.range_core.specs.Runs.{begins_mapped, run_from, run_length}
use Rattle.range_core.specs.Stakes.{RangeStake}
use Rattle.range_core.specs.Stamps.{stamps_from}
use Rattle.range_core.specs.declared.cell.Cell.{Cell}
use Rattle.range_core.specs.declared.lending.Away.{Away}
use Rattle.range_core.proofs.DropCleanLemmas.{bare, bare_true, none_is}
use Rattle.range_core.proofs.FirstTruth.{All-there}
use Rattle.range_core.proofs.KindLemmas.{is_kind-same, kind_after-zero}
use Rattle.range_core.proofs.OnRunLemmas.{All-on_each, length-on_each, map-on_each, total-on_each}
use Rattle.range_core.proofs.SampleLemmas.{run_length-within, slice_get-drop}
use Rattle.range_core.proofs.SoundLemmas.{sound_next, stamps_from-range}
use Rattle.range_core.proofs.SpaceLemmas.{space_by_kinds}
use Rattle.range_core.proofs.StopLemmas.{neither, where_true-not}

-- a read goes no further than the longest run
now_length-run : (cells : List Cell) (n : ℕ) → now_length cells n ≤ run_length cells n
now_length-run cells n = omega (arith, prefix_len-le-length is_clean_home (take (run_length cells n) cells), length-take (run_length cells n) cells)

-- nor than the blocks and the pages
pub now_length-within : (cells : List Cell) (n : ℕ) → (now_length cells n ≤ length cells) × (now_length cells n ≤ n)
now_length-within cells n =
    let run = now_length-run cells n in
    let most = run_length-within cells n in
    (omega (arith, most.0), omega (arith, most.1))

-- its blocks are at home and not dirty
pub record IsCleanHome (c : Cell) : Type 0 where
  pub home : c.away ≡ None
  pub clean : c.dirty ≡ false

clean_home-is : (c : Cell) → is_clean_home c ≡ true → IsCleanHome c
clean_home-is c e = let p = and_parts (is_none c.away) (not c.dirty) e in record { home = none_is c.away p.0; clean = not-true c.dirty p.1 }

pub now_length-clean : (cells : List Cell) (n k : ℕ) (c : Cell) → k < now_length cells n → slice_get cells k ≡ Some c → IsCleanHome c
now_length-clean cells n k c l at =
    let run : List Cell = take (run_length cells n) cells in
    let short = now_length-run cells n in
    let passes : is_clean_home (get_or run k c) ≡ true = prefix_len_passes is_clean_home run k c l in
    let is : get_or run k c ≡ c = get_or-take (run_length cells n) cells k c (omega arith) ∙ get_or_from_slice_get cells k c c at in
    clean_home-is c (ap is_clean_home (sym is) ∙ passes)

-- where all blocks from a place on have their places, the blocks that are read are ready
pub now_length-ready : (size at n : ℕ) (cells : List Cell) → All (IsPlaced size) cells → AreReady size (now_length (drop at cells) n) (drop at cells)
now_length-ready size at n cells placed k c l there = record {
  placed = All-there (IsPlaced size) cells (at + k) c placed (sym (slice_get-drop at k cells) ∙ there);
  home = (now_length-clean (drop at cells) n k c l there).home;
}

-- it has the first block, where that does not hinder
run_length-some : (c : Cell) (cells : List Cell) (n : ℕ) → run_length (c ∷ cells) (suc n) ≡ suc (run_from c.kind 1 cells n)
run_length-some c cells n = ap (λ (t : Bool). if t then suc (run_from c.kind 1 cells n) else 0) (ap (λ q. is_kind q c.kind) (kind_after-zero c.kind) ∙ is_kind-same c.kind)

not_away : (b : ℕ) (a : Option Away) → away_at b a ≡ None → is_none a ≡ true
not_away b None e = refl
not_away b (Some x) e = absurd (cc)

pub now_length-some : (b : ℕ) (cells : List Cell) (n : ℕ) → 0 < length cells → 0 < n → (first_that_stops away b (take 1 cells) orElse first_that_stops dirty b (take 1 cells)) ≡ None → 0 < now_length cells n
now_length-some b [] n h k e = absurd (omega arith)
now_length-some b (c ∷ cells) zero h k e = absurd (omega arith)
now_length-some b (c ∷ cells) (suc n) h k e =
    let two = neither (first_that_stops away b (take 1 (c ∷ cells))) (first_that_stops dirty b (take 1 (c ∷ cells))) e in
    let home : away b c ≡ None = (neither (away b c) (first_that_stops away (b + 1) []) two.0).0 in
    let clean : dirty b c ≡ None = (neither (dirty b c) (first_that_stops dirty (b + 1) []) two.1).0 in
    let passes : is_clean_home c ≡ true = clean_at (is_none c.away) c.dirty (not_away b c.away home) (where_true-not c.dirty _ clean) in
    let first : now_length (c ∷ cells) (suc n) ≡ suc (prefix_len is_clean_home (take (run_from c.kind 1 cells n) cells)) =
    ap (λ m. prefix_len is_clean_home (take m (c ∷ cells))) (run_length-some c cells n) ∙ one (is_clean_home c) (prefix_len is_clean_home (take (run_from c.kind 1 cells n) cells)) passes in
    omega (arith, first)
  where
    clean_at : (t u : Bool) → t ≡ true → u ≡ false → (t && not u) ≡ true
    clean_at t u e f = ap (λ x. x && not u) e ∙ ap not f

    one : (t : Bool) (m : ℕ) → t ≡ true → (if t then 1 + m else 0) ≡ suc m
    one t m e = ap (λ x. if x then 1 + m else 0) e ∙ (let z : 1 + m ≡ suc m = omega arith in z)

-- the next part is as it was
pub parts_filled-next : (size i : ℕ) (cells : List Cell) (parts : List Part) (d : Part) → get_or (parts_filled size i cells parts) i d ≡ get_or parts i d
parts_filled-next size zero cells parts d = refl
parts_filled-next size (suc i) [] parts d = refl
parts_filled-next size (suc i) (c ∷ cells) [] d = refl
parts_filled-next size (suc i) (c ∷ cells) (p ∷ parts) d = parts_filled-next size i cells parts d

-- one more page is filled
parts_filled-more : (size i : ℕ) (cells : List Cell) (parts : List Part) (c : Cell) (p : Part) → i < length cells → i < length parts
    → parts_filled size (suc i) cells parts ≡ set (parts_filled size i cells parts) i (filled_part size (get_or cells i c) (get_or parts i p))
parts_filled-more size i [] parts c p h k = absurd (omega arith)
parts_filled-more size i (x ∷ cells) [] c p h k = absurd (omega arith)
parts_filled-more size zero (x ∷ cells) (q ∷ parts) c p h k = refl
parts_filled-more size (suc i) (x ∷ cells) (q ∷ parts) c p h k = ap (λ l. filled_part size x q ∷ l) (parts_filled-more size i cells parts c p (omega arith) (omega arith))

-- a loop that has filled i pages fills the next one
pub fills_more : (size low i : ℕ) (cells : List Cell) (parts now : List Part) (c : Cell) (p new : Part) → now ≡ parts_filled size i (drop low cells) parts → c ≡ get_or cells (low + i) c → p ≡ get_or now i p
    → low + i < length cells → i < length parts → new ≡ filled_part size c p → set now i new ≡ parts_filled size (i + 1) (drop low cells) parts
fills_more size low i cells parts now c p new e at there h k is =
    let one : suc i ≡ i + 1 = omega arith in
    let cell : c ≡ get_or (drop low cells) i c = at ∙ sym (get_or-drop low cells i c) in
    let part : p ≡ get_or parts i p = there ∙ ap (λ l. get_or l i p) e ∙ parts_filled-next size i (drop low cells) parts p in
    let here : new ≡ filled_part size (get_or (drop low cells) i c) (get_or parts i p) = is ∙ ap (λ x. filled_part size x p) cell ∙ ap (filled_part size (get_or (drop low cells) i c)) part in
    ap (λ l. set l i new) e ∙ ap (set (parts_filled size i (drop low cells) parts) i) here
    ∙ sym (parts_filled-more size i (drop low cells) parts c p (omega (arith, length-drop low cells)) k) ∙ ap (λ m. parts_filled size m (drop low cells) parts) one

-- the pages of such parts are filled
pub pages_of-filled : (size n : ℕ) (cells : List Cell) (parts : List Part) → pages_of (parts_filled size n cells parts) ≡ pages_filled size n cells (pages_of parts)
pages_of-filled size zero cells parts = refl
pages_of-filled size (suc n) [] parts = refl
pages_of-filled size (suc n) (c ∷ cells) [] = refl
pages_of-filled size (suc n) (c ∷ cells) (p ∷ parts) = ap (λ l. filled_page size c p.page ∷ l) (pages_of-filled size n cells parts)

-- and their sectors stay
pub part_sectors-filled : (size n : ℕ) (cells : List Cell) (parts : List Part) → part_sectors (parts_filled size n cells parts) ≡ part_sectors parts
part_sectors-filled size zero cells parts = refl
part_sectors-filled size (suc n) [] parts = refl
part_sectors-filled size (suc n) (c ∷ cells) [] = refl
part_sectors-filled size (suc n) (c ∷ cells) (p ∷ parts) = ap (λ l. p.sector ∷ l) (part_sectors-filled size n cells parts)

-- what the device has of a block at home that is not dirty is its content
pub stored-content : (size b : ℕ) (c : Cell) (content : Content) (stakes : List RangeStake) → IsCleanHome c → IsTrueAt size b c content stakes → stored_bytes size c ≡ content
stored-content size b c content stakes is t =
    let H : Option Away → Type 0 = λ a. HomeContent size c content a in
    let P : Option Away → Type 0 = λ a. HasPlace size c.kind c.sector a in
    let here : IsHomeContent size c content = subst H is.home t.home_is_on_device in
    at c.kind c.sector (subst P is.home t.place) (λ m. here.clean_is_on_device m is.clean) (λ m. here.spaceless_is_zeros m is.clean)
  where
    at : (kind : Kind) (sector : Option DeviceBlock) → HasSector size (device_number kind) sector → (is_mapped kind ≡ true → IfSome sector (λ s. s.bytes ≡ content)) → (is_mapped kind ≡ false → content ≡ zeros size)
        → device_content size (mapped_number kind) sector ≡ content
    at Hole sector p m z = sym (z refl)
    at Delalloc sector p m z = sym (z refl)
    at (Unwritten d) sector p m z = sym (z refl)
    at (Mapped d) None p m z = absurd p
    at (Mapped d) (Some s) p m z = m refl

-- a block at home is as long on the device as a block is
pub length-stored : (size : ℕ) (c : Cell) → IsReady size c → length (stored_bytes size c) ≡ size
length-stored size c r =
    let P : Option Away → Type 0 = λ a. HasPlace size c.kind c.sector a in
    at c.kind c.sector (subst P r.home r.placed)
  where
    at : (kind : Kind) (sector : Option DeviceBlock) → HasSector size (device_number kind) sector → length (device_content size (mapped_number kind) sector) ≡ size
    at Hole sector p = length-replicate size 0
    at Delalloc sector p = length-replicate size 0
    at (Unwritten d) sector p = length-replicate size 0
    at (Mapped d) None p = absurd p
    at (Mapped d) (Some s) p = p.whole

-- pages keep their numbers and lengths
pub filled-shapes : (size n : ℕ) (cells : List Cell) (pages : List Page) → AreReady size n cells → All (IsWholePage size) pages → map page_shape (pages_filled size n cells pages) ≡ map page_shape pages
filled-shapes size zero cells pages r w = refl
filled-shapes size (suc n) [] pages r w = refl
filled-shapes size (suc n) (c ∷ cells) [] r w = refl
filled-shapes size (suc n) (c ∷ cells) (p ∷ pages) r w =
    let rest = filled-shapes size n cells pages (λ k x l at. r (suc k) x (omega arith) at) (All-tail (IsWholePage size) p pages w) in
    let whole : length (stored_bytes size c) ≡ length p.bytes = length-stored size c (r 0 c (omega arith) refl) ∙ sym (w 0 p (omega arith)) in
    ap (λ l. page_shape (filled_page size c p) ∷ l) rest ∙ ap (λ k. (p.number, k) ∷ map page_shape pages) whole

-- a filled page has its block's bytes
pub filled-at : (size n : ℕ) (cells : List Cell) (pages : List Page) (k : ℕ) (c : Cell) (p : Page) → k < n → slice_get cells k ≡ Some c → slice_get (pages_filled size n cells pages) k ≡ Some p → p.bytes ≡ stored_bytes size c
filled-at size zero cells pages k c p l at is = absurd (omega arith)
filled-at size (suc n) [] pages k c p l at is = absurd (cc)
filled-at size (suc n) (x ∷ cells) [] k c p l at is = absurd (cc)
filled-at size (suc n) (x ∷ cells) (q ∷ pages) zero c p l at is =
    let cell : x ≡ c = cc in
    let page : filled_page size x q ≡ p = cc in
    ap (λ (y : Page). y.bytes) (sym page) ∙ ap (stored_bytes size) cell
filled-at size (suc n) (x ∷ cells) (q ∷ pages) (suc k) c p l at is = filled-at size n cells pages k c p (omega arith) at is

-- as many items written over a list are the list
pub refill-whole : {A : Type 0} (xs ws : List A) → length ws ≡ length xs → refill (length xs) xs ws ≡ ws
refill-whole xs ws e = ap (λ n. take n (ws ++ drop (length ws) xs)) (sym e) ∙ take-append_seam ws (drop (length ws) xs)

-- the first block's kind
pub begins-mapped : (cells : List Cell) (at : ℕ) (d : Cell) → at < length cells → begins_mapped (drop at cells) ≡ is_mapped (get_or cells at d).kind
begins-mapped [] at d h = absurd (omega arith)
begins-mapped (c ∷ cells) zero d h = refl
begins-mapped (c ∷ cells) (suc at) d h = begins-mapped cells at d (omega arith)

-- what holds of a block with its page and without it holds of it afterwards
either_way : (P : Cell → Type 0) (c : Cell) → P c → P (bare c) → P (without_mapped_page c)
either_way P c kept bared = at (is_mapped c.kind)
  where
    at : (t : Bool) → P (if t then bare c else c)
    at true = bared
    at false = kept

pub unmapped-placed : (size : ℕ) (c : Cell) → IsPlaced size c → IsPlaced size (without_mapped_page c)
unmapped-placed size c h = either_way (IsPlaced size) c h h

pub unmapped-state : (c : Cell) (t : Bool) → t ≡ true → state_of (without_mapped_page c) ≡ (if t && is_mapped c.kind then without_page (state_of c) else state_of c)
unmapped-state c true e = at (is_mapped c.kind)
  where
    at : (m : Bool) → state_of (if m then record c { page = None } else c) ≡ (if m then without_page (state_of c) else state_of c)
    at true = refl
    at false = refl
unmapped-state c false e = absurd (cc)

pub unmapped-kind : (c : Cell) → (without_mapped_page c).kind ≡ c.kind
unmapped-kind c = either_way (λ d. d.kind ≡ c.kind) c refl refl

pub unmapped-gone : (c : Cell) → is_gone (without_mapped_page c) ≡ is_gone c
unmapped-gone c = either_way (λ d. is_gone d ≡ is_gone c) c refl refl

pub unmapped-pending : (c : Cell) → pending (without_mapped_page c) ≡ pending c
unmapped-pending c = either_way (λ d. pending d ≡ pending c) c refl refl

pub unmapped-true : (size b : ℕ) (c : Cell) (content : Content) (stakes : List RangeStake) → IsCleanHome c → IsTrueAt size b c content stakes → IsTrueAt size b (without_mapped_page c) content stakes
unmapped-true size b c content stakes is t = either_way (λ d. IsTrueAt size b d content stakes) c t (bare_true size b c content stakes is.clean is.home t)

abbrev drops : ℕ → Cell → Cell
drops _ c = without_mapped_page c

-- a range stays sound where mapped blocks of a run lose their pages and each block of it gets a stamp
pub read_sound : (r : RangeView) (cells : List Cell) (kept log : List (ℕ × Stamp)) (b n : ℕ) (st : Stamp) → IsSound r → cells ≡ on_run without_mapped_page (b - r.first) n r.cells → kept ≡ r.log → log ≡ kept ++ stamps_from b n st
    → r.first ≤ b → b + n ≤ r.first + length r.cells → IsSound (range_view r.geometry r.mode r.first cells log r.cookie r.errors r.tickets r.seat r.space)
read_sound r cells kept log b n st sound is same joined low high =
    let now : List Cell = on_each drops 0 (b - r.first) n r.cells in
    let S : List Cell → Type 0 = λ xs. IsSound (range_view r.geometry r.mode r.first xs log r.cookie r.errors r.tickets r.seat r.space) in
    subst S (sym is)
    (sound_next r now log (stamps_from b n st) r.cookie r.errors r.tickets r.seat r.space sound
    (length-on_each drops 0 (b - r.first) n r.cells)
    (All-on_each drops (IsPlaced r.geometry.block_size) (λ _. unmapped-placed r.geometry.block_size) 0 (b - r.first) n r.cells sound.places)
    (joined ∙ ap (λ l. l ++ stamps_from b n st) same)
    (stamps_from-range r.first (length r.cells) b n st low high)
    (space_by_kinds r.geometry.block_size r.cells now r.space (map-on_each drops (λ (x : Cell). x.kind) (λ _. unmapped-kind) 0 (b - r.first) n r.cells) sound.space))

-- as many blocks are away
pub read-gone : (low n : ℕ) (was cells : List Cell) → cells ≡ on_run without_mapped_page low n was → total is_gone cells ≡ total is_gone was
read-gone low n was cells is = ap (total is_gone) is ∙ total-on_each drops is_gone (λ _. unmapped-gone) 0 low n was
