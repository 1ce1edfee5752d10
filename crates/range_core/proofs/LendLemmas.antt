-- How blocks are lent and come home, one by one.
use Rattle.std.proofs.Common.{◌≡◌, ℕ, zero, suc, ◌+◌, ◌*◌, ◌<◌, ◌≤◌, Option, Some, None, IsSome, IsTrue, List, [], ◌∷◌, ◌++◌, length, map, drop, get_or, set, All, arith, refl, sym, ◌∙◌, ap, subst, append_assoc}
use Rattle.std.specs.Prelude.{is_some, slice_get, unwrap_or}
use Rattle.std.proofs.Math.Seq.{drop-cons}
use Rattle.std.proofs.lemmas.List.{drop-set-lt}
use Rattle.std.proofs.lemmas.Option.{get_or_from_slice_get, slice_get-get_or}
use Rattle.iob_base.specs.DeviceBlock.{BLANK, DeviceBlock}
use Rattle.iob_base.specs.declared.sector.Page.{Page}
use Rattle.iob_base.specs.declared.stamp.Stamp.{Stamp}
use Rattle.fault_device.specs.Transfer.{CanTransfer, IsWhole}
use Rattle.iob_base.specs.declared.part.Part.{Part}
use Rattle.io_model.specs.Kinds.{device_number}
use Rattle.range_core.specs.Lends.{HaveSectors, home_cell, home_of, lent_cell, part_of, parts_of}
use Rattle.turn_cell.specs.Stakes.{total}
use Rattle.range_core.specs.BlockTruth.{IsWholePage, is_gone}
use Rattle.range_core.specs.Cells.{HasPlace, HasSector, IsPlaced}
use Rattle.range_core.specs.Kinds.{has_space}
use Rattle.range_core.specs.OnRun.{on_run}
use Rattle.range_core.specs.RangeView.{IsSound, RangeView, range_view}
use Rattle.range_core.specs.declared.cell.Cell.{Cell}
use Rattle.range_core.specs.declared.lending.Away.{Away}
use Rattle.range_core.specs.declared.lending.Lender.{Lender}
use Rattle.range_core.specs.declared.lending.Lender.TheVariants.{Reading, Writeback, Direct, Part as InPart}
use Rattle.range_core.proofs.FirstTruth.{All-there}
use Rattle.range_core.proofs.OnRunLemmas.{length-on_each, map-on_each}
use Rattle.range_core.proofs.SoundLemmas.{All-on_each_at, room_for_returns, sound_unlogged}
use Rattle.range_core.proofs.SpaceLemmas.{space_by_kinds}

-- what is left of a list, from its first item on
pub next_item : {A : Type 0} (xs rest next : List A) (i : ℕ) (x : A) → rest ≡ drop i xs → rest ≡ x ∷ next → (slice_get xs i ≡ Some x) × (next ≡ drop (i + 1) xs)
next_item {A = A} xs rest next i x e f = at i xs (sym e ∙ f)
  where
    at : (i : ℕ) (xs : List A) → drop i xs ≡ x ∷ next → (slice_get xs i ≡ Some x) × (next ≡ drop (i + 1) xs)
    at zero [] g = absurd (cc)
    at zero (y ∷ ys) g = let a : y ≡ x = cc in let b : next ≡ ys = cc in (ap Some a, b)
    at (suc i) [] g = absurd (cc)
    at (suc i) (y ∷ ys) g = let z : suc i + 1 ≡ suc (i + 1) = omega arith in let r = at i ys g in (r.0, r.1 ∙ ap (λ n. drop n (y ∷ ys)) (sym z))

-- a block of a run that has its sectors
pub has_sector : (cells : List Cell) (low n k : ℕ) (c : Cell) → HaveSectors cells low n → k < n → low + k < length cells → c ≡ get_or cells (low + k) c → IsSome c.sector
has_sector cells low n k c h l m e = h.each k c l (slice_get-get_or cells (low + k) c m ∙ ap Some (sym e))

-- one part more
pub parts_of-more : (now : List Cell) (at low i : ℕ) (d new : Cell) (pages rest : List Page) (page : Page) (parts more all : List Part) (part : Part) → at ≡ low + i → at < length now → d ≡ get_or now at d → part ≡ part_of d page
    → pages ≡ page ∷ rest → more ≡ parts ++ part ∷ [] → parts ++ parts_of (drop at now) pages ≡ all → more ++ parts_of (drop (low + (i + 1)) (set now at new)) rest ≡ all
parts_of-more now at low i d new pages rest page parts more all part e l is p ps m known =
    let after : low + (i + 1) ≡ suc at = omega arith in
    let head : drop at now ≡ d ∷ drop (suc at) now = drop-cons now at d l ∙ ap (λ x. x ∷ drop (suc at) now) (sym is) in
    let tail : drop (low + (i + 1)) (set now at new) ≡ drop (suc at) now = ap (λ n. drop n (set now at new)) after ∙ drop-set-lt (suc at) now at new (omega arith) in
    let split : parts_of (drop at now) pages ≡ part ∷ parts_of (drop (suc at) now) rest =
    ap (parts_of (drop at now)) ps ∙ ap (λ cs. parts_of cs (page ∷ rest)) head ∙ ap (λ x. x ∷ parts_of (drop (suc at) now) rest) (sym p) in
    ap (λ xs. xs ++ parts_of (drop (low + (i + 1)) (set now at new)) rest) m ∙ ap (λ cs. parts ++ part ∷ [] ++ parts_of cs rest) tail
    ∙ append_assoc parts (part ∷ []) _ ∙ ap (λ xs. parts ++ xs) (sym split) ∙ known

-- a block that a part came back to
pub home_at : (parts : List Part) (k : ℕ) (part : Part) (c new : Cell) → slice_get parts k ≡ Some part → new ≡ home_cell (Some part) c → new ≡ home_of parts k c
home_at parts k part c new at is = is ∙ ap (λ o. home_cell o c) (sym at)

-- one page more
pub pages_more : (parts rest : List Part) (part : Part) (pages more all : List Page) → parts ≡ part ∷ rest → more ≡ pages ++ part.page ∷ [] → pages ++ map (λ p. p.page) parts ≡ all → more ++ map (λ p. p.page) rest ≡ all
pages_more parts rest part pages more all is m known =
    ap (λ xs. xs ++ map (λ (p : Part). p.page) rest) m ∙ append_assoc pages (part.page ∷ []) _ ∙ ap (λ xs. pages ++ map (λ (p : Part). p.page) xs) (sym is) ∙ known

-- the k-th part is of the k-th block and page
pub parts_of-at : (low k : ℕ) (cells : List Cell) (pages : List Page) (c : Cell) (page : Page) → slice_get cells (low + k) ≡ Some c → slice_get pages k ≡ Some page → slice_get (parts_of (drop low cells) pages) k ≡ Some (part_of c page)
parts_of-at (suc low) k [] pages c page e f = absurd (cc)
parts_of-at (suc low) k (x ∷ cells) pages c page e f = let z : suc low + k ≡ suc (low + k) = omega arith in parts_of-at low k cells pages c page (ap (slice_get (x ∷ cells)) (sym z) ∙ e) f
parts_of-at zero k cells pages c page e f = let z : 0 + k ≡ k = omega arith in at k cells pages (ap (slice_get cells) (sym z) ∙ e) f
  where
    at : (k : ℕ) (cells : List Cell) (pages : List Page) → slice_get cells k ≡ Some c → slice_get pages k ≡ Some page → slice_get (parts_of cells pages) k ≡ Some (part_of c page)
    at k [] pages g h = absurd (cc)
    at k (x ∷ cells) [] g h = absurd (cc)
    at zero (x ∷ cells) (q ∷ pages) g h = let a : x ≡ c = cc in let b : q ≡ page = cc in ap (λ y. Some (part_of y q)) a ∙ ap (λ y. Some (part_of c y)) b
    at (suc k) (x ∷ cells) (q ∷ pages) g h = at k cells pages g h

-- as many parts as pages
pub length-parts_of : (low : ℕ) (cells : List Cell) (pages : List Page) → low + length pages ≤ length cells → length (parts_of (drop low cells) pages) ≡ length pages
length-parts_of zero cells pages h = at cells pages (omega arith)
  where
    at : (cells : List Cell) (pages : List Page) → length pages ≤ length cells → length (parts_of cells pages) ≡ length pages
    at cells [] g = refl
    at [] (q ∷ pages) g = absurd (omega arith)
    at (x ∷ cells) (q ∷ pages) g = ap suc (at cells pages (omega arith))
length-parts_of (suc low) [] [] h = refl
length-parts_of (suc low) [] (q ∷ pages) h = absurd (omega arith)
length-parts_of (suc low) (x ∷ cells) pages h = length-parts_of low cells pages (omega arith)

-- a block keeps its kind while it is lent
pub lent-kind : (away : Away) (c : Cell) → (lent_cell away c).kind ≡ c.kind
lent-kind away c = at away.lender
  where
    at : (l : Lender) → (lent_cell (record { ticket = away.ticket; lender = l }) c).kind ≡ c.kind
    at Reading = refl
    at Writeback = refl
    at (Direct by op) = refl
    at (InPart by from to) = refl

-- it is away then, and its sector with it
pub lent-away : (away : Away) (c : Cell) → (lent_cell away c).away ≡ Some away
lent-away away c = at away.lender
  where
    at : (l : Lender) → (lent_cell (record { ticket = away.ticket; lender = l }) c).away ≡ Some (record { ticket = away.ticket; lender = l })
    at Reading = refl
    at Writeback = refl
    at (Direct by op) = refl
    at (InPart by from to) = refl

pub lent-sector : (away : Away) (c : Cell) → (lent_cell away c).sector ≡ None
lent-sector away c = at away.lender
  where
    at : (l : Lender) → (lent_cell (record { ticket = away.ticket; lender = l }) c).sector ≡ None
    at Reading = refl
    at Writeback = refl
    at (Direct by op) = refl
    at (InPart by from to) = refl

-- it has its place elsewhere then
pub lent-placed : (size : ℕ) (away : Away) (c : Cell) → IsTrue (has_space c.kind) → IsPlaced size (lent_cell away c)
lent-placed size away c h = at away.lender
  where
    at : (l : Lender) → IsPlaced size (lent_cell (record { ticket = away.ticket; lender = l }) c)
    at Reading = (refl, h)
    at Writeback = (refl, h)
    at (Direct by op) = (refl, h)
    at (InPart by from to) = (refl, h)

-- a block at home whose kind has space has its sector
pub sector_at_home : (size : ℕ) (c : Cell) → IsPlaced size c → c.away ≡ None → IsTrue (has_space c.kind) → IsSome c.sector
sector_at_home size c p home h =
    let P : Option Away → Type 0 = λ a. HasPlace size c.kind c.sector a in
    at (device_number c.kind) h (subst P home p)
  where
    at : (d : Option ℕ) → IsTrue (is_some d) → HasSector size d c.sector → IsSome c.sector
    at None e s = absurd (cc)
    at (Some d) e s = there c.sector s
      where
        there : (o : Option DeviceBlock) → HasSector size (Some d) o → IsSome o
        there None t = absurd t
        there (Some x) t = refl

-- what the blocks of a run that may be lent have in common
pub record MayLend (cells : List Cell) (low n : ℕ) : Type 0 where
  pub within : low + n ≤ length cells
  pub home : (k : ℕ) (c : Cell) → k < n → slice_get cells (low + k) ≡ Some c → c.away ≡ None
  pub space : (k : ℕ) (c : Cell) → k < n → slice_get cells (low + k) ≡ Some c → IsTrue (has_space c.kind)

-- they have their sectors
pub have_sectors : (size : ℕ) (cells : List Cell) (low n : ℕ) → All (IsPlaced size) cells → MayLend cells low n → HaveSectors cells low n
have_sectors size cells low n all m = record { each = λ k c l at. sector_at_home size c (All-there (IsPlaced size) cells (low + k) c all at) (m.home k c l at) (m.space k c l at) }

-- a range stays sound when it lends them
pub lent_sound : (r : RangeView) (away : Away) (low n tickets : ℕ) → IsSound r → MayLend r.cells low n
    → IsSound (range_view r.geometry r.mode r.first (on_run (lent_cell away) low n r.cells) r.log r.cookie r.errors tickets r.seat r.space)
lent_sound r away low n tickets s m =
    let size : ℕ = r.geometry.block_size in
    let lends : ℕ → Cell → Cell = λ _ c. lent_cell away c in
    sound_unlogged r (on_run (lent_cell away) low n r.cells) r.cookie r.errors tickets r.seat r.space s (length-on_each lends 0 low n r.cells)
    (All-on_each_at lends is_gone (IsPlaced size) 0 low n r.cells m.within (λ j x l at p. lent-placed size away x (m.space j x l at)) s.places)
    (space_by_kinds size r.cells (on_run (lent_cell away) low n r.cells) r.space (map-on_each lends (λ (x : Cell). x.kind) (λ _ x. lent-kind away x) 0 low n r.cells) s.space)

-- it keeps its invariant then, where its log has room for two runs more for each of its blocks
pub lend_keeps : (r : RangeView) (away : Away) (low n many tickets used capacity : ℕ) (cells : List Cell) (log : List (ℕ × Stamp)) → IsSound r → MayLend r.cells low n → n ≡ many → cells ≡ on_run (lent_cell away) low many r.cells → log ≡ r.log
    → used + (1 + 2 * length r.cells) ≤ capacity → IsSound (range_view r.geometry r.mode r.first cells log r.cookie r.errors tickets r.seat r.space) × (used + 2 * total is_gone cells ≤ capacity)
lend_keeps r away low n many tickets used capacity cells log sound may e is same room =
    let now : List Cell = on_run (lent_cell away) low n r.cells in
    let now_is : cells ≡ now = is ∙ ap (λ m. on_run (lent_cell away) low m r.cells) (sym e) in
    let S : List Cell → Type 0 = λ xs. IsSound (range_view r.geometry r.mode r.first xs log r.cookie r.errors tickets r.seat r.space) in
    let L : List (ℕ × Stamp) → Type 0 = λ l. IsSound (range_view r.geometry r.mode r.first now l r.cookie r.errors tickets r.seat r.space) in (
      subst S (sym now_is) (subst L (sym same) (lent_sound r away low n tickets sound may)),
      room_for_returns used used (length r.cells) capacity cells (ap length now_is ∙ length-on_each (λ _. lent_cell away) 0 low n r.cells) (omega arith) room,
    )

-- a block with space that is at home has a whole sector
pub whole_at_home : (size : ℕ) (c : Cell) → IsPlaced size c → c.away ≡ None → IsTrue (has_space c.kind) → length (unwrap_or c.sector BLANK).bytes ≡ size
whole_at_home size c p home h =
    let P : Option Away → Type 0 = λ a. HasPlace size c.kind c.sector a in
    at (device_number c.kind) h (subst P home p)
  where
    at : (d : Option ℕ) → IsTrue (is_some d) → HasSector size d c.sector → length (unwrap_or c.sector BLANK).bytes ≡ size
    at None e s = absurd (cc)
    at (Some d) e s = there c.sector s
      where
        there : (o : Option DeviceBlock) → HasSector size (Some d) o → length (unwrap_or o BLANK).bytes ≡ size
        there None t = absurd t
        there (Some x) t = t.whole

-- an item within a list
pub item_within : {A : Type 0} (xs : List A) (i : ℕ) → i < length xs → (x : A) × (slice_get xs i ≡ Some x)
item_within [] i h = absurd (omega arith)
item_within (x ∷ xs) zero h = (x, refl)
item_within (x ∷ xs) (suc i) h = item_within xs i (omega arith)

-- what is lent with whole pages can be transferred
pub can_transfer : (size low : ℕ) (cells : List Cell) (pages : List Page) → All (IsPlaced size) cells → MayLend cells low (length pages) → All (IsWholePage size) pages → 0 < length pages → length pages ≤ 16 → CanTransfer (parts_of (drop low cells) pages)
can_transfer size low cells pages all m whole some few =
    let parts : List Part = parts_of (drop low cells) pages in
    let many : length (parts_of (drop low cells) pages) ≡ length pages = length-parts_of low cells pages m.within in
    let within = m.within in
    record {
      some = omega arith;
      few = omega arith;
      whole = λ k d l.
          let in_pages : k < length pages = omega arith in
          let c = item_within cells (low + k) (omega arith) in
          let page = item_within pages k in_pages in
          let is : get_or parts k d ≡ part_of c.0 page.0 = get_or_from_slice_get parts k (part_of c.0 page.0) d (parts_of-at low k cells pages c.0 page.0 c.1 page.1) in
          let sector : length (unwrap_or c.0.sector BLANK).bytes ≡ size = whole_at_home size c.0 (All-there (IsPlaced size) cells (low + k) c.0 all c.1) (m.home k c.0 in_pages c.1) (m.space k c.0 in_pages c.1) in
          let W : Part → Type 0 = λ q. IsWhole q in
          subst W (sym is) (All-there (IsWholePage size) pages k page.0 whole page.1 ∙ sym sector);
    }
