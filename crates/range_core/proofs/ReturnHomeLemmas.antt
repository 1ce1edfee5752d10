-- Blocks that come home with the parts that they were lent with.
use Rattle.std.proofs.Common.{◌≡◌, ℕ, zero, suc, ◌+◌, ◌-◌, ◌*◌, ◌<◌, ◌≤◌, ◌⊎◌, Option, Some, None, IsTrue, IfSome, List, [], ◌∷◌, ◌++◌, length, map, take, drop, All, arith, refl, sym, ◌∙◌, ap, subst, inl, inr, ⊎_elim}
use Rattle.std.specs.Prelude.{is_some, slice_get}
use Rattle.iob_base.specs.DeviceBlock.{DeviceBlock}
use Rattle.iob_base.specs.declared.stamp.Op.{Op}
use Rattle.iob_base.specs.declared.stamp.Op.TheVariants.{Read, Write}
use Rattle.fault_device.specs.Transfer.{block_read, block_written, parts_after, parts_read, parts_written}
use Rattle.fault_device.specs.declared.lane.Done.{Done}
use Rattle.iob_base.specs.declared.part.Part.{Part}
use Rattle.io_model.specs.Kinds.{device_number}
use Rattle.turn_cell.specs.Stakes.{total}
use Rattle.range_core.specs.BlockTruth.{IsWholePage, gone, is_gone}
use Rattle.range_core.specs.Cells.{HasPlace, HasSector, IsBlock, IsPlaced}
use Rattle.range_core.specs.ClaimsView.{ClaimsView}
use Rattle.range_core.specs.EntryCounts.{one_where}
use Rattle.range_core.specs.Kinds.{has_space, is_delalloc}
use Rattle.range_core.specs.OnRun.{on_each}
use Rattle.range_core.specs.RangeView.{IsSound, RangeView, range_view}
use Rattle.range_core.specs.Returning.{AreOut, IsReturn}
use Rattle.range_core.specs.Space.{ClaimsSpace, SpaceClaims, number_weight, promised, weigh_number}
use Rattle.range_core.specs.declared.cell.Cell.{Cell}
use Rattle.range_core.specs.declared.lending.Away.{Away}
use Rattle.range_core.specs.declared.lending.Held.{Held}
use Rattle.range_core.specs.declared.lending.Lent.{Lent}
use Rattle.range_core.proofs.OnRunLemmas.{length-on_each}
use Rattle.range_core.proofs.SoundLemmas.{All-on_each_at, sound_unlogged, total-moved}

-- an item of a list whose first n items moved
moved_at : {A : Type 0} (f : A → A) (n k : ℕ) (xs : List A) (x : A) → slice_get xs k ≡ Some x
    → ((k < n) × (slice_get (map f (take n xs) ++ drop n xs) k ≡ Some (f x))) ⊎ ((n ≤ k) × (slice_get (map f (take n xs) ++ drop n xs) k ≡ Some x))
moved_at f zero k xs x e = inr (omega arith, e)
moved_at f (suc n) k [] x e = absurd (cc)
moved_at f (suc n) zero (y ∷ xs) x e = let is : y ≡ x = cc in inl (omega arith, ap (λ z. Some (f z)) is)
moved_at f (suc n) (suc k) (y ∷ xs) x e =
    ⊎_elim (λ (h : (k < n) × (slice_get (map f (take n xs) ++ drop n xs) k ≡ Some (f x))). inl (omega (arith, h.0), h.1))
    (λ (h : (n ≤ k) × (slice_get (map f (take n xs) ++ drop n xs) k ≡ Some x)). inr (omega (arith, h.0), h.1)) (moved_at f n k xs x e)

-- a part that comes back from a read: its sector as it was lent, and its page with the sector's bytes where it landed
pub record IsReadBack (landed k : ℕ) (lent back : Part) : Type 0 where
  pub sector : back.sector ≡ lent.sector
  pub landed_page : k < landed → back.page.bytes ≡ lent.sector.bytes

-- a part that comes back from a write: its page as it was lent, and its sector with the page's bytes where it landed
pub record IsWrittenBack (landed k : ℕ) (lent back : Part) : Type 0 where
  pub number : back.sector.number ≡ lent.sector.number
  pub page : back.page ≡ lent.page
  pub landed_sector : k < landed → back.sector.bytes ≡ lent.page.bytes
  pub other_sector : landed ≤ k → back.sector ≡ lent.sector

pub record ReadPart (landed k : ℕ) (parts : List Part) (lent : Part) : Type 0 where
  pub part : Part
  pub at : slice_get (parts_read landed parts) k ≡ Some part
  pub is : IsReadBack landed k lent part

pub record WrittenPart (landed k : ℕ) (parts : List Part) (lent : Part) : Type 0 where
  pub part : Part
  pub at : slice_get (parts_written landed parts) k ≡ Some part
  pub is : IsWrittenBack landed k lent part

pub read_back : (landed k : ℕ) (parts : List Part) (lent : Part) → slice_get parts k ≡ Some lent → ReadPart landed k parts lent
read_back landed k parts lent e =
    ⊎_elim
    (λ (h : (k < landed) × (slice_get (parts_read landed parts) k ≡ Some (block_read lent))). record { part = block_read lent; at = h.1; is = record { sector = refl; landed_page = λ _. refl } })
    (λ (h : (landed ≤ k) × (slice_get (parts_read landed parts) k ≡ Some lent)). let no = h.0 in record { part = lent; at = h.1; is = record { sector = refl; landed_page = λ l. absurd (omega arith) } })
    (moved_at block_read landed k parts lent e)

pub written_back : (landed k : ℕ) (parts : List Part) (lent : Part) → slice_get parts k ≡ Some lent → WrittenPart landed k parts lent
written_back landed k parts lent e =
    ⊎_elim
    (λ (h : (k < landed) × (slice_get (parts_written landed parts) k ≡ Some (block_written lent))). let yes = h.0 in
    record { part = block_written lent; at = h.1; is = record { number = refl; page = refl; landed_sector = λ _. refl; other_sector = λ l. absurd (omega arith) } })
    (λ (h : (landed ≤ k) × (slice_get (parts_written landed parts) k ≡ Some lent)). let no = h.0 in
    record { part = lent; at = h.1; is = record { number = refl; page = refl; landed_sector = λ l. absurd (omega arith); other_sector = λ _. refl } })
    (moved_at block_written landed k parts lent e)

-- the sector of a part that comes back from a write is the block that it was, where its page is whole
pub written_block : (size landed k : ℕ) (number : Option ℕ) (lent back : Part) → IsWrittenBack landed k lent back → IsWholePage size lent.page → IfSome number (λ d. IsBlock size d lent.sector) → IfSome number (λ d. IsBlock size d back.sector)
written_block size landed k number lent back is whole block = at number block (arrived (split k landed))
  where
    split : (a b : ℕ) → (a < b) ⊎ (b ≤ a)
    split a b = grind arith

    arrived : (k < landed) ⊎ (landed ≤ k) → (length back.sector.bytes ≡ size) ⊎ (back.sector ≡ lent.sector)
    arrived (inl l) = inl (ap length (is.landed_sector l) ∙ whole)
    arrived (inr l) = inr (is.other_sector l)

    at : (o : Option ℕ) → IfSome o (λ d. IsBlock size d lent.sector) → (length back.sector.bytes ≡ size) ⊎ (back.sector ≡ lent.sector) → IfSome o (λ d. IsBlock size d back.sector)
    at None b w = tt
    at (Some d) b (inl w) = record { is = is.number ∙ b.is; whole = w }
    at (Some d) b (inr w) = let B : DeviceBlock → Type 0 = λ s. IsBlock size d s in subst B (sym w) b

-- where the sector of a part was a block, and its page whole, it comes back as this block
pub record HomePart (size : ℕ) (op : Op) (landed k : ℕ) (parts : List Part) (number : Option ℕ) : Type 0 where
  pub part : Part
  pub at : slice_get (parts_after op landed parts) k ≡ Some part
  pub sector : IfSome number (λ d. IsBlock size d part.sector)

pub home_part : (size : ℕ) (op : Op) (landed k : ℕ) (parts : List Part) (number : Option ℕ) (lent : Part) → slice_get parts k ≡ Some lent → IsWholePage size lent.page → IfSome number (λ d. IsBlock size d lent.sector)
    → HomePart size op landed k parts number
home_part size Read landed k parts number lent e whole block =
    let back = read_back landed k parts lent e in
    let B : DeviceBlock → Type 0 = λ s. IfSome number (λ d. IsBlock size d s) in
    record { part = back.part; at = back.at; sector = subst B (sym back.is.sector) block }
home_part size Write landed k parts number lent e whole block =
    let back = written_back landed k parts lent e in
    record { part = back.part; at = back.at; sector = written_block size landed k number lent back.part back.is whole block }

-- a block comes home with a part: it has the part's sector, and a kind of the same device number
pub record IsHomeWith (part : Part) (was c : Cell) : Type 0 where
  pub sector : c.sector ≡ Some part.sector
  pub away : c.away ≡ None
  pub number : device_number c.kind ≡ device_number was.kind
  pub delalloc : is_delalloc c.kind ≡ is_delalloc was.kind

-- a block that is away has its place, so its kind has space
pub away_space : (size : ℕ) (c : Cell) (away : Away) → c.away ≡ Some away → IsPlaced size c → IsTrue (has_space c.kind)
away_space size c away is p = let P : Option Away → Type 0 = λ a. HasPlace size c.kind c.sector a in (subst P is p).1

pub home_placed : (size : ℕ) (was c : Cell) (part : Part) → IsHomeWith part was c → IfSome (device_number was.kind) (λ d. IsBlock size d part.sector) → IsTrue (has_space was.kind) → IsPlaced size c
home_placed size was c part is block space =
    let A : Option Away → Type 0 = λ a. HasPlace size c.kind c.sector a in
    let N : Option ℕ → Type 0 = λ d. HasSector size d c.sector in
    let S : Option DeviceBlock → Type 0 = λ s. HasSector size (device_number was.kind) s in
    subst A (sym is.away) (subst N (sym is.number) (subst S (sym is.sector) (at (device_number was.kind) block space)))
  where
    at : (d : Option ℕ) → IfSome d (λ n. IsBlock size n part.sector) → IsTrue (is_some d) → HasSector size d (Some part.sector)
    at None b s = absurd (cc)
    at (Some n) b s = b

length-moved : {A : Type 0} (f : A → A) (n : ℕ) (xs : List A) → length (map f (take n xs) ++ drop n xs) ≡ length xs
length-moved f zero xs = refl
length-moved f (suc n) [] = refl
length-moved f (suc n) (x ∷ xs) = ap suc (length-moved f n xs)

-- as many parts come back as were lent
pub length-parts_after : (op : Op) (landed : ℕ) (parts : List Part) → length (parts_after op landed parts) ≡ length parts
length-parts_after Read landed parts = length-moved block_read landed parts
length-parts_after Write landed parts = length-moved block_written landed parts

-- what comes back is at the blocks of the claim
pub record IsAtClaim (first : ℕ) (h : Held) (back : Lent) : Type 0 where
  pub low : back.block - first ≡ h.lent.value.block - first
  pub many : length back.parts ≡ length h.lent.value.parts

pub at_claim : (first : ℕ) (claims : ClaimsView) (h : Held) (op : Op) (back : Lent) (done : Done) → IsReturn claims h op back done → IsAtClaim first h back
at_claim first claims h op back done is = record { low = ap (λ b. b - first) is.block; many = ap length is.parts ∙ length-parts_after op done.landed h.lent.value.parts }

module _ (r : RangeView) (h : Held) (op : Op) (landed : ℕ) (f : ℕ → Cell → Cell) where
  -- the blocks of a claim all come home with what is back of its parts
  abbrev pub AllHome : Type 0
  AllHome = (k : ℕ) (c : Cell) (part : Part) → k < length h.lent.value.parts → slice_get (parts_after op landed h.lent.value.parts) k ≡ Some part → IsHomeWith part c (f k c)

  abbrev low : ℕ
  low = h.lent.value.block - r.first

  abbrev many : ℕ
  many = length h.lent.value.parts

  back_at : AreOut r h → (k : ℕ) (c : Cell) → k < many → slice_get r.cells (low + k) ≡ Some c → HomePart r.geometry.block_size op landed k h.lent.value.parts (device_number c.kind)
  back_at out k c l at = let o = out.out k c l at in home_part r.geometry.block_size op landed k h.lent.value.parts (device_number c.kind) o.part o.part_is o.page o.sector

  home_at : (out : AreOut r h) → AllHome → (k : ℕ) (c : Cell) (l : k < many) (at : slice_get r.cells (low + k) ≡ Some c) → IsHomeWith (back_at out k c l at).part c (f k c)
  home_at out home k c l at = home k c _ l (back_at out k c l at).at

  -- they have their places then
  pub returned_places : AreOut r h → AllHome → All (IsPlaced r.geometry.block_size) r.cells → All (IsPlaced r.geometry.block_size) (on_each f 0 low many r.cells)
  returned_places out home all =
      let within = out.high in
      let from = out.low in
      All-on_each_at f is_gone (IsPlaced r.geometry.block_size) 0 low many r.cells (omega arith)
      (λ k c l at p. let zk : 0 + k ≡ k = omega arith in
      let P : ℕ → Type 0 = λ j. IsPlaced r.geometry.block_size (f j c) in
      subst P (sym zk) (home_placed r.geometry.block_size c (f k c) (back_at out k c l at).part (home_at out home k c l at) (back_at out k c l at).sector
      (away_space r.geometry.block_size c _ (out.out k c l at).away p)))
      all

  weigh_same : AreOut r h → AllHome → (w : Cell → ℕ) (a b : ℕ) → ((k : ℕ) (c : Cell) → k < many → slice_get r.cells (low + k) ≡ Some c → w (f k c) + a ≡ w c + b) → total w (on_each f 0 low many r.cells) + many * a ≡ total w r.cells + many * b
  weigh_same out home w a b e =
      let within = out.high in
      let from = out.low in
      total-moved f w a b 0 low many r.cells (omega arith) (λ k c l at. let zk : 0 + k ≡ k = omega arith in let W : ℕ → Type 0 = λ j. w (f j c) + a ≡ w c + b in subst W (sym zk) (e k c l at))

  -- as many blocks fewer are away
  pub returned_gone : AreOut r h → AllHome → total is_gone (on_each f 0 low many r.cells) + many ≡ total is_gone r.cells
  returned_gone out home =
      let t = weigh_same out home is_gone 1 0 (λ k c l at. let x : gone (f k c).away ≡ 0 = ap gone (home_at out home k c l at).away in let y : gone c.away ≡ 1 = ap gone (out.out k c l at).away in omega arith) in
      omega arith

  -- and the seat claims the same space for them
  pub returned_space : AreOut r h → AllHome → (size : ℕ) (space : SpaceClaims) → ClaimsSpace size r.cells space → ClaimsSpace size (on_each f 0 low many r.cells) space
  returned_space out home size space s = record {
    numbers = λ g. s.numbers g ∙ (let t = weigh_same out home (number_weight g) 0 0 (λ k c l at. let x : number_weight g (f k c) ≡ number_weight g c = ap (weigh_number g) (home_at out home k c l at).number in omega arith) in let u : total (number_weight g) r.cells ≡ total (number_weight g) (on_each f 0 low many r.cells) = omega arith in u);
    distinct = s.distinct;
    reserved = s.reserved ∙ (let t = weigh_same out home promised 0 0 (λ k c l at. let x : promised (f k c) ≡ promised c = ap one_where (home_at out home k c l at).delalloc in omega arith) in let u : total promised r.cells ≡ total promised (on_each f 0 low many r.cells) = omega arith in u);
    cap = s.cap ∙ sym (length-on_each f 0 low many r.cells);
    sized = s.sized;
  }

-- a range keeps its invariant when blocks come home to it
pub returned_keeps : (r : RangeView) (h : Held) (op : Op) (landed : ℕ) (f : ℕ → Cell → Cell) (back : Lent) (cells : List Cell) (cookie errors used capacity : ℕ) → IsSound r → AreOut r h → AllHome r h op landed f → IsAtClaim r.first h back
    → cells ≡ on_each f 0 (back.block - r.first) (length back.parts) r.cells → used + 2 * total is_gone r.cells ≤ capacity
    → IsSound (range_view r.geometry r.mode r.first cells r.log cookie errors r.tickets r.seat r.space) × (used + 2 * total is_gone cells ≤ capacity)
returned_keeps r h op landed f back cells cookie errors used capacity sound out home place is room =
    let low : ℕ = h.lent.value.block - r.first in
    let n : ℕ = length h.lent.value.parts in
    let now : List Cell = on_each f 0 low n r.cells in
    let now_is : cells ≡ now = is ∙ ap (λ l. on_each f 0 l (length back.parts) r.cells) place.low ∙ ap (λ m. on_each f 0 low m r.cells) place.many in
    let S : List Cell → Type 0 = λ xs. IsSound (range_view r.geometry r.mode r.first xs r.log cookie errors r.tickets r.seat r.space) in
    let gone = returned_gone r h op landed f out home in (
      subst S (sym now_is) (sound_unlogged r now cookie errors r.tickets r.seat r.space sound (length-on_each f 0 low n r.cells) (returned_places r h op landed f out home sound.places) (returned_space r h op landed f out home r.geometry.block_size r.space sound.space)),
      omega (arith, ap (total is_gone) now_is, gone, room),
    )
