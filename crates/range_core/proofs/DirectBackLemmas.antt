-- What is true of blocks that come back from a caller's own pages.
use Rattle.std.proofs.Common.{◌≡◌, ℕ, zero, suc, ◌+◌, ◌-◌, ◌<◌, ◌≤◌, Bool, true, false, Option, Some, None, List, [], ◌∷◌, ◌++◌, length, map, get_or, All, refl, sym, ◌∙◌, ap, subst, arith, if◌then◌else◌}
use Rattle.std.specs.Prelude.{IfSome, IsTrue, is_some, nat_lt, slice_get}
use Rattle.std.proofs.lemmas.List.Elements.{All-append}
use Rattle.std.proofs.lemmas.Option.{slice_get-get_or}
use Rattle.iob_base.specs.DeviceBlock.{DeviceBlock}
use Rattle.iob_base.specs.declared.sector.Page.{Page}
use Rattle.iob_base.specs.declared.stamp.Op.{Op}
use Rattle.iob_base.specs.declared.stamp.Op.TheVariants.{Read, Write}
use Rattle.iob_base.specs.declared.stamp.Stamp.{Stamp}
use Rattle.iob_base.specs.declared.stamp.Tag.{Tag}
use Rattle.fault_device.specs.declared.lane.Done.{Done}
use Rattle.iob_base.specs.declared.part.Part.{Part}
use Rattle.io_model.specs.Kinds.{device_number}
use Rattle.io_model.specs.declared.file.Kind.{Kind}
use Rattle.io_model.specs.declared.file.Kind.TheVariants.{Hole, Delalloc, Unwritten, Mapped}
use Rattle.turn_cell.specs.Stakes.{total}
use Rattle.range_core.specs.BlockTruth.{IsWholePage, gone, is_gone}
use Rattle.range_core.specs.Cells.{HasPlace, HasSector, IsBlock, IsPlaced}
use Rattle.range_core.specs.ClaimsView.{ClaimsView}
use Rattle.range_core.specs.DirectBacks.{KeepsPages, came_back, kind_held, marked_back, pages_held}
use Rattle.range_core.specs.EntryCounts.{is_write_back, one_where}
use Rattle.range_core.specs.EntryStamps.{direct_stamps, failed_stamps, landed_by, missed_by}
use Rattle.range_core.specs.Kinds.{has_space, is_delalloc, is_mapped, written_kind}
use Rattle.range_core.specs.Lends.{home_cell, home_of}
use Rattle.range_core.specs.OnRun.{on_each}
use Rattle.range_core.specs.RangeView.{IsOfRange, IsSound, RangeView, range_view}
use Rattle.fault_device.specs.Transfer.{parts_after}
use Rattle.range_core.specs.Returning.{ComesBack, IsOutOn, IsReturn}
use Rattle.range_core.specs.Space.{ClaimsSpace, SpaceClaims, number_weight, promised, weigh_number}
use Rattle.range_core.specs.Stamps.{done_by, stamps_from}
use Rattle.range_core.specs.declared.cell.Cell.{Cell}
use Rattle.range_core.specs.declared.lending.Away.{Away}
use Rattle.range_core.specs.declared.lending.Held.{Held}
use Rattle.range_core.specs.declared.lending.Lender.{Lender}
use Rattle.range_core.specs.declared.lending.Lent.{Lent}
use Rattle.range_core.proofs.KindLemmas.{kind_after-zero}
use Rattle.range_core.proofs.OnRunLemmas.{length-on_each, total-on_each}
use Rattle.range_core.proofs.SoundLemmas.{All-on_each_at, sound_next, stamps_from-range, total-moved}
use Rattle.range_core.proofs.TransferLemmas.{after-at, length-after, moved, numbers-after, pages-written, part_after}

-- items that stay as they are
pub on_each-same : {A : Type 0} (f : ℕ → A → A) → ((j : ℕ) (x : A) → f j x ≡ x) → (k low n : ℕ) (xs : List A) → xs ≡ on_each f k low n xs
on_each-same f h k zero zero xs = refl
on_each-same f h k zero (suc n) [] = refl
on_each-same f h k zero (suc n) (x ∷ xs) = ap (λ y. y ∷ xs) (sym (h k x)) ∙ ap (λ l. f k x ∷ l) (on_each-same f h (suc k) zero n xs)
on_each-same f h k (suc low) n [] = refl
on_each-same f h k (suc low) n (x ∷ xs) = ap (λ l. x ∷ l) (on_each-same f h k low n xs)

-- no block becomes mapped where nothing was written
pub marked-none : (op : Op) (failed : Bool) (c : Cell) → is_write_back op failed ≡ false → marked_back op failed c ≡ c
marked-none Read true c e = refl
marked-none Read false c e = refl
marked-none Write true c e = refl
marked-none Write false c e = absurd (cc)

-- the kind of a block when it comes back
abbrev pub kind_back : Op → Bool → Kind → Kind
kind_back Write false kind = written_kind kind
kind_back _ failed kind = kind

home-kind : (o : Option Part) (c : Cell) → (home_cell o c).kind ≡ c.kind
home-kind None c = refl
home-kind (Some p) c = refl

marked-kind : (op : Op) (failed : Bool) (c : Cell) → (marked_back op failed c).kind ≡ kind_back op failed c.kind
marked-kind Read true c = refl
marked-kind Read false c = refl
marked-kind Write true c = refl
marked-kind Write false c = refl

pub back-kind : (op : Op) (failed : Bool) (parts : List Part) (k : ℕ) (c : Cell) → (came_back op failed parts k c).kind ≡ kind_back op failed c.kind
back-kind op failed parts k c = marked-kind op failed (home_of parts k c) ∙ ap (kind_back op failed) (home-kind (slice_get parts k) c)

number-back : (op : Op) (failed : Bool) (kind : Kind) → device_number (kind_back op failed kind) ≡ device_number kind
number-back Read true kind = refl
number-back Read false kind = refl
number-back Write true kind = refl
number-back Write false Hole = refl
number-back Write false Delalloc = refl
number-back Write false (Unwritten d) = refl
number-back Write false (Mapped d) = refl

delalloc-back : (op : Op) (failed : Bool) (kind : Kind) → is_delalloc (kind_back op failed kind) ≡ is_delalloc kind
delalloc-back Read true kind = refl
delalloc-back Read false kind = refl
delalloc-back Write true kind = refl
delalloc-back Write false Hole = refl
delalloc-back Write false Delalloc = refl
delalloc-back Write false (Unwritten d) = refl
delalloc-back Write false (Mapped d) = refl

-- blocks that come back have the numbers and the promises that they had
pub back_space : (size : ℕ) (op : Op) (failed : Bool) (parts : List Part) (low n : ℕ) (cells : List Cell) (space : SpaceClaims) → ClaimsSpace size cells space → ClaimsSpace size (on_each (came_back op failed parts) 0 low n cells) space
back_space size op failed parts low n cells space s =
    let f : ℕ → Cell → Cell = came_back op failed parts in
    record {
      numbers = λ w. s.numbers w ∙ sym (total-on_each f (number_weight w) (λ j x. ap (λ q. weigh_number w (device_number q)) (back-kind op failed parts j x) ∙ ap (weigh_number w) (number-back op failed x.kind)) 0 low n cells);
      distinct = s.distinct;
      reserved = s.reserved ∙ sym (total-on_each f promised (λ j x. ap (λ q. one_where (is_delalloc q)) (back-kind op failed parts j x) ∙ ap one_where (delalloc-back op failed x.kind)) 0 low n cells);
      cap = s.cap ∙ sym (length-on_each f 0 low n cells);
      sized = s.sized;
    }

-- the stamps of a return are of the range
pub back_stamps-range : (first blocks : ℕ) (by : Tag) (op : Op) (block : ℕ) (kind : Kind) (n : ℕ) (done : Done) → first ≤ block → block + n ≤ first + blocks → done.landed ≤ n → All (IsOfRange first blocks) (direct_stamps by op block kind n done)
back_stamps-range first blocks by op block kind n done low high few = at done.failed
  where
    failed : (op : Op) (t : Bool) → All (IsOfRange first blocks) (failed_stamps by op block n t done.landed)
    failed Read true = stamps_from-range first blocks block n (missed_by by) low high
    failed Read false = stamps_from-range first blocks block n (missed_by by) low high
    failed Write false = stamps_from-range first blocks block n (missed_by by) low high
    failed Write true =
        All-append (IsOfRange first blocks) (stamps_from block done.landed (landed_by by)) (stamps_from (block + done.landed) (n - done.landed) (missed_by by))
        (stamps_from-range first blocks block done.landed (landed_by by) low (omega arith)) (stamps_from-range first blocks (block + done.landed) (n - done.landed) (missed_by by) (omega arith) (omega arith))

    at : (t : Bool) → All (IsOfRange first blocks) (if t then failed_stamps by op block n (is_mapped kind) done.landed else stamps_from block n (done_by by))
    at true = failed op (is_mapped kind)
    at false = stamps_from-range first blocks block n (done_by by) low high

-- a block with the sector of a part that came back
abbrev pub back_cell : Op → Bool → Part → Cell → Cell
back_cell op failed p c = record c { kind = kind_back op failed c.kind; sector = Some p.sector; away = None }

pub back-is : (op : Op) (failed : Bool) (parts : List Part) (k : ℕ) (p : Part) (c : Cell) → slice_get parts k ≡ Some p → came_back op failed parts k c ≡ back_cell op failed p c
back-is op failed parts k p c e = ap (λ o. marked_back op failed (home_cell o c)) e ∙ at op failed
  where
    at : (op : Op) (failed : Bool) → marked_back op failed (home_cell (Some p) c) ≡ back_cell op failed p c
    at Read true = refl
    at Read false = refl
    at Write true = refl
    at Write false = refl

-- a transfer leaves a whole block whole, and its number
moved-block : (op : Op) (size d : ℕ) (p : Part) → IsBlock size d p.sector → IsWholePage size p.page → IsBlock size d (moved op p).sector
moved-block Read size d p is whole = is
moved-block Write size d p is whole = record { is = is.is; whole = whole }

after-block : (op : Op) (landed k size d : ℕ) (p : Part) → IsBlock size d p.sector → IsWholePage size p.page → IsBlock size d (part_after op landed k p).sector
after-block op landed k size d p is whole = at (nat_lt k landed)
  where
    at : (t : Bool) → IsBlock size d (if t then moved op p else p).sector
    at true = moved-block op size d p is whole
    at false = is

-- the block of a part that comes back has its sector
placed_with : (size : ℕ) (number : Option ℕ) (sector other : DeviceBlock) → IsTrue (is_some number) → IfSome number (λ d. IsBlock size d sector) → ((d : ℕ) → IsBlock size d sector → IsBlock size d other) → HasSector size number (Some other)
placed_with size None sector other some is next = absurd (cc)
placed_with size (Some d) sector other some is next = next d is

pub back_placed : (size : ℕ) (op : Op) (failed : Bool) (landed k : ℕ) (h : Held) (c : Cell) → IsOutOn size h k c → IsPlaced size c → IsPlaced size (came_back op failed (parts_after op landed h.lent.value.parts) k c)
back_placed size op failed landed k h c out placed =
    let p : Part = out.part in
    let q : Part = part_after op landed k p in
    let P : Option Away → Type 0 = λ a. HasPlace size c.kind c.sector a in
    let N : Option ℕ → Type 0 = λ d. HasSector size d (Some q.sector) in
    let S : Cell → Type 0 = λ x. IsPlaced size x in
    let space : IsTrue (has_space c.kind) = (subst P out.away placed).1 in
    let here : HasSector size (device_number c.kind) (Some q.sector) =
    placed_with size (device_number c.kind) p.sector q.sector space out.sector (λ d is. after-block op landed k size d p is out.page) in
    subst S (sym (back-is op failed (parts_after op landed h.lent.value.parts) k q c (after-at op landed k h.lent.value.parts p out.part_is)))
    (subst N (sym (number-back op failed c.kind)) here)

-- each block of a return is one less away
pub back_gone : (size : ℕ) (op : Op) (failed : Bool) (landed k : ℕ) (h : Held) (c : Cell) → IsOutOn size h k c → is_gone (came_back op failed (parts_after op landed h.lent.value.parts) k c) + 1 ≡ is_gone c + 0
back_gone size op failed landed k h c out =
    let q : Part = part_after op landed k out.part in
    let one : is_gone c ≡ 1 = ap gone out.away in
    let none : is_gone (came_back op failed (parts_after op landed h.lent.value.parts) k c) ≡ 0 =
    ap is_gone (back-is op failed (parts_after op landed h.lent.value.parts) k q c (after-at op landed k h.lent.value.parts out.part out.part_is)) in
    omega arith

-- the pages of a claim come back, as the transfer left them
pub pages_kept : (claims : ClaimsView) (h : Held) (op : Op) (back : Lent) (done : Done) → IsReturn claims h op back done → KeepsPages op (pages_held claims.held) (map (λ p. p.page) back.parts)
pages_kept claims h op back done r =
    let K : Option Held → Type 0 = λ o. KeepsPages op (pages_held o) (map (λ p. p.page) back.parts) in
    let L : List Part → Type 0 = λ l. KeepsPages op (pages_held (Some h)) (map (λ p. p.page) l) in
    subst K (sym r.held) (subst L (sym r.parts) (at op))
  where
    map-map : (parts : List Part) → map (λ (p : Page). p.number) (map (λ (p : Part). p.page) parts) ≡ map (λ (p : Part). p.page.number) parts
    map-map [] = refl
    map-map (p ∷ parts) = ap (λ l. p.page.number ∷ l) (map-map parts)

    at : (op : Op) → KeepsPages op (map (λ p. p.page) h.lent.value.parts) (map (λ p. p.page) (parts_after op done.landed h.lent.value.parts))
    at Read = map-map (parts_after Read done.landed h.lent.value.parts) ∙ numbers-after Read done.landed h.lent.value.parts ∙ sym (map-map h.lent.value.parts)
    at Write = pages-written done.landed h.lent.value.parts

-- what comes back is a run of the range, and no more of it landed
pub record IsBackRun (r : RangeView) (back : Lent) (done : Done) : Type 0 where
  pub low : r.first ≤ back.block
  pub some : 0 < length back.parts
  pub high : back.block + length back.parts ≤ r.first + length r.cells
  pub landed : done.landed ≤ length back.parts

module _ (r : RangeView) (claims : ClaimsView) (lender : Lender) (op : Op) (back : Lent) (done : Done) (comes : ComesBack r claims lender op back done) where
  pub back_run : IsBackRun r back done
  back_run =
      let many : length back.parts ≡ length comes.claim.lent.value.parts = ap length comes.is_return.parts ∙ length-after op done.landed comes.claim.lent.value.parts in
      let at = comes.is_return.block in
      let low = comes.out.low in
      let high = comes.out.high in
      let some = comes.is_return.some in
      let landed = comes.is_return.landed in
      record { low = omega arith; some = omega arith; high = omega arith; landed = omega arith }

  -- each block of the run is out on the claim
  pub back_out : (k : ℕ) (c : Cell) → k < length back.parts → slice_get r.cells (back.block - r.first + k) ≡ Some c → IsOutOn r.geometry.block_size comes.claim k c
  back_out k c l at =
      let many : length back.parts ≡ length comes.claim.lent.value.parts = ap length comes.is_return.parts ∙ length-after op done.landed comes.claim.lent.value.parts in
      let same = comes.is_return.block in
      comes.out.out k c (omega arith) (ap (λ b. slice_get r.cells (b - r.first + k)) (sym same) ∙ at)

  -- the first block has the kind that the claim says
  pub back_kind : (c : Cell) → c ≡ get_or r.cells (back.block - r.first) c → c.kind ≡ kind_held claims.held
  back_kind c e =
      let run = back_run in
      let low = run.low in
      let some = run.some in
      let high = run.high in
      let z : back.block - r.first + 0 ≡ back.block - r.first = omega arith in
      let within : back.block - r.first < length r.cells = omega arith in
      let at : slice_get r.cells (back.block - r.first + 0) ≡ Some c = ap (slice_get r.cells) z ∙ slice_get-get_or r.cells (back.block - r.first) c within ∙ ap Some (sym e) in
      sym (back_out 0 c some at).kind ∙ kind_after-zero comes.claim.kind ∙ sym (ap kind_held comes.is_return.held)

  pub back_rest : (failed : Bool) → total is_gone (on_each (came_back op failed back.parts) 0 (back.block - r.first) (length back.parts) r.cells) + length back.parts ≡ total is_gone r.cells
  back_rest failed =
      let n : ℕ = length back.parts in
      let low : ℕ = back.block - r.first in
      let run = back_run in
      let begins = run.low in
      let ends = run.high in
      let f : ℕ → Cell → Cell = came_back op failed back.parts in
      let t = total-moved f is_gone 1 0 0 low n r.cells (omega arith)
      (λ j x l at. let z : 0 + j ≡ j = omega arith in
      let G : List Part → Type 0 = λ ps. is_gone (came_back op failed ps (0 + j) x) + 1 ≡ is_gone x + 0 in
      let J : ℕ → Type 0 = λ m. is_gone (came_back op failed (parts_after op done.landed comes.claim.lent.value.parts) m x) + 1 ≡ is_gone x + 0 in
      subst G (sym comes.is_return.parts) (subst J (sym z) (back_gone r.geometry.block_size op failed done.landed j comes.claim x (back_out j x l at)))) in
      omega arith

  pub back_places : (failed : Bool) → All (IsPlaced r.geometry.block_size) r.cells → All (IsPlaced r.geometry.block_size) (on_each (came_back op failed back.parts) 0 (back.block - r.first) (length back.parts) r.cells)
  back_places failed places =
      let n : ℕ = length back.parts in
      let low : ℕ = back.block - r.first in
      let size : ℕ = r.geometry.block_size in
      let run = back_run in
      let begins = run.low in
      let ends = run.high in
      let f : ℕ → Cell → Cell = came_back op failed back.parts in
      All-on_each_at f is_gone (IsPlaced size) 0 low n r.cells (omega arith)
      (λ j x l at here. let z : 0 + j ≡ j = omega arith in
      let G : List Part → Type 0 = λ ps. IsPlaced size (came_back op failed ps (0 + j) x) in
      let J : ℕ → Type 0 = λ m. IsPlaced size (came_back op failed (parts_after op done.landed comes.claim.lent.value.parts) m x) in
      subst G (sym comes.is_return.parts) (subst J (sym z) (back_placed size op failed done.landed j comes.claim x (back_out j x l at) here)))
      places

  pub back_sound : (by : Tag) (kind : Kind) (cookie : ℕ) (log : List (ℕ × Stamp)) → IsSound r → log ≡ r.log ++ direct_stamps by op back.block kind (length back.parts) done
      → IsSound (range_view r.geometry r.mode r.first (on_each (came_back op done.failed back.parts) 0 (back.block - r.first) (length back.parts) r.cells) log cookie r.errors r.tickets r.seat r.space)
  back_sound by kind cookie log s same =
      let n : ℕ = length back.parts in
      let low : ℕ = back.block - r.first in
      let run = back_run in
      let f : ℕ → Cell → Cell = came_back op done.failed back.parts in
      sound_next r (on_each f 0 low n r.cells) log (direct_stamps by op back.block kind n done) cookie r.errors r.tickets r.seat r.space s (length-on_each f 0 low n r.cells)
      (back_places done.failed s.places) same
      (back_stamps-range r.first (length r.cells) by op back.block kind n done run.low run.high run.landed)
      (back_space r.geometry.block_size op done.failed back.parts low n r.cells r.space s.space)
