-- Files that are laid over a device are laid out as a mount's.
use Rattle.std.proofs.Common.{◌≡◌, ℕ, zero, suc, ◌+◌, ◌-◌, ◌*◌, ◌<◌, ◌≤◌, ◌^◌, Option, Some, None, List, [], ◌∷◌, ◌++◌, length, map, refl, sym, subst, ap, ◌∙◌, arith, lit≤}
use Rattle.std.specs.Prelude.{All, slice_get}
use Rattle.std.proofs.lemmas.Option.{none-some}
use Rattle.std.proofs.lemmas.List.{append_assoc, length-append, length-map}
use Rattle.std.proofs.lemmas.List.Elements.{All-cons, All-head, All-nil, All-tail}
use Rattle.atomic_table.specs.Seated.{TableId}
use Rattle.iob_base.specs.DeviceBlock.{DeviceBlock}
use Rattle.iob_base.specs.Layout.{Layout}
use Rattle.io_model.specs.declared.file.FileSpec.{FileSpec}
use Rattle.io_model.specs.declared.file.Kind.{Kind}
use Rattle.file_stripes.specs.Files.{IsFile, kinds_of_file}
use Rattle.file_stripes.proofs.KindLemmas.{length-kinds_from}
use Rattle.turn_cell.specs.Stakes.{total}
use Rattle.turn_cell.specs.Views.{CellView}
use Rattle.turn_cell.proofs.Sums.{total-map}
use Rattle.space_pool.specs.Pool.{PoolView}
use Rattle.range_core.proofs.CellLemmas as run
use Rattle.range_core.specs.Kinds.{kinds_from}
use Rattle.range_core.specs.RangeView.{RangeView}
use Rattle.size_core.specs.SizesView.{SizesView, fresh_sizes}
use Rattle.bio_pages.specs.Queue.{QueueView}
use Rattle.mount_parts.specs.FilePlaces.{place_of, places_from, sized_at, sizes_of_files, stripes_of_files}
use Rattle.mount_parts.specs.FirstSizes.{first_sizes, size_from}
use Rattle.mount_parts.specs.MountView.{IsLaidOut, IsStripe, mount_view, pool_share, size_cells, stripes_of}
use Rattle.mount_parts.specs.Pieces.{AreCut, AreOpened, IsOpenedWith, LaidStripes, first_sectors, piece_of, share_before}
use Rattle.mount_parts.specs.declared.file.FilePlace.{FilePlace}
use Rattle.mount_parts.specs.declared.piece.Piece.{Piece}
use Rattle.mount_parts.proofs.Layings.{no-idle}
use Rattle.mount_parts.proofs.Lookups.{own-long, past, piece-at}
use Rattle.mount_parts.proofs.Placings.{lie-in-order}
use Rattle.mount_parts.proofs.Places.{map-there}

few-blocks : (stripe cell : ℕ) (fs : List FileSpec) → All IsFile fs → All (λ f. f.blocks ≤ 65536) (places_from stripe cell fs)
few-blocks stripe cell [] are = All-nil (λ (f : FilePlace). f.blocks ≤ 65536)
few-blocks stripe cell (f ∷ fs) are =
    All-cons (λ (p : FilePlace). p.blocks ≤ 65536) (place_of f stripe cell) (places_from (stripe + stripes_of f.blocks) (cell + size_cells (sized_at f.size cell)) fs) (All-head IsFile f fs are).few
    (few-blocks (stripe + stripes_of f.blocks) (cell + size_cells (sized_at f.size cell)) fs (All-tail IsFile f fs are))

places-count : (stripe cell : ℕ) (fs : List FileSpec) → length (places_from stripe cell fs) ≡ length fs
places-count stripe cell [] = refl
places-count stripe cell (f ∷ fs) = ap suc (places-count (stripe + stripes_of f.blocks) (cell + size_cells (sized_at f.size cell)) fs)

pub cut-count : (fs : List FileSpec) (ps : List Piece) → AreCut fs ps → length ps ≡ stripes_of_files fs
cut-count [] ps none = ap length none
cut-count (f ∷ fs) ps (own, rest, is, ok, more) =
    omega (arith, ap length is, length-append (map (piece_of f.mode f.size) own) rest, own-long f.mode f.size 0 (kinds_of_file f) own ok, ap stripes_of (length-kinds_from f.extents 0 f.blocks), cut-count fs rest more)

few-stripes : (fs : List FileSpec) → All IsFile fs → stripes_of_files fs ≤ length fs * 1024
few-stripes [] are = lit≤ tt
few-stripes (f ∷ fs) are =
    let h = All-head IsFile f fs are in
    let more = few-stripes fs (All-tail IsFile f fs are) in
    omega (arith, h.few, more)

cells-here : (o : Option ℕ) (end : ℕ) → length (size_from o end) ≡ size_cells (sized_at o 0)
cells-here None end = refl
cells-here (Some n) end = refl

cells-same : (o : Option ℕ) (cell : ℕ) → size_cells (sized_at o cell) ≡ size_cells (sized_at o 0)
cells-same None cell = refl
cells-same (Some n) cell = refl

sizes-count : (size : ℕ) (fs : List FileSpec) → length (first_sizes size fs) ≡ sizes_of_files fs
sizes-count size [] = refl
sizes-count size (f ∷ fs) = omega (arith, length-append (size_from f.size (f.blocks * size)) (first_sizes size fs), cells-here f.size (f.blocks * size), sizes-count size fs)

-- A range was opened with the stripe in this place
pub record OpenedAt (geometry : Layout) (cookie : ℕ) (pool : TableId) (ps : List Piece) (n : ℕ) (o : RangeView) : Type 0 where
  pub piece : Piece
  pub here : slice_get ps n ≡ Some piece
  pub share : ℕ
  pub is : IsOpenedWith geometry cookie pool share piece o

pub opened-at : (geometry : Layout) (cookie : ℕ) (pool : TableId) (share : ℕ) (ps : List Piece) (os : List RangeView) (n : ℕ) (o : RangeView) → AreOpened geometry cookie pool share ps os → slice_get os n ≡ Some o → OpenedAt geometry cookie pool ps n o
opened-at geometry cookie pool share [] os n o are at = absurd (none-some o (sym (ap (λ l. slice_get l n) are) ∙ at))
opened-at geometry cookie pool share (p ∷ ps) [] n o are at = absurd are
opened-at geometry cookie pool share (p ∷ ps) (r ∷ os) zero o are at =
    let e : r ≡ o = cc in
    record { piece = p; here = refl; share = share_before share ps; is = subst (IsOpenedWith geometry cookie pool (share_before share ps) p) e are.0 }
opened-at geometry cookie pool share (p ∷ ps) (r ∷ os) (suc n) o are at =
    let h = opened-at geometry cookie pool (share - 1) ps os n o are.1 at in
    record { piece = h.piece; here = h.here; share = h.share; is = h.is }

opened-count : (geometry : Layout) (cookie : ℕ) (pool : TableId) (share : ℕ) (ps : List Piece) (os : List RangeView) → AreOpened geometry cookie pool share ps os → length os ≡ length ps
opened-count geometry cookie pool share [] os are = ap length are
opened-count geometry cookie pool share (p ∷ ps) [] are = absurd are
opened-count geometry cookie pool share (p ∷ ps) (o ∷ os) are = ap suc (opened-count geometry cookie pool (share - 1) ps os are.1)

pub stripe-is : (geometry : Layout) (cookie : ℕ) (pool : TableId) (share : ℕ) (files : List FileSpec) (ps : List Piece) (os : List RangeView) (k i : ℕ) (file : FilePlace) (o : RangeView) → AreCut files ps → AreOpened geometry cookie pool share ps os
    → slice_get (places_from 0 0 files) k ≡ Some file → i < stripes_of file.blocks → slice_get os (file.stripe + i) ≡ Some o → IsStripe geometry pool file i o
stripe-is geometry cookie pool share files ps os k i file o cut are there below at =
    let h = opened-at geometry cookie pool share ps os (file.stripe + i) o are at in
    let p = h.piece in
    let is = piece-at 0 0 files [] ps k i file p refl cut there below h.here in
    let ks : List Kind = kinds_from p.stripe.extents p.stripe.first p.stripe.blocks in
    let many : length ks ≡ p.stripe.blocks = run.length-kinds_from p.stripe.extents p.stripe.first p.stripe.blocks in
    record {
      sizes = ap (λ r. r.geometry) h.is.opening_is;
      mode = ap (λ r. r.mode) h.is.opening_is ∙ is.mode_is;
      first = ap (λ r. r.first) h.is.opening_is ∙ is.first_is ∙ (let e : 0 + i * 64 ≡ i * 64 = omega arith in e);
      blocks = ap (λ r. length r.cells) h.is.opening_is ∙ run.length-cells_of ks (first_sectors geometry.block_size p) ∙ many ∙ is.blocks_are;
      pool = ap (λ r. r.seat.cell) h.is.opening_is;
    }

size-here : (cell : ℕ) (size : Option ℕ) (end : ℕ) (pre rest : List SizesView) (at : ℕ) (o : SizesView) → length pre ≡ cell → sized_at size cell ≡ Some at → slice_get (pre ++ (size_from size end ++ rest)) at ≡ Some o → o.end ≡ end
size-here cell None end pre rest at o long is there = absurd (none-some at is)
size-here cell (Some n) end pre rest at o long is there =
    let e : cell ≡ at = cc in
    let h : at ≡ length pre + 0 = omega arith in
    let f : Some (fresh_sizes n end) ≡ Some o = sym (past pre (fresh_sizes n end ∷ rest) 0) ∙ ap (slice_get (pre ++ fresh_sizes n end ∷ rest)) (sym h) ∙ there in
    let g : fresh_sizes n end ≡ o = cc in
    sym (ap (λ s. s.end) g)

size-at : (size stripe cell : ℕ) (fs : List FileSpec) (pre : List SizesView) (k : ℕ) (file : FilePlace) (at : ℕ) (o : SizesView) → length pre ≡ cell → slice_get (places_from stripe cell fs) k ≡ Some file → file.size ≡ Some at
    → slice_get (pre ++ first_sizes size fs) at ≡ Some o → o.end ≡ file.blocks * size
size-at size stripe cell [] pre k file at o long here is there = absurd (none-some file here)
size-at size stripe cell (f ∷ fs) pre zero file at o long here is there =
    let e : place_of f stripe cell ≡ file = cc in
    size-here cell f.size (f.blocks * size) pre (first_sizes size fs) at o long (ap (λ q. q.size) e ∙ is) there ∙ ap (λ q. q.blocks * size) e
size-at size stripe cell (f ∷ fs) pre (suc k) file at o long here is there =
    let own : List SizesView = size_from f.size (f.blocks * size) in
    size-at size (stripe + stripes_of f.blocks) (cell + size_cells (sized_at f.size cell)) fs (pre ++ own) k file at o
    (omega (arith, length-append pre own, cells-here f.size (f.blocks * size), cells-same f.size cell, long)) here is
    (ap (λ l. slice_get l at) (append_assoc pre own (first_sizes size fs)) ∙ there)

shares-are : (geometry : Layout) (cookie : ℕ) (pool : TableId) (share : ℕ) (ps : List Piece) (os : List RangeView) → AreOpened geometry cookie pool share ps os → 0 < length ps → length ps ≤ share → total (λ (o : RangeView). o.seat.share) os ≡ share
shares-are geometry cookie pool share [] os are some few = absurd (omega arith)
shares-are geometry cookie pool share (p ∷ ps) [] are some few = absurd are
shares-are geometry cookie pool share (p ∷ []) (o ∷ os) are some few =
    let e : o.seat.share ≡ share = ap (λ r. r.seat.share) are.0.opening_is in
    let n : total (λ (r : RangeView). r.seat.share) os ≡ 0 = ap (total (λ (r : RangeView). r.seat.share)) are.1 in
    omega arith
shares-are geometry cookie pool share (p ∷ q ∷ ps) (o ∷ os) are some few =
    let e : o.seat.share ≡ 1 = ap (λ r. r.seat.share) are.0.opening_is in
    let n = shares-are geometry cookie pool (share - 1) (q ∷ ps) os are.1 (omega arith) (omega arith) in
    omega (arith, e, n)

module _ (geometry : Layout) (cookie : ℕ) (sectors idle : List DeviceBlock) (files : List FileSpec) (stripes : List (CellView RangeView)) (sizes : List (CellView SizesView)) (locks : List TableId) (pool : CellView PoolView)
    (are : All IsFile files) (few : length files < 2 ^ 32) (laid : LaidStripes geometry cookie sectors files (map (λ c. c.opening) stripes) pool idle) (opened : map (λ c. c.opening) sizes ≡ first_sizes geometry.block_size files)
    (locked : length locks ≡ length files) where
  stripes-count : length stripes ≡ stripes_of_files files
  stripes-count =
      sym (length-map stripes (λ (c : CellView RangeView). c.opening)) ∙ opened-count geometry cookie pool.cell (2 ^ 63) laid.pieces (map (λ c. c.opening) stripes) laid.opened ∙ cut-count files laid.pieces laid.cut

  cells-are : length sizes ≡ sizes_of_files files
  cells-are = sym (length-map sizes (λ (c : CellView SizesView). c.opening)) ∙ ap length opened ∙ sizes-count geometry.block_size files

  whole-share : 0 < length stripes → total pool_share stripes ≡ 2 ^ 63
  whole-share some =
      let many : length laid.pieces ≡ stripes_of_files files = cut-count files laid.pieces laid.cut in
      let n = few-stripes files are in
      sym (total-map (λ (o : RangeView). o.seat.share) (λ (c : CellView RangeView). c.opening) stripes)
      ∙ shares-are geometry cookie pool.cell (2 ^ 63) laid.pieces (map (λ c. c.opening) stripes) laid.opened (omega (arith, many, stripes-count, some)) (omega (arith, many, n, few))

  laid-places : (queue : QueueView) → IsLaidOut (mount_view geometry (places_from 0 0 files) stripes sizes locks pool idle queue)
  laid-places queue = record {
    few = few-blocks 0 0 files are;
    order = lie-in-order 0 0 files (length stripes) (length sizes) (omega (arith, stripes-count)) (omega (arith, cells-are));
    stripes = λ f file i cell there below at. stripe-is geometry cookie pool.cell (2 ^ 63) files laid.pieces (map (λ c. c.opening) stripes) f i file cell.opening laid.cut laid.opened there below (map-there (λ (c : CellView RangeView). c.opening) stripes (file.stripe + i) cell at);
    ends = λ f file at cell there is here. size-at geometry.block_size 0 0 files [] f file at cell.opening refl there is (ap (λ l. slice_get l at) (sym opened) ∙ map-there (λ (c : CellView SizesView). c.opening) sizes at cell here);
    locks = locked ∙ sym (places-count 0 0 files);
    shares = whole-share;
    idle = λ some. laid.idle_is ∙ no-idle files sectors (let e = places-count 0 0 files in omega (arith, e, some));
  }

  pub laid-out : (places : List FilePlace) → places ≡ places_from 0 0 files → (queue : QueueView) → IsLaidOut (mount_view geometry places stripes sizes locks pool idle queue)
  laid-out places e queue = subst (λ p. IsLaidOut (mount_view geometry p stripes sizes locks pool idle queue)) (sym e) (laid-places queue)
