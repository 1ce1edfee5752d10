-- The sectors of stripes are those of the device, each in the place of its number.
use Rattle.std.proofs.Common.{◌≡◌, ℕ, zero, suc, ◌+◌, ◌*◌, ◌/◌, ◌%◌, ◌<◌, ◌≤◌, ◌^◌, ◌==◌, ◌&&◌, Bool, true, false, Option, Some, List, [], ◌∷◌, ◌++◌, length, map, take, drop, refl, sym, subst, ap, ◌∙◌, arith}
use Rattle.std.specs.Prelude.{All, slice_get}
use Rattle.std.specs.Str.{bytes_eq}
use Rattle.std.proofs.lemmas.Bool.{and_parts, and_from, eqb-true, eq-eqb}
use Rattle.std.proofs.lemmas.Option.{none-some}
use Rattle.std.proofs.lemmas.List.{append_assoc, drop-drop, length-append}
use Rattle.std.proofs.lemmas.List.Elements.{All-cons, All-head, All-nil, All-tail}
use Rattle.std.proofs.lemmas.Slice.Eq.{bytes_eq-Decides}
use Rattle.iob_base.specs.DeviceBlock.{DeviceBlock, device_block}
use Rattle.iob_base.specs.Layout.{Layout}
use Rattle.iob_base.specs.declared.stamp.Mode.{Mode}
use Rattle.io_model.specs.Contents.{cut_content, zeros}
use Rattle.io_model.specs.Finals.{sector_bytes}
use Rattle.io_model.specs.Kinds.{kind_at, mapped_number}
use Rattle.io_model.specs.declared.file.Extent.{Extent}
use Rattle.io_model.specs.declared.file.FileSpec.{FileSpec}
use Rattle.io_model.specs.declared.file.Kind.{Kind}
use Rattle.io_model.specs.declared.file.Kind.TheVariants.{Hole, Delalloc, Unwritten, Mapped}
use Rattle.file_stripes.specs.Files.{kinds_of_file}
use Rattle.file_stripes.specs.Kinds.{kinds_from, numbers_of}
use Rattle.file_stripes.specs.Stripes.{AreStripes}
use Rattle.file_stripes.specs.Taking.{AreInOrder, sector_numbers}
use Rattle.file_stripes.specs.declared.stripe.Stripe.{Stripe}
use Rattle.file_stripes.proofs.KindLemmas.{length-kinds_from}
use Rattle.turn_cell.specs.Stakes.{total}
use Rattle.turn_cell.specs.Views.{CellView}
use Rattle.space_pool.specs.Pool.{PoolView}
use Rattle.range_core.specs.BlockContents.{opening_bytes}
use Rattle.range_core.specs.Cells.{cells_of}
use Rattle.range_core.specs.EntryCounts.{one_where}
use Rattle.range_core.specs.RangeView.{RangeView}
use Rattle.mount_parts.specs.FilePlaces.{place_of, places_from, sized_at}
use Rattle.mount_parts.specs.MountView.{size_cells, stripes_of}
use Rattle.mount_parts.specs.OpeningContents.{HaveContents, bytes_or_zeros, first_content}
use Rattle.mount_parts.specs.Pieces.{AreCut, IsPiece, LaidStripes, first_sectors, piece_of, sectors_of}
use Rattle.mount_parts.specs.declared.file.FilePlace.{FilePlace}
use Rattle.mount_parts.specs.declared.piece.Piece.{Piece}
use Rattle.mount_parts.proofs.Cuts.{cut-pieces}
use Rattle.mount_parts.proofs.LaidOut.{opened-at}
use Rattle.mount_parts.proofs.Lookups.{among, own-long, past}
use Rattle.mount_parts.proofs.Openings.{all-back, all-front, same-kinds}
use Rattle.mount_parts.proofs.Places.{all-at}
use Rattle.mount_parts.proofs.Trimmings.{trims-content}

-- A value that meets a test stands in a list
record Found {A : Type 0} (g : A → Bool) (xs : List A) : Type 0 where
  place : ℕ
  value : A
  here : slice_get xs place ≡ Some value
  meets : g value ≡ true

found-next : {A : Type 0} (g : A → Bool) (x : A) (xs : List A) (b : Bool) → g x ≡ b → (0 < total (λ y. one_where (g y)) xs → Found g xs) → 0 < total (λ y. one_where (g y)) (x ∷ xs) → Found g (x ∷ xs)
found-next g x xs true e more some = record { place = 0; value = x; here = refl; meets = e }
found-next g x xs false e more some =
    let n : one_where (g x) ≡ 0 = ap one_where e in
    let r = more (omega arith) in
    record { place = suc r.place; value = r.value; here = r.here; meets = r.meets }

found : {A : Type 0} (g : A → Bool) (xs : List A) → 0 < total (λ y. one_where (g y)) xs → Found g xs
found g [] some = absurd (omega arith)
found g (x ∷ xs) some = found-next g x xs (g x) refl (found g xs) some

in-order-at : (m : ℕ) (ss : List DeviceBlock) (n : ℕ) (t : DeviceBlock) → AreInOrder m ss → slice_get ss n ≡ Some t → t.number ≡ m + n
in-order-at m [] n t are at = absurd (none-some t at)
in-order-at m (s ∷ ss) zero t are at = let e : s ≡ t = cc in sym (ap (λ (u : DeviceBlock). u.number) e) ∙ are.0 ∙ (let p : m ≡ m + 0 = omega arith in p)
in-order-at m (s ∷ ss) (suc n) t are at = let h = in-order-at (m + 1) ss n t are.1 at in omega arith

abbrev same : DeviceBlock → DeviceBlock → Bool
same s t = t.number == s.number && bytes_eq t.bytes s.bytes

same-self : (s : DeviceBlock) → same s s ≡ true
same-self s = and_from (s.number == s.number) (bytes_eq s.bytes s.bytes) (eq-eqb s.number s.number refl) ((bytes_eq-Decides s.bytes s.bytes).1 refl)

same-is : (s t : DeviceBlock) → same s t ≡ true → t ≡ s
same-is s t e =
    let h = and_parts (t.number == s.number) (bytes_eq t.bytes s.bytes) e in
    let n : t.number ≡ s.number = eqb-true t.number s.number h.0 in
    let b : t.bytes ≡ s.bytes = (bytes_eq-Decides t.bytes s.bytes).0 h.1 in
    λ j. device_block (n j) (b j)

-- A sector stands among these in the place of its number
abbrev pub IsAt : List DeviceBlock → DeviceBlock → Type 0
IsAt sectors s = slice_get sectors s.number ≡ Some s

is-at : (sectors ss : List DeviceBlock) (s : DeviceBlock) → AreInOrder 0 sectors → ((f : DeviceBlock → ℕ) → total f (s ∷ ss) ≤ total f sectors) → IsAt sectors s
is-at sectors ss s order within =
    let w : DeviceBlock → ℕ = λ t. one_where (same s t) in
    let one : one_where (same s s) ≡ 1 = ap one_where (same-self s) in
    let r = found (same s) sectors (let h = within w in omega arith) in
    let e : r.value ≡ s = same-is s r.value r.meets in
    let n : r.place ≡ s.number = (let i = in-order-at 0 sectors r.place r.value order r.here in let k : r.value.number ≡ s.number = ap (λ (u : DeviceBlock). u.number) e in omega arith) in
    ap (slice_get sectors) (sym n) ∙ r.here ∙ ap (λ (u : DeviceBlock). Some u) e

pub are-at : (sectors ss : List DeviceBlock) → AreInOrder 0 sectors → ((f : DeviceBlock → ℕ) → total f ss ≤ total f sectors) → All (IsAt sectors) ss
are-at sectors [] order within = All-nil (IsAt sectors)
are-at sectors (s ∷ ss) order within =
    All-cons (IsAt sectors) s ss (is-at sectors ss s order within) (are-at sectors ss order (λ f. (let h : f s + total f ss ≤ total f sectors = within f in omega (arith, h))))

piece-sectors : (P : DeviceBlock → Type 0) (ps : List Piece) (n : ℕ) (p : Piece) → slice_get ps n ≡ Some p → All P (sectors_of ps) → All P p.stripe.sectors
piece-sectors P [] n p at are = absurd (none-some p at)
piece-sectors P (q ∷ ps) zero p at are =
    let e : q ≡ p = cc in
    subst (λ (r : Piece). All P r.stripe.sectors) e (all-front P q.stripe.sectors (sectors_of ps) are)
piece-sectors P (q ∷ ps) (suc n) p at are = piece-sectors P ps n p at (all-back P q.stripe.sectors (sectors_of ps) are)

-- A stripe is the i-th of a file: it has the file's size, and its blocks the kinds that they have in the file
pub record IsPartOf (size : Option ℕ) (kinds : List Kind) (first i : ℕ) (p : Piece) : Type 0 where
  pub size_is : p.size ≡ size
  pub first_is : p.stripe.first ≡ first + i * 64
  pub kinds_are : kinds_from p.stripe.extents p.stripe.first p.stripe.blocks ≡ take 64 (drop (i * 64) kinds)

part-own : (mode : Mode) (size : Option ℕ) (first : ℕ) (kinds : List Kind) (own : List Stripe) (i : ℕ) (p : Piece) → AreStripes 64 first kinds own → slice_get (map (piece_of mode size) own) i ≡ Some p → IsPartOf size kinds first i p
part-own mode size first kinds [] i p are at = absurd (none-some p at)
part-own mode size first kinds (s ∷ ss) zero p are at =
    let e : piece_of mode size s ≡ p = cc in
    subst (IsPartOf size kinds first 0) e (record { size_is = refl; first_is = are.0.first_is ∙ (let h : first ≡ first + 0 * 64 = omega arith in h); kinds_are = are.0.kinds_are })
part-own mode size first kinds (s ∷ ss) (suc i) p are at =
    let r = part-own mode size (first + 64) (drop 64 kinds) ss i p are.1 at in
    record {
      size_is = r.size_is;
      first_is = (let h = r.first_is in omega arith);
      kinds_are = r.kinds_are ∙ ap (take 64) (drop-drop (i * 64) 64 kinds ∙ ap (λ n. drop n kinds) (let h : 64 + i * 64 ≡ suc i * 64 = omega arith in h));
    }

pub part-at : (stripe cell : ℕ) (fs : List FileSpec) (pre ps : List Piece) (k i : ℕ) (f : FileSpec) (file : FilePlace) (p : Piece) → length pre ≡ stripe → AreCut fs ps → slice_get fs k ≡ Some f → slice_get (places_from stripe cell fs) k ≡ Some file
    → i < stripes_of f.blocks → slice_get (pre ++ ps) (file.stripe + i) ≡ Some p → IsPartOf f.size (kinds_of_file f) 0 i p
part-at stripe cell [] pre ps k i f file p long cut here there below at = absurd (none-some f here)
part-at stripe cell (g ∷ fs) pre ps zero i f file p long (own, rest, is, are, more) here there below at =
    let mine : List Piece = map (piece_of g.mode g.size) own in
    let same_file : g ≡ f = cc in
    let e : place_of g stripe cell ≡ file = cc in
    let b : length (kinds_of_file g) ≡ g.blocks = length-kinds_from g.extents 0 g.blocks in
    let fb : g.blocks ≡ f.blocks = ap (λ (q : FileSpec). q.blocks) same_file in
    let fs' : file.stripe ≡ stripe = sym (ap (λ (q : FilePlace). q.stripe) e) in
    let many : length mine ≡ stripes_of g.blocks = own-long g.mode g.size 0 (kinds_of_file g) own are ∙ ap stripes_of b in
    let at' : slice_get mine i ≡ Some p =
    sym (among mine rest i (let w : stripes_of g.blocks ≡ stripes_of f.blocks = ap stripes_of fb in omega arith)) ∙ ap (λ l. slice_get l i) (sym is) ∙ sym (past pre ps i) ∙ ap (λ n. slice_get (pre ++ ps) (n + i)) (long ∙ sym fs') ∙ at in
    subst (λ (q : FileSpec). IsPartOf q.size (kinds_of_file q) 0 i p) same_file (part-own g.mode g.size 0 (kinds_of_file g) own i p are at')
part-at stripe cell (g ∷ fs) pre ps (suc k) i f file p long (own, rest, is, are, more) here there below at =
    let mine : List Piece = map (piece_of g.mode g.size) own in
    let b : length (kinds_of_file g) ≡ g.blocks = length-kinds_from g.extents 0 g.blocks in
    let many : length mine ≡ stripes_of g.blocks = own-long g.mode g.size 0 (kinds_of_file g) own are ∙ ap stripes_of b in
    part-at (stripe + stripes_of g.blocks) (cell + size_cells (sized_at g.size cell)) fs (pre ++ mine) rest k i f file p (omega (arith, length-append pre mine, many, long)) more here there below
    (ap (λ l. slice_get l (file.stripe + i)) (append_assoc pre mine rest ∙ ap (λ l. pre ++ l) (sym is)) ∙ at)

past-drop : {A : Type 0} (xs : List A) (m j : ℕ) → slice_get (drop m xs) j ≡ slice_get xs (m + j)
past-drop [] zero j = refl
past-drop [] (suc m) j = refl
past-drop (x ∷ xs) zero j = ap (slice_get (x ∷ xs)) (let e : j ≡ 0 + j = omega arith in e)
past-drop (x ∷ xs) (suc m) j = past-drop xs m j ∙ ap (slice_get (x ∷ xs)) (let e : suc (m + j) ≡ suc m + j = omega arith in e)

in-take : {A : Type 0} (xs : List A) (n j : ℕ) → j < n → slice_get (take n xs) j ≡ slice_get xs j
in-take xs zero j below = absurd (omega arith)
in-take [] (suc n) j below = refl
in-take (x ∷ xs) (suc n) zero below = refl
in-take (x ∷ xs) (suc n) (suc j) below = in-take xs n j (omega arith)

kind-read : (es : List Extent) (b n j : ℕ) → j < n → slice_get (kinds_from es b n) j ≡ Some (kind_at es (b + j))
kind-read es b zero j below = absurd (omega arith)
kind-read es b (suc n) zero below = ap (λ m. Some (kind_at es m)) (let e : b ≡ b + 0 = omega arith in e)
kind-read es b (suc n) (suc j) below = kind-read es (b + 1) n j (omega arith) ∙ ap (λ m. Some (kind_at es m)) (let e : b + 1 + j ≡ b + suc j = omega arith in e)

cell-content : (size : ℕ) (sectors : List DeviceBlock) (ks : List Kind) (ss : List DeviceBlock) (j : ℕ) (k : Kind) → sector_numbers ss ≡ numbers_of ks → All (IsAt sectors) ss → slice_get ks j ≡ Some k
    → opening_bytes size (slice_get (cells_of ks ss) j) ≡ bytes_or_zeros size sectors (mapped_number k)
cell-content size sectors [] ss j k e are at = absurd (none-some k at)
cell-content size sectors (Hole ∷ ks) ss zero k e are at = let h : Hole ≡ k = cc in subst (λ q. zeros size ≡ bytes_or_zeros size sectors (mapped_number q)) h refl
cell-content size sectors (Hole ∷ ks) ss (suc j) k e are at = cell-content size sectors ks ss j k e are at
cell-content size sectors (Delalloc ∷ ks) ss zero k e are at = let h : Delalloc ≡ k = cc in subst (λ q. zeros size ≡ bytes_or_zeros size sectors (mapped_number q)) h refl
cell-content size sectors (Delalloc ∷ ks) ss (suc j) k e are at = cell-content size sectors ks ss j k e are at
cell-content size sectors (Unwritten d ∷ ks) [] j k e are at = absurd (let l : 0 ≡ suc (length (numbers_of ks)) = ap length e in omega arith)
cell-content size sectors (Unwritten d ∷ ks) (s ∷ ss) zero k e are at = let h : Unwritten d ≡ k = cc in subst (λ q. zeros size ≡ bytes_or_zeros size sectors (mapped_number q)) h refl
cell-content size sectors (Unwritten d ∷ ks) (s ∷ ss) (suc j) k e are at = cell-content size sectors ks ss j k (let t : sector_numbers ss ≡ numbers_of ks = cc in t) (All-tail (IsAt sectors) s ss are) at
cell-content size sectors (Mapped d ∷ ks) [] j k e are at = absurd (let l : 0 ≡ suc (length (numbers_of ks)) = ap length e in omega arith)
cell-content size sectors (Mapped d ∷ ks) (s ∷ ss) zero k e are at =
    let h : Mapped d ≡ k = cc in
    let n : s.number ≡ d = cc in
    let here : slice_get sectors d ≡ Some s = ap (slice_get sectors) (sym n) ∙ All-head (IsAt sectors) s ss are in
    subst (λ q. s.bytes ≡ bytes_or_zeros size sectors (mapped_number q)) h (sym (ap sector_bytes here))
cell-content size sectors (Mapped d ∷ ks) (s ∷ ss) (suc j) k e are at = cell-content size sectors ks ss j k (let t : sector_numbers ss ≡ numbers_of ks = cc in t) (All-tail (IsAt sectors) s ss are) at

-- the content of a block of a stripe of a file
part-content : (size : ℕ) (sectors : List DeviceBlock) (f : FileSpec) (b : ℕ) (p : Piece) → IsPartOf f.size (kinds_of_file f) 0 (b / 64) p → IsPiece p → All (IsAt sectors) p.stripe.sectors → b < f.blocks
    → opening_bytes size (slice_get (cells_of (kinds_from p.stripe.extents p.stripe.first p.stripe.blocks) (first_sectors size p)) (b % 64)) ≡ first_content size sectors f b
part-content size sectors f b p part is at below =
    let j : ℕ = b % 64 in
    let ks : List Kind = kinds_from p.stripe.extents p.stripe.first p.stripe.blocks in
    let place : b / 64 * 64 + b % 64 ≡ b = omega arith in
    let small : b % 64 < 64 = omega arith in
    let first : p.stripe.first + b % 64 ≡ b = (let h = part.first_is in omega arith) in
    let here : slice_get ks (b % 64) ≡ Some (kind_at f.extents b) =
    ap (λ l. slice_get l (b % 64)) part.kinds_are ∙ in-take (drop (b / 64 * 64) (kinds_of_file f)) 64 (b % 64) small ∙ past-drop (kinds_of_file f) (b / 64 * 64) (b % 64)
    ∙ ap (slice_get (kinds_of_file f)) place ∙ kind-read f.extents 0 f.blocks b below ∙ ap (λ m. Some (kind_at f.extents m)) (let e : 0 + b ≡ b = omega arith in e) in
    trims-content size p.size p.stripe.first ks p.stripe.sectors (b % 64) is.sectors_are
    ∙ ap (cut_content size p.size (p.stripe.first + b % 64)) (cell-content size sectors ks p.stripe.sectors (b % 64) (kind_at f.extents b) is.sectors_are at here)
    ∙ ap (λ n. cut_content size p.size n (bytes_or_zeros size sectors (mapped_number (kind_at f.extents b)))) first
    ∙ ap (λ s. cut_content size s b (bytes_or_zeros size sectors (mapped_number (kind_at f.extents b)))) part.size_is

pub have-contents : (geometry : Layout) (cookie : ℕ) (sectors idle : List DeviceBlock) (files : List FileSpec) (openings : List RangeView) (pool : CellView PoolView) → LaidStripes geometry cookie sectors files openings pool idle → AreInOrder 0 sectors
    → HaveContents geometry.block_size sectors files openings
have-contents geometry cookie sectors idle files openings pool laid order k b f file o here there below at =
    let size : ℕ = geometry.block_size in
    let h = opened-at geometry cookie pool.cell (2 ^ 63) laid.pieces openings (file.stripe + b / 64) o laid.opened at in
    let p = h.piece in
    let part = part-at 0 0 files [] laid.pieces k (b / 64) f file p refl laid.cut here there (omega arith) h.here in
    let is : IsPiece p = all-at IsPiece laid.pieces (file.stripe + b / 64) p (cut-pieces files laid.pieces laid.cut) h.here in
    let all : All (IsAt sectors) (sectors_of laid.pieces) = are-at sectors (sectors_of laid.pieces) order (λ g. omega (arith, laid.all g)) in
    ap (λ (r : RangeView). opening_bytes size (slice_get r.cells (b % 64))) h.is.opening_is
    ∙ ap (λ ks. opening_bytes size (slice_get (cells_of ks (first_sectors size p)) (b % 64))) (sym (same-kinds p.stripe.extents p.stripe.first p.stripe.blocks))
    ∙ part-content size sectors f b p part is (piece-sectors (IsAt sectors) laid.pieces (file.stripe + b / 64) p h.here all) below
