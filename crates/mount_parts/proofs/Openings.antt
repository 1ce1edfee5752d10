-- Stripes of files may be opened as ranges, one after another.
use Rattle.std.proofs.Common.{◌≡◌, ℕ, zero, suc, ◌+◌, ◌-◌, ◌<◌, ◌≤◌, ◌^◌, ◌==◌, List, [], ◌∷◌, ◌++◌, length, map, refl, sym, subst, ap, ◌∙◌, arith, lit≤}
use Rattle.std.specs.Prelude.{All, if◌then◌else◌}
use Rattle.std.proofs.lemmas.List.{append-nil, append_assoc, length-append, length-map, map-append}
use Rattle.std.proofs.lemmas.List.Elements.{All-head, All-tail, All-weaker, All-cons, All-nil}
use Rattle.atomic_table.specs.Seated.{TableId}
use Rattle.iob_base.specs.DeviceBlock.{DeviceBlock}
use Rattle.iob_base.specs.Layout.{Layout}
use Rattle.iob_base.specs.declared.TheConstants.{WORN}
use Rattle.io_model.specs.declared.file.Extent.{Extent}
use Rattle.io_model.specs.declared.file.Kind.{Kind}
use Rattle.io_model.specs.Kinds.{kind_at}
use Rattle.file_stripes.specs.Kinds as file
use Rattle.file_stripes.specs.Taking.{IsWhole, sector_numbers}
use Rattle.turn_cell.specs.Stakes.{total}
use Rattle.turn_cell.specs.Views.{CellView, SeatView, first_seat, kept_part}
use Rattle.turn_cell.proofs.Sums.{total-append, total-count, total-map}
use Rattle.space_pool.specs.Claims.{AreAmong, ClaimsView, claims_with, times, with_part_gone}
use Rattle.space_pool.specs.Pool.{AreDistinct, CanPart}
use Rattle.space_pool.specs.declared.entry.PoolEntry.{PoolEntry}
use Rattle.space_pool.proofs.Removing.{without-length, without-weighs}
use Rattle.range_core.specs.Kinds.{kinds_from, numbers_of}
use Rattle.range_core.specs.Opening.{CanOpen, ClaimsSectors, LiesIn}
use Rattle.range_core.specs.RangeView.{RangeView}
use Rattle.range_core.specs.declared.entry.Entry.{Entry}
use Rattle.mount_parts.specs.Pieces.{AreOpened, IsOpenedWith, IsPiece, KeepsFor, blocks_of, first_sectors, is_first_at, range_with, sectors_of, share_before}
use Rattle.mount_parts.specs.declared.piece.Piece.{Piece}
use Rattle.mount_parts.proofs.Trimmings.{trims-numbers, trims-whole}

pub all-front : {A : Type 0} (P : A → Type 0) (xs ys : List A) → All P (xs ++ ys) → All P xs
all-front P [] ys a = All-nil P
all-front P (x ∷ xs) ys a = All-cons P x xs (All-head P x (xs ++ ys) a) (all-front P xs ys (All-tail P x (xs ++ ys) a))

pub all-back : {A : Type 0} (P : A → Type 0) (xs ys : List A) → All P (xs ++ ys) → All P ys
all-back P [] ys a = a
all-back P (x ∷ xs) ys a = all-back P xs ys (All-tail P x (xs ++ ys) a)

pub same-kinds : (es : List Extent) (b n : ℕ) → file.kinds_from es b n ≡ kinds_from es b n
same-kinds es b zero = refl
same-kinds es b (suc n) = ap (λ ks. kind_at es b ∷ ks) (same-kinds es (b + 1) n)

lies : (first blocks : ℕ) (e : Extent) → file.LiesIn first blocks e → LiesIn first blocks e
lies first blocks e l = record { placed = l.placed; low = l.low; high = l.high; numbers = l.numbers }

pub can-open : (size cookie : ℕ) (p : Piece) (es : List Extent) (ss : List DeviceBlock) (space : ClaimsView) → es ≡ p.stripe.extents → ss ≡ first_sectors size p → IsPiece p → All (IsWhole size) p.stripe.sectors
    → ClaimsSectors size p.stripe.blocks p.stripe.sectors space → cookie ≤ WORN → CanOpen size p.stripe.first p.stripe.blocks es ss space cookie
can-open size cookie p es ss space e s is whole claims worn =
    let C : List Extent → Type 0 = λ xs. CanOpen size p.stripe.first p.stripe.blocks xs ss space cookie in
    let D : List DeviceBlock → Type 0 = λ xs. CanOpen size p.stripe.first p.stripe.blocks p.stripe.extents xs space cookie in
    let ks : List Kind = file.kinds_from p.stripe.extents p.stripe.first p.stripe.blocks in
    let n : sector_numbers (first_sectors size p) ≡ sector_numbers p.stripe.sectors = trims-numbers size p.size p.stripe.first ks p.stripe.sectors is.sectors_are in
    subst C (sym e) (subst D (sym s) (record {
      some = is.some;
      few = is.below;
      inside = All-weaker (file.LiesIn p.stripe.first p.stripe.blocks) (LiesIn p.stripe.first p.stripe.blocks) (lies p.stripe.first p.stripe.blocks) p.stripe.extents is.inside;
      sectors_are = n ∙ is.sectors_are ∙ ap numbers_of (same-kinds p.stripe.extents p.stripe.first p.stripe.blocks);
      whole = trims-whole size p.size p.stripe.first ks p.stripe.sectors whole;
      space_is = record {
        numbers = λ f. claims.numbers f ∙ sym (total-map f (λ (t : DeviceBlock). t.number) p.stripe.sectors) ∙ ap (total f) (sym n) ∙ total-map f (λ (t : DeviceBlock). t.number) (first_sectors size p);
        distinct = claims.distinct;
        reserved = claims.reserved;
        cap = claims.cap;
        sized = claims.sized;
      };
      unworn = worn;
    }))

-- what a part of a seat claims
pub part-claims : (size : ℕ) (p : Piece) (space : ClaimsView) → AreDistinct (sector_numbers p.stripe.sectors) → space ≡ claims_with p.stripe.sectors p.stripe.blocks size → ClaimsSectors size p.stripe.blocks p.stripe.sectors space
part-claims size p space distinct is =
    subst (ClaimsSectors size p.stripe.blocks p.stripe.sectors) (sym is)
    (record { numbers = λ f. total-map f (λ (s : DeviceBlock). s.number) p.stripe.sectors; distinct = distinct; reserved = refl; cap = refl; sized = refl })

-- what the whole of a seat claims that keeps the sectors of one stripe
pub last-claims : (size : ℕ) (p : Piece) (space : ClaimsView) → AreDistinct (sector_numbers p.stripe.sectors) → KeepsFor size p.stripe.blocks p.stripe.sectors space → ClaimsSectors size p.stripe.blocks p.stripe.sectors space
last-claims size p space distinct keeps = record {
  numbers = keeps.numbers;
  distinct = λ x. (let f : ℕ → ℕ = λ y. if y == x then 1 else 0 in let e : total f (sector_numbers p.stripe.sectors) ≡ total (λ s. f s.number) p.stripe.sectors = total-map f (λ (s : DeviceBlock). s.number) p.stripe.sectors in omega (arith, distinct x, keeps.numbers f, e));
  reserved = keeps.reserved;
  cap = keeps.cap;
  sized = keeps.sized;
}

-- These stripes are still to be opened with what a seat at the pool keeps
pub record StillOpens (size : ℕ) (rest : List Piece) (claims : ClaimsView) : Type 0 where
  pub pieces : All IsPiece rest
  pub whole : All (IsWhole size) (sectors_of rest)
  pub distinct : AreDistinct (sector_numbers (sectors_of rest))
  pub keeps : KeepsFor size (blocks_of rest) (sectors_of rest) claims

sectors-few : (ps : List Piece) → All IsPiece ps → length (sectors_of ps) ≤ blocks_of ps
sectors-few [] are = lit≤ tt
sectors-few (p ∷ ps) are =
    let h = All-head IsPiece p ps are in
    omega (arith, length-append p.stripe.sectors (sectors_of ps), h.few, sectors-few ps (All-tail IsPiece p ps are))

times-parts : (x : ℕ) (xs ys : List DeviceBlock) → times x (sector_numbers (xs ++ ys)) ≡ times x (sector_numbers xs) + times x (sector_numbers ys)
times-parts x xs ys =
    let e : sector_numbers (xs ++ ys) ≡ sector_numbers xs ++ sector_numbers ys = map-append (λ (s : DeviceBlock). s.number) xs ys in
    ap (times x) e ∙ total-append (λ y. if y == x then 1 else 0) (sector_numbers xs) (sector_numbers ys)

pub still-whole : (size : ℕ) (p : Piece) (rest : List Piece) (claims : ClaimsView) → StillOpens size (p ∷ rest) claims → All (IsWhole size) p.stripe.sectors
still-whole size p rest claims s = all-front (IsWhole size) p.stripe.sectors (sectors_of rest) s.whole

pub still-distinct : (size : ℕ) (p : Piece) (rest : List Piece) (claims : ClaimsView) → StillOpens size (p ∷ rest) claims → AreDistinct (sector_numbers p.stripe.sectors)
still-distinct size p rest claims s x = omega (arith, s.distinct x, times-parts x p.stripe.sectors (sectors_of rest))

module _ (size : ℕ) (p : Piece) (rest : List Piece) (claims : ClaimsView) (s : StillOpens size (p ∷ rest) claims) where
  still-weighs : (f : ℕ → ℕ) → total f claims.numbers ≡ total f (sector_numbers p.stripe.sectors) + total (λ t. f t.number) (sectors_of rest)
  still-weighs f =
      let m : total f (sector_numbers p.stripe.sectors) ≡ total (λ t. f t.number) p.stripe.sectors = total-map f (λ (t : DeviceBlock). t.number) p.stripe.sectors in
      omega (arith, s.keeps.numbers f, total-append (λ (t : DeviceBlock). f t.number) p.stripe.sectors (sectors_of rest), m)

  still-among : AreAmong (sector_numbers p.stripe.sectors) claims.numbers
  still-among x = omega (arith, still-weighs (λ y. if y == x then 1 else 0))

  still-long : length claims.numbers ≡ length p.stripe.sectors + length (sectors_of rest)
  still-long = omega (arith, still-weighs (λ _. 1), total-count claims.numbers, total-count (sector_numbers p.stripe.sectors), total-count (sectors_of rest), length-map p.stripe.sectors (λ (t : DeviceBlock). t.number))

  pub still-part : CanPart p.stripe.sectors p.stripe.blocks claims
  still-part = record {
    among = still-among;
    few = (All-head IsPiece p rest s.pieces).few;
    fits = omega (arith, without-length (sector_numbers p.stripe.sectors) claims.numbers still-among, length-map p.stripe.sectors (λ (t : DeviceBlock). t.number), still-long, sectors-few rest (All-tail IsPiece p rest s.pieces), s.keeps.reserved, s.keeps.cap);
  }

  pub still-next : StillOpens size rest (with_part_gone claims p.stripe.sectors p.stripe.blocks)
  still-next = record {
    pieces = All-tail IsPiece p rest s.pieces;
    whole = all-back (IsWhole size) p.stripe.sectors (sectors_of rest) s.whole;
    distinct = λ x. omega (arith, s.distinct x, times-parts x p.stripe.sectors (sectors_of rest));
    keeps = record {
      numbers = λ f. omega (arith, without-weighs f (sector_numbers p.stripe.sectors) claims.numbers still-among, still-weighs f);
      reserved = s.keeps.reserved;
      cap = omega (arith, s.keeps.cap);
      sized = s.keeps.sized;
    };
  }

-- a range that was made of a stripe and a new seat of the pool
pub opened-with : (geometry : Layout) (cookie : ℕ) (pool : TableId) (share : ℕ) (p : Piece) (opening : RangeView) (seat : SeatView PoolEntry) (space : ClaimsView) → opening ≡ range_with geometry cookie p seat space → seat ≡ first_seat pool share
    → ClaimsSectors geometry.block_size p.stripe.blocks p.stripe.sectors space → IsOpenedWith geometry cookie pool share p opening
opened-with geometry cookie pool share p opening seat space is first claims = record { claims = space; opening_is = is ∙ ap (λ s. range_with geometry cookie p s space) first; claimed = claims }

-- ranges were opened with these stripes, one by one, each with a share of 1 at the pool
abbrev pub AreParts : Layout → ℕ → TableId → List Piece → List RangeView → Type 0
AreParts geometry cookie pool [] openings = openings ≡ []
AreParts geometry cookie pool (p ∷ ps) [] = ⊥
AreParts geometry cookie pool (p ∷ ps) (o ∷ os) = IsOpenedWith geometry cookie pool 1 p o × AreParts geometry cookie pool ps os

parts-more : (geometry : Layout) (cookie : ℕ) (pool : TableId) (ps : List Piece) (os : List RangeView) (p : Piece) (o : RangeView) → AreParts geometry cookie pool ps os → IsOpenedWith geometry cookie pool 1 p o → AreParts geometry cookie pool (ps ++ p ∷ []) (os ++ o ∷ [])
parts-more geometry cookie pool [] os p o are is = subst (λ l. AreParts geometry cookie pool (p ∷ []) (l ++ o ∷ [])) (sym are) (is, refl)
parts-more geometry cookie pool (q ∷ ps) [] p o are is = absurd are
parts-more geometry cookie pool (q ∷ ps) (r ∷ os) p o are is = (are.0, parts-more geometry cookie pool ps os p o are.1 is)

before-last : (share : ℕ) (ps : List Piece) (p : Piece) → share_before share (ps ++ p ∷ []) ≡ 1
before-last share [] p = refl
before-last share (q ∷ ps) p = refl

pub parts-last : (geometry : Layout) (cookie : ℕ) (pool : TableId) (share left : ℕ) (ps : List Piece) (os : List RangeView) (p : Piece) (o : RangeView) → AreParts geometry cookie pool ps os → left + length ps ≡ share → IsOpenedWith geometry cookie pool left p o → AreOpened geometry cookie pool share (ps ++ p ∷ []) (os ++ o ∷ [])
parts-last geometry cookie pool share left [] os p o are s is =
    let e : left ≡ share = omega arith in
    subst (λ l. AreOpened geometry cookie pool share (p ∷ []) (l ++ o ∷ [])) (sym are) (subst (λ n. IsOpenedWith geometry cookie pool n p o) e is, refl)
parts-last geometry cookie pool share left (q ∷ ps) [] p o are s is = absurd are
parts-last geometry cookie pool share left (q ∷ ps) (r ∷ os) p o are s is =
    (subst (λ n. IsOpenedWith geometry cookie pool n q r) (sym (before-last share ps p)) are.0, parts-last geometry cookie pool (share - 1) left ps os p o are.1 (omega arith) is)

-- So far these cells were opened with the first of all stripes, each with a first seat and a share of 1 at the pool, and the rest are still to be opened
pub record Opens (geometry : Layout) (cookie : ℕ) (pool : TableId) (all rest : List Piece) (share : ℕ) (keeper : SeatView PoolEntry) (claims : ClaimsView) (cells : List (CellView RangeView)) (seats : List (SeatView Entry)) : Type 0 where
  pub before : List Piece
  pub all_are : all ≡ before ++ rest
  pub still : StillOpens geometry.block_size rest claims
  pub seat : keeper ≡ first_seat pool keeper.share
  pub share_is : keeper.share + length before ≡ share
  pub opened : AreParts geometry cookie pool before (map (λ c. c.opening) cells)
  pub seats_are : seats ≡ map is_first_at cells

pub opens-first : (geometry : Layout) (cookie : ℕ) (pool : TableId) (pieces rest : List Piece) (keeper : SeatView PoolEntry) (claims : ClaimsView) (cells : List (CellView RangeView)) (seats : List (SeatView Entry)) → rest ≡ pieces → All IsPiece pieces
    → All (IsWhole geometry.block_size) (sectors_of pieces) → AreDistinct (sector_numbers (sectors_of pieces)) → KeepsFor geometry.block_size (blocks_of pieces) (sectors_of pieces) claims → keeper ≡ first_seat pool keeper.share → cells ≡ [] → seats ≡ []
    → Opens geometry cookie pool rest rest keeper.share keeper claims cells seats
opens-first geometry cookie pool pieces rest keeper claims cells seats same are whole distinct keeps seat no_cells no_seats =
    subst (λ l. Opens geometry cookie pool l l keeper.share keeper claims cells seats) (sym same) (record {
      before = [];
      all_are = refl;
      still = record { pieces = are; whole = whole; distinct = distinct; keeps = keeps };
      seat = seat;
      share_is = omega arith;
      opened = ap (map (λ c. c.opening)) no_cells;
      seats_are = no_seats ∙ ap (map is_first_at) (sym no_cells);
    })

pub opens-next : (geometry : Layout) (cookie : ℕ) (pool : TableId) (all rest more : List Piece) (p : Piece) (share : ℕ) (keeper next : SeatView PoolEntry) (claims after : ClaimsView) (cells cells' : List (CellView RangeView)) (seats seats' : List (SeatView Entry)) (cell : CellView RangeView) (seat : SeatView Entry)
    → Opens geometry cookie pool all rest share keeper claims cells seats → rest ≡ p ∷ more → 1 < keeper.share → next ≡ kept_part keeper 1 → after ≡ with_part_gone claims p.stripe.sectors p.stripe.blocks
    → IsOpenedWith geometry cookie pool 1 p cell.opening → seat ≡ first_seat cell.cell (2 ^ 63) → cells' ≡ cells ++ cell ∷ [] → seats' ≡ seats ++ seat ∷ [] → Opens geometry cookie pool all more share next after cells' seats'
opens-next geometry cookie pool all rest more p share keeper next claims after cells cells' seats seats' cell seat o r some n a op fi cs ss =
    let s : StillOpens geometry.block_size (p ∷ more) claims = subst (λ q. StillOpens geometry.block_size q claims) r o.still in
    record {
      before = o.before ++ p ∷ [];
      all_are = o.all_are ∙ ap (λ l. o.before ++ l) r ∙ sym (append_assoc o.before (p ∷ []) more);
      still = subst (StillOpens geometry.block_size more) (sym a) (still-next geometry.block_size p more claims s);
      seat = n ∙ ap (λ k. kept_part k 1) o.seat ∙ ap (λ m. first_seat pool m) (sym (ap (λ k. k.share) n));
      share_is = (let e : next.share ≡ keeper.share - 1 = ap (λ k. k.share) n in omega (arith, o.share_is, length-append o.before (p ∷ [])));
      opened = subst (λ l. AreParts geometry cookie pool (o.before ++ p ∷ []) l) (sym (ap (map (λ c. c.opening)) cs ∙ map-append (λ c. c.opening) cells (cell ∷ [])))
          (parts-more geometry cookie pool o.before (map (λ c. c.opening) cells) p cell.opening o.opened op);
      seats_are = ss ∙ ap (λ l. l ++ seat ∷ []) o.seats_are ∙ ap (λ v. map is_first_at cells ++ v ∷ []) fi ∙ sym (map-append is_first_at cells (cell ∷ [])) ∙ ap (map is_first_at) (sym cs);
    }

pub none-left : {A : Type 0} (xs : List A) → length xs ≡ 0 → xs ≡ []
none-left [] e = refl
none-left (x ∷ xs) e = absurd (omega arith)

pub opens-last : (geometry : Layout) (cookie : ℕ) (pool : TableId) (all rest more : List Piece) (p : Piece) (share : ℕ) (keeper : SeatView PoolEntry) (claims : ClaimsView) (cells : List (CellView RangeView)) (seats : List (SeatView Entry)) (o : RangeView)
    → Opens geometry cookie pool all rest share keeper claims cells seats → rest ≡ p ∷ more → length rest ≡ 1 → IsOpenedWith geometry cookie pool keeper.share p o → AreOpened geometry cookie pool share all (map (λ c. c.opening) cells ++ o ∷ [])
opens-last geometry cookie pool all rest more p share keeper claims cells seats o opens r one is =
    let e : length rest ≡ suc (length more) = ap length r in
    let none : more ≡ [] = none-left more (omega arith) in
    subst (λ l. AreOpened geometry cookie pool share l (map (λ c. c.opening) cells ++ o ∷ [])) (sym (opens.all_are ∙ ap (λ l. opens.before ++ l) (r ∙ ap (λ l. p ∷ l) none)))
    (parts-last geometry cookie pool share keeper.share opens.before (map (λ c. c.opening) cells) p o opens.opened opens.share_is is)

-- what is still to be opened, where it is one stripe
pub still-last : (size : ℕ) (p : Piece) (rest more : List Piece) (claims : ClaimsView) → StillOpens size rest claims → rest ≡ p ∷ more → length rest ≡ 1 → KeepsFor size p.stripe.blocks p.stripe.sectors claims
still-last size p rest more claims s r one =
    let e : length rest ≡ suc (length more) = ap length r in
    let none : more ≡ [] = none-left more (omega arith) in
    let k : KeepsFor size (blocks_of (p ∷ [])) (sectors_of (p ∷ [])) claims = subst (λ l. KeepsFor size (blocks_of l) (sectors_of l) claims) (r ∙ ap (λ l. p ∷ l) none) s.keeps in
    record {
      numbers = λ f. k.numbers f ∙ ap (total (λ (t : DeviceBlock). f t.number)) (append-nil p.stripe.sectors);
      reserved = k.reserved;
      cap = omega (arith, k.cap);
      sized = k.sized;
    }
