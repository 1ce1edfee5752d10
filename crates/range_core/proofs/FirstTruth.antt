-- The range truth of a range before the first entry.
use Rattle.std.proofs.Common.{◌≡◌, ℕ, zero, suc, ◌+◌, ◌-◌, ◌<◌, ◌≤◌, ◌^◌, Bool, true, false, nat_eq, nat_le, if◌then◌else◌, Option, Some, None, IsTrue, IsSome, IfSome, List, [], ◌∷◌, length, map, All, refl, sym, ◌∙◌, ap, subst, arith}
use Rattle.std.specs.Prelude.{is_some, slice_get}
use Rattle.std.proofs.lemmas.Bool.{eqb-true, leb-true}
use Rattle.std.proofs.lemmas.List.{length-replicate}
use Rattle.std.proofs.lemmas.List.Elements.{All-cons, All-nil}
use mathlib.Core.Option.{some, some-injective, some-ne-none}
use lib.ListN.{get_elem?}
use Rattle.iob_base.specs.DeviceBlock.{DeviceBlock}
use Rattle.iob_base.specs.Layout.{Layout}
use Rattle.iob_base.specs.declared.sector.Page.{Page}
use Rattle.iob_base.specs.declared.stamp.Mode.{Mode}
use Rattle.io_model.specs.Contents.{Content, zeros}
use Rattle.io_model.specs.Finals.{device_content}
use Rattle.io_model.specs.Kinds.{covers, device_number, kind_after, kind_at, mapped_number}
use Rattle.io_model.specs.declared.file.Extent.{Extent}
use Rattle.io_model.specs.declared.file.Kind.{Kind}
use Rattle.io_model.specs.declared.file.Kind.TheVariants.{Hole, Delalloc, Unwritten, Mapped}
use Rattle.turn_cell.specs.Stakes.{total}
use Rattle.range_core.specs.BlockContents.{opening_bytes}
use Rattle.range_core.specs.BlockStates.{state_of}
use Rattle.range_core.specs.BlockTruth.{IsTrueAt, HomeContent, gone, is_gone}
use Rattle.range_core.specs.Cells.{HasPlace, HasSector, IsPlaced, cell_of, cells_of, sectors_after}
use Rattle.range_core.specs.ClaimsView.{first_claims}
use Rattle.range_core.specs.EntryCounts.{one_where}
use Rattle.range_core.specs.Kinds.{has_space, is_delalloc, kinds_from, numbers_of}
use Rattle.range_core.specs.Opening.{CanOpen}
use Rattle.range_core.specs.Space.{ClaimsSpace, SpaceClaims, number_weight, promised}
use Rattle.space_pool.specs.declared.entry.PoolEntry.{PoolEntry}
use Rattle.turn_cell.specs.Views.{SeatView}
use Rattle.range_core.specs.RangeTruth.{RangeTruth, pending}
use Rattle.range_core.specs.RangeView.{range_of}
use Rattle.range_core.specs.Stakes.{RangeStake, IsApart, names, strays}
use Rattle.range_core.specs.declared.cell.Cell.{Cell}
use Rattle.range_core.specs.declared.lending.Away.{Away}
use Rattle.range_core.proofs.CellLemmas.{cells_of-home, length-cells_of, length-kinds_from}
use Rattle.range_core.proofs.StakeTruth.{none_made}

-- what holds of all blocks holds of each
pub All-there : {A : Type 0} (P : A → Type 0) (xs : List A) (i : ℕ) (x : A) → All P xs → slice_get xs i ≡ Some x → P x
All-there P [] i x h e = absurd (cc)
All-there P (y ∷ ys) zero x h e = let is : y ≡ x = cc in subst P is (h 0 y (omega arith))
All-there P (y ∷ ys) (suc i) x h e = All-there P ys i x (λ k d l. h (suc k) d (omega arith)) e

-- a block without a page, at home and clean
pub record IsUntouched (c : Cell) : Type 0 where
  pub page : c.page ≡ None
  pub away : c.away ≡ None
  pub clean : c.dirty ≡ false

pub all_cold : (kinds : List Kind) (sectors : List DeviceBlock) → All IsUntouched (cells_of kinds sectors)
all_cold [] sectors = All-nil IsUntouched
all_cold (kind ∷ kinds) sectors =
    All-cons IsUntouched (cell_of kind sectors) (cells_of kinds (sectors_after kind sectors)) (record { page = refl; away = refl; clean = refl }) (all_cold kinds (sectors_after kind sectors))

-- space is not only promised to a block of an extent that has space
placed_after : (k : Kind) (i : ℕ) → IsTrue (has_space k) → is_delalloc (kind_after k i) ≡ false
placed_after Hole i h = refl
placed_after Delalloc i h = absurd (cc)
placed_after (Unwritten d) i h = refl
placed_after (Mapped d) i h = refl

kind_at-placed : (extents : List Extent) (b : ℕ) → All (λ e. IsTrue (has_space e.kind)) extents → is_delalloc (kind_at extents b) ≡ false
kind_at-placed [] b h = refl
kind_at-placed (e ∷ extents) b h =
    at _ _ (covers e b) (placed_after e.kind (b - e.block) (h 0 e (omega arith))) (kind_at-placed extents b (λ k d l. h (suc k) d (omega arith)))
  where
    at : (k q : Kind) (t : Bool) → is_delalloc k ≡ false → is_delalloc q ≡ false → is_delalloc (if t then k else q) ≡ false
    at k q true h g = h
    at k q false h g = g

all_placed : (extents : List Extent) (b n : ℕ) (sectors : List DeviceBlock) → All (λ e. IsTrue (has_space e.kind)) extents → All (λ c. is_delalloc c.kind ≡ false) (cells_of (kinds_from extents b n) sectors)
all_placed extents b zero sectors h = All-nil (λ c. is_delalloc c.kind ≡ false)
all_placed extents b (suc n) sectors h =
    All-cons (λ c. is_delalloc c.kind ≡ false) (cell_of (kind_at extents b) sectors) _ (kind_at-placed extents b h) (all_placed extents (b + 1) n (sectors_after (kind_at extents b) sectors) h)

-- the bytes of a mapped block's sector are the content that the block has at the opening
sector_content : (size : ℕ) (number : Option ℕ) (sector : Option DeviceBlock) → IsSome number → IfSome sector (λ s. s.bytes ≡ device_content size number sector)
sector_content size None sector e = absurd (cc)
sector_content size (Some d) None e = tt
sector_content size (Some d) (Some s) e = refl

zeros_elsewhere : (size : ℕ) (number : Option ℕ) (sector : Option DeviceBlock) → is_some number ≡ false → device_content size number sector ≡ zeros size
zeros_elsewhere size None sector e = refl
zeros_elsewhere size (Some d) sector e = absurd (cc)

content_whole : (size : ℕ) (kind : Kind) (sector : Option DeviceBlock) → HasSector size (device_number kind) sector → length (device_content size (mapped_number kind) sector) ≡ size
content_whole size Hole sector h = length-replicate size 0
content_whole size Delalloc sector h = length-replicate size 0
content_whole size (Unwritten d) sector h = length-replicate size 0
content_whole size (Mapped d) None h = absurd h
content_whole size (Mapped d) (Some s) h = h.whole

no_name : (b n : ℕ) (s : RangeStake) → get_elem? ((Some first_claims, []) ∷ []) n ≡ some s → 0 < names b s → ⊥
no_name b zero s at more =
    let none : names b s ≡ 0 = ap (names b) (sym (some-injective (Some first_claims, []) s at)) in omega arith
no_name b (suc n) s at more = some-ne-none s (sym at)

-- a block at home, clean and without a page is true of its content at the opening
cold_is_true : (size b : ℕ) (c : Cell) → IsUntouched c → IsPlaced size c → IsTrueAt size b c (opening_bytes size (Some c)) ((Some first_claims, []) ∷ [])
cold_is_true size b c cold home =
    let content : Content = opening_bytes size (Some c) in
    let away : Option Away → Type 0 = λ a. HomeContent size c content a in
    let page : Option Page → Type 0 = λ p. IfSome p (λ q. q.bytes ≡ content) in
    record {
      whole = content_whole size c.kind c.sector (let P : Option Away → Type 0 = λ a. HasPlace size c.kind c.sector a in subst P cold.away home);
      place = home;
      uptodate_is_replay = subst page (sym cold.page) tt;
      home_is_on_device = subst away (sym cold.away) (record {
        clean_is_on_device = λ m d. sector_content size (mapped_number c.kind) c.sector m;
        spaceless_is_zeros = λ m d. zeros_elsewhere size (mapped_number c.kind) c.sector m;
      });
      dirty_is_uptodate = λ d. absurd (let e = cold.clean in cc);
      away_is_claimed = record {
        once = ap gone (sym cold.away);
        fits = λ n s at more. absurd (no_name b n s at more);
      };
    }

-- what is one or nothing is at most one
pub weighs_one : (t : Bool) → one_where t ≤ 1
weighs_one true = omega arith
weighs_one false = omega arith

-- where each item weighs at most one, all weigh at most their number
pub total-few : {A : Type 0} (f : A → ℕ) (xs : List A) → ((x : A) → f x ≤ 1) → total f xs ≤ length xs
total-few f [] h = omega arith
total-few f (x ∷ xs) h = omega (arith, h x, total-few f xs h)

first_apart : (caller : ℕ) → caller < 2 ^ 32 → IsApart caller [] ((Some first_claims, []) ∷ [])
first_apart caller h = at (nat_le 4294967296 (caller + 4294967295)) (nat_eq 0 caller) refl refl
  where
    alone : total (strays caller) ((Some first_claims, []) ∷ []) ≡ 0
    alone = let none : strays caller (Some first_claims, []) ≡ 0 = none_made caller first_claims in omega arith

    at : (t u : Bool) → nat_le 4294967296 (caller + 4294967295) ≡ t → nat_eq 0 caller ≡ u → IsApart caller [] ((Some first_claims, []) ∷ [])
    at true true l e = absurd (let a = leb-true _ _ l in let b = eqb-true _ _ e in omega arith)
    at true false l e = record {
      one = rw (l, e) (omega arith);
      unused = λ _. rw e refl;
      own = λ _. alone;
    }
    at false u l e = record {
      one = rw l (weighs_less u e);
      unused = λ more. absurd (let z : 0 < one_where false + 0 = rw l at more in omega arith);
      own = λ _. alone;
    }
      where
        weighs_less : (u : Bool) → nat_eq 0 caller ≡ u → one_where false + 0 + (one_where (nat_eq 0 caller) + 0) ≤ 1
        weighs_less true e = rw e (omega arith)
        weighs_less false e = rw e (omega arith)

-- the blocks weigh what the numbers of their kinds weigh
numbers-cells_of : (f : ℕ → ℕ) (kinds : List Kind) (sectors : List DeviceBlock) → total (number_weight f) (cells_of kinds sectors) ≡ total f (numbers_of kinds)
numbers-cells_of f [] sectors = refl
numbers-cells_of f (Hole ∷ kinds) sectors = let rest = numbers-cells_of f kinds sectors in omega arith
numbers-cells_of f (Delalloc ∷ kinds) sectors = let rest = numbers-cells_of f kinds sectors in omega arith
numbers-cells_of f (Unwritten d ∷ kinds) sectors = ap (λ n. f d + n) (numbers-cells_of f kinds (sectors_after (Unwritten d) sectors))
numbers-cells_of f (Mapped d ∷ kinds) sectors = ap (λ n. f d + n) (numbers-cells_of f kinds (sectors_after (Mapped d) sectors))

numbers-map : (f : ℕ → ℕ) (sectors : List DeviceBlock) → total (λ (s : DeviceBlock). f s.number) sectors ≡ total f (map (λ s. s.number) sectors)
numbers-map f [] = refl
numbers-map f (s ∷ sectors) = ap (λ n. f s.number + n) (numbers-map f sectors)

-- where no item weighs anything, all weigh nothing
pub total-zero : {A : Type 0} (f : A → ℕ) (xs : List A) → All (λ x. f x ≡ 0) xs → total f xs ≡ 0
total-zero f [] h = refl
total-zero f (x ∷ xs) h = let z = h 0 x (omega arith) in let r = total-zero f xs (λ k d l. h (suc k) d (omega arith)) in omega arith

-- a seat that claims the sectors of the extents claims the space of the blocks
pub first_space : (size first blocks : ℕ) (extents : List Extent) (sectors : List DeviceBlock) (space : SpaceClaims) (cookie : ℕ) → CanOpen size first blocks extents sectors space cookie
    → ClaimsSpace size (cells_of (kinds_from extents first blocks) sectors) space
first_space size first blocks extents sectors space cookie can =
    let kinds : List Kind = kinds_from extents first blocks in
    let placed : All (λ (c : Cell). is_delalloc c.kind ≡ false) (cells_of kinds sectors) =
    all_placed extents first blocks sectors (λ k d l. (can.inside k d l).placed) in
    record {
      numbers = λ f. can.space_is.numbers f ∙ numbers-map f sectors ∙ ap (total f) can.sectors_are ∙ sym (numbers-cells_of f kinds sectors);
      distinct = can.space_is.distinct;
      reserved = can.space_is.reserved ∙ sym (total-zero promised (cells_of kinds sectors) (λ k d l. ap one_where (placed k d l)));
      cap = can.space_is.cap ∙ sym (length-cells_of kinds sectors ∙ length-kinds_from extents first blocks);
      sized = can.space_is.sized;
    }

-- none of these blocks is away
pub none_gone : (kinds : List Kind) (sectors : List DeviceBlock) → total is_gone (cells_of kinds sectors) ≡ 0
none_gone kinds sectors = total-zero is_gone (cells_of kinds sectors) (λ k d l. ap gone (all_cold kinds sectors k d l).away)

-- what a range is opened as meets the truth, with an empty history and the claims of the first seat
pub first_truth : (geometry : Layout) (mode : Mode) (first blocks : ℕ) (extents : List Extent) (sectors : List DeviceBlock) (seat : SeatView PoolEntry) (space : SpaceClaims) (cookie : ℕ)
    → CanOpen geometry.block_size first blocks extents sectors space cookie
    → RangeTruth (range_of geometry mode first blocks extents sectors seat space cookie) (range_of geometry mode first blocks extents sectors seat space cookie) [] ((Some first_claims, []) ∷ [])
first_truth geometry mode first blocks extents sectors seat space cookie can =
    let size : ℕ = geometry.block_size in
    let kinds : List Kind = kinds_from extents first blocks in
    let cells : List Cell = cells_of kinds sectors in
    let cold : All IsUntouched cells = all_cold kinds sectors in
    let homes : All (IsPlaced size) cells = cells_of-home size kinds sectors can.sectors_are can.whole in
    let placed : All (λ (c : Cell). is_delalloc c.kind ≡ false) cells =
    all_placed extents first blocks sectors (λ k d l. (can.inside k d l).placed) in
    let many : length cells ≡ blocks = length-cells_of kinds sectors ∙ length-kinds_from extents first blocks in
    let few : total pending cells ≤ length cells = total-few pending cells (λ c. weighs_one _) in
    let bound = can.few in
    let unworn = can.unworn in
    record {
      same_run = record { geometry = refl; mode = refl; first = refl; blocks = refl; pool = refl };
      few = omega arith;
      pool_claims_sectors = first_space size first blocks extents sectors space cookie can;
      blocks = λ i c at.
          let T : Option Cell → Type 0 = λ o. IsTrueAt size (first + i) c (opening_bytes size o) ((Some first_claims, []) ∷ []) in
          subst T (sym at) (cold_is_true size (first + i) c (All-there IsUntouched cells i c cold at) (All-there (IsPlaced size) cells i c homes at));
      states = λ i was c there here. let same : Some was ≡ Some c = sym there ∙ here in let is : c ≡ was = cc in ap state_of is;
      errors_counted = refl;
      tickets_counted = refl;
      cookie_counts_changes = omega arith;
      samples_give_extents = All-nil _;
      journal_is_history = refl;
      cookie_has_headroom = omega arith;
      dax_is_uncached = λ _ k d l. record { page = (cold k d l).page; clean = (cold k d l).clean; reserved = placed k d l; home = (cold k d l).away };
      callers_are_apart = first_apart;
      has_happened = λ i c at. refl;
    }
