-- A range that is taken apart ends as the history leaves it.
use Rattle.std.proofs.Common.{◌≡◌, ℕ, zero, suc, ◌+◌, Bool, true, false, Option, Some, None, List, [], ◌∷◌, map, length, if◌then◌else◌, refl, sym, ◌∙◌, ap, subst, arith}
use Rattle.std.specs.Prelude.{All, IfOk, IsTrue, Result, Ok, Err, IsSomeAnd, IfSome, is_some, slice_get}
use Rattle.std.proofs.lemmas.Option.{none-some}
use Rattle.iob_base.specs.DeviceBlock.{DeviceBlock}
use Rattle.iob_base.specs.declared.sector.Page.{Page}
use Rattle.iob_base.specs.declared.stamp.Stamp.{Stamp}
use Rattle.io_model.specs.Contents.{Content, zeros}
use Rattle.io_model.specs.Finals.{final_content}
use Rattle.io_model.specs.Fitting.{is_merged_from}
use Rattle.io_model.specs.Kinds.{device_number, kind_at, mapped_number}
use Rattle.io_model.specs.declared.file.BlockEnd.{BlockEnd}
use Rattle.io_model.specs.declared.file.Extent.{Extent}
use Rattle.io_model.specs.declared.file.Kind.{Kind}
use Rattle.io_model.specs.declared.file.Kind.TheVariants.{Hole, Delalloc, Unwritten, Mapped}
use Rattle.turn_cell.specs.Stakes.{total}
use Rattle.turn_cell.specs.Views.{Closed, SeatView}
use Rattle.turn_cell.proofs.Sums.{total-append}
use Rattle.space_pool.specs.declared.entry.PoolEntry.{PoolEntry}
use Rattle.range_core.specs.BlockContents.{opening_bytes, replayed}
use Rattle.range_core.specs.BlockStates.{BlockState, state_of, states_replayed}
use Rattle.range_core.specs.BlockTruth.{HomeContent, IsHomeContent}
use Rattle.range_core.specs.Cells.{HasPlace, HasSector, IsPlaced}
use Rattle.range_core.specs.ClaimsView.{ClaimsView}
use Rattle.range_core.specs.Kinds.{kinds_from}
use Rattle.range_core.specs.RangeTruth.{RangeTruth, content_at}
use Rattle.range_core.specs.RangeView.{IsSound, RangeView, part_in}
use Rattle.range_core.specs.Space.{SpaceClaims, number_weight, weigh_number}
use Rattle.range_core.specs.Stamps.{bare_end, journaled, stamps_at}
use Rattle.range_core.specs.declared.cell.Cell.{Cell}
use Rattle.range_core.specs.declared.entry.Entry.{Entry}
use Rattle.range_core.specs.declared.lending.Away.{Away}
use Rattle.mount_parts.specs.Ends.{EndsBlock, EndsRange, EndsSpace, SawAll, end_numbers, sector_number}
use Rattle.mount_parts.proofs.Places.{all-at, there, within}

module _ {A E : Type 0} where
  -- three facts of what a call gave, together, say another
  pub ok-with : (r : Result A E) (P Q R S : A → Type 0) → ((x : A) → P x → Q x → R x → S x) → IfOk r P → IfOk r Q → IfOk r R → IfOk r S
  ok-with (Ok x) P Q R S with_all p q s = with_all x p q s
  ok-with (Err e) P Q R S with_all p q s = p

-- the end of a block with the stamps that a log has for it
abbrev with_stamps : ℕ → List (ℕ × Stamp) → Cell → BlockEnd
with_stamps b log c = record (bare_end c) { journal = stamps_at b log }

ends-at : (b : ℕ) (log : List (ℕ × Stamp)) (cells : List Cell) (i : ℕ) (c : Cell) (end : BlockEnd) → slice_get cells i ≡ Some c → slice_get (journaled b log (map bare_end cells)) i ≡ Some end → end ≡ with_stamps (b + i) log c
ends-at b log [] i c end here at = absurd (none-some c here)
ends-at b log (d ∷ cells) zero c end here at =
    let e : d ≡ c = cc in
    let f : with_stamps b log d ≡ end = cc in
    let z : b + 0 ≡ b = omega arith in
    sym f ∙ ap (with_stamps b log) e ∙ ap (λ n. with_stamps n log c) (sym z)
ends-at b log (d ∷ cells) (suc i) c end here at =
    let n : b + 1 + i ≡ b + suc i = omega arith in
    ends-at (b + 1) log cells i c end here at ∙ ap (λ k. with_stamps k log c) n

ends-length : (b : ℕ) (log : List (ℕ × Stamp)) (cells : List Cell) → length (journaled b log (map bare_end cells)) ≡ length cells
ends-length b log [] = refl
ends-length b log (c ∷ cells) = ap suc (ends-length (b + 1) log cells)

kind-at : (extents : List Extent) (b : ℕ) (cells : List Cell) (i : ℕ) (c : Cell) → kinds_from extents b (length cells) ≡ map (λ c. c.kind) cells → slice_get cells i ≡ Some c → kind_at extents (b + i) ≡ c.kind
kind-at extents b [] i c are at = absurd (none-some c at)
kind-at extents b (d ∷ cells) zero c are at =
    let e : d ≡ c = cc in
    let k : kind_at extents b ≡ d.kind = cc in
    let z : b + 0 ≡ b = omega arith in
    ap (kind_at extents) z ∙ k ∙ ap (λ (x : Cell). x.kind) e
kind-at extents b (d ∷ cells) (suc i) c are at =
    let n : b + suc i ≡ b + 1 + i = omega arith in
    let rest : kinds_from extents (b + 1) (length cells) ≡ map (λ c. c.kind) cells = cc in
    ap (kind_at extents) n ∙ kind-at extents (b + 1) cells i c rest at

-- a page where a block is dirty, and none elsewhere
dirty-page : (dirty : Bool) (page : Option Page) (P : Page → Type 0) → (dirty ≡ true → IsSomeAnd page P) → is_some (if dirty then page else None) ≡ dirty
dirty-page true None P some = absurd (some refl)
dirty-page true (Some p) P some = refl
dirty-page false page P some = refl

-- a clean block's content stands on the device
clean-content : (size : ℕ) (kind : Kind) (sector : Option DeviceBlock) (content : Content) → HasSector size (device_number kind) sector
    → (is_some (mapped_number kind) ≡ true → IfSome sector (λ s. s.bytes ≡ content)) → (is_some (mapped_number kind) ≡ false → content ≡ zeros size)
    → final_content size (mapped_number kind) sector None ≡ content
clean-content size Hole sector content has on off = sym (off refl)
clean-content size Delalloc sector content has on off = sym (off refl)
clean-content size (Unwritten d) sector content has on off = sym (off refl)
clean-content size (Mapped d) None content has on off = absurd has
clean-content size (Mapped d) (Some s) content has on off = on refl

final : (size : ℕ) (c : Cell) (content : Content) → HasSector size (device_number c.kind) c.sector → IsHomeContent size c content → IfSome c.page (λ p. p.bytes ≡ content) → (P : Page → Type 0) → (c.dirty ≡ true → IsSomeAnd c.page P)
    → final_content size (mapped_number c.kind) c.sector (if c.dirty then c.page else None) ≡ content
final size c content has home page P some = by c.dirty c.page refl page some
  where
    by : (dirty : Bool) (own : Option Page) → c.dirty ≡ dirty → IfSome own (λ p. p.bytes ≡ content) → (dirty ≡ true → IsSomeAnd own P) → final_content size (mapped_number c.kind) c.sector (if dirty then own else None) ≡ content
    by true None is same given = absurd (given refl)
    by true (Some p) is same given = same
    by false own is same given = clean-content size c.kind c.sector content has (λ m. home.clean_is_on_device m is) (λ m. home.spaceless_is_zeros m is)

-- a block has the sector of its kind
sector-weighs : (f : ℕ → ℕ) (size : ℕ) (d : Option ℕ) (s : Option DeviceBlock) → HasSector size d s → total f (sector_number s) ≡ weigh_number f d
sector-weighs f size None s is = ap (λ o. total f (sector_number o)) is
sector-weighs f size (Some n) None is = absurd is
sector-weighs f size (Some n) (Some s) is = let e : f s.number ≡ f n = ap f is.is in let q : f s.number + 0 ≡ f n = omega arith in q

cells-weigh : (f : ℕ → ℕ) (size b : ℕ) (log : List (ℕ × Stamp)) (cells : List Cell) → All (IsPlaced size) cells → All (λ c. c.away ≡ None) cells → total f (end_numbers (journaled b log (map bare_end cells))) ≡ total (number_weight f) cells
cells-weigh f size b log [] placed home = refl
cells-weigh f size b log (c ∷ cells) placed home =
    let P : Option Away → Type 0 = λ a. HasPlace size c.kind c.sector a in
    let here = sector-weighs f size (device_number c.kind) c.sector (subst P (home 0 c (omega arith)) (placed 0 c (omega arith))) in
    let rest = cells-weigh f size (b + 1) log cells (λ i d h. placed (suc i) d (omega (arith, h))) (λ i d h. home (suc i) d (omega (arith, h))) in
    total-append f (sector_number c.sector) (end_numbers (journaled (b + 1) log (map bare_end cells))) ∙ ap (λ n. n + total f (end_numbers (journaled (b + 1) log (map bare_end cells)))) here ∙ ap (λ n. number_weight f c + n) rest

module _ (opening value : RangeView) (seat : SeatView Entry) (claims : ClaimsView) (closed : Closed RangeTruth opening value seat claims) (home : All (λ c. c.away ≡ None) value.cells) where
  pub saw-all : SawAll seat
  saw-all = record { once = closed.once; refused = closed.refused }

  block-ends : (extents : List Extent) → kinds_from extents value.first (length value.cells) ≡ map (λ c. c.kind) value.cells → (i : ℕ) (was c : Cell) → slice_get opening.cells i ≡ Some was → slice_get value.cells i ≡ Some c
      → EndsBlock opening.geometry.block_size (opening.first + i) was opening.log seat.seen (kind_at extents (opening.first + i)) (with_stamps (value.first + i) value.log c)
  block-ends extents kinds i was c old here =
      let size : ℕ = opening.geometry.block_size in
      let b : ℕ = opening.first + i in
      let holds = closed.stands.holds in
      let true_at = holds.blocks i c here in
      let first : value.first ≡ opening.first = holds.same_run.first in
      let at_home : c.away ≡ None = all-at (λ (x : Cell). x.away ≡ None) value.cells i c home here in
      let state : state_of c ≡ states_replayed size b (state_of was) seat.seen = holds.states i was c old here in
      let kind : kind_at extents b ≡ c.kind = ap (λ n. kind_at extents (n + i)) (sym first) ∙ kind-at extents value.first value.cells i c kinds here in
      let P : Option Away → Type 0 = λ a. HasPlace size c.kind c.sector a in
      let has : HasSector size (device_number c.kind) c.sector = subst P at_home true_at.place in
      let Q : Option Away → Type 0 = λ a. HomeContent size c (content_at opening seat.seen i) a in
      let on : IsHomeContent size c (content_at opening seat.seen i) = subst Q at_home true_at.home_is_on_device in
      record {
        kind_is = kind ∙ ap (λ (s : BlockState). s.kind) state;
        sector_is = subst (λ k. HasSector size (device_number k) c.sector) (sym kind) has;
        dirty_is = dirty-page c.dirty c.page _ true_at.dirty_is_uptodate ∙ ap (λ (s : BlockState). s.dirty) state;
        content_is = ap (λ k. final_content size (mapped_number k) c.sector (if c.dirty then c.page else None)) kind ∙ final size c (content_at opening seat.seen i) has on true_at.uptodate_is_replay _ true_at.dirty_is_uptodate ∙ ap (λ o. replayed size b (opening_bytes size o) seat.seen) old;
        whole = ap (λ o. length (replayed size b (opening_bytes size o) seat.seen)) (sym old) ∙ true_at.whole;
        journal_is = ap (λ n. stamps_at (n + i) value.log) first ∙ ap (stamps_at b) holds.journal_is_history;
      }

  pub range-ends : (extents : List Extent) (ends : List BlockEnd) → IsTrue (is_merged_from value.first (value.first + length value.cells) extents) → kinds_from extents value.first (length value.cells) ≡ map (λ c. c.kind) value.cells → ends ≡ journaled value.first value.log (map bare_end value.cells)
      → EndsRange opening seat.seen extents ends
  range-ends extents ends merged kinds are =
      let run = closed.stands.holds.same_run in
      let long : length ends ≡ length value.cells = ap length are ∙ ends-length value.first value.log value.cells in
      record {
        merged = subst (λ n. IsTrue (is_merged_from opening.first (opening.first + n) extents)) run.blocks (subst (λ n. IsTrue (is_merged_from n (n + length value.cells) extents)) run.first merged);
        count = long ∙ run.blocks;
        blocks = λ i was end old here.
            let w = within opening.cells i was old in
            let c = there value.cells i (let n = run.blocks in omega arith) in
            let is : end ≡ with_stamps (value.first + i) value.log c.0 = ends-at value.first value.log value.cells i c.0 end c.1 (ap (λ l. slice_get l i) (sym are) ∙ here) in
            subst (EndsBlock opening.geometry.block_size (opening.first + i) was opening.log seat.seen (kind_at extents (opening.first + i))) (sym is) (block-ends extents kinds i was c.0 old c.1);
        happened = closed.stands.holds.has_happened;
      }

  pub space-ends : (ends : List BlockEnd) (own : SeatView PoolEntry) (space : SpaceClaims) → IsSound value → ends ≡ journaled value.first value.log (map bare_end value.cells) → own ≡ value.seat → space ≡ value.space
      → EndsSpace opening ends own space
  space-ends ends own space sound are seat_is space_is =
      let run = closed.stands.holds.same_run in
      record {
        part = ap part_in seat_is ∙ run.pool;
        numbers = λ f. ap (λ (s : SpaceClaims). total f s.numbers) space_is ∙ sound.space.numbers f ∙ sym (cells-weigh f value.geometry.block_size value.first value.log value.cells sound.places home) ∙ ap (λ l. total f (end_numbers l)) (sym are);
        size = ap (λ (s : SpaceClaims). s.size) space_is ∙ sound.space.sized ∙ ap (λ g. g.block_size) run.geometry;
        cap = ap (λ (s : SpaceClaims). s.cap) space_is ∙ sound.space.cap ∙ run.blocks;
      }
