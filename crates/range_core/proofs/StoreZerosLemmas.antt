-- Zeros are laid over the blocks of a run that they change.
use Rattle.std.proofs.Common.{◌≡◌, ℕ, ◌+◌, ◌-◌, ◌<◌, ◌≤◌, Bool, true, false, not, ◌&&◌, if◌then◌else◌, Option, Some, None, List, ◌++◌, length, take, drop, get_or, All, refl, sym, ◌∙◌, ap, subst, arith}
use Rattle.std.specs.Prelude.{IfSome, IsSomeAnd, is_none, slice_get}
use Rattle.std.proofs.lemmas.Bool.{and_parts}
use Rattle.std.proofs.lemmas.List.{drop-replicate, length-replicate, replicate-append-replicate, take-replicate}
use Rattle.std.proofs.lemmas.Option.{slice_get_within, slice_get-get_or}
use Rattle.iob_base.specs.declared.sector.Page.{Page}
use Rattle.io_model.specs.Contents.{zeros}
use Rattle.io_model.specs.Effects.{overlay}
use Rattle.io_model.specs.Lists.{bytes_between}
use Rattle.io_model.specs.Parts.{part_in, span}
use Rattle.range_core.specs.BlockStates.{is_zero_already, state_of}
use Rattle.range_core.specs.BlockTruth.{IsWholePage}
use Rattle.range_core.specs.ByteRuns.{IsByteRun, part_at}
use Rattle.range_core.specs.OnRun.{on_each}
use Rattle.range_core.specs.Pages.{zero_page}
use Rattle.range_core.specs.Paging.{HasWholePage, filled, filled_where, lacks_page_for_zeros}
use Rattle.range_core.specs.Stores.{dirtied, laid, stored}
use Rattle.range_core.specs.StoreZeros.{HavePagesForZeros, cleared, laid_zeros, where_not_zero, zeroed, zeros_of}
use Rattle.range_core.specs.declared.cell.Cell.{Cell}
use Rattle.range_core.specs.declared.parts.BlockPart.{BlockPart}
use Rattle.range_core.specs.declared.parts.ByteRun.{ByteRun}
use Rattle.range_core.proofs.ByteRunLemmas.{begun, next_part}
use Rattle.range_core.proofs.EachLemmas.{in_run-is}
use Rattle.range_core.proofs.KeptPlaces.{KeepsPlaces}
use Rattle.range_core.proofs.OnRunLemmas.{length-on_each, on_each-next, on_each-twice}
use Rattle.range_core.proofs.PagingLemmas.{either_filled}
use Rattle.range_core.proofs.StoreLemmas.{part_fits, part_piece, stored_keeps}

-- what holds of a block as it was, and as f makes it, holds of it where zeros may change nothing
pub either_zero : (P : Cell → Type 0) (f : Cell → Cell) (c : Cell) → (is_zero_already (state_of c) ≡ true → P c) → (is_zero_already (state_of c) ≡ false → P (f c)) → P (where_not_zero f c)
either_zero P f c kept changed = at (is_zero_already (state_of c)) kept changed
  where
    at : (t : Bool) → (t ≡ true → P c) → (t ≡ false → P (f c)) → P (if t then c else f c)
    at true k p = k refl
    at false k p = p refl

pub not_zero : (f : Cell → Cell) (c : Cell) → is_zero_already (state_of c) ≡ false → where_not_zero f c ≡ f c
not_zero f c e = at (is_zero_already (state_of c)) e
  where
    at : (t : Bool) → t ≡ false → (if t then c else f c) ≡ f c
    at true e = absurd (cc)
    at false e = refl

pub is_zeros : (f : Cell → Cell) (c : Cell) → is_zero_already (state_of c) ≡ true → where_not_zero f c ≡ c
is_zeros f c e = at (is_zero_already (state_of c)) e
  where
    at : (t : Bool) → t ≡ true → (if t then c else f c) ≡ c
    at true e = refl
    at false e = absurd (cc)

module _ (run : ByteRun) where
  -- the part of so many zeros in a block
  pub zero_piece : IsByteRun run → (k : ℕ) → k < run.blocks
      → bytes_between ((part_in run.size (span run.from run.to) (run.first + k)).from - run.from) ((part_in run.size (span run.from run.to) (run.first + k)).to - run.from) (zeros_of run) ≡ zeros (part_at run (run.first + k)).length
  zero_piece r k l =
      let behind = (next_part run r k l).behind in
      part_piece run r k l (zeros_of run) ∙ ap (take (part_at run (run.first + k)).length) (drop-replicate (begun run k) (run.to - run.from) 0)
      ∙ take-replicate (part_at run (run.first + k)).length (run.to - run.from - begun run k) 0 (omega arith)

  pub cleared_part : IsByteRun run → (k : ℕ) → k < run.blocks → (c : Cell) → cleared (part_at run (run.first + k)) c ≡ laid_zeros run k c
  cleared_part r k l c = ap (λ xs. where_not_zero (dirtied (overlay (part_at run (run.first + k)).at xs)) c) (sym (zero_piece r k l))

  -- zeros over zeros are zeros
  pub zeros_over : IsByteRun run → (k : ℕ) → k < run.blocks → overlay (part_at run (run.first + k)).at (bytes_between ((part_in run.size (span run.from run.to) (run.first + k)).from - run.from) ((part_in run.size (span run.from run.to) (run.first + k)).to - run.from) (zeros_of run)) (zeros run.size) ≡ zeros run.size
  zeros_over r k l =
      let at : ℕ = (part_at run (run.first + k)).at in
      let n : ℕ = (part_at run (run.first + k)).length in
      let within = (next_part run r k l).within in
      let long : length (zeros n) ≡ n = length-replicate n 0 in
      let rest : n + (run.size - (at + length (zeros n))) ≡ run.size - at = omega (arith, long) in
      let all : at + (run.size - at) ≡ run.size = omega arith in
      ap (λ xs. overlay at xs (zeros run.size)) (zero_piece r k l)
      ∙ ap (λ xs. xs ++ (zeros n ++ drop (at + length (zeros n)) (zeros run.size))) (take-replicate at run.size 0 (omega arith))
      ∙ ap (λ xs. zeros at ++ (zeros n ++ xs)) (drop-replicate (at + length (zeros n)) run.size 0)
      ∙ ap (λ xs. zeros at ++ xs) (replicate-append-replicate n (run.size - (at + length (zeros n))) 0 ∙ ap zeros rest)
      ∙ replicate-append-replicate at (run.size - at) 0 ∙ ap zeros all

  -- a block that got a page only where zeros change it, and zeros then
  zeroed_is : (k : ℕ) (c : Cell) → laid_zeros run k (filled_where lacks_page_for_zeros run.size c) ≡ zeroed run k c
  zeroed_is k c = either_filled (λ d. laid_zeros run k d ≡ zeroed run k c) lacks_page_for_zeros run.size c kept paged
    where
      has : (o : Option Page) (t : Bool) → t ≡ false → (is_none o && not t) ≡ false → is_none o ≡ false
      has None t e h = absurd (let z : not t ≡ true = ap not e in cc)
      has (Some p) t e h = refl

      unfilled : is_none c.page ≡ false → filled run.size c ≡ c
      unfilled e = at (is_none c.page) e
        where
          at : (t : Bool) → t ≡ false → (if t then record c { page = Some (zero_page run.size) } else c) ≡ c
          at true e = absurd (cc)
          at false e = refl

      refilled : is_none c.page ≡ true → filled run.size c ≡ record c { page = Some (zero_page run.size) }
      refilled e = at (is_none c.page) e
        where
          at : (t : Bool) → t ≡ true → (if t then record c { page = Some (zero_page run.size) } else c) ≡ record c { page = Some (zero_page run.size) }
          at true e = refl
          at false e = absurd (cc)

      kept : lacks_page_for_zeros c ≡ false → laid_zeros run k c ≡ zeroed run k c
      kept e = at (is_zero_already (state_of c)) refl
        where
          at : (t : Bool) → is_zero_already (state_of c) ≡ t → laid_zeros run k c ≡ zeroed run k c
          at true z = is_zeros (laid run (zeros_of run) k) c z ∙ sym (is_zeros (stored run (zeros_of run) k) c z)
          at false z =
              not_zero (laid run (zeros_of run) k) c z ∙ ap (laid run (zeros_of run) k) (sym (unfilled (has c.page (is_zero_already (state_of c)) z e)))
              ∙ sym (not_zero (stored run (zeros_of run) k) c z)

      untrue : (t : Bool) → not t ≡ true → t ≡ false
      untrue true e = absurd (cc)
      untrue false e = refl

      paged : lacks_page_for_zeros c ≡ true → laid_zeros run k (record c { page = Some (zero_page run.size) }) ≡ zeroed run k c
      paged e =
          let two = and_parts (is_none c.page) (not (is_zero_already (state_of c))) e in
          let z : is_zero_already (state_of c) ≡ false = untrue (is_zero_already (state_of c)) two.1 in
          not_zero (laid run (zeros_of run) k) (record c { page = Some (zero_page run.size) }) z ∙ ap (laid run (zeros_of run) k) (sym (refilled two.0))
          ∙ sym (not_zero (stored run (zeros_of run) k) c z)

  pub zeroed_twice : (low : ℕ) (cells filled_cells zeroed_cells : List Cell) → filled_cells ≡ on_each (λ _ c. filled_where lacks_page_for_zeros run.size c) 0 low run.blocks cells → zeroed_cells ≡ on_each (laid_zeros run) 0 low run.blocks filled_cells
      → zeroed_cells ≡ on_each (zeroed run) 0 low run.blocks cells
  zeroed_twice low cells filled_cells zeroed_cells e w =
      w ∙ ap (on_each (laid_zeros run) 0 low run.blocks) e ∙ on_each-twice (λ _ c. filled_where lacks_page_for_zeros run.size c) (laid_zeros run) 0 low run.blocks cells
      ∙ (λ i. on_each (λ k c. zeroed_is k c i) 0 low run.blocks cells)

  pub zeroed_keeps : KeepsPlaces (zeroed run)
  zeroed_keeps =
      let stays = stored_keeps run (zeros_of run) in
      record {
        kind = λ k c. either_zero (λ d. d.kind ≡ c.kind) (stored run (zeros_of run) k) c (λ _. refl) (λ _. stays.kind k c);
        sector = λ k c. either_zero (λ d. d.sector ≡ c.sector) (stored run (zeros_of run) k) c (λ _. refl) (λ _. stays.sector k c);
        away = λ k c. either_zero (λ d. d.away ≡ c.away) (stored run (zeros_of run) k) c (λ _. refl) (λ _. stays.away k c);
      }

  -- after pages were given, each block that zeros change has a whole page
  pub pages_for_zeros : (low : ℕ) (cells : List Cell) → All (HasWholePage run.size) cells → (k : ℕ) (c : Cell) → k < run.blocks → slice_get (on_each (λ _ x. filled_where lacks_page_for_zeros run.size x) 0 low run.blocks cells) (low + k) ≡ Some c
      → is_zero_already (state_of c) ≡ false → IsSomeAnd c.page (IsWholePage run.size)
  pages_for_zeros low cells whole k c l at =
      let f : ℕ → Cell → Cell = λ _ x. filled_where lacks_page_for_zeros run.size x in
      let many = length-on_each f 0 low run.blocks cells in
      let within : low + k < length (on_each f 0 low run.blocks cells) = slice_get_within (on_each f 0 low run.blocks cells) (low + k) c at in
      let was : Cell = get_or cells (low + k) c in
      let there : slice_get cells (low + k) ≡ Some was = slice_get-get_or cells (low + k) c (omega arith) in
      let is : c ≡ filled_where lacks_page_for_zeros run.size was = in_run-is f low run.blocks k cells was c l there at in
      let P : Cell → Type 0 = λ x. is_zero_already (state_of x) ≡ false → IsSomeAnd x.page (IsWholePage run.size) in
      subst P (sym is) (either_filled P lacks_page_for_zeros run.size was
      (λ e z. has was.page (is_zero_already (state_of was)) z e (whole (low + k) c (omega arith)))
      (λ e z. length-replicate run.size 0))
    where
      has : (o : Option Page) (t : Bool) → t ≡ false → (is_none o && not t) ≡ false → IfSome o (IsWholePage run.size) → IsSomeAnd o (IsWholePage run.size)
      has None t e h w = absurd (let z : not t ≡ true = ap not e in cc)
      has (Some p) t e h w = w

-- the next block has a page that holds its part, where zeros change it
pub part_page_for_zeros : (run : ByteRun) (first : ℕ) (f : ℕ → Cell → Cell) (cells now : List Cell) (k : ℕ) (c : Cell) (part : BlockPart) → HavePagesForZeros run first cells → k < run.blocks → run.first - first + run.blocks ≤ length cells
    → now ≡ on_each f 0 (run.first - first) k cells → c ≡ get_or now (run.first - first + k) c → part.at + part.length ≤ run.size → is_zero_already (state_of c) ≡ false → IsSomeAnd c.page (λ p. part.at + part.length ≤ length p.bytes)
part_page_for_zeros run first f cells now k c part have l within are at h z =
    let low : ℕ = run.first - first in
    let here : c ≡ get_or cells (low + k) c = at ∙ ap (λ xs. get_or xs (low + k) c) are ∙ on_each-next f 0 low k (low + k) cells c refl (omega arith) in
    let there : slice_get cells (low + k) ≡ Some c = slice_get-get_or cells (low + k) c (omega arith) ∙ ap Some (sym here) in
    part_fits run.size part.at part.length c.page h (have k c l there z)
