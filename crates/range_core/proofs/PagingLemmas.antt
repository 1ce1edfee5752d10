-- A loop that gives blocks pages of zeros from a stock.
use Rattle.std.proofs.Common.{◌≡◌, ℕ, zero, suc, ◌+◌, ◌-◌, ◌<◌, ◌≤◌, ⊎_elim, All, Bool, true, false, if◌then◌else◌, Option, Some, None, List, [], ◌∷◌, length, take, get_or, set, replicate, refl, sym, ◌∙◌, ap, subst, arith}
use Rattle.std.specs.Prelude.{IfSome, IsSomeAnd, is_none, slice_get}
use Rattle.std.proofs.lemmas.List.{get_or-replicate, length-replicate, length-take-le, set-get_or, take-replicate}
use Rattle.std.proofs.lemmas.Option.{slice_get_within, slice_get-get_or}
use Rattle.iob_base.specs.declared.sector.Page.{Page}
use Rattle.range_core.specs.BlockTruth.{IsWholePage}
use Rattle.range_core.specs.EntryCounts.{one_where}
use Rattle.range_core.specs.Paging.{fill_each, HasWholePage, filled, filled_where, lacks_page}
use Rattle.range_core.specs.OnRun.{count_on, on_each, on_run}
use Rattle.range_core.specs.Pages.{zero_page}
use Rattle.range_core.specs.declared.cell.Cell.{Cell}
use Rattle.range_core.specs.declared.parts.ByteRun.{ByteRun}
use Rattle.range_core.proofs.KeptPlaces.{KeepsPlaces}
use Rattle.range_core.proofs.OnRunLemmas.{IsInRun, IsOutOfRun, count_on-more, each_more, length-on_each, on_each-at, on_each-next}

-- no more items are counted in fewer
pub count_on-le : {A : Type 0} (p : A → Bool) (low m n : ℕ) (xs : List A) → m ≤ n → count_on p low m xs ≤ count_on p low n xs
count_on-le p zero zero zero xs h = omega arith
count_on-le p zero zero (suc n) [] h = omega arith
count_on-le p zero zero (suc n) (x ∷ xs) h = omega arith
count_on-le p zero (suc m) zero xs h = absurd (omega arith)
count_on-le p zero (suc m) (suc n) [] h = omega arith
count_on-le p zero (suc m) (suc n) (x ∷ xs) h = omega (arith, count_on-le p zero m n xs (omega arith))
count_on-le p (suc low) m n [] h = omega arith
count_on-le p (suc low) m n (x ∷ xs) h = count_on-le p low m n xs h

-- The first i of n blocks that need pages have them, and the stock has one for each that is left
pub record IsFilling (needs : Cell → Bool) (size low n i : ℕ) (first now : List Cell) (stock : List Page) : Type 0 where
  pub cells : now ≡ on_run (filled_where needs size) low i first
  pub stock_is : stock ≡ replicate (length stock) (zero_page size)
  pub left : length stock + count_on needs low i first ≡ count_on needs low n first

module _ (needs : Cell → Bool) (size low n i : ℕ) (first now : List Cell) (stock : List Page) where
  abbrev fill : ℕ → Cell → Cell
  fill _ c = filled_where needs size c

  filled-true : (c : Cell) → needs c ≡ true → record c { page = Some (zero_page size) } ≡ filled_where needs size c
  filled-true c e = at (needs c) e
    where
      at : (t : Bool) → t ≡ true → record c { page = Some (zero_page size) } ≡ (if t then record c { page = Some (zero_page size) } else c)
      at true e = refl
      at false e = absurd (cc)

  filled-false : (c : Cell) → needs c ≡ false → c ≡ filled_where needs size c
  filled-false c e = at (needs c) e
    where
      at : (t : Bool) → t ≡ false → c ≡ (if t then record c { page = Some (zero_page size) } else c)
      at true e = absurd (cc)
      at false e = refl

  here : (cell : Cell) → IsFilling needs size low n i first now stock → cell ≡ get_or now (low + i) cell → low + i < length first → cell ≡ get_or first (low + i) cell
  here cell h at within = at ∙ ap (λ l. get_or l (low + i) cell) h.cells ∙ on_each-next fill 0 low i (low + i) first cell refl within

  counted : (cell : Cell) (t : Bool) → IsFilling needs size low n i first now stock → cell ≡ get_or now (low + i) cell → low + i < length first → needs cell ≡ t
      → count_on needs low (i + 1) first ≡ count_on needs low i first + one_where t
  counted cell t h at within e =
      let one : suc i ≡ i + 1 = omega arith in
      sym (ap (λ k. count_on needs low k first) one) ∙ count_on-more needs low i (low + i) first cell refl within
      ∙ ap (λ m. count_on needs low i first + m) (ap (λ c. one_where (needs c)) (sym (here cell h at within)) ∙ ap one_where e)

  -- one more block gets a page of the stock
  pub record Takes (cell : Cell) : Type 0 where
    pub some : 0 < length stock
    pub page : get_or stock (length stock - 1) (zero_page size) ≡ zero_page size
    pub filling : IsFilling needs size low n (i + 1) first (set now (low + i) (record cell { page = Some (zero_page size) })) (take (length stock - 1) stock)

  pub take_page : (cell : Cell) → IsFilling needs size low n i first now stock → cell ≡ get_or now (low + i) cell → low + i < length first → length now ≡ length first → i < n → needs cell ≡ true → Takes cell
  take_page cell h at within many less e =
      let more = counted cell true h at within e in
      let few = count_on-le needs low (i + 1) n first (omega arith) in
      let left = h.left in
      let some : 0 < length stock = omega arith in
      let stays : take (length stock - 1) stock ≡ replicate (length stock - 1) (zero_page size) =
      ap (take (length stock - 1)) h.stock_is ∙ take-replicate (length stock - 1) (length stock) (zero_page size) (omega arith) in
      let fewer : length (take (length stock - 1) stock) ≡ length stock - 1 = length-take-le (length stock - 1) stock (omega arith) in
      record {
        some = some;
        page = ap (λ l. get_or l (length stock - 1) (zero_page size)) h.stock_is ∙ get_or-replicate (length stock) (length stock - 1) (zero_page size) (zero_page size) (omega arith);
        filling = record {
          cells = each_more fill low i first now cell _ h.cells at within (filled-true cell e);
          stock_is = stays ∙ ap (λ k. replicate k (zero_page size)) (sym fewer);
          left = omega arith;
        };
      }

  -- the next block needs none
  pub keep_page : (cell : Cell) → IsFilling needs size low n i first now stock → cell ≡ get_or now (low + i) cell → low + i < length first → length now ≡ length first → needs cell ≡ false → IsFilling needs size low n (i + 1) first now stock
  keep_page cell h at within many e =
      let more = counted cell false h at within e in
      let same : set now (low + i) cell ≡ now = ap (set now (low + i)) at ∙ set-get_or now (low + i) cell in
      let left = h.left in
      record {
        cells = sym same ∙ each_more fill low i first now cell cell h.cells at within (filled-false cell e);
        stock_is = h.stock_is;
        left = omega arith;
      }

-- what holds of a block with a page of zeros and without it holds of it afterwards
pub either_filled : (P : Cell → Type 0) (needs : Cell → Bool) (size : ℕ) (c : Cell) → (needs c ≡ false → P c) → (needs c ≡ true → P (record c { page = Some (zero_page size) })) → P (filled_where needs size c)
either_filled P needs size c kept paged = at (needs c) kept paged
  where
    at : (t : Bool) → (t ≡ false → P c) → (t ≡ true → P (record c { page = Some (zero_page size) })) → P (if t then record c { page = Some (zero_page size) } else c)
    at true k p = p refl
    at false k p = k refl

pub filled_keeps : (needs : Cell → Bool) (size : ℕ) → KeepsPlaces (λ _ c. filled_where needs size c)
filled_keeps needs size = record {
  kind = λ _ c. either_filled (λ d. d.kind ≡ c.kind) needs size c (λ _. refl) (λ _. refl);
  sector = λ _ c. either_filled (λ d. d.sector ≡ c.sector) needs size c (λ _. refl) (λ _. refl);
  away = λ _ c. either_filled (λ d. d.away ≡ c.away) needs size c (λ _. refl) (λ _. refl);
}

-- a block that had no page has one, and one that had a whole page has it
pub filled-whole : (size : ℕ) (c : Cell) → HasWholePage size c → IsSomeAnd (filled size c).page (IsWholePage size)
filled-whole size c h = either_filled (λ d. IsSomeAnd d.page (IsWholePage size)) lacks_page size c (λ e. there c.page e h) (λ _. length-replicate size 0)
  where
    there : (o : Option Page) → is_none o ≡ false → IfSome o (IsWholePage size) → IsSomeAnd o (IsWholePage size)
    there None e h = absurd (cc)
    there (Some p) e h = h

-- after pages were given, each block of a run has a whole page
pub filled_pages : (run : ByteRun) (low : ℕ) (cells : List Cell) → All (HasWholePage run.size) cells → (k : ℕ) (c : Cell) → k < run.blocks → slice_get (on_each (fill_each run) 0 low run.blocks cells) (low + k) ≡ Some c → IsSomeAnd c.page (IsWholePage run.size)
filled_pages run low cells whole k c l at =
    let many = length-on_each (fill_each run) 0 low run.blocks cells in
    let within : low + k < length (on_each (fill_each run) 0 low run.blocks cells) = slice_get_within (on_each (fill_each run) 0 low run.blocks cells) (low + k) c at in
    let there : slice_get cells (low + k) ≡ Some (get_or cells (low + k) c) = slice_get-get_or cells (low + k) c (omega arith) in
    let was = whole (low + k) c (omega arith) in
    let P : Cell → Type 0 = λ x. IsSomeAnd x.page (IsWholePage run.size) in
    ⊎_elim
    (λ (u : IsInRun (fill_each run) 0 low run.blocks (low + k) (get_or cells (low + k) c) c). subst P (sym u.is) (filled-whole run.size (get_or cells (low + k) c) was))
    (λ (u : IsOutOfRun low run.blocks (low + k) (get_or cells (low + k) c) c). absurd (⊎_elim (λ (x : low + k < low). let z : ⊥ = absurd (omega arith) in z) (λ (x : low + run.blocks ≤ low + k). let z : ⊥ = absurd (omega arith) in z) u.out))
    (on_each-at (fill_each run) 0 low run.blocks (low + k) cells (get_or cells (low + k) c) c there at)
