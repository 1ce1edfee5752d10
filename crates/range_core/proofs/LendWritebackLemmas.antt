-- Dirty blocks that are written to the device.
use Rattle.std.proofs.Common.{◌≡◌, ◌≢◌, ℕ, zero, suc, ◌+◌, ◌<◌, ◌≤◌, Bool, true, false, ◌&&◌, not, Option, Some, None, IsTrue, IsSomeAnd, List, [], ◌∷◌, length, take, drop, get_or, map, option_map, All, arith, refl, sym, ◌∙◌, ap, subst, length-drop}
use Rattle.std.specs.Prelude.{◌||◌, is_none, slice_get}
use Rattle.std.proofs.lemmas.Bool.{and_parts}
use Rattle.std.proofs.lemmas.List.{length-map, length-take-le}
use Rattle.std.proofs.lemmas.Option.{get_or_from_slice_get, slice_get-get_or, slice_get-map}
use Rattle.iob_base.specs.declared.sector.Page.{Page}
use Rattle.iob_base.specs.declared.part.Part.{Part}
use Rattle.io_model.specs.Kinds.{device_number, is_kind, kind_after}
use Rattle.io_model.specs.declared.file.Kind.{Kind}
use Rattle.io_model.specs.declared.file.Kind.TheVariants.{Hole, Delalloc, Unwritten, Mapped}
use Rattle.range_core.specs.BlockTruth.{IsWholePage}
use Rattle.range_core.specs.EntryCounts.{one_where}
use Rattle.range_core.specs.Kinds.{has_space, is_delalloc, is_mapped, is_unwritten, written_kind}
use Rattle.range_core.specs.Lends.{home_cell, home_of, written_cell}
use Rattle.range_core.specs.Lookups.{first_kind}
use Rattle.range_core.specs.OnRun.{on_each, on_run}
use Rattle.range_core.specs.RangeTruth.{is_lent_for_writing, pending}
use Rattle.range_core.specs.Refusals.{◌orElse◌, away, away_at, not_ready, where_true}
use Rattle.range_core.specs.LendWritebacks.{IsDirtyRun, IsWritable, copied, dirtied_cell, ended_cell, ended_of, page_copy, write_run, writes_with}
use Rattle.range_core.specs.declared.cell.Cell.{Cell}
use Rattle.range_core.specs.declared.lending.Away.{Away as AwayOn}
use Rattle.range_core.specs.declared.lending.Lender.TheVariants.{Writeback}
use Rattle.range_core.proofs.DropCleanLemmas.{none_is}
use Rattle.range_core.proofs.FirstTruth.{All-there, weighs_one}
use Rattle.range_core.proofs.ReturnHomeLemmas.{IsHomeWith}
use Rattle.range_core.proofs.KindLemmas.{is_kind-same, is_kind-true, kind_after-zero}
use Rattle.range_core.proofs.LeadingLemmas.{leading_run}
use Rattle.range_core.proofs.LendLemmas.{MayLend, item_within}
use Rattle.range_core.proofs.OnRunLemmas.{on_each-alike, on_each-twice}
use Rattle.range_core.proofs.StopLemmas.{neither, where_true-not}

-- a block that is not refused is dirty, at home, and has its space or is a hole
pub record IsReady (c : Cell) : Type 0 where
  pub dirty : c.dirty ≡ true
  pub home : c.away ≡ None
  pub attached : is_delalloc c.kind ≡ false

pub ready_first : (b : ℕ) (c : Cell) → away b c orElse not_ready b c ≡ None → IsReady c
ready_first b c e =
    let n = neither (away b c) (not_ready b c) e in
    let m = neither (where_true (not c.dirty) _) (where_true (is_delalloc c.kind) _) n.1 in
    record { dirty = not_not c.dirty (where_true-not (not c.dirty) _ m.0); home = home c.away n.0; attached = where_true-not (is_delalloc c.kind) _ m.1 }
  where
    not_not : (t : Bool) → not t ≡ false → t ≡ true
    not_not true f = refl
    not_not false f = absurd (cc)

    home : (o : Option AwayOn) → away_at b o ≡ None → o ≡ None
    home None f = refl
    home (Some x) f = absurd (cc)

-- blocks that go on with one that has space have space
space_after : (first kind : Kind) (k : ℕ) → kind_after first k ≡ kind → IsTrue (has_space first) → IsTrue (has_space kind)
space_after first kind k e h = let S : Kind → Type 0 = λ x. IsTrue (has_space x) in subst S e (at first h)
  where
    at : (x : Kind) → IsTrue (has_space x) → IsTrue (has_space (kind_after x k))
    at Hole s = s
    at Delalloc s = s
    at (Unwritten d) s = s
    at (Mapped d) s = s

-- a kind that is neither a hole nor only promised space has its space
pub space_of : (kind : Kind) → kind ≢ Hole → is_delalloc kind ≡ false → IsTrue (has_space kind)
space_of Hole h d = absurd (h refl)
space_of Delalloc h d = absurd (cc)
space_of (Unwritten d) h e = refl
space_of (Mapped d) h e = refl

no_hole : (kind : Kind) (page : Option Page) (P : Page → Type 0) → IsSomeAnd page (λ p. P p × (kind ≢ Hole)) → kind ≢ Hole
no_hole kind None P h = absurd h
no_hole kind (Some p) P h = h.1

-- blocks that the count finds are written together
pub dirty_run : (size : ℕ) (cells : List Cell) (low most n b : ℕ) (first : Cell) → All (IsWritable size) cells → n ≡ write_run (drop low cells) most → low < length cells → 0 < most → most ≤ 16 → first ≡ get_or cells low first
    → away b first orElse not_ready b first ≡ None → IsDirtyRun cells low n
dirty_run size cells low most n b first all e h some few at free =
    let ready = ready_first b first free in
    let same : is_kind (kind_after first.kind 0) first.kind ≡ true = ap (λ k. is_kind k first.kind) (kind_after-zero first.kind) ∙ is_kind-same first.kind in
    let goes : writes_with first.kind 0 first ≡ true = ap (λ t. t && (is_none first.away && is_kind (kind_after first.kind 0) first.kind)) ready.dirty ∙ ap (λ o. is_none o && is_kind (kind_after first.kind 0) first.kind) ready.home ∙ same in
    let run = leading_run writes_with write_run (λ c cs m. refl) cells low most n first e h some few at goes in
    let there : slice_get cells low ≡ Some first = slice_get-get_or cells low first h ∙ ap Some (sym at) in
    let z : low ≡ low + 0 = omega arith in
    let space : IsTrue (has_space first.kind) = space_of first.kind (no_hole first.kind first.page (IsWholePage size) (All-there (IsWritable size) cells low first all there ready.dirty)) ready.attached in
    let head : kind_after (first_kind (drop low cells)) 0 ≡ first.kind = is_kind-true _ _ (and_parts (is_none first.away) _ (and_parts first.dirty _ (run.each 0 first run.some (ap (slice_get cells) (sym z) ∙ there))).1).1 in
    let begins : IsTrue (has_space (first_kind (drop low cells))) = let S : Kind → Type 0 = λ x. IsTrue (has_space x) in subst S (sym head ∙ kind_after-zero (first_kind (drop low cells))) space in
    let kinds : (k : ℕ) (c : Cell) → k < n → slice_get cells (low + k) ≡ Some c → kind_after (first_kind (drop low cells)) k ≡ c.kind =
    λ k c l g. is_kind-true _ _ (and_parts (is_none c.away) _ (and_parts c.dirty _ (run.each k c l g)).1).1 in
    record {
      some = run.some;
      few = run.few;
      within = run.within;
      dirty = λ k c l g. let p = and_parts c.dirty _ (run.each k c l g) in
          record { dirty = p.0; home = none_is c.away (and_parts (is_none c.away) _ p.1).0; space = space_after _ c.kind k (kinds k c l g) begins };
      kinds = kinds;
    }

-- they may be lent
pub dirty_lends : (cells : List Cell) (low n : ℕ) → IsDirtyRun cells low n → MayLend cells low n
dirty_lends cells low n r = record {
  within = r.within;
  home = λ k c l at. (r.dirty k c l at).home;
  space = λ k c l at. (r.dirty k c l at).space;
}

-- blocks that get their sectors and then change have changed once they are back
home_then : (failed : Bool) (g : Cell → Cell) → ((part : Part) (c : Cell) → g (home_cell (Some part) c) ≡ ended_cell failed (Some part) c) → (parts : List Part) (low : ℕ) (cells home now : List Cell)
    → home ≡ on_each (home_of parts) 0 low (length parts) cells → now ≡ on_run g low (length parts) home → now ≡ on_each (ended_of failed parts) 0 low (length parts) cells
home_then failed g same parts low cells home now h is =
    is ∙ ap (on_run g low (length parts)) h ∙ on_each-twice (home_of parts) (λ _. g) 0 low (length parts) cells
    ∙ on_each-alike (λ k c. g (home_of parts k c)) (ended_of failed parts) 0 low (length parts) cells (λ k c l.
    let z : 0 + k ≡ k = omega arith in
    let p = item_within parts k l in
    let at : slice_get parts (0 + k) ≡ Some p.0 = ap (slice_get parts) z ∙ p.1 in
    ap (λ o. g (home_cell o c)) at ∙ same p.0 c ∙ ap (λ o. ended_cell failed o c) (sym at))

pub dirtied_back : (parts : List Part) (low : ℕ) (cells home now : List Cell) → home ≡ on_each (home_of parts) 0 low (length parts) cells → now ≡ on_run dirtied_cell low (length parts) home → now ≡ on_each (ended_of true parts) 0 low (length parts) cells
dirtied_back = home_then true dirtied_cell (λ part c. refl)

pub mapped_back : (parts : List Part) (low : ℕ) (cells home now : List Cell) → home ≡ on_each (home_of parts) 0 low (length parts) cells → now ≡ on_run written_cell low (length parts) home → now ≡ on_each (ended_of false parts) 0 low (length parts) cells
mapped_back = home_then false written_cell (λ part c. refl)

-- a kind that was written has the device number that it had
pub written-number : (kind : Kind) → device_number (written_kind kind) ≡ device_number kind
written-number Hole = refl
written-number Delalloc = refl
written-number (Unwritten d) = refl
written-number (Mapped d) = refl

pub written-delalloc : (kind : Kind) → is_delalloc (written_kind kind) ≡ is_delalloc kind
written-delalloc Hole = refl
written-delalloc Delalloc = refl
written-delalloc (Unwritten d) = refl
written-delalloc (Mapped d) = refl

-- a block that comes back from a write is at home
pub ended_home : (failed : Bool) (parts : List Part) (k : ℕ) (c : Cell) (part : Part) → slice_get parts k ≡ Some part → IsHomeWith part c (ended_of failed parts k c)
ended_home failed parts k c part e = let H : Option Part → Type 0 = λ o. IsHomeWith part c (ended_cell failed o c) in subst H (sym e) (at failed)
  where
    at : (t : Bool) → IsHomeWith part c (ended_cell t (Some part) c)
    at true = record { sector = refl; away = refl; number = refl; delalloc = refl }
    at false = record { sector = refl; away = refl; number = written-number c.kind; delalloc = written-delalloc c.kind }

-- an item of a run that is cut out of a list
pub taken_at : {A : Type 0} (n low k : ℕ) (xs : List A) (x : A) → k < n → slice_get xs (low + k) ≡ Some x → slice_get (take n (drop low xs)) k ≡ Some x
taken_at {A = A} n (suc low) k [] x l e = absurd (cc)
taken_at {A = A} n (suc low) k (y ∷ xs) x l e = let z : suc low + k ≡ suc (low + k) = omega arith in taken_at n low k xs x l (ap (slice_get (y ∷ xs)) (sym z) ∙ e)
taken_at {A = A} n zero k xs x l e = let z : 0 + k ≡ k = omega arith in at n k xs l (ap (slice_get xs) (sym z) ∙ e)
  where
    at : (n k : ℕ) (xs : List A) → k < n → slice_get xs k ≡ Some x → slice_get (take n xs) k ≡ Some x
    at zero k xs m f = absurd (omega arith)
    at (suc n) k [] m f = absurd (cc)
    at (suc n) zero (y ∷ xs) m f = f
    at (suc n) (suc k) (y ∷ xs) m f = at n k xs (omega arith) f

-- as many snapshots as blocks
pub copies-length : (low n : ℕ) (cells : List Cell) → low + n ≤ length cells → length (map page_copy (take n (drop low cells))) ≡ n
copies-length low n cells h = length-map (take n (drop low cells)) page_copy ∙ length-take-le n (drop low cells) (omega (arith, length-drop low cells))

-- snapshots are whole where the pages are
pub copies_whole : (size low n : ℕ) (cells : List Cell) → All (IsWritable size) cells → IsDirtyRun cells low n → All (IsWholePage size) (map page_copy (take n (drop low cells)))
copies_whole size low n cells all run = λ k d l.
    let many : length (map page_copy (take n (drop low cells))) ≡ n = copies-length low n cells run.within in
    let within = run.within in
    let m : k < n = omega arith in
    let c = item_within cells (low + k) (omega arith) in
    let taken : slice_get (take n (drop low cells)) k ≡ Some c.0 = taken_at n low k cells c.0 m c.1 in
    let at : slice_get (map page_copy (take n (drop low cells))) k ≡ Some (page_copy c.0) = slice_get-map page_copy (take n (drop low cells)) k ∙ ap (option_map page_copy) taken in
    let is = get_or_from_slice_get (map page_copy (take n (drop low cells))) k (page_copy c.0) d at in
    let W : Page → Type 0 = λ p. IsWholePage size p in
    subst W (sym is) (whole c.0.kind c.0.page (All-there (IsWritable size) cells (low + k) c.0 all c.1 (run.dirty k c.0 m c.1).dirty))
  where
    whole : (kind : Kind) (o : Option Page) → IsSomeAnd o (λ p. IsWholePage size p × (kind ≢ Hole)) → IsWholePage size (copied o)
    whole kind None h = absurd h
    whole kind (Some p) h = h.0

-- a kind goes on unwritten or not as it began
pub unwritten_after : (kind : Kind) (k : ℕ) → is_unwritten (kind_after kind k) ≡ is_unwritten kind
unwritten_after Hole k = refl
unwritten_after Delalloc k = refl
unwritten_after (Unwritten d) k = refl
unwritten_after (Mapped d) k = refl

-- a kind with space is mapped or unwritten
pub mapped_of : (kind : Kind) → IsTrue (has_space kind) → is_unwritten kind ≡ false → is_mapped kind ≡ true
mapped_of Hole s u = absurd (cc)
mapped_of Delalloc s u = absurd (cc)
mapped_of (Unwritten d) s u = absurd (cc)
mapped_of (Mapped d) s u = refl

pub pending-few : (c : Cell) → pending c ≤ 1
pending-few c = weighs_one (is_delalloc c.kind || (is_unwritten c.kind && is_lent_for_writing c.away))

-- a block at home that has its space changes its kind by no event without refusal
pub home_pending : (c : Cell) → c.away ≡ None → IsTrue (has_space c.kind) → pending c ≡ 0
home_pending c home space = ap (λ a. one_where (is_delalloc c.kind || (is_unwritten c.kind && is_lent_for_writing a))) home ∙ at c.kind space
  where
    at : (k : Kind) → IsTrue (has_space k) → one_where (is_delalloc k || (is_unwritten k && false)) ≡ 0
    at Hole s = absurd (cc)
    at Delalloc s = absurd (cc)
    at (Unwritten d) s = refl
    at (Mapped d) s = refl

-- one that is lent unwritten for a write may
pub lent_pending : (c : Cell) (away : AwayOn) → c.away ≡ Some away → away.lender ≡ Writeback → is_unwritten c.kind ≡ true → pending c ≡ 1
lent_pending c away gone lender unwritten =
    ap (λ a. one_where (is_delalloc c.kind || (is_unwritten c.kind && is_lent_for_writing a))) gone
    ∙ ap (λ l. one_where (is_delalloc c.kind || (is_unwritten c.kind && is_lent_for_writing (Some (record { ticket = away.ticket; lender = l }))))) lender ∙ at c.kind unwritten
  where
    at : (k : Kind) → is_unwritten k ≡ true → one_where (is_delalloc k || (is_unwritten k && true)) ≡ 1
    at Hole u = absurd (cc)
    at Delalloc u = absurd (cc)
    at (Unwritten d) u = refl
    at (Mapped d) u = absurd (cc)

-- a written kind with space is mapped, and no hole
pub written-mapped : (kind : Kind) → IsTrue (has_space kind) → is_mapped (written_kind kind) ≡ true
written-mapped Hole s = absurd (cc)
written-mapped Delalloc s = absurd (cc)
written-mapped (Unwritten d) s = refl
written-mapped (Mapped d) s = refl

pub space_no_hole : (kind : Kind) → IsTrue (has_space kind) → kind ≢ Hole
space_no_hole Hole s e = absurd (cc)
space_no_hole Delalloc s e = cc
space_no_hole (Unwritten d) s e = cc
space_no_hole (Mapped d) s e = cc

-- a kind that is not unwritten stays when it is written
pub written_same : (kind : Kind) → is_unwritten kind ≡ false → written_kind kind ≡ kind
written_same Hole e = refl
written_same Delalloc e = refl
written_same (Unwritten d) e = absurd (cc)
written_same (Mapped d) e = refl
