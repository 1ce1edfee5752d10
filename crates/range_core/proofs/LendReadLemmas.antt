-- Blocks that are read into the cache.
use Rattle.std.proofs.Common.{◌≡◌, ℕ, ◌<◌, ◌≤◌, Bool, true, false, ◌&&◌, not, Option, Some, None, IsTrue, List, length, drop, get_or, map, option_map, refl, sym, ◌∙◌, ap, subst}
use Rattle.std.specs.Prelude.{◌||◌, is_none, slice_get}
use Rattle.std.proofs.lemmas.Bool.{and_parts}
use Rattle.std.proofs.lemmas.Option.{slice_get-map}
use Rattle.iob_base.specs.declared.sector.Page.{Page}
use Rattle.iob_base.specs.declared.part.Part.{Part}
use Rattle.io_model.specs.Kinds.{is_kind, kind_after}
use Rattle.io_model.specs.declared.file.Kind.{Kind}
use Rattle.io_model.specs.declared.file.Kind.TheVariants.{Hole, Delalloc, Unwritten, Mapped}
use Rattle.range_core.specs.EntryCounts.{one_where}
use Rattle.range_core.specs.LendReads.{IsColdBlock, IsColdRun, fill_run, filled_cell, filled_of, fills_with, paged_cell, paged_of}
use Rattle.range_core.specs.Kinds.{has_space, is_delalloc, is_mapped, is_unwritten}
use Rattle.range_core.specs.Lends.{home_cell, home_of}
use Rattle.range_core.specs.OnRun.{on_each}
use Rattle.range_core.specs.RangeTruth.{is_lent_for_writing, pending}
use Rattle.range_core.specs.Refusals.{◌orElse◌, away, is_cold, warm}
use Rattle.range_core.specs.declared.cell.Cell.{Cell}
use Rattle.range_core.proofs.DropCleanLemmas.{none_is}
use Rattle.range_core.proofs.ReturnHomeLemmas.{IsHomeWith}
use Rattle.range_core.proofs.KindLemmas.{is_kind-same, is_kind-true, kind_after-zero}
use Rattle.range_core.proofs.LeadingLemmas.{leading_run}
use Rattle.range_core.proofs.LendLemmas.{MayLend}
use Rattle.range_core.proofs.OnRunLemmas.{on_each-twice}
use Rattle.range_core.proofs.StopLemmas.{neither, where_true-not}

-- what a cold block is
pub cold_block : (c : Cell) → is_cold c ≡ true → IsColdBlock c
cold_block c e =
    let p = and_parts (is_mapped c.kind) (is_none c.away && is_none c.page) e in
    let q = and_parts (is_none c.away) (is_none c.page) p.1 in
    record { mapped = p.0; home = none_is c.away q.0; page = none_is c.page q.1 }

pub mapped_space : (k : Kind) → is_mapped k ≡ true → IsTrue (has_space k)
mapped_space Hole e = absurd (cc)
mapped_space Delalloc e = absurd (cc)
mapped_space (Unwritten d) e = absurd (cc)
mapped_space (Mapped d) e = refl

-- no event without refusal changes the kind of a mapped block
pub mapped_pending : (c : Cell) → is_mapped c.kind ≡ true → pending c ≡ 0
mapped_pending c e = at c.kind e
  where
    at : (k : Kind) → is_mapped k ≡ true → one_where (is_delalloc k || (is_unwritten k && is_lent_for_writing c.away)) ≡ 0
    at Hole f = absurd (cc)
    at Delalloc f = absurd (cc)
    at (Unwritten d) f = absurd (cc)
    at (Mapped d) f = refl

-- a block that is not refused is cold
pub cold_first : (b : ℕ) (c : Cell) → away b c orElse warm b c ≡ None → is_cold c ≡ true
cold_first b c e = not_not (is_cold c) (where_true-not (not (is_cold c)) _ (neither (away b c) (warm b c) e).1)
  where
    not_not : (t : Bool) → not t ≡ false → t ≡ true
    not_not true f = refl
    not_not false f = absurd (cc)

-- blocks that the count finds are read together
pub cold_run : (cells : List Cell) (low most n b : ℕ) (first : Cell) → n ≡ fill_run (drop low cells) most → low < length cells → 0 < most → most ≤ 16 → first ≡ get_or cells low first → away b first orElse warm b first ≡ None → IsColdRun cells low n
cold_run cells low most n b first e h some few at free =
    let goes : fills_with first.kind 0 first ≡ true = ap (λ t. t && is_kind (kind_after first.kind 0) first.kind) (cold_first b first free) ∙ ap (λ k. is_kind k first.kind) (kind_after-zero first.kind) ∙ is_kind-same first.kind in
    let run = leading_run fills_with fill_run (λ c cs m. refl) cells low most n first e h some few at goes in
    record {
      some = run.some;
      few = run.few;
      within = run.within;
      cold = λ k c l g. cold_block c (and_parts (is_cold c) _ (run.each k c l g)).0;
      kinds = λ k c l g. is_kind-true _ _ (and_parts (is_cold c) _ (run.each k c l g)).1;
    }

-- they may be lent
pub cold_lends : (cells : List Cell) (low n : ℕ) → IsColdRun cells low n → MayLend cells low n
cold_lends cells low n r = record {
  within = r.within;
  home = λ k c l at. (r.cold k c l at).home;
  space = λ k c l at. mapped_space c.kind (r.cold k c l at).mapped;
}

-- blocks that get their sectors and then their pages get both
both_back : (parts : List Part) (k : ℕ) (c : Cell) → paged_of (map (λ p. p.page) parts) k (home_of parts k c) ≡ filled_of false parts k c
both_back parts k c = ap (λ o. paged_cell o (home_of parts k c)) (slice_get-map (λ (p : Part). p.page) parts k) ∙ at (slice_get parts k)
  where
    at : (o : Option Part) → paged_cell (option_map (λ (p : Part). p.page) o) (home_cell o c) ≡ filled_cell false o c
    at None = refl
    at (Some p) = refl

pub filled_back : (parts : List Part) (pages : List Page) (low m n : ℕ) (cells home now : List Cell) → pages ≡ map (λ p. p.page) parts → m ≡ n → home ≡ on_each (home_of parts) 0 low n cells → now ≡ on_each (paged_of pages) 0 low m home → now ≡ on_each (filled_of false parts) 0 low n cells
filled_back parts pages low m n cells home now p e h is =
    is ∙ ap (λ ps. on_each (paged_of ps) 0 low m home) p ∙ ap (λ k. on_each (paged_of (map (λ (q : Part). q.page) parts)) 0 low k home) e
    ∙ ap (on_each (paged_of (map (λ (q : Part). q.page) parts)) 0 low n) h ∙ on_each-twice (home_of parts) (paged_of (map (λ (q : Part). q.page) parts)) 0 low n cells
    ∙ (λ i. on_each (λ k c. both_back parts k c i) 0 low n cells)

-- a block that comes back from a read is at home
pub filled_home : (failed : Bool) (parts : List Part) (k : ℕ) (c : Cell) (part : Part) → slice_get parts k ≡ Some part → IsHomeWith part c (filled_of failed parts k c)
filled_home failed parts k c part e = let H : Option Part → Type 0 = λ o. IsHomeWith part c (filled_cell failed o c) in subst H (sym e) (at failed)
  where
    at : (t : Bool) → IsHomeWith part c (filled_cell t (Some part) c)
    at true = record { sector = refl; away = refl; number = refl; delalloc = refl }
    at false = record { sector = refl; away = refl; number = refl; delalloc = refl }

-- and keeps its kind
pub filled-kind : (failed : Bool) (parts : List Part) (k : ℕ) (c : Cell) → (filled_of failed parts k c).kind ≡ c.kind
filled-kind failed parts k c = at failed (slice_get parts k)
  where
    at : (t : Bool) (o : Option Part) → (filled_cell t o c).kind ≡ c.kind
    at t None = refl
    at true (Some p) = refl
    at false (Some p) = refl
