-- The bytes of a block's sector are changed in place.
use Rattle.std.proofs.Common.{◌≡◌, ℕ, ◌+◌, ◌-◌, ◌<◌, ◌≤◌, Bool, true, false, if◌then◌else◌, Option, Some, None, List, length, get_or, refl, sym, ◌∙◌, ap, subst, arith}
use Rattle.std.specs.Prelude.{IsSomeAnd, slice_get}
use Rattle.std.proofs.lemmas.Option.{slice_get-get_or}
use Rattle.iob_base.specs.DeviceBlock.{DeviceBlock}
use Rattle.io_model.specs.Contents.{Content}
use Rattle.io_model.specs.Kinds.{device_number}
use Rattle.io_model.specs.declared.file.Kind.{Kind}
use Rattle.io_model.specs.declared.file.Kind.TheVariants.{Hole, Delalloc, Unwritten, Mapped}
use Rattle.range_core.specs.Cells.{HasPlace, HasSector}
use Rattle.range_core.specs.DaxGets.{AreHomeIn}
use Rattle.range_core.specs.DirectNows.{IsReady}
use Rattle.range_core.specs.Kinds.{is_mapped}
use Rattle.range_core.specs.OnRun.{on_each}
use Rattle.range_core.specs.Through.{on_sector, through, where_mapped}
use Rattle.range_core.specs.declared.cell.Cell.{Cell}
use Rattle.range_core.specs.declared.lending.Away.{Away}
use Rattle.range_core.specs.declared.parts.ByteRun.{ByteRun}
use Rattle.range_core.proofs.OnRunLemmas.{on_each-next}

-- what holds of a block as it is, and with the bytes of its sector changed, holds of it where only a mapped block is changed
pub either_mapped : (P : Cell → Type 0) (f : Content → Content) (c : Cell) → (is_mapped c.kind ≡ true → P (through f c)) → (is_mapped c.kind ≡ false → P c) → P (where_mapped f c)
either_mapped P f c changed kept = at (is_mapped c.kind) changed kept
  where
    at : (t : Bool) → (t ≡ true → P (through f c)) → (t ≡ false → P c) → P (if t then through f c else c)
    at true p k = p refl
    at false p k = k refl

-- a sector keeps its number, and its length where the change does
sector-changed : (size : ℕ) (f : Content → Content) → ((x : Content) → length x ≡ size → length (f x) ≡ size) → (number : Option ℕ) (sector : Option DeviceBlock) → HasSector size number sector → HasSector size number (on_sector f sector)
sector-changed size f long None sector h = ap (on_sector f) h
sector-changed size f long (Some d) None h = absurd h
sector-changed size f long (Some d) (Some s) h = record { is = h.is; whole = long s.bytes h.whole }

pub place-changed : (size : ℕ) (f : Content → Content) → ((x : Content) → length x ≡ size → length (f x) ≡ size) → (kind : Kind) (sector : Option DeviceBlock) (away : Option Away) → HasPlace size kind sector away → HasPlace size kind (on_sector f sector) away
place-changed size f long kind sector None h = sector-changed size f long (device_number kind) sector h
place-changed size f long kind sector (Some a) h = (ap (on_sector f) h.0, h.1)

-- a mapped block at home has a whole sector
pub mapped-sector : (size : ℕ) (c : Cell) → IsReady size c → is_mapped c.kind ≡ true → IsSomeAnd c.sector (λ s. length s.bytes ≡ size)
mapped-sector size c r m =
    let P : Option Away → Type 0 = λ a. HasPlace size c.kind c.sector a in
    at c.kind c.sector m (subst P r.home r.placed)
  where
    at : (k : Kind) (o : Option DeviceBlock) → is_mapped k ≡ true → HasPlace size k o None → IsSomeAnd o (λ s. length s.bytes ≡ size)
    at Hole o m h = absurd (cc)
    at Delalloc o m h = absurd (cc)
    at (Unwritten d) o m h = absurd (cc)
    at (Mapped d) None m h = absurd h
    at (Mapped d) (Some s) m h = h.whole

pub sector-fits : (size at n : ℕ) (o : Option DeviceBlock) → at + n ≤ size → IsSomeAnd o (λ s. length s.bytes ≡ size) → IsSomeAnd o (λ s. at + n ≤ length s.bytes)
sector-fits size at n None h o = absurd o
sector-fits size at n (Some s) h o = omega (arith, o)

-- the next block of a run is as it was
pub next-block : (run : ByteRun) (first : ℕ) (f : ℕ → Cell → Cell) (cells now : List Cell) (k : ℕ) (c : Cell) → k < run.blocks → run.first - first + run.blocks ≤ length cells
    → now ≡ on_each f 0 (run.first - first) k cells → c ≡ get_or now (run.first - first + k) c → slice_get cells (run.first - first + k) ≡ Some c
next-block run first f cells now k c l within are at =
    let low : ℕ = run.first - first in
    let here : c ≡ get_or cells (low + k) c = at ∙ ap (λ xs. get_or xs (low + k) c) are ∙ on_each-next f 0 low k (low + k) cells c refl (omega arith) in
    slice_get-get_or cells (low + k) c (omega arith) ∙ ap Some (sym here)

-- where it is mapped, its sector holds its part
pub mapped_part : (run : ByteRun) (first : ℕ) (f : ℕ → Cell → Cell) (cells now : List Cell) (k : ℕ) (c : Cell) (at n : ℕ) → AreHomeIn run first cells → k < run.blocks → run.first - first + run.blocks ≤ length cells
    → now ≡ on_each f 0 (run.first - first) k cells → c ≡ get_or now (run.first - first + k) c → at + n ≤ run.size → is_mapped c.kind ≡ true → IsSomeAnd c.sector (λ s. at + n ≤ length s.bytes)
mapped_part run first f cells now k c at n home l within are here fits m =
    sector-fits run.size at n c.sector fits (mapped-sector run.size c (home k c l (next-block run first f cells now k c l within are here)) m)
