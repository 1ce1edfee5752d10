-- How the blocks of files are when a mount begins.
use Rattle.std.proofs.Common.{◌≡◌, ℕ, zero, suc, ◌+◌, ◌*◌, ◌/◌, ◌%◌, ◌<◌, ◌^◌, false, None, Some, List, [], ◌∷◌, drop, take, refl, sym, ap, subst, ◌∙◌, arith}
use Rattle.std.specs.Prelude.{Option, slice_get}
use Rattle.std.proofs.lemmas.Option.{none-some}
use Rattle.iob_base.specs.DeviceBlock.{DeviceBlock}
use Rattle.iob_base.specs.Layout.{Layout}
use Rattle.io_model.specs.Kinds.{kind_at}
use Rattle.io_model.specs.declared.file.Extent.{Extent}
use Rattle.io_model.specs.declared.file.FileSpec.{FileSpec}
use Rattle.io_model.specs.declared.file.Kind.{Kind}
use Rattle.range_core.specs.Cells.{cell_of, cells_of, sectors_after}
use Rattle.range_core.specs.Kinds.{kinds_from}
use Rattle.range_core.specs.RangeView.{RangeView}
use Rattle.range_core.specs.declared.cell.Cell.{Cell}
use Rattle.range_core.proofs.CountLemmas.{slice_get-take}
use Rattle.range_core.proofs.SampleLemmas.{slice_get-drop}
use Rattle.mount_parts.specs.FilePlaces.{places_from, sized_at}
use Rattle.mount_parts.specs.MountView.{size_cells, stripes_of}
use Rattle.mount_parts.specs.Pieces.{LaidStripes, first_sectors}
use Rattle.mount_parts.specs.declared.file.FilePlace.{FilePlace}
use Rattle.mount_parts.proofs.DeviceContents.{part-at}
use Rattle.mount_parts.proofs.LaidOut.{opened-at}
use Rattle.mount_parts.proofs.Openings.{same-kinds}
use Rattle.call_traces.specs.RunBlocks.{IsOpened}

-- A block before the first event, of the kind in its place
record IsFirst (kind : Option Kind) (c : Cell) : Type 0 where
  kind_is : kind ≡ Some c.kind
  clean : c.dirty ≡ false
  here : c.away ≡ None

is-first : (kinds : List Kind) (sectors : List DeviceBlock) (j : ℕ) (c : Cell) → slice_get (cells_of kinds sectors) j ≡ Some c → IsFirst (slice_get kinds j) c
is-first [] sectors j c at = absurd (none-some c at)
is-first (k ∷ kinds) sectors zero c at =
    let same : cell_of k sectors ≡ c = cc in
    subst (IsFirst (Some k)) same (record { kind_is = refl; clean = refl; here = refl })
is-first (k ∷ kinds) sectors (suc j) c at = is-first kinds (sectors_after k sectors) j c at

kind-there : (es : List Extent) (b n j : ℕ) → j < n → slice_get (kinds_from es b n) j ≡ Some (kind_at es (b + j))
kind-there es b zero j below = absurd (omega arith)
kind-there es b (suc n) zero below = ap (λ m. Some (kind_at es m)) (let e : b ≡ b + 0 = omega arith in e)
kind-there es b (suc n) (suc j) below = kind-there es (b + 1) n j (omega arith) ∙ ap (λ m. Some (kind_at es m)) (let e : b + 1 + j ≡ b + suc j = omega arith in e)

-- the kind of a file's block, by way of the stripe that has it
part-kind : (es : List Extent) (n b : ℕ) → b < n → slice_get (take 64 (drop (b / 64 * 64) (kinds_from es 0 n))) (b % 64) ≡ Some (kind_at es b)
part-kind es n b below =
    let small : b % 64 < 64 = omega arith in
    let place : b / 64 * 64 + b % 64 ≡ b = omega arith in
    slice_get-take 64 (b % 64) (drop (b / 64 * 64) (kinds_from es 0 n)) small ∙ slice_get-drop (b / 64 * 64) (b % 64) (kinds_from es 0 n)
    ∙ ap (slice_get (kinds_from es 0 n)) place ∙ kind-there es 0 n b below ∙ ap (λ m. Some (kind_at es m)) (let e : 0 + b ≡ b = omega arith in e)

pub opened : (geometry : Layout) (cookie : ℕ) (sectors idle : List DeviceBlock) (files : List FileSpec) (openings : List RangeView) (pool : _) → LaidStripes geometry cookie sectors files openings pool idle
    → (k b : ℕ) (f : FileSpec) (file : FilePlace) (o : RangeView) (was : Cell) → slice_get files k ≡ Some f → slice_get (places_from 0 0 files) k ≡ Some file → b < f.blocks → slice_get openings (file.stripe + b / 64) ≡ Some o
    → slice_get o.cells (b % 64) ≡ Some was → (o.log ≡ []) × IsOpened f b was
opened geometry cookie sectors idle files openings pool laid k b f file o was here there below at is =
    let h = opened-at geometry cookie pool.cell (2 ^ 63) laid.pieces openings (file.stripe + b / 64) o laid.opened at in
    let p = h.piece in
    let part = part-at 0 0 files [] laid.pieces k (b / 64) f file p refl laid.cut here there (omega arith) h.here in
    let first = is-first (kinds_from p.stripe.extents p.stripe.first p.stripe.blocks) (first_sectors geometry.block_size p) (b % 64) was
    (ap (λ (r : RangeView). slice_get r.cells (b % 64)) (sym h.is.opening_is) ∙ is) in
    let kinds : kinds_from p.stripe.extents p.stripe.first p.stripe.blocks ≡ take 64 (drop (b / 64 * 64) (kinds_from f.extents 0 f.blocks)) =
    sym (same-kinds p.stripe.extents p.stripe.first p.stripe.blocks) ∙ part.kinds_are ∙ ap (λ l. take 64 (drop (b / 64 * 64) l)) (same-kinds f.extents 0 f.blocks) in
    let kind : Some was.kind ≡ Some (kind_at f.extents b) = sym first.kind_is ∙ ap (λ l. slice_get l (b % 64)) kinds ∙ part-kind f.extents f.blocks b below in
    (ap (λ (r : RangeView). r.log) h.is.opening_is, record { clean = first.clean; here = first.here; kind = cc })

-- A place is that of a file, with as many blocks
pub record IsPlaceOf (fs : List FileSpec) (k : ℕ) (file : FilePlace) : Type 0 where
  pub spec : FileSpec
  pub there : slice_get fs k ≡ Some spec
  pub blocks : file.blocks ≡ spec.blocks

pub place-of : (stripe cell : ℕ) (fs : List FileSpec) (k : ℕ) (file : FilePlace) → slice_get (places_from stripe cell fs) k ≡ Some file → IsPlaceOf fs k file
place-of stripe cell [] k file at = absurd (none-some file at)
place-of stripe cell (f ∷ fs) zero file at = record { spec = f; there = refl; blocks = (let same = at in cc) }
place-of stripe cell (f ∷ fs) (suc k) file at = let r = place-of (stripe + stripes_of f.blocks) (cell + size_cells (sized_at f.size cell)) fs k file at in record { spec = r.spec; there = r.there; blocks = r.blocks }
