-- The numbers of a device at the start of a mount are those at its end.
use Rattle.std.proofs.Common.{◌≡◌, ◌⊎◌, ℕ, ◌+◌, ◌<◌, List, [], ◌∷◌, All, length, inl, inr, refl, sym, ap, ◌∙◌, subst, arith}
use Rattle.std.proofs.lemmas.Bool.{cases_lt}
use Rattle.std.proofs.lemmas.List.Elements.{All-head}
use Rattle.iob_base.specs.DeviceBlock.{DeviceBlock}
use Rattle.iob_base.specs.Layout.{Layout}
use Rattle.io_model.specs.declared.file.FileEnd.{FileEnd}
use Rattle.io_model.specs.declared.file.FileSpec.{FileSpec}
use Rattle.io_model.specs.declared.file.Unmounted.{Unmounted}
use Rattle.file_stripes.specs.Files.{IsFile}
use Rattle.turn_cell.specs.Stakes.{total}
use Rattle.turn_cell.specs.Views.{SeatView}
use Rattle.range_core.specs.declared.entry.Entry.{Entry}
use Rattle.size_core.specs.declared.entry.SizeEntry.{SizeEntry}
use Rattle.mount_parts.specs.FilePlaces.{places_from, sized_at}
use Rattle.mount_parts.specs.MountView.{IsLaidOut, LieInOrder, MountView, size_cells, stripes_of}
use Rattle.mount_parts.specs.Pieces.{idle_of}
use Rattle.mount_parts.specs.Unmounts.{Unmounts, file_numbers}
use Rattle.mount_parts.specs.declared.file.FilePlace.{FilePlace}
use Rattle.mini_fs.specs.PassView.{PassView}
use Rattle.mini_fs.specs.Starts.{Started}
use Rattle.mini_fs.proofs.Layouts.{lie-above}

some-place : (fs : List FilePlace) (stripes sizes : ℕ) → LieInOrder 0 0 fs stripes sizes → 0 < stripes → 0 < length fs
some-place [] stripes sizes lies some = absurd (let e = lies.0 in omega arith)
some-place (f ∷ fs) stripes sizes lies some = omega arith

-- without a stripe there is no file
no-files : (files : List FileSpec) (stripes sizes : ℕ) → All IsFile files → LieInOrder 0 0 (places_from 0 0 files) stripes sizes → stripes ≡ 0 → files ≡ []
no-files [] stripes sizes are lies none = refl
no-files (f ∷ fs) stripes sizes are lies none =
    let some = (All-head IsFile f fs are).some in
    let h = lie-above (places_from (0 + stripes_of f.blocks) (0 + size_cells (sized_at f.size 0)) fs) (0 + stripes_of f.blocks) (0 + size_cells (sized_at f.size 0)) stripes sizes lies.2 in
    absurd (omega arith)

none-weighs : (f : ℕ → ℕ) (ends : List FileEnd) → length ends ≡ 0 → total f (file_numbers ends) ≡ 0
none-weighs f [] none = refl
none-weighs f (e ∷ ends) none = absurd (omega arith)

pub numbers-kept : (geometry : Layout) (cookie : ℕ) (sectors : List DeviceBlock) (files : List FileSpec) (m : MountView) (first : PassView) (stripes : List (SeatView Entry)) (sizes : List (SeatView SizeEntry)) (u : Unmounted)
    → All IsFile files → Started geometry cookie sectors files m first → IsLaidOut m → Unmounts m stripes sizes u → (f : ℕ → ℕ) → total f (file_numbers u.files) + total (λ s. f s.number) u.free ≡ total (λ s. f s.number) sectors
numbers-kept geometry cookie sectors files m first stripes sizes u are started laid ends f = elim (cases_lt 0 (length m.stripes)) [
  | inl some ↦
      let none : total (λ s. f s.number) m.idle ≡ 0 = ap (total (λ s. f s.number)) (laid.idle (some-place m.files (length m.stripes) (length m.sizes) laid.order some)) in
      let pool = (ends.pool some).numbers f in
      let known = started.stripes.known f in
      omega arith
  | inr past ↦
      let zero : length m.stripes ≡ 0 = omega arith in
      let empty : files ≡ [] = no-files files (length m.stripes) (length m.sizes) are (subst (λ fs. LieInOrder 0 0 fs (length m.stripes) (length m.sizes)) started.files_are laid.order) zero in
      let count : length u.files ≡ 0 = ends.count ∙ ap length started.files_are ∙ ap (λ l. length (places_from 0 0 l)) empty in
      let own = none-weighs f u.files count in
      let idle : u.free ≡ sectors = ends.idle zero ∙ started.stripes.idle_is ∙ ap (λ l. idle_of l sectors) empty in
      let free : total (λ s. f s.number) u.free ≡ total (λ s. f s.number) sectors = ap (total (λ s. f s.number)) idle in
      omega arith
]
