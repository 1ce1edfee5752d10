-- Where the stripes of a file lie.
use Rattle.std.proofs.Common.{◌≡◌, ℕ, zero, suc, ◌+◌, ◌-◌, ◌<◌, ◌≤◌, List, [], ◌∷◌, length, get_or, refl, sym, ap, ◌∙◌, arith}
use Rattle.std.proofs.lemmas.List.{get_or_past}
use Rattle.std.specs.Prelude.{◌/◌, Bool, true, false, nat_lt, Option, Some, None, slice_get}
use Rattle.std.proofs.lemmas.Bool.Decides.{nat_tests}
use Rattle.std.proofs.lemmas.Option.{none-some}
use Rattle.turn_cell.specs.Views.{CellView}
use Rattle.range_core.specs.RangeView.{RangeView}
use Rattle.mount_parts.proofs.Places.{within}
use Rattle.mini_fs.specs.SizeTurns.{HasSize}
use Rattle.iob_base.specs.declared.stamp.FileId.{FileId}
use Rattle.mount_parts.specs.MountView.{MountView, IsNumbered, LieInOrder, HasBlock, HasFile, IsLaidOut, no_file, file_at, size_cells, stripe_at, stripes_of}
use Rattle.mount_parts.specs.declared.file.FilePlace.{FilePlace}

pub lie-above : (fs : List FilePlace) (from size stripes sizes : ℕ) → LieInOrder from size fs stripes sizes → from ≤ stripes
lie-above [] from size stripes sizes lies = let e = lies.0 in omega arith
lie-above (f ∷ fs) from size stripes sizes lies = let h = lie-above fs (from + stripes_of f.blocks) (size + size_cells f.size) stripes sizes lies.2 in omega arith

-- the last stripe of each file is one of them
lie-within : (fs : List FilePlace) (from size stripes sizes k i : ℕ) → LieInOrder from size fs stripes sizes → i < stripes_of (get_or fs k no_file).blocks → (get_or fs k no_file).stripe + i < stripes
lie-within [] from size stripes sizes k i lies below = absurd (omega arith)
lie-within (f ∷ fs) from size stripes sizes zero i lies below =
    let e = lies.0 in
    let h = lie-above fs (from + stripes_of f.blocks) (size + size_cells f.size) stripes sizes lies.2 in
    omega arith
lie-within (f ∷ fs) from size stripes sizes (suc k) i lies below = lie-within fs (from + stripes_of f.blocks) (size + size_cells f.size) stripes sizes k i lies.2 below

-- a file with a block exists
pub has_file : (m : MountView) (file : FileId) (b : ℕ) → HasBlock m file b → HasFile m file
has_file m file b has = grind (arith, get_or_past)

-- the stripe of a block is one of the mount's
pub stripe-within : (m : MountView) (file : FileId) (b : ℕ) → IsLaidOut m → HasBlock m file b → stripe_at m file b < length m.stripes
stripe-within m file b laid has = lie-within m.files 0 0 (length m.stripes) (length m.sizes) file.0 (b / 64) laid.order (omega arith)

numbered : (n at : ℕ) (cell : Option ℕ) → IsNumbered n cell → cell ≡ Some at → (at ≡ n) × (size_cells cell ≡ 1)
numbered n at None is e = absurd (none-some at e)
numbered n at (Some cell) is e = let same : cell ≡ at = cc in (sym same ∙ is, refl)

size-above : (fs : List FilePlace) (from size stripes sizes : ℕ) → LieInOrder from size fs stripes sizes → size ≤ sizes
size-above [] from size stripes sizes lies = let e = lies.1 in omega arith
size-above (f ∷ fs) from size stripes sizes lies = let h = size-above fs (from + stripes_of f.blocks) (size + size_cells f.size) stripes sizes lies.2 in omega arith

lies-size : (fs : List FilePlace) (from size stripes sizes k at : ℕ) → LieInOrder from size fs stripes sizes → (get_or fs k no_file).size ≡ Some at → at < sizes
lies-size [] from size stripes sizes k at lies e = absurd (none-some at e)
lies-size (f ∷ fs) from size stripes sizes zero at lies e =
    let n = numbered size at f.size lies.1 e in
    let h = size-above fs (from + stripes_of f.blocks) (size + size_cells f.size) stripes sizes lies.2 in
    omega (arith, n.0, n.1, h)
lies-size (f ∷ fs) from size stripes sizes (suc k) at lies e = lies-size fs (from + stripes_of f.blocks) (size + size_cells f.size) stripes sizes k at lies.2 e

-- the size cell of a file is one of the mount's
pub size-within : (m : MountView) (file : FileId) (at : ℕ) → IsLaidOut m → (file_at m file).size ≡ Some at → at < length m.sizes
size-within m file at laid e = lies-size m.files 0 0 (length m.stripes) (length m.sizes) file.0 at laid.order e

-- a file with a size exists
pub sized_file : (m : MountView) (file : FileId) → HasSize m file → HasFile m file
sized_file m file has = grind (arith, get_or_past)

-- a stripe of a mount is one of its files
stripe-of : (fs : List FilePlace) (from size stripes sizes k : ℕ) → LieInOrder from size fs stripes sizes → from ≤ k → k < stripes → (f : ℕ) × (file : FilePlace) × (i : ℕ) × (slice_get fs f ≡ Some file) × (i < stripes_of file.blocks) × (file.stripe + i ≡ k)
stripe-of [] from size stripes sizes k lies low below = let e = lies.0 in absurd (omega arith)
stripe-of (f ∷ fs) from size stripes sizes k lies low below = by (nat_lt k (from + stripes_of f.blocks)) refl (λ past. stripe-of fs (from + stripes_of f.blocks) (size + size_cells f.size) stripes sizes k lies.2 past below)
  where
    by : (b : Bool) → nat_lt k (from + stripes_of f.blocks) ≡ b
        → (from + stripes_of f.blocks ≤ k → (n : ℕ) × (file : FilePlace) × (i : ℕ) × (slice_get fs n ≡ Some file) × (i < stripes_of file.blocks) × (file.stripe + i ≡ k))
        → (n : ℕ) × (file : FilePlace) × (i : ℕ) × (slice_get (f ∷ fs) n ≡ Some file) × (i < stripes_of file.blocks) × (file.stripe + i ≡ k)
    by true e rest =
        let first = lies.0 in
        let less : k < from + stripes_of f.blocks = grind (arith, nat_tests) in
        (0, f, k - from, refl, omega arith, omega arith)
    by false e rest =
        let past : from + stripes_of f.blocks ≤ k = grind (arith, nat_tests) in
        let h = rest past in
        (suc h.0, h.1, h.2, h.3, h.4, h.5)

-- each stripe was opened with the sizes of the mount
pub stripe-sizes : (m : MountView) (k : ℕ) (cell : CellView RangeView) → IsLaidOut m → slice_get m.stripes k ≡ Some cell → cell.opening.geometry ≡ m.geometry
stripe-sizes m k cell laid here =
    let h = stripe-of m.files 0 0 (length m.stripes) (length m.sizes) k laid.order (omega arith) (within m.stripes k cell here) in
    let there : slice_get m.stripes (h.1.stripe + h.2) ≡ Some cell = ap (slice_get m.stripes) h.5 ∙ here in
    (laid.stripes h.0 h.1 h.2 cell h.3 h.4 there).sizes
