-- Where the stripes and sizes of files lie that lie one after the other.
use Rattle.std.proofs.Common.{◌≡◌, ℕ, zero, suc, ◌+◌, ◌-◌, ◌<◌, ◌≤◌, Option, Some, None, List, [], ◌∷◌, length, inl, inr, refl, sym, ◌∙◌, ap, arith}
use Rattle.std.specs.Prelude.{slice_get}
use Rattle.std.proofs.lemmas.Bool.{cases_lt}
use Rattle.std.proofs.lemmas.Option.{none-some}
use Rattle.mount_parts.specs.MountView.{IsNumbered, LieInOrder, size_cells, stripes_of}
use Rattle.mount_parts.specs.declared.file.FilePlace.{FilePlace}

lie-above : (fs : List FilePlace) (from size stripes sizes : ℕ) → LieInOrder from size fs stripes sizes → from ≤ stripes
lie-above [] from size stripes sizes lies = let e = lies.0 in omega arith
lie-above (f ∷ fs) from size stripes sizes lies = let h = lie-above fs (from + stripes_of f.blocks) (size + size_cells f.size) stripes sizes lies.2 in omega arith

sizes-above : (fs : List FilePlace) (from size stripes sizes : ℕ) → LieInOrder from size fs stripes sizes → size ≤ sizes
sizes-above [] from size stripes sizes lies = let e = lies.1 in omega arith
sizes-above (f ∷ fs) from size stripes sizes lies = let h = sizes-above fs (from + stripes_of f.blocks) (size + size_cells f.size) stripes sizes lies.2 in omega arith

-- all stripes of a file are among those of all files
pub file-room : (fs : List FilePlace) (from size stripes sizes k : ℕ) (file : FilePlace) → LieInOrder from size fs stripes sizes → slice_get fs k ≡ Some file → file.stripe + stripes_of file.blocks ≤ stripes
file-room [] from size stripes sizes k file lies at = absurd (none-some file at)
file-room (f ∷ fs) from size stripes sizes zero file lies at =
    let e : f ≡ file = cc in
    let s : f.stripe ≡ file.stripe = ap (λ x. x.stripe) e in
    let b : stripes_of f.blocks ≡ stripes_of file.blocks = ap (λ x. stripes_of x.blocks) e in
    let h = lie-above fs (from + stripes_of f.blocks) (size + size_cells f.size) stripes sizes lies.2 in
    let z = lies.0 in
    omega arith
file-room (f ∷ fs) from size stripes sizes (suc k) file lies at = file-room fs (from + stripes_of f.blocks) (size + size_cells f.size) stripes sizes k file lies.2 at

numbered : (n at : ℕ) (cell : Option ℕ) → IsNumbered n cell → cell ≡ Some at → (at ≡ n) × (size_cells cell ≡ 1)
numbered n at None is e = absurd (none-some at e)
numbered n at (Some cell) is e = let same : cell ≡ at = cc in (sym same ∙ is, refl)

-- the size cell of a file is among those of all files
pub size-room : (fs : List FilePlace) (from size stripes sizes k at : ℕ) (file : FilePlace) → LieInOrder from size fs stripes sizes → slice_get fs k ≡ Some file → file.size ≡ Some at → at < sizes
size-room [] from size stripes sizes k at file lies there e = absurd (none-some file there)
size-room (f ∷ fs) from size stripes sizes zero at file lies there e =
    let same : f ≡ file = cc in
    let n = numbered size at f.size lies.1 (ap (λ x. x.size) same ∙ e) in
    let h = sizes-above fs (from + stripes_of f.blocks) (size + size_cells f.size) stripes sizes lies.2 in
    omega (arith, n.0, n.1, h)
size-room (f ∷ fs) from size stripes sizes (suc k) at file lies there e = size-room fs (from + stripes_of f.blocks) (size + size_cells f.size) stripes sizes k at file lies.2 there e

-- a stripe is the i-th of a file
pub record IsOfFile (fs : List FilePlace) (stripe : ℕ) : Type 0 where
  pub k : ℕ
  pub file : FilePlace
  pub i : ℕ
  pub here : slice_get fs k ≡ Some file
  pub below : i < stripes_of file.blocks
  pub stripe_is : stripe ≡ file.stripe + i

pub of-file : (fs : List FilePlace) (from size stripes sizes stripe : ℕ) → LieInOrder from size fs stripes sizes → from ≤ stripe → stripe < stripes → IsOfFile fs stripe
of-file [] from size stripes sizes stripe lies low high = absurd (let e = lies.0 in omega arith)
of-file (f ∷ fs) from size stripes sizes stripe lies low high = elim (cases_lt stripe (from + stripes_of f.blocks)) [
  | inl in_it ↦ record { k = 0; file = f; i = stripe - from; here = refl; below = omega arith; stripe_is = (let e = lies.0 in omega arith) }
  | inr past ↦
      let rest = of-file fs (from + stripes_of f.blocks) (size + size_cells f.size) stripes sizes stripe lies.2 past high in
      record { k = suc rest.k; file = rest.file; i = rest.i; here = rest.here; below = rest.below; stripe_is = rest.stripe_is }
]

pub some-file : (fs : List FilePlace) (stripes sizes : ℕ) → LieInOrder 0 0 fs stripes sizes → 0 < stripes → 0 < length fs
some-file [] stripes sizes lies some = absurd (let e = lies.0 in omega arith)
some-file (f ∷ fs) stripes sizes lies some = omega arith
