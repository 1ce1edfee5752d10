-- What is left of files, one after another.
use Rattle.std.proofs.Common.{◌≡◌, ℕ, zero, suc, ◌+◌, ◌<◌, Option, Some, None, List, [], ◌∷◌, ◌++◌, length, take, drop, get_or, inl, inr, refl, sym, ◌∙◌, ap, subst, arith}
use Rattle.std.specs.Prelude.{slice_get}
use Rattle.std.proofs.lemmas.List.{drop_more, drop-drop, length-append}
use Rattle.std.proofs.lemmas.Option.{none-some, slice_get-get_or}
use Rattle.io_model.specs.declared.file.FileEnd.{FileEnd}
use Rattle.file_stripes.specs.declared.run_end.RunEnd.{RunEnd}
use Rattle.mount_parts.specs.FileEnds.{AreFileEnds, AreRunsOf, HasSizeEnd, IsFileEnd, JoinsRuns, first_size, runs_of, size_end}
use Rattle.mount_parts.specs.MountView.{IsNumbered, LieInOrder, no_file, size_cells, stripes_of}
use Rattle.mount_parts.specs.declared.file.FilePlace.{FilePlace}
use Rattle.mount_parts.specs.declared.size_end.SizeEnd.{SizeEnd}
use Rattle.mount_parts.proofs.StripeEnds.{added-at}

module _ {A : Type 0} where
  -- what stands in a list without its front, and in its front
  pub get-drop : (xs : List A) (n i : ℕ) → slice_get (drop n xs) i ≡ slice_get xs (n + i)
  get-drop xs zero i = ap (slice_get xs) (let e : i ≡ 0 + i = omega arith in e)
  get-drop [] (suc n) i = refl
  get-drop (x ∷ xs) (suc n) i = get-drop xs n i ∙ ap (slice_get (x ∷ xs)) (let e : suc (n + i) ≡ suc n + i = omega arith in e)

  pub get-take : (xs : List A) (n i : ℕ) → i < n → slice_get (take n xs) i ≡ slice_get xs i
  get-take xs zero i below = absurd (omega arith)
  get-take [] (suc n) i below = refl
  get-take (x ∷ xs) (suc n) zero below = refl
  get-take (x ∷ xs) (suc n) (suc i) below = get-take xs n i (omega arith)

-- the first files were ended, and the runs and sizes of the others are left
pub record EndedSoFar (files : List FilePlace) (runs : List RunEnd) (sizes : List SizeEnd) (i : ℕ) (rest : List RunEnd) (left : List SizeEnd) (ends : List FileEnd) : Type 0 where
  pub at : ℕ
  pub cell : ℕ
  pub order : LieInOrder at cell (drop i files) (length runs) (length sizes)
  pub rest_is : rest ≡ drop at runs
  pub left_is : left ≡ drop cell sizes
  pub count : length ends ≡ i
  pub each : (k : ℕ) (file : FilePlace) (end : FileEnd) → slice_get files k ≡ Some file → slice_get ends k ≡ Some end → IsFileEnd runs sizes file end

pub ended-none : (files : List FilePlace) (runs : List RunEnd) (sizes : List SizeEnd) (ends : List FileEnd) → LieInOrder 0 0 files (length runs) (length sizes) → ends ≡ [] → EndedSoFar files runs sizes 0 runs sizes ends
ended-none files runs sizes ends order none = record {
  at = 0;
  cell = 0;
  order = order;
  rest_is = refl;
  left_is = refl;
  count = ap length none;
  each = λ k file end hf he. absurd (none-some end (ap (λ l. slice_get l k) (sym none) ∙ he));
}

module _ (files : List FilePlace) (runs : List RunEnd) (sizes : List SizeEnd) (i : ℕ) (rest : List RunEnd) (left : List SizeEnd) (ends : List FileEnd) (file : FilePlace) (so : EndedSoFar files runs sizes i rest left ends) (below : i < length files) (is : file ≡ get_or files i no_file) where
  here : slice_get files i ≡ Some file
  here = slice_get-get_or files i no_file below ∙ ap (λ f. Some f) (sym is)

  lies-next : LieInOrder so.at so.cell (file ∷ drop (i + 1) files) (length runs) (length sizes)
  lies-next = subst (λ l. LieInOrder so.at so.cell l (length runs) (length sizes)) (drop_more files i no_file below ∙ ap (λ f. f ∷ drop (i + 1) files) (sym is)) so.order

  own-runs : take (stripes_of file.blocks) rest ≡ runs_of file runs
  own-runs = ap (take (stripes_of file.blocks)) (so.rest_is ∙ ap (λ n. drop n runs) (sym lies-next.0))

  pub next-runs : ((k : ℕ) (f : FilePlace) → slice_get files k ≡ Some f → AreRunsOf f (runs_of f runs)) → AreRunsOf file (take (stripes_of file.blocks) rest)
  next-runs are = subst (AreRunsOf file) (sym own-runs) (are i file here)

  first-is : (size : Option ℕ) → IsNumbered so.cell size → first_size size left ≡ size_end size sizes
  first-is None n = refl
  first-is (Some cell) n = ap (λ l. slice_get l 0) so.left_is ∙ get-drop sizes so.cell 0 ∙ ap (slice_get sizes) (let e : so.cell + 0 ≡ cell = omega arith in e)

  pub ended-more : (end : FileEnd) (rest' : List RunEnd) (left' : List SizeEnd) (all : List FileEnd) → JoinsRuns (take (stripes_of file.blocks) rest) end → HasSizeEnd (first_size file.size left) end.size end.sizes
      → rest' ≡ drop (stripes_of file.blocks) rest → left' ≡ drop (size_cells file.size) left → all ≡ ends ++ end ∷ [] → EndedSoFar files runs sizes (i + 1) rest' left' all
  ended-more end rest' left' all joined size rest_is left_is all_is = record {
    at = so.at + stripes_of file.blocks;
    cell = so.cell + size_cells file.size;
    order = lies-next.2;
    rest_is = rest_is ∙ ap (drop (stripes_of file.blocks)) so.rest_is ∙ drop-drop (stripes_of file.blocks) so.at runs;
    left_is = left_is ∙ ap (drop (size_cells file.size)) so.left_is ∙ drop-drop (size_cells file.size) so.cell sizes;
    count = ap length all_is ∙ length-append ends (end ∷ []) ∙ ap (λ n. n + 1) so.count;
    each = λ k f e hf he. elim (added-at ends end e k (ap (λ l. slice_get l k) (sym all_is) ∙ he)) [
      | inl at ↦ so.each k f e hf at
      | inr last ↦
          let n : k ≡ i = last.0 ∙ so.count in
          let both : Some file ≡ Some f = sym here ∙ ap (slice_get files) (sym n) ∙ hf in
          let same : file ≡ f = cc in
          let mine : IsFileEnd runs sizes file end = record {
            joined = subst (λ own. JoinsRuns own end) own-runs joined;
            size = subst (λ o. HasSizeEnd o end.size end.sizes) (first-is file.size lies-next.1) size;
          } in
          subst (λ g. IsFileEnd runs sizes g e) same (subst (IsFileEnd runs sizes file) last.1 mine)
    ];
  }

pub ended-all : (files : List FilePlace) (runs : List RunEnd) (sizes : List SizeEnd) (i : ℕ) (rest : List RunEnd) (left : List SizeEnd) (ends : List FileEnd) → i ≡ length files → EndedSoFar files runs sizes i rest left ends → AreFileEnds files runs sizes ends
ended-all files runs sizes i rest left ends all so = record { count = so.count ∙ all; each = so.each }
