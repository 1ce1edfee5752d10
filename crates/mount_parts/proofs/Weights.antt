-- What lists weigh that are alike item by item, and what the sectors of runs and of files weigh.
use Rattle.std.proofs.Common.{◌≡◌, ℕ, zero, suc, ◌+◌, ◌≤◌, Some, List, [], ◌∷◌, ◌++◌, length, take, drop, refl, sym, ◌∙◌, ap, arith}
use Rattle.std.specs.Prelude.{All, slice_get}
use Rattle.std.proofs.lemmas.List.{drop-drop, take-append-drop}
use Rattle.std.proofs.lemmas.List.Elements.{All-cons}
use Rattle.io_model.specs.declared.file.BlockEnd.{BlockEnd}
use Rattle.io_model.specs.declared.file.FileEnd.{FileEnd}
use Rattle.file_stripes.specs.Ends.{blocks_in}
use Rattle.file_stripes.specs.declared.run_end.RunEnd.{RunEnd}
use Rattle.turn_cell.specs.Stakes.{total}
use Rattle.turn_cell.proofs.Sums.{total-append}
use Rattle.mount_parts.specs.Ends.{end_numbers, sector_number}
use Rattle.mount_parts.specs.FileEnds.{IsFileEnd, runs_of}
use Rattle.mount_parts.specs.MountView.{LieInOrder, size_cells, stripes_of}
use Rattle.mount_parts.specs.Unmounts.{file_numbers}
use Rattle.mount_parts.specs.declared.file.FilePlace.{FilePlace}
use Rattle.mount_parts.specs.declared.size_end.SizeEnd.{SizeEnd}

-- two lists that weigh the same in each place weigh the same
pub total-alike : {A B : Type 0} (f : A → ℕ) (g : B → ℕ) (xs : List A) (ys : List B) → length xs ≡ length ys → ((k : ℕ) (x : A) (y : B) → slice_get xs k ≡ Some x → slice_get ys k ≡ Some y → f x ≡ g y) → total f xs ≡ total g ys
total-alike f g [] [] long same = refl
total-alike f g [] (y ∷ ys) long same = absurd (omega arith)
total-alike f g (x ∷ xs) [] long same = absurd (omega arith)
total-alike f g (x ∷ xs) (y ∷ ys) long same =
    let here : f x ≡ g y = same 0 x y refl refl in
    let rest : total f xs ≡ total g ys = total-alike f g xs ys (omega arith) (λ k a b ha hb. same (suc k) a b ha hb) in
    omega arith

-- what holds in each place holds of all
pub all-from : {A : Type 0} (P : A → Type 0) (xs : List A) → ((k : ℕ) (x : A) → slice_get xs k ≡ Some x → P x) → All P xs
all-from P [] each = λ i d h. absurd (omega (arith, h))
all-from P (x ∷ xs) each = All-cons P x xs (each 0 x refl) (all-from P xs (λ k y at. each (suc k) y at))

module _ (f : ℕ → ℕ) where
  -- what the numbers of the sectors of a run weigh
  abbrev pub run_weight : RunEnd → ℕ
  run_weight r = total f (end_numbers r.blocks)

  numbers-append : (xs ys : List BlockEnd) → total f (end_numbers (xs ++ ys)) ≡ total f (end_numbers xs) + total f (end_numbers ys)
  numbers-append [] ys = omega arith
  numbers-append (x ∷ xs) ys =
      let rest = numbers-append xs ys in
      let one = total-append f (sector_number x.sector) (end_numbers (xs ++ ys)) in
      let two = total-append f (sector_number x.sector) (end_numbers xs) in
      omega arith

  own-weigh : (own : List RunEnd) → total f (end_numbers (blocks_in own)) ≡ total run_weight own
  own-weigh [] = refl
  own-weigh (e ∷ own) =
      let rest = own-weigh own in
      let both = numbers-append e.blocks (blocks_in own) in
      omega arith

  front-weighs : (runs : List RunEnd) (at n : ℕ) → total run_weight (drop at runs) ≡ total run_weight (take n (drop at runs)) + total run_weight (drop (at + n) runs)
  front-weighs runs at n =
      ap (total run_weight) (sym (take-append-drop n (drop at runs))) ∙ total-append run_weight (take n (drop at runs)) (drop n (drop at runs)) ∙ ap (λ l. total run_weight (take n (drop at runs)) + total run_weight l) (drop-drop n at runs)

  none-left : (runs : List RunEnd) (n : ℕ) → length runs ≤ n → total run_weight (drop n runs) ≡ 0
  none-left [] zero all = refl
  none-left [] (suc n) all = refl
  none-left (r ∷ runs) zero all = absurd (omega arith)
  none-left (r ∷ runs) (suc n) all = none-left runs n (omega arith)

  -- the sectors of the blocks of all files weigh what those of all runs weigh
  pub files-weigh : (fs : List FilePlace) (at cell stripes cells : ℕ) (runs : List RunEnd) (sizes : List SizeEnd) (ends : List FileEnd) → LieInOrder at cell fs stripes cells → length runs ≡ stripes → length ends ≡ length fs
      → ((k : ℕ) (file : FilePlace) (end : FileEnd) → slice_get fs k ≡ Some file → slice_get ends k ≡ Some end → IsFileEnd runs sizes file end) → total f (file_numbers ends) ≡ total run_weight (drop at runs)
  files-weigh [] at cell stripes cells runs sizes [] lies long count each = sym (none-left runs at (let e = lies.0 in omega arith))
  files-weigh [] at cell stripes cells runs sizes (e ∷ ends) lies long count each = absurd (omega arith)
  files-weigh (g ∷ fs) at cell stripes cells runs sizes [] lies long count each = absurd (omega arith)
  files-weigh (g ∷ fs) at cell stripes cells runs sizes (e ∷ ends) lies long count each =
      let n : ℕ = stripes_of g.blocks in
      let rest : total f (file_numbers ends) ≡ total run_weight (drop (at + n) runs) = files-weigh fs (at + n) (cell + size_cells g.size) stripes cells runs sizes ends lies.2 long (omega arith) (λ k file end hf he. each (suc k) file end hf he) in
      let own : total f (end_numbers e.blocks) ≡ total run_weight (take n (drop at runs)) =
      ap (λ b. total f (end_numbers b)) (each 0 g e refl refl).joined.blocks ∙ own-weigh (runs_of g runs) ∙ ap (λ s. total run_weight (take n (drop s runs))) lies.0 in
      let both = front-weighs runs at n in
      let split = total-append f (end_numbers e.blocks) (file_numbers ends) in
      omega arith
