-- Lines of two lists at once, once one of the lists is used up.
use Rattle.std.proofs.Common.{◌≡◌, ℕ, zero, suc, ◌≤◌, min, List, [], ◌∷◌, length, drop, Bool, refl, arith}
use Rattle.iob_base.specs.declared.answer.Answer.{Answer}
use Rattle.io_model.specs.RunText.{call_lines, close_lines, files_lines}
use Rattle.io_model.specs.declared.file.FileEnd.{FileEnd}
use Rattle.io_model.specs.declared.run.CallEnd.{CallEnd}
use Rattle.io_model.specs.declared.script.Call.{Call}

call_lines-no_ends : (n : ℕ) (calls : List Call) (rest : List ℕ) → call_lines n calls [] rest ≡ rest
call_lines-no_ends n [] rest = refl
call_lines-no_ends n (call ∷ calls) rest = refl

pub call_lines-ended : (n i : ℕ) (calls : List Call) (ends : List CallEnd) (rest : List ℕ) → min (length calls) (length ends) ≤ i
    → call_lines n (drop i calls) (drop i ends) rest ≡ rest
call_lines-ended n zero [] ends rest h = refl
call_lines-ended n zero (call ∷ calls) [] rest h = refl
call_lines-ended n zero (call ∷ calls) (end ∷ ends) rest h = absurd (omega (arith, h))
call_lines-ended n (suc i) [] ends rest h = refl
call_lines-ended n (suc i) (call ∷ calls) [] rest h = call_lines-no_ends n (drop i calls) rest
call_lines-ended n (suc i) (call ∷ calls) (end ∷ ends) rest h = call_lines-ended n i calls ends rest (omega (arith, h))

close_lines-no_closes : (names : List (List ℕ)) (rest : List ℕ) → close_lines names [] rest ≡ rest
close_lines-no_closes [] rest = refl
close_lines-no_closes (name ∷ names) rest = refl

pub close_lines-ended : (i : ℕ) (names : List (List ℕ)) (closes : List Answer) (rest : List ℕ) → min (length names) (length closes) ≤ i
    → close_lines (drop i names) (drop i closes) rest ≡ rest
close_lines-ended zero [] closes rest h = refl
close_lines-ended zero (name ∷ names) [] rest h = refl
close_lines-ended zero (name ∷ names) (close ∷ closes) rest h = absurd (omega (arith, h))
close_lines-ended (suc i) [] closes rest h = refl
close_lines-ended (suc i) (name ∷ names) [] rest h = close_lines-no_closes (drop i names) rest
close_lines-ended (suc i) (name ∷ names) (close ∷ closes) rest h = close_lines-ended i names closes rest (omega (arith, h))

files_lines-no_ends : (image : Bool) (names : List (List ℕ)) (rest : List ℕ) → files_lines image names [] rest ≡ rest
files_lines-no_ends image [] rest = refl
files_lines-no_ends image (name ∷ names) rest = refl

pub files_lines-ended : (image : Bool) (i : ℕ) (names : List (List ℕ)) (ends : List FileEnd) (rest : List ℕ) → min (length names) (length ends) ≤ i
    → files_lines image (drop i names) (drop i ends) rest ≡ rest
files_lines-ended image zero [] ends rest h = refl
files_lines-ended image zero (name ∷ names) [] rest h = refl
files_lines-ended image zero (name ∷ names) (end ∷ ends) rest h = absurd (omega (arith, h))
files_lines-ended image (suc i) [] ends rest h = refl
files_lines-ended image (suc i) (name ∷ names) [] rest h = files_lines-no_ends image (drop i names) rest
files_lines-ended image (suc i) (name ∷ names) (end ∷ ends) rest h = files_lines-ended image i names ends rest (omega (arith, h))
