-- A file is given a size: its extents and blocks stay.
use Rattle.std.proofs.Common.{◌≡◌, ◌≢◌, ℕ, ◌*◌, ◌/◌, ◌%◌, ◌<◌, ◌≤◌, Bool, true, false, ◌||◌, nat_eq, List, Some, length, refl, sym, ap, ◌∙◌, subst}
use Rattle.std.specs.List.{list_any}
use Rattle.std.proofs.lemmas.Bool.{eqb-true, eqb-false}
use Rattle.std.proofs.lemmas.List.{get_or-set_same, get_or-set_other, length-set}
use Rattle.io_model.specs.declared.file.FileSpec.{FileSpec}
use Rattle.io_script.specs.GrammarLines.{with_size_at}
use Rattle.io_script.specs.Marks.{AreMarks}
use Rattle.io_script.specs.Reading.{is_place_taken}
use Rattle.io_script.specs.SoFar.{file_at, no_file, is_taken, is_placed, covers_on_device}
use Rattle.io_script.proofs.Places.{AreMarks-same, list_any-set}

or_none : (a : Bool) → a ≡ (a || false)
or_none true = refl
or_none false = refl

is_taken-sized : (files : List FileSpec) (i n d : ℕ) → i < length files → is_taken files d ≡ is_taken (with_size_at files i n) d
is_taken-sized files i n d h =
    let taken : FileSpec → Bool = λ f. list_any (covers_on_device d) f.extents in
    or_none (is_taken files d) ∙ sym (list_any-set taken false files i no_file _ h (or_none (taken (file_at files i))))

is_place_taken-sized : (files : List FileSpec) (i n at : ℕ) → i < length files → is_place_taken files at ≡ is_place_taken (with_size_at files i n) at
is_place_taken-sized files i n at h = by_test (nat_eq (at / 65536) i) refl
  where
    by_test : (t : Bool) → nat_eq (at / 65536) i ≡ t → is_place_taken files at ≡ is_place_taken (with_size_at files i n) at
    by_test true is =
        let here : at / 65536 ≡ i = eqb-true (at / 65536) i is in
        let new : file_at (with_size_at files i n) i ≡ record (file_at files i) { size = Some n } = get_or-set_same files i _ no_file h in
        ap (λ j. is_placed (file_at files j) (at % 65536)) here
        ∙ sym (ap (λ f. is_placed f (at % 65536)) new)
        ∙ sym (ap (λ j. is_placed (file_at (with_size_at files i n) j) (at % 65536)) here)
    by_test false is =
        let other : at / 65536 ≢ i = eqb-false (at / 65536) i is in
        sym (ap (λ f. is_placed f (at % 65536)) (get_or-set_other files i (at / 65536) _ no_file other))

pub blocks-sized : (files : List FileSpec) (i n : ℕ) → ((k : ℕ) → (file_at files k).blocks ≤ 65536) → i < length files
    → (k : ℕ) → (file_at (with_size_at files i n) k).blocks ≤ 65536
blocks-sized files i n all h k = by_test (nat_eq k i) refl
  where
    P : FileSpec → Type 0
    P f = f.blocks ≤ 65536

    by_test : (t : Bool) → nat_eq k i ≡ t → (file_at (with_size_at files i n) k).blocks ≤ 65536
    by_test true is =
        let same : k ≡ i = eqb-true k i is in
        subst (λ j. P (file_at (with_size_at files i n) j)) (sym same) (subst P (sym (get_or-set_same files i _ no_file h)) (all i))
    by_test false is = subst P (sym (get_or-set_other files i k _ no_file (eqb-false k i is))) (all k)

-- the marks of the device stay those of its files
pub taken_sized : (taken : List Bool) (blocks : ℕ) (files now : List FileSpec) (i n : ℕ) → now ≡ with_size_at files i n → i < length files
    → AreMarks taken blocks (is_taken files) → AreMarks taken blocks (is_taken now)
taken_sized taken blocks files now i n is h m =
    subst (λ (fs : List FileSpec). AreMarks taken blocks (is_taken fs)) (sym is)
    (AreMarks-same taken blocks _ _ m (λ d _. is_taken-sized files i n d h))

-- and so do those of the files' places
pub placed_sized : (placed : List Bool) (files now : List FileSpec) (i n : ℕ) → now ≡ with_size_at files i n → i < length files
    → AreMarks placed (length files * 65536) (is_place_taken files) → AreMarks placed (length now * 65536) (is_place_taken now)
placed_sized placed files now i n is h m =
    let many : length (with_size_at files i n) ≡ length files = length-set files i _ in
    subst (λ (fs : List FileSpec). AreMarks placed (length fs * 65536) (is_place_taken fs)) (sym is)
    (subst (λ (k : ℕ). AreMarks placed (k * 65536) (is_place_taken (with_size_at files i n))) (sym many)
    (AreMarks-same placed (length files * 65536) _ _ m (λ at _. is_place_taken-sized files i n at h)))
