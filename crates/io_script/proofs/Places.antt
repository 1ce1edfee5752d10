-- Which blocks are taken, once a line was added.
use Rattle.std.proofs.Common.{◌≡◌, ◌≢◌, ℕ, zero, suc, ◌+◌, ◌*◌, ◌/◌, ◌%◌, ◌<◌, ◌≤◌, Bool, true, false, ◌||◌, ◌&&◌, nat_le, nat_lt, nat_eq, List, [], ◌∷◌, ◌++◌, length, get_or, set, refl, sym, ap, ◌∙◌, subst, arith, ◌-◌}
use Rattle.std.specs.List.{list_any}
use Rattle.std.proofs.Math.ListN.{get_or-append}
use Rattle.std.proofs.Math.Seq.{get_or-append_right}
use Rattle.std.proofs.lemmas.List.{get_or-set_same, get_or-set_other, length-set, length-append}
use Rattle.std.proofs.lemmas.List.Folds.{list_any-append}
use Rattle.std.proofs.lemmas.Bool.{eqb-true, eqb-false, ltb-true, ltb-false, eq-eqb}
use Rattle.std.proofs.lemmas.Bool.Decides.{nat_tests}
use Rattle.io_model.specs.Kinds.{covers}
use Rattle.io_model.specs.declared.file.Extent.{Extent}
use Rattle.io_model.specs.declared.file.FileSpec.{FileSpec}
use Rattle.io_script.specs.GrammarLines.{with_extent_at}
use Rattle.io_script.specs.Marks.{AreMarks, is_in_run, some_from}
use Rattle.io_script.specs.Reading.{is_place_taken}
use Rattle.io_script.specs.SoFar.{file_at, no_file, is_taken, is_placed, is_given, covers_on_device, device_start}

-- marks of one test are marks of another that is the same below their number
pub AreMarks-same : (marks : List Bool) (n : ℕ) (f g : ℕ → Bool) → AreMarks marks n f → ((i : ℕ) → i < n → f i ≡ g i) → AreMarks marks n g
AreMarks-same marks n f g m same = record { many = m.many; each = λ i h. m.each i h ∙ same i h }

or_last : (a b : Bool) → (a || (b || false)) ≡ (a || b)
or_last true b = refl
or_last false true = refl
or_last false false = refl

or_swap : (a b c : Bool) → ((a || b) || c) ≡ ((a || c) || b)
or_swap true b c = refl
or_swap false true true = refl
or_swap false true false = refl
or_swap false false true = refl
or_swap false false false = refl

-- one item more at the end of a list
pub list_any-last : {X : Type 0} (p : X → Bool) (xs : List X) (x : X) → list_any p (xs ++ x ∷ []) ≡ (list_any p xs || p x)
list_any-last p xs x = list_any-append p xs (x ∷ []) ∙ or_last (list_any p xs) (p x)

-- an item takes the place of another, which passes where this one does, and elsewhere too
pub list_any-set : {X : Type 0} (p : X → Bool) (more : Bool) (xs : List X) (i : ℕ) (d y : X) → i < length xs → p y ≡ (p (get_or xs i d) || more)
    → list_any p (set xs i y) ≡ (list_any p xs || more)
list_any-set p more [] i d y h e = absurd (omega arith)
list_any-set p more (x ∷ xs) zero d y h e = rw e (or_swap (p x) more (list_any p xs))
list_any-set p more (x ∷ xs) (suc i) d y h e = ap (λ t. p x || t) (list_any-set p more xs i d y (omega arith) e) ∙ or_assoc (p x) (list_any p xs) more
  where
    or_assoc : (a b c : Bool) → (a || (b || c)) ≡ ((a || b) || c)
    or_assoc true b c = refl
    or_assoc false b c = refl

-- a device block is taken with one more extent where it was before, or is one of the extent's
pub is_taken-more : (files : List FileSpec) (i : ℕ) (e : Extent) (d : ℕ) → i < length files
    → is_taken (with_extent_at files i e) d ≡ (is_taken files d || is_in_run (device_start e) e.length d)
is_taken-more files i e d h =
    list_any-set (λ f. list_any (covers_on_device d) f.extents) (covers_on_device d e) files i no_file _ h
    (list_any-last (covers_on_device d) (file_at files i).extents e)

-- a file without extents takes none
pub is_taken-file : (files : List FileSpec) (f : FileSpec) (d : ℕ) → f.extents ≡ [] → is_taken (files ++ f ∷ []) d ≡ is_taken files d
is_taken-file files f d e =
    list_any-last (λ f. list_any (covers_on_device d) f.extents) files f ∙ rw e (or_none (is_taken files d))
  where
    or_none : (a : Bool) → (a || false) ≡ a
    or_none true = refl
    or_none false = refl

-- a block is given with one more data line where it was before, or is this line's
pub is_given-more : (blocks : List (ℕ × List ℕ)) (g : ℕ × List ℕ) (d : ℕ) → is_given (blocks ++ g ∷ []) d ≡ (is_given blocks d || nat_eq g.0 d)
is_given-more blocks g d = list_any-last (λ h. nat_eq h.0 d) blocks g

-- a place of the marks is its file's place, and the block in it
place_parts : (at i : ℕ) → at / 65536 ≡ i → at ≡ i * 65536 + at % 65536
place_parts at i e = omega arith

covers-place : (i b at block n : ℕ) → at ≡ i * 65536 + b → (nat_le block b && nat_lt b (block + n)) ≡ is_in_run (i * 65536 + block) n at
covers-place i b at block n e = grind (arith, nat_tests)

outside-place : (i at block n : ℕ) → block + n ≤ 65536 → at / 65536 ≢ i → is_in_run (i * 65536 + block) n at ≡ false
outside-place i at block n fits other = grind (arith, nat_tests)

-- a place is taken with one more extent where it was before, or is one of the extent's
pub is_place_taken-more : (files : List FileSpec) (i : ℕ) (e : Extent) (at : ℕ) → i < length files → e.block + e.length ≤ 65536
    → is_place_taken (with_extent_at files i e) at ≡ (is_place_taken files at || is_in_run (i * 65536 + e.block) e.length at)
is_place_taken-more files i e at h fits = by_test (nat_eq (at / 65536) i) refl
  where
    or_none : (a : Bool) → a ≡ (a || false)
    or_none true = refl
    or_none false = refl

    by_test : (t : Bool) → nat_eq (at / 65536) i ≡ t → is_place_taken (with_extent_at files i e) at ≡ (is_place_taken files at || is_in_run (i * 65536 + e.block) e.length at)
    by_test true is =
        let here : at / 65536 ≡ i = eqb-true (at / 65536) i is in
        let new : file_at (with_extent_at files i e) i ≡ record (file_at files i) { extents = (file_at files i).extents ++ e ∷ [] } = get_or-set_same files i _ no_file h in
        let run : covers e (at % 65536) ≡ is_in_run (i * 65536 + e.block) e.length at = covers-place i (at % 65536) at e.block e.length (place_parts at i here) in
        ap (λ j. is_placed (file_at (with_extent_at files i e) j) (at % 65536)) here
        ∙ ap (λ f. is_placed f (at % 65536)) new
        ∙ list_any-last (λ x. covers x (at % 65536)) (file_at files i).extents e
        ∙ ap (λ t. is_placed (file_at files i) (at % 65536) || t) run
        ∙ ap (λ j. is_placed (file_at files j) (at % 65536) || is_in_run (i * 65536 + e.block) e.length at) (sym here)
    by_test false is =
        let other : at / 65536 ≢ i = eqb-false (at / 65536) i is in
        ap (λ f. is_placed f (at % 65536)) (get_or-set_other files i (at / 65536) _ no_file other)
        ∙ or_none (is_place_taken files at)
        ∙ ap (λ t. is_place_taken files at || t) (sym (outside-place i at e.block e.length fits other))

-- the places of the files before are as they were with one more file
pub is_place_taken-file : (files : List FileSpec) (f : FileSpec) (at : ℕ) → at < length files * 65536 → is_place_taken files at ≡ is_place_taken (files ++ f ∷ []) at
is_place_taken-file files f at h =
    let within : at / 65536 < length files = omega arith in
    ap (λ g. is_placed g (at % 65536)) (sym (get_or-append files (f ∷ []) no_file (at / 65536) within))

-- those of a file without extents are free
pub is_place_taken-beyond : (files : List FileSpec) (f : FileSpec) (at : ℕ) → f.extents ≡ [] → length files * 65536 ≤ at → is_place_taken (files ++ f ∷ []) at ≡ false
is_place_taken-beyond files f at none h =
    let beyond : length files ≤ at / 65536 = omega arith in
    ap (λ g. is_placed g (at % 65536)) (get_or-append_right files (f ∷ []) (at / 65536) no_file beyond) ∙ free (at / 65536 - length files)
  where
    free : (k : ℕ) → is_placed (get_or (f ∷ []) k no_file) (at % 65536) ≡ false
    free zero = rw none refl
    free (suc k) = refl

-- the places of a file's blocks are its blocks
pub some_from-place : (files : List FileSpec) (i : ℕ) (n block : ℕ) → block + n ≤ 65536
    → some_from (is_place_taken files) (i * 65536 + block) n ≡ some_from (is_placed (file_at files i)) block n
some_from-place files i zero block h = refl
some_from-place files i (suc n) block h =
    let place : (i * 65536 + block) / 65536 ≡ i = omega arith in
    let inner : (i * 65536 + block) % 65536 ≡ block = omega arith in
    let next : i * 65536 + block + 1 ≡ i * 65536 + (block + 1) = omega arith in
    let more = some_from-place files i n (block + 1) (omega arith) in
    let here : is_place_taken files (i * 65536 + block) ≡ is_placed (file_at files i) block = rw (place, inner) refl in
    rw (here, next, more) refl

-- the blocks of a file, one of which has one more extent
pub blocks-more : (files : List FileSpec) (i : ℕ) (e : Extent) → ((k : ℕ) → (file_at files k).blocks ≤ 65536) → i < length files
    → (k : ℕ) → (file_at (with_extent_at files i e) k).blocks ≤ 65536
blocks-more files i e all h k = by_test (nat_eq k i) refl
  where
    P : FileSpec → Type 0
    P f = f.blocks ≤ 65536

    by_test : (t : Bool) → nat_eq k i ≡ t → (file_at (with_extent_at files i e) k).blocks ≤ 65536
    by_test true is =
        let same : k ≡ i = eqb-true k i is in
        subst (λ j. P (file_at (with_extent_at files i e) j)) (sym same) (subst P (sym (get_or-set_same files i _ no_file h)) (all i))
    by_test false is = subst P (sym (get_or-set_other files i k _ no_file (eqb-false k i is))) (all k)

pub blocks-file : (files : List FileSpec) (f : FileSpec) → ((k : ℕ) → (file_at files k).blocks ≤ 65536) → f.blocks ≤ 65536
    → (k : ℕ) → (file_at (files ++ f ∷ []) k).blocks ≤ 65536
blocks-file files f all h k = by_test (nat_lt k (length files)) refl
  where
    P : FileSpec → Type 0
    P g = g.blocks ≤ 65536

    last : (j : ℕ) → P (get_or (f ∷ []) j no_file)
    last zero = h
    last (suc j) = omega arith

    by_test : (t : Bool) → nat_lt k (length files) ≡ t → (file_at (files ++ f ∷ []) k).blocks ≤ 65536
    by_test true is = subst P (sym (get_or-append files (f ∷ []) no_file k (ltb-true k (length files) is))) (all k)
    by_test false is = subst P (sym (get_or-append_right files (f ∷ []) k no_file (ltb-false k (length files) is))) (last (k - length files))

-- marks of a list are marks of the same list by its own length
pub AreMarks-own : (marks items : List Bool) (n : ℕ) (f : ℕ → Bool) → marks ≡ items → AreMarks items n f → AreMarks marks (length marks) f
AreMarks-own marks items n f e m =
    subst (λ (l : List Bool). AreMarks l (length l) f) (sym e) (record { many = refl; each = λ i h. m.each i (omega (arith, m.many)) })

-- the marks of all files with one more extent, whose places were marked
pub placed_with : (placed : List Bool) (files now : List FileSpec) (i : ℕ) (e : Extent) → now ≡ with_extent_at files i e → i < length files → e.block + e.length ≤ 65536
    → AreMarks placed (length files * 65536) (λ at. is_place_taken files at || is_in_run (i * 65536 + e.block) e.length at)
    → AreMarks placed (length now * 65536) (is_place_taken now)
placed_with placed files now i e is h fits m =
    let many : length (with_extent_at files i e) ≡ length files = length-set files i _ in
    subst (λ (fs : List FileSpec). AreMarks placed (length fs * 65536) (is_place_taken fs)) (sym is)
    (subst (λ (n : ℕ). AreMarks placed (n * 65536) (is_place_taken (with_extent_at files i e))) (sym many)
    (AreMarks-same placed (length files * 65536) _ _ m (λ at _. sym (is_place_taken-more files i e at h fits))))

-- the marks of the device with one more extent, whose blocks were marked
pub taken_with : (taken : List Bool) (blocks : ℕ) (files now : List FileSpec) (i dev : ℕ) (e : Extent) → now ≡ with_extent_at files i e → i < length files → device_start e ≡ dev
    → AreMarks taken blocks (λ d. is_taken files d || is_in_run dev e.length d) → AreMarks taken blocks (is_taken now)
taken_with taken blocks files now i dev e is h start m =
    subst (λ (fs : List FileSpec). AreMarks taken blocks (is_taken fs)) (sym is)
    (AreMarks-same taken blocks _ _ m (λ d _. ap (λ low. is_taken files d || is_in_run low e.length d) (sym start) ∙ sym (is_taken-more files i e d h)))

-- the marks of the data with one more block, which was marked
pub given_with : (given : List Bool) (n d : ℕ) (blocks now : List (ℕ × List ℕ)) (bytes : List ℕ) → now ≡ blocks ++ (d, bytes) ∷ [] → d < n
    → AreMarks given n (is_given blocks) → AreMarks (set given d true) n (is_given now)
given_with given n d blocks now bytes is h m =
    subst (λ (bs : List (ℕ × List ℕ)). AreMarks (set given d true) n (is_given bs)) (sym is)
    record {
      many = length-set given d true ∙ m.many;
      each = λ i low. by_test i low (nat_eq i d) refl ∙ sym (is_given-more blocks (d, bytes) i);
    }
  where
    or_none : (a : Bool) → a ≡ (a || false)
    or_none true = refl
    or_none false = refl

    or_all : (a : Bool) → true ≡ (a || true)
    or_all true = refl
    or_all false = refl

    by_test : (i : ℕ) → i < n → (t : Bool) → nat_eq i d ≡ t → get_or (set given d true) i false ≡ (is_given blocks i || nat_eq d i)
    by_test i low true e =
        let same : i ≡ d = eqb-true i d e in
        let back : nat_eq d i ≡ true = eq-eqb d i (sym same) in
        rw (back, same) (get_or-set_same given d true false (omega (arith, m.many)) ∙ or_all (is_given blocks d))
    by_test i low false e =
        let other : i ≢ d = eqb-false i d e in
        let back : nat_eq d i ≡ false = grind (arith, nat_tests) in
        rw back (get_or-set_other given d i true false other ∙ m.each i low ∙ or_none (is_given blocks i))

-- the marks of all files with one more file, for which places were added
pub placed_file : (placed : List Bool) (files now : List FileSpec) (f : FileSpec) → now ≡ files ++ f ∷ [] → f.extents ≡ []
    → AreMarks placed ((length files + 1) * 65536) (is_place_taken (files ++ f ∷ [])) → AreMarks placed (length now * 65536) (is_place_taken now)
placed_file placed files now f is none m =
    let many : length (files ++ f ∷ []) ≡ length files + 1 = simp length-append refl in
    subst (λ (fs : List FileSpec). AreMarks placed (length fs * 65536) (is_place_taken fs)) (sym is)
    (subst (λ (n : ℕ). AreMarks placed (n * 65536) (is_place_taken (files ++ f ∷ []))) (sym many) m)

pub taken_file : (taken : List Bool) (blocks : ℕ) (files now : List FileSpec) (f : FileSpec) → now ≡ files ++ f ∷ [] → f.extents ≡ []
    → AreMarks taken blocks (is_taken files) → AreMarks taken blocks (is_taken now)
taken_file taken blocks files now f is none m =
    subst (λ (fs : List FileSpec). AreMarks taken blocks (is_taken fs)) (sym is)
    (AreMarks-same taken blocks _ _ m (λ d _. sym (is_taken-file files f d none)))
