-- Sectors taken out of their places.
use Rattle.std.proofs.Common.{◌≡◌, ℕ, zero, suc, ◌+◌, ◌<◌, ◌≤◌, ◌==◌, Bool, true, false, if◌then◌else◌, Option, Some, None, List, [], ◌∷◌, ◌++◌, length, map, drop, set, get_or, All, refl, sym, ◌∙◌, ap, subst, arith, append_assoc, length-set}
use Rattle.std.specs.Option.{option_to_list}
use Rattle.std.proofs.lemmas.Bool.{eqb-true, eq-eqb}
use Rattle.std.proofs.lemmas.Bool.Decides.{nat_tests}
use Rattle.std.proofs.lemmas.List.{append-nil, drop_more}
use Rattle.std.proofs.lemmas.List.Elements.{All-cons, All-head, All-nil, All-tail}
use Rattle.iob_base.specs.DeviceBlock.{DeviceBlock}
use Rattle.io_model.specs.declared.file.FileSpec.{FileSpec}
use Rattle.file_stripes.specs.Files.{numbers_of_file, numbers_of_files}
use Rattle.file_stripes.specs.Taking.{AreInOrder, AreNamedOnce, IsWhole, not_named, sector_numbers, somes, taken, taken_out, times, weight}

pub weight-append : (f : DeviceBlock → ℕ) (xs ys : List DeviceBlock) → weight f (xs ++ ys) ≡ weight f xs + weight f ys
weight-append f [] ys = omega arith
weight-append f (x ∷ xs) ys = omega (arith, weight-append f xs ys)

pub somes-append : (xs ys : List (Option DeviceBlock)) → somes (xs ++ ys) ≡ somes xs ++ somes ys
somes-append [] ys = refl
somes-append (x ∷ xs) ys = ap (λ l. option_to_list x ++ l) (somes-append xs ys) ∙ sym (append_assoc (option_to_list x) (somes xs) (somes ys))

pub taken-append : (ds es : List ℕ) (places : List (Option DeviceBlock)) → taken (ds ++ es) places ≡ taken ds places ++ taken es (taken_out ds places)
taken-append [] es places = refl
taken-append (d ∷ ds) es places =
    ap (λ l. option_to_list (get_or places d None) ++ l) (taken-append ds es (set places d None))
    ∙ sym (append_assoc (option_to_list (get_or places d None)) (taken ds (set places d None)) (taken es (taken_out ds (set places d None))))

pub taken_out-append : (ds es : List ℕ) (places : List (Option DeviceBlock)) → taken_out (ds ++ es) places ≡ taken_out es (taken_out ds places)
taken_out-append [] es places = refl
taken_out-append (d ∷ ds) es places = taken_out-append ds es (set places d None)

-- what one place loses is what was taken there
weight_place : (f : DeviceBlock → ℕ) (d : ℕ) (places : List (Option DeviceBlock)) → weight f (option_to_list (get_or places d None)) + weight f (somes (set places d None)) ≡ weight f (somes places)
weight_place f d [] = refl
weight_place f zero (place ∷ places) = sym (weight-append f (option_to_list place) (somes places))
weight_place f (suc d) (place ∷ places) =
    omega (arith, weight-append f (option_to_list place) (somes places), weight-append f (option_to_list place) (somes (set places d None)), weight_place f d places)

-- what was taken and what is left weigh what there was
pub weight_taken : (f : DeviceBlock → ℕ) (ds : List ℕ) (places : List (Option DeviceBlock)) → weight f (taken ds places) + weight f (somes (taken_out ds places)) ≡ weight f (somes places)
weight_taken f [] places = omega arith
weight_taken f (d ∷ ds) places =
    omega (arith, weight-append f (option_to_list (get_or places d None)) (taken ds (set places d None)), weight_taken f ds (set places d None), weight_place f d places)

-- the place of a sector whose number is not among these
abbrev place_of : List ℕ → DeviceBlock → Option DeviceBlock
place_of ns s = if times s.number ns == 0 then Some s else None

-- the places of sectors, after those of these numbers were taken out
abbrev pub left_over : List ℕ → List DeviceBlock → List (Option DeviceBlock)
left_over ns [] = []
left_over ns (s ∷ ss) = place_of ns s ∷ left_over ns ss

pub left_none : (ss : List DeviceBlock) → map Some ss ≡ left_over [] ss
left_none [] = refl
left_none (s ∷ ss) = ap (λ l. Some s ∷ l) (left_none ss)

somes_front : (t : Bool) (s : DeviceBlock) (xs ys : List DeviceBlock) → xs ≡ ys → option_to_list (if t then Some s else None) ++ xs ≡ (if t then s ∷ ys else ys)
somes_front true s xs ys e = ap (λ l. s ∷ l) e
somes_front false s xs ys e = e

pub somes_left : (ns : List ℕ) (ss : List DeviceBlock) → somes (left_over ns ss) ≡ not_named ns ss
somes_left ns [] = refl
somes_left ns (s ∷ ss) = somes_front (times s.number ns == 0) s (somes (left_over ns ss)) (not_named ns ss) (somes_left ns ss)

pub times-append : (x : ℕ) (ns ms : List ℕ) → times x (ns ++ ms) ≡ times x ns + times x ms
times-append x [] ms = omega arith
times-append x (n ∷ ns) ms = omega (arith, times-append x ns ms)

abbrev one_if : Bool → ℕ
one_if t = if t then 1 else 0

one_same : (x d : ℕ) → d ≡ x → one_if (d == x) ≡ 1
one_same x d h = ap one_if (eq-eqb d x h)

one_other : (x d : ℕ) → (d ≡ x → ⊥) → one_if (d == x) ≡ 0
one_other x d h = grind (arith, nat_tests)

times_more : (x d : ℕ) (ns : List ℕ) → (d ≡ x → ⊥) → times x (ns ++ d ∷ []) ≡ times x ns
times_more x d ns h = omega (arith, times-append x ns (d ∷ []), one_other x d h)

place_same : (ns : List ℕ) (s : DeviceBlock) (d : ℕ) → (d ≡ s.number → ⊥) → place_of ns s ≡ place_of (ns ++ d ∷ []) s
place_same ns s d h = ap (λ n. if n == 0 then Some s else None) (sym (times_more s.number d ns h))

is_zero : (n : ℕ) → 0 < n → (n == 0) ≡ false
is_zero n h = grind (arith, nat_tests)

abbrev some_if : Bool → DeviceBlock → Option DeviceBlock
some_if t s = if t then Some s else None

place_gone : (ns : List ℕ) (s : DeviceBlock) (d : ℕ) → d ≡ s.number → None ≡ place_of (ns ++ d ∷ []) s
place_gone ns s d h =
    ap (λ t. some_if t s) (sym (is_zero (times s.number (ns ++ d ∷ [])) (omega (arith, times-append s.number ns (d ∷ []), one_same s.number d h))))

left_past : (b d : ℕ) (ns : List ℕ) (ss : List DeviceBlock) → AreInOrder b ss → d < b → left_over ns ss ≡ left_over (ns ++ d ∷ []) ss
left_past b d ns [] h m = refl
left_past b d ns (s ∷ ss) h m =
    ap (λ p. p ∷ left_over ns ss) (place_same ns s d (λ e. omega (arith, h.0)))
    ∙ ap (λ l. place_of (ns ++ d ∷ []) s ∷ l) (left_past (b + 1) d ns ss h.1 (omega arith))

-- one place more is empty
pub set_left : (b i : ℕ) (ns : List ℕ) (ss : List DeviceBlock) → AreInOrder b ss → i < length ss → set (left_over ns ss) i None ≡ left_over (ns ++ (b + i) ∷ []) ss
set_left b i ns [] h m = absurd (omega arith)
set_left b zero ns (s ∷ ss) h m =
    ap (λ p. p ∷ left_over ns ss) (place_gone ns s (b + 0) (omega (arith, h.0)))
    ∙ ap (λ l. place_of (ns ++ (b + 0) ∷ []) s ∷ l) (left_past (b + 1) (b + 0) ns ss h.1 (omega arith))
set_left b (suc i) ns (s ∷ ss) h m =
    let at : b + 1 + i ≡ b + suc i = omega arith in
    ap (λ p. p ∷ set (left_over ns ss) i None) (place_same ns s (b + suc i) (λ e. omega (arith, h.0)))
    ∙ ap (λ l. place_of (ns ++ (b + suc i) ∷ []) s ∷ l) (set_left (b + 1) i ns ss h.1 (omega arith) ∙ ap (λ n. left_over (ns ++ n ∷ []) ss) at)

-- the sector of a number that was not taken stands in its place
record Stands (d : ℕ) (place : Option DeviceBlock) : Type 0 where
  sector : DeviceBlock
  is : place ≡ Some sector
  number : sector.number ≡ d

at_left : (b i : ℕ) (ns : List ℕ) (ss : List DeviceBlock) → AreInOrder b ss → i < length ss → times (b + i) ns ≡ 0 → Stands (b + i) (get_or (left_over ns ss) i None)
at_left b i ns [] h m z = absurd (omega arith)
at_left b zero ns (s ∷ ss) h m z =
    let same : b + 0 ≡ s.number = omega (arith, h.0) in
    let none : times s.number ns ≡ 0 = ap (λ n. times n ns) (sym same) ∙ z in
    record { sector = s; is = ap (λ n. if n == 0 then Some s else None) none; number = sym same }
at_left b (suc i) ns (s ∷ ss) h m z =
    let at : b + 1 + i ≡ b + suc i = omega arith in
    let T : ℕ → Type 0 = λ d. Stands d (get_or (left_over ns ss) i None) in
    subst T at (at_left (b + 1) i ns ss h.1 (omega arith) (ap (λ n. times n ns) at ∙ z))

-- the sectors that are taken have the numbers that are named, and the others are left
pub record Parted (ns ds : List ℕ) (ss : List DeviceBlock) : Type 0 where
  pub numbers : sector_numbers (taken ds (left_over ns ss)) ≡ ds
  pub left : taken_out ds (left_over ns ss) ≡ left_over (ns ++ ds) ss

pub parted : (ns ds : List ℕ) (ss : List DeviceBlock) → AreInOrder 0 ss → All (λ d. d < length ss) ds → ((x : ℕ) → times x (ns ++ ds) ≤ 1) → Parted ns ds ss
parted ns [] ss h b o = record { numbers = refl; left = ap (λ l. left_over l ss) (sym (append-nil ns)) }
parted ns (d ∷ ds) ss h b o =
    let below : d < length ss = All-head (λ x. x < length ss) d ds b in
    let zero_at : 0 + d ≡ d = omega arith in
    let once : times d ns ≡ 0 = omega (arith, o d, times-append d ns (d ∷ ds), one_same d d refl) in
    let stands : Stands (0 + d) (get_or (left_over ns ss) d None) = at_left 0 d ns ss h below (ap (λ n. times n ns) zero_at ∙ once) in
    let next : set (left_over ns ss) d None ≡ left_over (ns ++ d ∷ []) ss = set_left 0 d ns ss h below ∙ ap (λ n. left_over (ns ++ n ∷ []) ss) zero_at in
    let shift : (ns ++ d ∷ []) ++ ds ≡ ns ++ d ∷ ds = append_assoc ns (d ∷ []) ds in
    let rest : Parted (ns ++ d ∷ []) ds ss = parted (ns ++ d ∷ []) ds ss h (All-tail (λ x. x < length ss) d ds b) (λ x. omega (arith, o x, ap (times x) shift)) in
    record {
      numbers =
          ap (λ p. sector_numbers (option_to_list p ++ taken ds (set (left_over ns ss) d None))) stands.is
          ∙ ap (λ l. stands.sector.number ∷ sector_numbers (taken ds l)) next
          ∙ ap (λ l. stands.sector.number ∷ l) rest.numbers
          ∙ ap (λ n. n ∷ ds) (stands.number ∙ zero_at);
      left = ap (taken_out ds) next ∙ rest.left ∙ ap (λ l. left_over l ss) shift;
    }

somes_all : (ss : List DeviceBlock) → somes (map Some ss) ≡ ss
somes_all [] = refl
somes_all (s ∷ ss) = ap (λ l. s ∷ l) (somes_all ss)

pub length_numbers : (ss : List DeviceBlock) → length (sector_numbers ss) ≡ length ss
length_numbers [] = refl
length_numbers (s ∷ ss) = ap suc (length_numbers ss)

-- what is handed out of a device, and what is left of it
pub record HandedOut (sectors held free : List DeviceBlock) (ds : List ℕ) : Type 0 where
  pub numbers : sector_numbers held ≡ ds
  pub left : free ≡ not_named ds sectors
  pub all : (f : DeviceBlock → ℕ) → weight f held + weight f free ≡ weight f sectors

pub handed_out : (sectors held free : List DeviceBlock) (ds : List ℕ) (places after : List (Option DeviceBlock)) → AreInOrder 0 sectors → AreNamedOnce (length sectors) ds → places ≡ map Some sectors → held ≡ taken ds places → after ≡ taken_out ds places → free ≡ somes after → HandedOut sectors held free ds
handed_out sectors held free ds places after h n p t a f =
    let first : places ≡ left_over [] sectors = p ∙ left_none sectors in
    let q : Parted [] ds sectors = parted [] ds sectors h n.below n.once in
    record {
      numbers = ap sector_numbers (t ∙ ap (taken ds) first) ∙ q.numbers;
      left = f ∙ ap somes (a ∙ ap (taken_out ds) first ∙ q.left) ∙ somes_left ds sectors;
      all = λ w.
          ap (λ l. weight w l + weight w free) t ∙ ap (λ l. weight w (taken ds places) + weight w l) (f ∙ ap somes a)
          ∙ weight_taken w ds places ∙ ap (λ l. weight w (somes l)) p ∙ ap (weight w) (somes_all sectors);
    }

-- one place more
pub somes_more : (places : List (Option DeviceBlock)) (place : Option DeviceBlock) (free new : List DeviceBlock) → free ≡ somes places → new ≡ free ++ option_to_list place → new ≡ somes (places ++ place ∷ [])
somes_more places place free new f n =
    n ∙ ap (λ l. l ++ option_to_list place) f ∙ ap (λ l. somes places ++ l) (sym (append-nil (option_to_list place))) ∙ sym (somes-append places (place ∷ []))

-- the numbers of the files from one on, file after file
pub files_next : (files : List FileSpec) (i : ℕ) (file : FileSpec) → i < length files → file ≡ get_or files i file → numbers_of_files (drop i files) ≡ numbers_of_file file ++ numbers_of_files (drop (i + 1) files)
files_next files i file h is =
    ap numbers_of_files (drop_more files i file h) ∙ ap (λ f. numbers_of_file f ++ numbers_of_files (drop (i + 1) files)) (sym is)

-- what is still to be taken of some numbers, after the first of them
pub record Going (rest all : List ℕ) (held first : List DeviceBlock) (places begun : List (Option DeviceBlock)) : Type 0 where
  pub held_are : held ++ taken rest places ≡ first ++ taken all begun
  pub places_are : taken_out rest places ≡ taken_out all begun
  pub below : All (λ d. d < length places) rest

pub going_all : (all : List ℕ) (held : List DeviceBlock) (places : List (Option DeviceBlock)) → All (λ d. d < length places) all → Going all all held held places places
going_all all held places b = record { held_are = refl; places_are = refl; below = b }

length_taken : (ds : List ℕ) (places : List (Option DeviceBlock)) → length (taken_out ds places) ≡ length places
length_taken [] places = refl
length_taken (d ∷ ds) places = length_taken ds (set places d None) ∙ length-set places d None

all_first : {A : Type 0} (P : A → Type 0) (xs ys : List A) → All P (xs ++ ys) → All P xs
all_first P [] ys h = All-nil P
all_first P (x ∷ xs) ys h = All-cons P x xs (All-head P x (xs ++ ys) h) (all_first P xs ys (All-tail P x (xs ++ ys) h))

all_last : {A : Type 0} (P : A → Type 0) (xs ys : List A) → All P (xs ++ ys) → All P ys
all_last P [] ys h = h
all_last P (x ∷ xs) ys h = all_last P xs ys (All-tail P x (xs ++ ys) h)

-- the numbers that are next are those of places
pub going_below : (now part rest all : List ℕ) (held first : List DeviceBlock) (places begun : List (Option DeviceBlock)) → now ≡ part ++ rest → Going now all held first places begun → All (λ d. d < length places) part
going_below now part rest all held first places begun is g =
    let P : ℕ → Type 0 = λ d. d < length places in
    let A : List ℕ → Type 0 = λ l. All P l in
    all_first P part rest (subst A is g.below)

-- some more are taken
pub going_more : (now part rest all : List ℕ) (held first more : List DeviceBlock) (places begun after : List (Option DeviceBlock)) → now ≡ part ++ rest → Going now all held first places begun → more ≡ held ++ taken part places → after ≡ taken_out part places → Going rest all more first after begun
going_more now part rest all held first more places begun after is g m a =
    let P : ℕ → Type 0 = λ d. d < length places in
    let A : List ℕ → Type 0 = λ l. All P l in
    let B : ℕ → Type 0 = λ n. All (λ d. d < n) rest in
    record {
      held_are =
          ap (λ l. l ++ taken rest after) m ∙ append_assoc held (taken part places) (taken rest after)
          ∙ ap (λ l. held ++ (taken part places ++ taken rest l)) a ∙ ap (λ l. held ++ l) (sym (taken-append part rest places))
          ∙ ap (λ l. held ++ taken l places) (sym is) ∙ g.held_are;
      places_are = ap (taken_out rest) a ∙ sym (taken_out-append part rest places) ∙ ap (λ l. taken_out l places) (sym is) ∙ g.places_are;
      below = subst B (sym (ap length a ∙ length_taken part places)) (all_last P part rest (subst A is g.below));
    }

-- all are taken
pub going_none : (now all : List ℕ) (held first : List DeviceBlock) (places begun : List (Option DeviceBlock)) → now ≡ [] → Going now all held first places begun → (held ≡ first ++ taken all begun) × (places ≡ taken_out all begun)
going_none now all held first places begun none g = (
  sym (append-nil held) ∙ ap (λ l. held ++ taken l places) (sym none) ∙ g.held_are,
  ap (λ l. taken_out l places) (sym none) ∙ g.places_are,
)

-- all is handed out
pub finished : (sectors held free : List DeviceBlock) (now all : List ℕ) (places begun : List (Option DeviceBlock)) → AreInOrder 0 sectors → AreNamedOnce (length sectors) all → begun ≡ map Some sectors → now ≡ [] → Going now all held [] places begun → free ≡ somes places → HandedOut sectors held free all
finished sectors held free now all places begun o n b none g f =
    let done = going_none now all held [] places begun none g in
    handed_out sectors held free all begun places o n b done.0 done.1 f

-- no number stands twice among sectors in order
none_before : (x n : ℕ) (ss : List DeviceBlock) → AreInOrder n ss → x < n → times x (sector_numbers ss) ≡ 0
none_before x n [] h m = refl
none_before x n (s ∷ ss) h m =
    omega (arith, one_other x s.number (λ e. omega (arith, h.0)), none_before x (n + 1) ss h.1 (omega arith))

once_front : (t : Bool) (x n d : ℕ) (rest : ℕ) → (d == x) ≡ t → d ≡ n → (x < n + 1 → rest ≡ 0) → rest ≤ 1 → one_if (d == x) + rest ≤ 1
once_front true x n d rest is e h m = omega (arith, ap one_if is, h (omega (arith, eqb-true d x is)))
once_front false x n d rest is e h m = omega (arith, ap one_if is)

once_in_order : (x n : ℕ) (ss : List DeviceBlock) → AreInOrder n ss → times x (sector_numbers ss) ≤ 1
once_in_order x n [] h = omega arith
once_in_order x n (s ∷ ss) h =
    once_front (s.number == x) x n s.number (times x (sector_numbers ss)) refl h.0 (λ m. none_before x (n + 1) ss h.1 m) (once_in_order x (n + 1) ss h.1)

-- how often a number stands is a weight
abbrev is_number : ℕ → DeviceBlock → ℕ
is_number x s = one_if (s.number == x)

times_weight : (x : ℕ) (ss : List DeviceBlock) → times x (sector_numbers ss) ≡ weight (is_number x) ss
times_weight x [] = refl
times_weight x (s ∷ ss) = ap (λ n. one_if (s.number == x) + n) (times_weight x ss)

pub handed_once : (sectors held free : List DeviceBlock) (ds : List ℕ) → AreInOrder 0 sectors → HandedOut sectors held free ds → (x : ℕ) → times x (sector_numbers held ++ sector_numbers free) ≤ 1
handed_once sectors held free ds o h x =
    omega (arith, times-append x (sector_numbers held) (sector_numbers free), times_weight x held, times_weight x free, times_weight x sectors, h.all (is_number x), once_in_order x 0 sectors o)

-- that all sectors are whole is a weight of 0
abbrev zero_if : Bool → ℕ
zero_if t = if t then 0 else 1

abbrev misfit : ℕ → DeviceBlock → ℕ
misfit size s = zero_if (length s.bytes == size)

fits_of : (t : Bool) → zero_if t ≡ 0 → t ≡ true
fits_of true h = refl
fits_of false h = absurd (omega arith)

whole_weight : (size : ℕ) (ss : List DeviceBlock) → All (IsWhole size) ss → weight (misfit size) ss ≡ 0
whole_weight size [] h = refl
whole_weight size (s ∷ ss) h =
    omega (arith, ap zero_if (eq-eqb (length s.bytes) size (All-head (IsWhole size) s ss h)), whole_weight size ss (All-tail (IsWhole size) s ss h))

weight_whole : (size : ℕ) (ss : List DeviceBlock) → weight (misfit size) ss ≡ 0 → All (IsWhole size) ss
weight_whole size [] h = All-nil (IsWhole size)
weight_whole size (s ∷ ss) h =
    let first : misfit size s ≡ 0 = omega arith in
    let rest : weight (misfit size) ss ≡ 0 = omega arith in
    All-cons (IsWhole size) s ss (eqb-true (length s.bytes) size (fits_of (length s.bytes == size) first)) (weight_whole size ss rest)

pub handed_whole : (size : ℕ) (sectors held free : List DeviceBlock) (ds : List ℕ) → HandedOut sectors held free ds → All (IsWhole size) sectors → All (IsWhole size) held × All (IsWhole size) free
handed_whole size sectors held free ds h w = (
  weight_whole size held (omega (arith, h.all (misfit size), whole_weight size sectors w)),
  weight_whole size free (omega (arith, h.all (misfit size), whole_weight size sectors w)),
)
