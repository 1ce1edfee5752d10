-- The lines of files as values: journals, extents, dirty blocks and image lines, each read off its text.
use Rattle.std.proofs.Common.{◌≡◌, ℕ, not, true, List, [], ◌∷◌, ◌++◌, slice_index, decimal, codes, IsTrue, refl, sym, ap, ap₂, ◌∙◌, arith}
use Rattle.std.proofs.lemmas.Bool.{false≢true}
use Rattle.std.proofs.lemmas.List.{append_cancel_left}
use Rattle.hex.specs.Hex.{IsBytes}
use Rattle.iob_base.specs.declared.stamp.Mark.{Mark}
use Rattle.iob_base.specs.declared.stamp.Mark.TheVariants.{Done, Landed, Missed}
use Rattle.io_model.specs.ReplyText.{hex_text}
use Rattle.io_model.specs.RunText.{mark_text, map_start, map_line}
use Rattle.io_model.specs.SizeText.{size_mark_text}
use Rattle.io_model.specs.declared.file.Extent.{Extent}
use Rattle.io_model.specs.declared.file.Kind.{Kind}
use Rattle.io_model.specs.declared.file.Kind.TheVariants.{Hole, Delalloc, Unwritten, Mapped}
use Rattle.io_model.specs.declared.file.SizeMark.{SizeMark}
use Rattle.io_model.specs.declared.file.SizeMark.TheVariants.{See, Grow, Cut}
use Rattle.io_script.specs.Ranges.{IsWord, IsKindInRange, IsExtentInRange, IsSizeMarkInRange}
use Rattle.io_script.specs.OneReading.{is_name_byte}
use Rattle.io_script.proofs.Reading.Lists.{heads, tails, Each, IsRead, lines, lines_one}
use Rattle.io_script.proofs.Reading.Merged.{is_span, extent_same}
use Rattle.io_script.proofs.Reading.Pieces.{stops, span_one, is_digit, is_mark, counted_one, bytes_one}

-- Stamps

abbrev pub stamp_line : ℕ × Mark → List ℕ → List ℕ
stamp_line st rest = codes " " ++ (decimal st.0 ++ (mark_text st.1 ++ rest))

abbrev EndsStamp : List ℕ → Type 0
EndsStamp a = IsTrue (stops is_digit a) × IsTrue (stops is_mark a)

mark_stops : (m : Mark) (a : List ℕ) → EndsStamp a → IsTrue (stops is_digit (mark_text m ++ a))
mark_stops Done a h = h.0
mark_stops Landed a h = refl
mark_stops Missed a h = refl

marked_apart : (c : ℕ) (a b : List ℕ) → is_mark c ≡ true → IsTrue (stops is_mark a) → a ≡ c ∷ b → ⊥
marked_apart c a b marked h e = false≢true (sym (ap not marked) ∙ sym (ap (stops is_mark) e) ∙ h)

mark_one : (m n : Mark) (a b : List ℕ) → EndsStamp a → EndsStamp b → mark_text m ++ a ≡ mark_text n ++ b → (m ≡ n) × (a ≡ b)
mark_one Done Done a b ha hb e = (refl, e)
mark_one Done Landed a b ha hb e = absurd (marked_apart 76 a b refl ha.1 e)
mark_one Done Missed a b ha hb e = absurd (marked_apart 77 a b refl ha.1 e)
mark_one Landed Done a b ha hb e = absurd (marked_apart 76 b a refl hb.1 (sym e))
mark_one Landed Landed a b ha hb e = (refl, tails 76 76 a b e)
mark_one Landed Missed a b ha hb e = let differ : 76 ≡ 77 = heads 76 77 a b e in absurd (omega (arith, differ))
mark_one Missed Done a b ha hb e = absurd (marked_apart 77 b a refl hb.1 (sym e))
mark_one Missed Landed a b ha hb e = let differ : 77 ≡ 76 = heads 77 76 a b e in absurd (omega (arith, differ))
mark_one Missed Missed a b ha hb e = (refl, tails 77 77 a b e)

stamp_one : (s t : ℕ × Mark) (a b : List ℕ) → IsWord s.0 → IsWord t.0 → EndsStamp a → EndsStamp b → stamp_line s a ≡ stamp_line t b → (s ≡ t) × (a ≡ b)
stamp_one s t a b hs ht ha hb e =
    let number = counted_one (codes " ") s.0 t.0 (mark_text s.1 ++ a) (mark_text t.1 ++ b) hs ht (mark_stops s.1 a ha) (mark_stops t.1 b hb) e in
    let mark = mark_one s.1 t.1 a b ha hb number.1 in
    (ap₂ (λ n m. (n, m)) number.0 mark.0, mark.1)

stamp_read : IsRead stamp_line (λ st. IsWord st.0) EndsStamp
stamp_read = record {
  one = stamp_one;
  begins = λ st a. (refl, refl);
}

no_stamp_ends : (a : List ℕ) (st : ℕ × Mark) (b : List ℕ) → IsWord st.0 → stamp_line st b ≡ 10 ∷ a → ⊥
no_stamp_ends a st b h e = let differ : 32 ≡ 10 = heads 32 10 (decimal st.0 ++ (mark_text st.1 ++ b)) a e in omega (arith, differ)

stamps_one : (ss ts : List (ℕ × Mark)) (a b : List ℕ) → Each (λ st. IsWord st.0) ss → Each (λ st. IsWord st.0) ts
    → lines stamp_line ss (10 ∷ a) ≡ lines stamp_line ts (10 ∷ b) → (ss ≡ ts) × (a ≡ b)
stamps_one ss ts a b hs ht e =
    let same = lines_one stamp_line (λ st. IsWord st.0) EndsStamp stamp_read ss ts (10 ∷ a) (10 ∷ b) hs ht (refl, refl) (refl, refl) (no_stamp_ends a) (no_stamp_ends b) e in
    (same.0, tails 10 10 a b same.1)

stamps_stop : (ss : List (ℕ × Mark)) (a : List ℕ) → IsTrue (stops is_digit (lines stamp_line ss (10 ∷ a)))
stamps_stop [] a = refl
stamps_stop (s ∷ ss) a = refl

-- A word, a name and a number

abbrev pub IsName : List ℕ → Type 0
IsName name = Each (λ c. is_name_byte c ≡ true) name

abbrev pub place_text : List ℕ → List ℕ → ℕ → List ℕ → List ℕ
place_text word name b rest = word ++ (name ++ (codes " " ++ (decimal b ++ rest)))

place_one : (word name other : List ℕ) (m n : ℕ) (a b : List ℕ) → IsName name → IsName other → IsWord m → IsWord n → IsTrue (stops is_digit a) → IsTrue (stops is_digit b)
    → place_text word name m a ≡ place_text word other n b → (name ≡ other) × (m ≡ n) × (a ≡ b)
place_one word name other m n a b hx hy hm hn ha hb e =
    let names = span_one is_name_byte name other (codes " " ++ (decimal m ++ a)) (codes " " ++ (decimal n ++ b)) hx hy refl refl
    (append_cancel_left word (name ++ (codes " " ++ (decimal m ++ a))) (other ++ (codes " " ++ (decimal n ++ b))) e) in
    let number = counted_one (codes " ") m n a b hm hn ha hb names.1 in
    (names.0, number.0, number.1)

-- Extents

abbrev kind_text : Kind → List ℕ → List ℕ
kind_text Hole rest = rest
kind_text Delalloc rest = codes " delalloc\n" ++ rest
kind_text (Unwritten d) rest = codes " unwritten " ++ (decimal d ++ (10 ∷ rest))
kind_text (Mapped d) rest = codes " mapped " ++ (decimal d ++ (10 ∷ rest))

map_line-start : (name : List ℕ) (e : Extent) (k : Kind) (rest : List ℕ) → is_span k ≡ true → map_line name e k rest ≡ map_start name e (kind_text k rest)
map_line-start name e Hole rest h = absurd (false≢true h)
map_line-start name e Delalloc rest h = refl
map_line-start name e (Unwritten d) rest h = refl
map_line-start name e (Mapped d) rest h = refl

kind_stops : (k : Kind) (rest : List ℕ) → is_span k ≡ true → IsTrue (stops is_digit (kind_text k rest))
kind_stops Hole rest h = absurd (false≢true h)
kind_stops Delalloc rest h = refl
kind_stops (Unwritten d) rest h = refl
kind_stops (Mapped d) rest h = refl

letters_apart : (m n : ℕ) (a b : List ℕ) → (m ≡ n → ⊥) → 32 ∷ m ∷ a ≡ 32 ∷ n ∷ b → ⊥
letters_apart m n a b differ e = differ (heads m n a b (tails 32 32 (m ∷ a) (n ∷ b) e))

kind_one : (k l : Kind) (a b : List ℕ) → is_span k ≡ true → is_span l ≡ true → IsKindInRange k → IsKindInRange l → kind_text k a ≡ kind_text l b → (k ≡ l) × (a ≡ b)
kind_one Hole l a b sk sl hk hl e = absurd (false≢true sk)
kind_one Delalloc Hole a b sk sl hk hl e = absurd (false≢true sl)
kind_one Delalloc Delalloc a b sk sl hk hl e = (refl, append_cancel_left (codes " delalloc\n") a b e)
kind_one Delalloc (Unwritten d) a b sk sl hk hl e = absurd (letters_apart 100 117 _ _ (λ h. omega (arith, h)) e)
kind_one Delalloc (Mapped d) a b sk sl hk hl e = absurd (letters_apart 100 109 _ _ (λ h. omega (arith, h)) e)
kind_one (Unwritten d) Hole a b sk sl hk hl e = absurd (false≢true sl)
kind_one (Unwritten d) Delalloc a b sk sl hk hl e = absurd (letters_apart 117 100 _ _ (λ h. omega (arith, h)) e)
kind_one (Unwritten d) (Unwritten c) a b sk sl hk hl e =
    let same = counted_one (codes " unwritten ") d c (10 ∷ a) (10 ∷ b) hk hl refl refl e in (ap Unwritten same.0, tails 10 10 a b same.1)
kind_one (Unwritten d) (Mapped c) a b sk sl hk hl e = absurd (letters_apart 117 109 _ _ (λ h. omega (arith, h)) e)
kind_one (Mapped d) Hole a b sk sl hk hl e = absurd (false≢true sl)
kind_one (Mapped d) Delalloc a b sk sl hk hl e = absurd (letters_apart 109 100 _ _ (λ h. omega (arith, h)) e)
kind_one (Mapped d) (Unwritten c) a b sk sl hk hl e = absurd (letters_apart 109 117 _ _ (λ h. omega (arith, h)) e)
kind_one (Mapped d) (Mapped c) a b sk sl hk hl e =
    let same = counted_one (codes " mapped ") d c (10 ∷ a) (10 ∷ b) hk hl refl refl e in (ap Mapped same.0, tails 10 10 a b same.1)

extent_one : (name other : List ℕ) (e f : Extent) (a b : List ℕ) → IsName name → IsName other → IsExtentInRange e → IsExtentInRange f → is_span e.kind ≡ true → is_span f.kind ≡ true
    → map_line name e e.kind a ≡ map_line other f f.kind b → (name ≡ other) × (e ≡ f) × (a ≡ b)
extent_one name other e f a b hx hy he hf se sf t =
    let place = place_one (codes "map ") name other e.block f.block (codes " " ++ (decimal e.length ++ kind_text e.kind a)) (codes " " ++ (decimal f.length ++ kind_text f.kind b)) hx hy he.0 hf.0 refl refl
    (sym (map_line-start name e e.kind a se) ∙ t ∙ map_line-start other f f.kind b sf) in
    let long = counted_one (codes " ") e.length f.length (kind_text e.kind a) (kind_text f.kind b) he.1 hf.1 (kind_stops e.kind a se) (kind_stops f.kind b sf) place.2 in
    let kind = kind_one e.kind f.kind a b se sf he.2 hf.2 long.1 in
    (place.0, extent_same e f place.1 long.0 kind.0, kind.1)

-- Sizes

abbrev pub size_stamp_line : ℕ × SizeMark → List ℕ → List ℕ
size_stamp_line st rest = codes " " ++ (decimal st.0 ++ size_mark_text st.1 rest)

abbrev pub IsSizeTurn : ℕ × SizeMark → Type 0
IsSizeTurn st = IsWord st.0 × IsSizeMarkInRange st.1

size_mark_stops : (m : SizeMark) (a : List ℕ) → IsTrue (stops is_digit (size_mark_text m a))
size_mark_stops (See n) a = refl
size_mark_stops (Grow n) a = refl
size_mark_stops (Cut n) a = refl

size_mark_one : (m n : SizeMark) (a b : List ℕ) → IsSizeMarkInRange m → IsSizeMarkInRange n → IsTrue (stops is_digit a) → IsTrue (stops is_digit b)
    → size_mark_text m a ≡ size_mark_text n b → (m ≡ n) × (a ≡ b)
size_mark_one (See m) (See n) a b hm hn ha hb e = let same = counted_one (codes "S") m n a b hm hn ha hb e in (ap See same.0, same.1)
size_mark_one (See m) (Grow n) a b hm hn ha hb e = let differ : 83 ≡ 71 = heads 83 71 (decimal m ++ a) (decimal n ++ b) e in absurd (omega (arith, differ))
size_mark_one (See m) (Cut n) a b hm hn ha hb e = let differ : 83 ≡ 67 = heads 83 67 (decimal m ++ a) (decimal n ++ b) e in absurd (omega (arith, differ))
size_mark_one (Grow m) (See n) a b hm hn ha hb e = let differ : 71 ≡ 83 = heads 71 83 (decimal m ++ a) (decimal n ++ b) e in absurd (omega (arith, differ))
size_mark_one (Grow m) (Grow n) a b hm hn ha hb e = let same = counted_one (codes "G") m n a b hm hn ha hb e in (ap Grow same.0, same.1)
size_mark_one (Grow m) (Cut n) a b hm hn ha hb e = let differ : 71 ≡ 67 = heads 71 67 (decimal m ++ a) (decimal n ++ b) e in absurd (omega (arith, differ))
size_mark_one (Cut m) (See n) a b hm hn ha hb e = let differ : 67 ≡ 83 = heads 67 83 (decimal m ++ a) (decimal n ++ b) e in absurd (omega (arith, differ))
size_mark_one (Cut m) (Grow n) a b hm hn ha hb e = let differ : 67 ≡ 71 = heads 67 71 (decimal m ++ a) (decimal n ++ b) e in absurd (omega (arith, differ))
size_mark_one (Cut m) (Cut n) a b hm hn ha hb e = let same = counted_one (codes "C") m n a b hm hn ha hb e in (ap Cut same.0, same.1)

abbrev EndsNumber : List ℕ → Type 0
EndsNumber a = IsTrue (stops is_digit a)

size_stamp_one : (s t : ℕ × SizeMark) (a b : List ℕ) → IsSizeTurn s → IsSizeTurn t → EndsNumber a → EndsNumber b → size_stamp_line s a ≡ size_stamp_line t b → (s ≡ t) × (a ≡ b)
size_stamp_one s t a b hs ht ha hb e =
    let number = counted_one (codes " ") s.0 t.0 (size_mark_text s.1 a) (size_mark_text t.1 b) hs.0 ht.0 (size_mark_stops s.1 a) (size_mark_stops t.1 b) e in
    let mark = size_mark_one s.1 t.1 a b hs.1 ht.1 ha hb number.1 in
    (ap₂ (λ n m. (n, m)) number.0 mark.0, mark.1)

size_stamp_read : IsRead size_stamp_line IsSizeTurn EndsNumber
size_stamp_read = record {
  one = size_stamp_one;
  begins = λ st a. refl;
}

no_size_stamp_ends : (a : List ℕ) (st : ℕ × SizeMark) (b : List ℕ) → IsSizeTurn st → size_stamp_line st b ≡ 10 ∷ a → ⊥
no_size_stamp_ends a st b h e = let differ : 32 ≡ 10 = heads 32 10 (decimal st.0 ++ size_mark_text st.1 b) a e in omega (arith, differ)

size_stamps_one : (ss ts : List (ℕ × SizeMark)) (a b : List ℕ) → Each IsSizeTurn ss → Each IsSizeTurn ts
    → lines size_stamp_line ss (10 ∷ a) ≡ lines size_stamp_line ts (10 ∷ b) → (ss ≡ ts) × (a ≡ b)
size_stamps_one ss ts a b hs ht e =
    let same = lines_one size_stamp_line IsSizeTurn EndsNumber size_stamp_read ss ts (10 ∷ a) (10 ∷ b) hs ht refl refl (no_size_stamp_ends a) (no_size_stamp_ends b) e in
    (same.0, tails 10 10 a b same.1)

-- the size of a file, after the turns at it where there are any
abbrev pub sized_text : List ℕ → ℕ → List (ℕ × SizeMark) → List ℕ → List ℕ
sized_text name n [] rest = place_text (codes "size ") name n (10 ∷ rest)
sized_text name n (st ∷ sts) rest = codes "sizes " ++ (name ++ lines size_stamp_line (st ∷ sts) (10 ∷ place_text (codes "size ") name n (10 ∷ rest)))

sized_one : (name other : List ℕ) (m n : ℕ) (ss ts : List (ℕ × SizeMark)) (a b : List ℕ) → IsName name → IsName other → IsWord m → IsWord n → Each IsSizeTurn ss → Each IsSizeTurn ts
    → sized_text name m ss a ≡ sized_text other n ts b → (name ≡ other) × (m ≡ n) × (ss ≡ ts) × (a ≡ b)
sized_one name other m n [] [] a b hx hy hm hn hs ht e =
    let place = place_one (codes "size ") name other m n (10 ∷ a) (10 ∷ b) hx hy hm hn refl refl e in
    (place.0, place.1, refl, tails 10 10 a b place.2)
sized_one name other m n [] (t ∷ ts) a b hx hy hm hn hs ht e = let differ : 32 ≡ 115 = ap (λ t. slice_index t 4) e in absurd (omega (arith, differ))
sized_one name other m n (s ∷ ss) [] a b hx hy hm hn hs ht e = let differ : 115 ≡ 32 = ap (λ t. slice_index t 4) e in absurd (omega (arith, differ))
sized_one name other m n (s ∷ ss) (t ∷ ts) a b hx hy hm hn hs ht e =
    let names = span_one is_name_byte name other (lines size_stamp_line (s ∷ ss) (10 ∷ place_text (codes "size ") name m (10 ∷ a))) (lines size_stamp_line (t ∷ ts) (10 ∷ place_text (codes "size ") other n (10 ∷ b))) hx hy refl refl
    (append_cancel_left (codes "sizes ") (name ++ lines size_stamp_line (s ∷ ss) (10 ∷ place_text (codes "size ") name m (10 ∷ a))) (other ++ lines size_stamp_line (t ∷ ts) (10 ∷ place_text (codes "size ") other n (10 ∷ b))) e) in
    let turns = size_stamps_one (s ∷ ss) (t ∷ ts) (place_text (codes "size ") name m (10 ∷ a)) (place_text (codes "size ") other n (10 ∷ b)) hs ht names.1 in
    let place = place_one (codes "size ") name other m n (10 ∷ a) (10 ∷ b) hx hy hm hn refl refl turns.1 in
    (names.0, place.1, turns.0, tails 10 10 a b place.2)

sized_letter : (name : List ℕ) (n : ℕ) (ss : List (ℕ × SizeMark)) (rest : List ℕ) → slice_index (sized_text name n ss rest) 0 ≡ 115
sized_letter name n [] rest = refl
sized_letter name n (s ∷ ss) rest = refl

-- Lines

-- a line of a file: the stamps of a block, its size with the turns at it, an extent that is no hole, the bytes of a dirty block, and of a mapped block
pub data Line : Type 0 where
  journal : List ℕ → ℕ → List (ℕ × Mark) → Line
  sized : List ℕ → ℕ → List (ℕ × SizeMark) → Line
  mapping : List ℕ → Extent → Line
  dirty : List ℕ → ℕ → List ℕ → Line
  image : List ℕ → ℕ → List ℕ → Line

abbrev bytes_end : List ℕ → List ℕ → List ℕ
bytes_end bytes rest = codes " " ++ (hex_text bytes ++ (10 ∷ rest))

abbrev pub line_text : Line → List ℕ → List ℕ
line_text (journal name b stamps) rest = place_text (codes "journal ") name b (lines stamp_line stamps (10 ∷ rest))
line_text (sized name n stamps) rest = sized_text name n stamps rest
line_text (mapping name e) rest = map_line name e e.kind rest
line_text (dirty name b bytes) rest = place_text (codes "dirty ") name b (bytes_end bytes rest)
line_text (image name b bytes) rest = place_text (codes "image ") name b (bytes_end bytes rest)

abbrev pub IsLawful : Line → Type 0
IsLawful (journal name b stamps) = IsName name × IsWord b × Each (λ st. IsWord st.0) stamps
IsLawful (sized name n stamps) = IsName name × IsWord n × Each IsSizeTurn stamps
IsLawful (mapping name e) = IsName name × IsExtentInRange e × (is_span e.kind ≡ true)
IsLawful (dirty name b bytes) = IsName name × IsWord b × IsBytes bytes
IsLawful (image name b bytes) = IsName name × IsWord b × IsBytes bytes

-- the first letter of a line
abbrev pub letter : Line → ℕ
letter (journal name b stamps) = 106
letter (sized name n stamps) = 115
letter (mapping name e) = 109
letter (dirty name b bytes) = 100
letter (image name b bytes) = 105

letter-extent : (name : List ℕ) (e : Extent) (k : Kind) (rest : List ℕ) → is_span k ≡ true → slice_index (map_line name e k rest) 0 ≡ 109
letter-extent name e Hole rest h = absurd (false≢true h)
letter-extent name e Delalloc rest h = refl
letter-extent name e (Unwritten d) rest h = refl
letter-extent name e (Mapped d) rest h = refl

pub letter-line : (x : Line) (rest : List ℕ) → IsLawful x → slice_index (line_text x rest) 0 ≡ letter x
letter-line (journal name b stamps) rest h = refl
letter-line (sized name n stamps) rest h = sized_letter name n stamps rest
letter-line (mapping name e) rest h = letter-extent name e e.kind rest h.2
letter-line (dirty name b bytes) rest h = refl
letter-line (image name b bytes) rest h = refl

bytes_line_one : (word name other : List ℕ) (m n : ℕ) (xs ys a b : List ℕ) → IsName name → IsName other → IsWord m → IsWord n → IsBytes xs → IsBytes ys
    → place_text word name m (bytes_end xs a) ≡ place_text word other n (bytes_end ys b) → (name ≡ other) × (m ≡ n) × (xs ≡ ys) × (a ≡ b)
bytes_line_one word name other m n xs ys a b hx hy hm hn bx by e =
    let place = place_one word name other m n (bytes_end xs a) (bytes_end ys b) hx hy hm hn refl refl e in
    let bytes = bytes_one xs ys (10 ∷ a) (10 ∷ b) bx by refl refl (append_cancel_left (codes " ") (hex_text xs ++ (10 ∷ a)) (hex_text ys ++ (10 ∷ b)) place.2) in
    (place.0, place.1, bytes.0, tails 10 10 a b bytes.1)

line_by_letter : (x y : Line) (a b : List ℕ) → letter x ≡ letter y → IsLawful x → IsLawful y → line_text x a ≡ line_text y b → (x ≡ y) × (a ≡ b)
line_by_letter (journal name m ss) (journal other n ts) a b k hx hy e =
    let place = place_one (codes "journal ") name other m n (lines stamp_line ss (10 ∷ a)) (lines stamp_line ts (10 ∷ b)) hx.0 hy.0 hx.1 hy.1 (stamps_stop ss a) (stamps_stop ts b) e in
    let stamps = stamps_one ss ts a b hx.2 hy.2 place.2 in
    (ap (λ x. journal x m ss) place.0 ∙ ap (λ x. journal other x ss) place.1 ∙ ap (journal other n) stamps.0, stamps.1)
line_by_letter (journal name m ss) y a b k hx hy e = absurd (omega (arith, k))
line_by_letter (sized name m ss) (sized other n ts) a b k hx hy e =
    let same = sized_one name other m n ss ts a b hx.0 hy.0 hx.1 hy.1 hx.2 hy.2 e in
    (ap (λ x. sized x m ss) same.0 ∙ ap (λ x. sized other x ss) same.1 ∙ ap (sized other n) same.2, same.3)
line_by_letter (sized name m ss) y a b k hx hy e = absurd (omega (arith, k))
line_by_letter (mapping name x) (mapping other y) a b k hx hy e =
    let same = extent_one name other x y a b hx.0 hy.0 hx.1 hy.1 hx.2 hy.2 e in (ap₂ mapping same.0 same.1, same.2)
line_by_letter (mapping name x) y a b k hx hy e = absurd (omega (arith, k))
line_by_letter (dirty name m xs) (dirty other n ys) a b k hx hy e =
    let same = bytes_line_one (codes "dirty ") name other m n xs ys a b hx.0 hy.0 hx.1 hy.1 hx.2 hy.2 e in
    (ap (λ x. dirty x m xs) same.0 ∙ ap (λ x. dirty other x xs) same.1 ∙ ap (dirty other n) same.2, same.3)
line_by_letter (dirty name m xs) y a b k hx hy e = absurd (omega (arith, k))
line_by_letter (image name m xs) (image other n ys) a b k hx hy e =
    let same = bytes_line_one (codes "image ") name other m n xs ys a b hx.0 hy.0 hx.1 hy.1 hx.2 hy.2 e in
    (ap (λ x. image x m xs) same.0 ∙ ap (λ x. image other x xs) same.1 ∙ ap (image other n) same.2, same.3)
line_by_letter (image name m xs) y a b k hx hy e = absurd (omega (arith, k))

-- a line can be read off its text
pub line_read : IsRead line_text IsLawful (λ a. Unit {0})
line_read = record {
  one = λ x y a b hx hy ha hb e. line_by_letter x y a b (sym (letter-line x a hx) ∙ ap (λ t. slice_index t 0) e ∙ letter-line y b hy) hx hy e;
  begins = λ x a. tt;
}
