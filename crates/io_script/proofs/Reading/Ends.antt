-- The ends of files, read off their lines.
use Rattle.std.proofs.Common.{◌≡◌, ℕ, ◌+◌, ◌==◌, ◌&&◌, not, Bool, true, false, List, [], ◌∷◌, ◌++◌, length, map, slice_index, codes, Option, Some, None, All, IsTrue, refl, sym, ap, ap₂, ◌∙◌, arith, eqb-true}
use Rattle.std.proofs.lemmas.Bool.{false≢true, and_parts}
use Rattle.std.proofs.lemmas.List.{append_cancel_left}
use Rattle.std.proofs.lemmas.Slice.Eq.{bytes_eq-Decides}
use Rattle.std.specs.List.{list_all}
use Rattle.std.specs.Str.{bytes_eq}
use Rattle.iob_base.specs.declared.stamp.Mark.{Mark}
use Rattle.iob_base.specs.declared.stamp.Stamp.{Stamp}
use Rattle.io_model.specs.Fitting.{is_file_end, is_block_end, is_merged_from, is_size_end}
use Rattle.io_model.specs.Lists.{both_from, each_from, each_pair}
use Rattle.io_model.specs.RunText.{files_lines}
use Rattle.io_model.specs.declared.file.BlockEnd.{BlockEnd}
use Rattle.io_model.specs.declared.file.Extent.{Extent}
use Rattle.io_model.specs.declared.file.FileEnd.{FileEnd}
use Rattle.io_model.specs.declared.file.FileSpec.{FileSpec}
use Rattle.io_model.specs.declared.file.Kind.TheVariants.{Hole}
use Rattle.io_model.specs.declared.file.SizeMark.{SizeMark}
use Rattle.io_model.specs.declared.file.SizeStamp.{SizeStamp}
use Rattle.io_script.specs.Ranges.{IsFileInRange}
use Rattle.io_script.specs.OneReading.{is_name_byte}
use Rattle.io_script.specs.Told.{told_stamps, told_sizes, told_page, journals_of, sizes_of, dirty_bytes_of, image_of}
use Rattle.io_script.proofs.Reading.Files.{some_stamps, stamps_at, journal_at, dirty_at, image_at, journals, sizings, sizings_of, mappings, dirties, images, file_values, files_values, files_lines-values, files_lawful, length_image}
use Rattle.io_script.proofs.Reading.Lines.{Line, journal, sized, mapping, dirty, image, IsName, IsLawful, letter, letter-line, line_text, line_read}
use Rattle.io_script.proofs.Reading.Lists.{Each, Ends, heads, cut_by, present, present_one, lines_one, each_append, each_map, map_one, length_map}
use Rattle.io_script.proofs.Reading.Merged.{spans, merged_one}

-- What stands in a line

abbrev journal_in : Line → ℕ × List (ℕ × Mark)
journal_in (journal name b stamps) = (b, stamps)
journal_in (sized name n turns) = (0, [])
journal_in (mapping name e) = (0, [])
journal_in (dirty name b bytes) = (0, [])
journal_in (image name b bytes) = (0, [])

-- a size and the turns at it
abbrev size_in : Line → ℕ × List (ℕ × SizeMark)
size_in (journal name b stamps) = (0, [])
size_in (sized name n turns) = (n, turns)
size_in (mapping name e) = (0, [])
size_in (dirty name b bytes) = (0, [])
size_in (image name b bytes) = (0, [])

no_extent : Extent
no_extent = record { block = 0; length = 0; kind = Hole }

abbrev extent_in : Line → Extent
extent_in (journal name b stamps) = no_extent
extent_in (sized name n turns) = no_extent
extent_in (mapping name e) = e
extent_in (dirty name b bytes) = no_extent
extent_in (image name b bytes) = no_extent

abbrev bytes_in : Line → ℕ × List ℕ
bytes_in (journal name b stamps) = (0, [])
bytes_in (sized name n turns) = (0, [])
bytes_in (mapping name e) = (0, [])
bytes_in (dirty name b bytes) = (b, bytes)
bytes_in (image name b bytes) = (b, bytes)

abbrev name_in : Line → List ℕ
name_in (journal name b stamps) = name
name_in (sized name n turns) = name
name_in (mapping name e) = name
name_in (dirty name b bytes) = name
name_in (image name b bytes) = name

-- One file

abbrev HasLetter : ℕ → Line → Type 0
HasLetter c x = (letter x == c) ≡ true

abbrev LacksLetter : ℕ → Line → Type 0
LacksLetter c x = (letter x == c) ≡ false

images_lack : (c : ℕ) (asked : Bool) (name : List ℕ) (end : FileEnd) → (105 == c) ≡ false → Each (LacksLetter c) (images asked name end)
images_lack c true name end h = each_map (LacksLetter c) (image_at name) (λ p. h) (present 0 (image_of end))
images_lack c false name end h = tt

dirties_lack : (c : ℕ) (asked : Bool) (name : List ℕ) (end : FileEnd) → (100 == c) ≡ false → (105 == c) ≡ false → Each (LacksLetter c) (dirties name end ++ images asked name end)
dirties_lack c asked name end h k =
    each_append (LacksLetter c) (dirties name end) (images asked name end) (each_map (LacksLetter c) (dirty_at name) (λ p. h) (present 0 (dirty_bytes_of end))) (images_lack c asked name end k)

mappings_lack : (c : ℕ) (asked : Bool) (name : List ℕ) (end : FileEnd) → (109 == c) ≡ false → (100 == c) ≡ false → (105 == c) ≡ false
    → Each (LacksLetter c) (mappings name end ++ (dirties name end ++ images asked name end))
mappings_lack c asked name end h k l =
    each_append (LacksLetter c) (mappings name end) (dirties name end ++ images asked name end) (each_map (LacksLetter c) (mapping name) (λ e. h) (spans end.extents)) (dirties_lack c asked name end k l)

-- the lines of a size, whose letter gives this answer to a test
sizings_by_letter : (c : ℕ) (answer : Bool) (name : List ℕ) (size : Option ℕ) (turns : List (ℕ × SizeMark)) → (115 == c) ≡ answer → Each (λ x. (letter x == c) ≡ answer) (sizings_of name size turns)
sizings_by_letter c answer name None turns h = tt
sizings_by_letter c answer name (Some n) turns h = (h, tt)

sizings_lack : (asked : Bool) (name : List ℕ) (end : FileEnd) → Each (LacksLetter 106) (sizings name end ++ (mappings name end ++ (dirties name end ++ images asked name end)))
sizings_lack asked name end =
    each_append (LacksLetter 106) (sizings name end) (mappings name end ++ (dirties name end ++ images asked name end)) (sizings_by_letter 106 false name end.size (told_sizes end.sizes) refl) (mappings_lack 106 asked name end refl refl refl)

-- the same lines of each kind
record SameParts (asked : Bool) (name : List ℕ) (end other : FileEnd) : Type 0 where
  journal_part : journals name end ≡ journals name other
  size_part : sizings name end ≡ sizings name other
  mapping_part : mappings name end ≡ mappings name other
  dirty_part : dirties name end ≡ dirties name other
  image_part : images asked name end ≡ images asked name other

same_parts : (asked : Bool) (name : List ℕ) (end other : FileEnd) → file_values asked name end ≡ file_values asked name other → SameParts asked name end other
same_parts asked name end other e =
    let first = cut_by (λ x. letter x == 106) (journals name end) (journals name other)
    (sizings name end ++ (mappings name end ++ (dirties name end ++ images asked name end))) (sizings name other ++ (mappings name other ++ (dirties name other ++ images asked name other)))
    (each_map (HasLetter 106) (journal_at name) (λ p. refl) (present 0 (stamps_at end))) (each_map (HasLetter 106) (journal_at name) (λ p. refl) (present 0 (stamps_at other)))
    (sizings_lack asked name end) (sizings_lack asked name other) e in
    let size = cut_by (λ x. letter x == 115) (sizings name end) (sizings name other) (mappings name end ++ (dirties name end ++ images asked name end)) (mappings name other ++ (dirties name other ++ images asked name other))
    (sizings_by_letter 115 true name end.size (told_sizes end.sizes) refl) (sizings_by_letter 115 true name other.size (told_sizes other.sizes) refl)
    (mappings_lack 115 asked name end refl refl refl) (mappings_lack 115 asked name other refl refl refl) first.1 in
    let second = cut_by (λ x. letter x == 109) (mappings name end) (mappings name other) (dirties name end ++ images asked name end) (dirties name other ++ images asked name other)
    (each_map (HasLetter 109) (mapping name) (λ x. refl) (spans end.extents)) (each_map (HasLetter 109) (mapping name) (λ x. refl) (spans other.extents))
    (dirties_lack 109 asked name end refl refl) (dirties_lack 109 asked name other refl refl) size.1 in
    let third = cut_by (λ x. letter x == 100) (dirties name end) (dirties name other) (images asked name end) (images asked name other)
    (each_map (HasLetter 100) (dirty_at name) (λ p. refl) (present 0 (dirty_bytes_of end))) (each_map (HasLetter 100) (dirty_at name) (λ p. refl) (present 0 (dirty_bytes_of other)))
    (images_lack 100 asked name end refl) (images_lack 100 asked name other refl) second.1 in
    record { journal_part = first.0; size_part = size.0; mapping_part = second.0; dirty_part = third.0; image_part = third.1 }

-- the stamps of a block, none where no line tells them
abbrev stamps_in : Option (List (ℕ × Mark)) → List (ℕ × Mark)
stamps_in None = []
stamps_in (Some stamps) = stamps

stamps_in-some : (sts : List Stamp) → stamps_in (some_stamps sts) ≡ told_stamps sts
stamps_in-some [] = refl
stamps_in-some (st ∷ sts) = refl

stamps_in-blocks : (blocks : List BlockEnd) → map stamps_in (map (λ block. some_stamps block.journal) blocks) ≡ map (λ block. told_stamps block.journal) blocks
stamps_in-blocks [] = refl
stamps_in-blocks (block ∷ blocks) = ap₂ (λ x xs. x ∷ xs) (stamps_in-some block.journal) (stamps_in-blocks blocks)

journals_same : (name : List ℕ) (end other : FileEnd) → length end.blocks ≡ length other.blocks → journals name end ≡ journals name other → journals_of end ≡ journals_of other
journals_same name end other h e =
    let p = length_map (λ block. some_stamps block.journal) end.blocks in
    let q = length_map (λ block. some_stamps block.journal) other.blocks in
    let same = present_one 0 (stamps_at end) (stamps_at other) (p ∙ h ∙ sym q) (map_one (journal_at name) journal_in (λ x. refl) (present 0 (stamps_at end)) (present 0 (stamps_at other)) e) in
    sym (stamps_in-blocks end.blocks) ∙ ap (map stamps_in) same ∙ stamps_in-blocks other.blocks

dirties_same : (name : List ℕ) (end other : FileEnd) → length end.blocks ≡ length other.blocks → dirties name end ≡ dirties name other → dirty_bytes_of end ≡ dirty_bytes_of other
dirties_same name end other h e =
    present_one 0 (dirty_bytes_of end) (dirty_bytes_of other)
    (length_map (λ block. told_page block.dirty) end.blocks ∙ h ∙ sym (length_map (λ block. told_page block.dirty) other.blocks))
    (map_one (dirty_at name) bytes_in (λ x. refl) (present 0 (dirty_bytes_of end)) (present 0 (dirty_bytes_of other)) e)

images_same : (asked : Bool) (name : List ℕ) (end other : FileEnd) → length end.blocks ≡ length other.blocks → images asked name end ≡ images asked name other → asked ≡ true → image_of end ≡ image_of other
images_same true name end other h e is =
    present_one 0 (image_of end) (image_of other)
    (length_image end.extents 0 end.blocks ∙ h ∙ sym (length_image other.extents 0 other.blocks))
    (map_one (image_at name) bytes_in (λ x. refl) (present 0 (image_of end)) (present 0 (image_of other)) e)
images_same false name end other h e is = absurd (false≢true is)

-- a file that had no size has no turns at it
no_turns : (sts : List SizeStamp) → IsTrue (length sts == 0) → told_sizes sts ≡ []
no_turns [] h = refl
no_turns (st ∷ sts) h = let none = eqb-true (length (st ∷ sts)) 0 h in absurd (omega (arith, none))

sizings_same : (name : List ℕ) (had now after : Option ℕ) (ss ts : List SizeStamp) → IsTrue (is_size_end had now ss) → IsTrue (is_size_end had after ts)
    → sizings_of name now (told_sizes ss) ≡ sizings_of name after (told_sizes ts) → (now ≡ after) × (told_sizes ss ≡ told_sizes ts)
sizings_same name None None None ss ts hs ht e = (refl, no_turns ss hs ∙ sym (no_turns ts ht))
sizings_same name None None (Some n) ss ts hs ht e = absurd (false≢true ht)
sizings_same name None (Some n) after ss ts hs ht e = absurd (false≢true hs)
sizings_same name (Some had) None after ss ts hs ht e = absurd (false≢true hs)
sizings_same name (Some had) (Some n) None ss ts hs ht e = absurd (false≢true ht)
sizings_same name (Some had) (Some n) (Some m) ss ts hs ht e =
    let same = ap size_in (heads (sized name n (told_sizes ss)) (sized name m (told_sizes ts)) [] [] e) in
    (ap (λ p. Some p.0) same, ap (λ p. p.1) same)

-- two files' ends are the same in all that their lines tell
record SameFile (asked : Bool) (end other : FileEnd) : Type 0 where
  stamps : journals_of end ≡ journals_of other
  size : end.size ≡ other.size
  turns : sizes_of end ≡ sizes_of other
  extents : end.extents ≡ other.extents
  pages : dirty_bytes_of end ≡ dirty_bytes_of other
  sectors : asked ≡ true → image_of end ≡ image_of other

file_one : (asked : Bool) (name : List ℕ) (size : ℕ) (file : FileSpec) (end other : FileEnd) → IsTrue (is_file_end size file end) → IsTrue (is_file_end size file other)
    → file_values asked name end ≡ file_values asked name other → SameFile asked end other
file_one asked name size file end other fits alike e =
    let at_end : FileEnd → Bool = λ end. each_from (is_block_end size end.extents) 0 end.blocks && is_size_end file.size end.size end.sizes in
    let p = and_parts (length end.blocks == file.blocks) (is_merged_from 0 file.blocks end.extents && at_end end) fits in
    let q = and_parts (length other.blocks == file.blocks) (is_merged_from 0 file.blocks other.extents && at_end other) alike in
    let here = and_parts (is_merged_from 0 file.blocks end.extents) (at_end end) p.1 in
    let there = and_parts (is_merged_from 0 file.blocks other.extents) (at_end other) q.1 in
    let sized_end = (and_parts (each_from (is_block_end size end.extents) 0 end.blocks) (is_size_end file.size end.size end.sizes) here.1).1 in
    let sized_other = (and_parts (each_from (is_block_end size other.extents) 0 other.blocks) (is_size_end file.size other.size other.sizes) there.1).1 in
    let count : length end.blocks ≡ length other.blocks = eqb-true (length end.blocks) file.blocks p.0 ∙ sym (eqb-true (length other.blocks) file.blocks q.0) in
    let parts = same_parts asked name end other e in
    let sizes = sizings_same name file.size end.size other.size end.sizes other.sizes sized_end sized_other parts.size_part in
    record {
      stamps = journals_same name end other count parts.journal_part;
      size = sizes.0;
      turns = sizes.1;
      extents = merged_one 0 file.blocks end.extents other.extents here.0 there.0 (map_one (mapping name) extent_in (λ x. refl) (spans end.extents) (spans other.extents) parts.mapping_part);
      pages = dirties_same name end other count parts.dirty_part;
      sectors = images_same asked name end other count parts.image_part;
    }

-- All files

abbrev HasName : List ℕ → Line → Type 0
HasName name x = bytes_eq name (name_in x) ≡ true

abbrev LacksName : List ℕ → Line → Type 0
LacksName name x = bytes_eq name (name_in x) ≡ false

-- lines of a file whose name gives this answer to a test
by_name : (answer : Bool) (tested : List ℕ) (asked : Bool) (name : List ℕ) (end : FileEnd) → bytes_eq tested name ≡ answer
    → Each (λ x. bytes_eq tested (name_in x) ≡ answer) (file_values asked name end)
by_name answer tested asked name end h =
    each_append (λ x. bytes_eq tested (name_in x) ≡ answer) (journals name end) (sizings name end ++ (mappings name end ++ (dirties name end ++ images asked name end)))
    (each_map (λ x. bytes_eq tested (name_in x) ≡ answer) (journal_at name) (λ p. h) (present 0 (stamps_at end)))
    (each_append (λ x. bytes_eq tested (name_in x) ≡ answer) (sizings name end) (mappings name end ++ (dirties name end ++ images asked name end)) (sizings_by_name end.size)
    (each_append (λ x. bytes_eq tested (name_in x) ≡ answer) (mappings name end) (dirties name end ++ images asked name end)
    (each_map (λ x. bytes_eq tested (name_in x) ≡ answer) (mapping name) (λ e. h) (spans end.extents))
    (each_append (λ x. bytes_eq tested (name_in x) ≡ answer) (dirties name end) (images asked name end)
    (each_map (λ x. bytes_eq tested (name_in x) ≡ answer) (dirty_at name) (λ p. h) (present 0 (dirty_bytes_of end)))
    (images_by_name asked))))
  where
    sizings_by_name : (size : Option ℕ) → Each (λ x. bytes_eq tested (name_in x) ≡ answer) (sizings_of name size (told_sizes end.sizes))
    sizings_by_name None = tt
    sizings_by_name (Some n) = (h, tt)

    images_by_name : (asked : Bool) → Each (λ x. bytes_eq tested (name_in x) ≡ answer) (images asked name end)
    images_by_name true = each_map (λ x. bytes_eq tested (name_in x) ≡ answer) (image_at name) (λ p. h) (present 0 (image_of end))
    images_by_name false = tt

not_false : (b : Bool) → IsTrue (not b) → b ≡ false
not_false true h = absurd (false≢true h)
not_false false h = refl

others_lack : (asked : Bool) (name : List ℕ) (names : List (List ℕ)) (ends : List FileEnd) → IsTrue (list_all (λ other. not (bytes_eq name other)) names)
    → Each (LacksName name) (files_values asked names ends)
others_lack asked name [] ends h = tt
others_lack asked name (other ∷ names) [] h = tt
others_lack asked name (other ∷ names) (end ∷ ends) h =
    let parts = and_parts (not (bytes_eq name other)) (list_all (λ other. not (bytes_eq name other)) names) h in
    each_append (LacksName name) (file_values asked other end) (files_values asked names ends) (by_name false name asked other end (not_false (bytes_eq name other) parts.0))
    (others_lack asked name names ends parts.1)

-- two runs' files are the same in all that their lines tell
pub record SameFiles (asked : Bool) (ends others : List FileEnd) : Type 0 where
  pub stamps : map journals_of ends ≡ map journals_of others
  pub sizes : map (λ end. end.size) ends ≡ map (λ end. end.size) others
  pub turns : map sizes_of ends ≡ map sizes_of others
  pub maps : map (λ end. end.extents) ends ≡ map (λ end. end.extents) others
  pub pages : map dirty_bytes_of ends ≡ map dirty_bytes_of others
  pub sectors : asked ≡ true → map image_of ends ≡ map image_of others

abbrev AreEnds : ℕ → ℕ → List FileSpec → List FileEnd → Type 0
AreEnds size f files ends = IsTrue (both_from (λ f file end. is_file_end size file end) f files ends)

abbrev AreOwn : List (List ℕ) → Type 0
AreOwn names = IsTrue (each_pair (λ name other. not (bytes_eq name other)) names)

values_one : (asked : Bool) (size f : ℕ) (names : List (List ℕ)) (files : List FileSpec) (ends others : List FileEnd) → length names ≡ length files → AreOwn names
    → AreEnds size f files ends → AreEnds size f files others → files_values asked names ends ≡ files_values asked names others → SameFiles asked ends others
values_one asked size f names [] [] [] h own fe fo e = record { stamps = refl; sizes = refl; turns = refl; maps = refl; pages = refl; sectors = λ is. refl }
values_one asked size f names [] [] (other ∷ others) h own fe fo e = absurd (false≢true fo)
values_one asked size f names [] (end ∷ ends) others h own fe fo e = absurd (false≢true fe)
values_one asked size f names (file ∷ files) [] others h own fe fo e = absurd (false≢true fe)
values_one asked size f names (file ∷ files) (end ∷ ends) [] h own fe fo e = absurd (false≢true fo)
values_one asked size f [] (file ∷ files) (end ∷ ends) (other ∷ others) h own fe fo e = absurd (omega (arith, h))
values_one asked size f (name ∷ names) (file ∷ files) (end ∷ ends) (other ∷ others) h own fe fo e =
    let apart = and_parts (list_all (λ other. not (bytes_eq name other)) names) (each_pair (λ name other. not (bytes_eq name other)) names) own in
    let p = and_parts (is_file_end size file end) (both_from (λ f file end. is_file_end size file end) (f + 1) files ends) fe in
    let q = and_parts (is_file_end size file other) (both_from (λ f file end. is_file_end size file end) (f + 1) files others) fo in
    let cut = cut_by (λ x. bytes_eq name (name_in x)) (file_values asked name end) (file_values asked name other) (files_values asked names ends) (files_values asked names others)
    (by_name true name asked name end ((bytes_eq-Decides name name).1 refl)) (by_name true name asked name other ((bytes_eq-Decides name name).1 refl))
    (others_lack asked name names ends apart.0) (others_lack asked name names others apart.0) e in
    let one = file_one asked name size file end other p.0 q.0 cut.0 in
    let more = values_one asked size (f + 1) names files ends others (omega (arith, h)) apart.1 p.1 q.1 cut.1 in
    record {
      stamps = ap₂ (λ x xs. x ∷ xs) one.stamps more.stamps;
      sizes = ap₂ (λ x xs. x ∷ xs) one.size more.sizes;
      turns = ap₂ (λ x xs. x ∷ xs) one.turns more.turns;
      maps = ap₂ (λ x xs. x ∷ xs) one.extents more.maps;
      pages = ap₂ (λ x xs. x ∷ xs) one.pages more.pages;
      sectors = λ is. ap₂ (λ x xs. x ∷ xs) (one.sectors is) (more.sectors is);
    }

each_name : (name : List ℕ) → IsTrue (list_all is_name_byte name) → IsName name
each_name [] h = tt
each_name (c ∷ cs) h = let parts = and_parts (is_name_byte c) (list_all is_name_byte cs) h in (parts.0, each_name cs parts.1)

each_named : (names : List (List ℕ)) → IsTrue (list_all (list_all is_name_byte) names) → Each IsName names
each_named [] h = tt
each_named (name ∷ names) h =
    let parts = and_parts (list_all is_name_byte name) (list_all (list_all is_name_byte) names) h in (each_name name parts.0, each_named names parts.1)

-- a text that begins with no letter of a line
abbrev free_text : List ℕ → List ℕ
free_text rest = codes "free " ++ rest

letter_apart : (x : Line) → letter x ≡ 102 → ⊥
letter_apart (journal name b stamps) e = omega (arith, e)
letter_apart (sized name n turns) e = omega (arith, e)
letter_apart (mapping name x) e = omega (arith, e)
letter_apart (dirty name b bytes) e = omega (arith, e)
letter_apart (image name b bytes) e = omega (arith, e)

free_ends : (rest : List ℕ) → Ends line_text IsLawful (free_text rest)
free_ends rest x a h e = letter_apart x (sym (letter-line x a h) ∙ ap (λ t. slice_index t 0) e)

-- the files can be read off their lines, up to the count of free blocks
pub files_one : (asked : Bool) (size : ℕ) (names : List (List ℕ)) (files : List FileSpec) (ends others : List FileEnd) (a b : List ℕ) → length names ≡ length files
    → IsTrue (list_all (list_all is_name_byte) names) → AreOwn names → AreEnds size 0 files ends → AreEnds size 0 files others → All IsFileInRange ends → All IsFileInRange others
    → files_lines asked names ends (codes "free " ++ a) ≡ files_lines asked names others (codes "free " ++ b) → SameFiles asked ends others × (a ≡ b)
files_one asked size names files ends others a b h words own fe fo re ro e =
    let same = lines_one line_text IsLawful (λ t. Unit {0}) line_read (files_values asked names ends) (files_values asked names others) (free_text a) (free_text b)
    (files_lawful asked names ends (each_named names words) re) (files_lawful asked names others (each_named names words) ro) tt tt (free_ends a) (free_ends b)
    (sym (files_lines-values asked names ends (free_text a)) ∙ e ∙ files_lines-values asked names others (free_text b)) in
    (values_one asked size 0 names files ends others h own fe fo same.0, append_cancel_left (codes "free ") a b same.1)
