-- The lines of files as lists of values.
use Rattle.std.proofs.Common.{◌≡◌, ℕ, ◌+◌, ◌^◌, Bool, true, false, List, [], ◌∷◌, ◌++◌, length, map, codes, Option, Some, None, All, if◌then◌else◌, refl, sym, ap, ◌∙◌, arith}
use Rattle.std.proofs.lemmas.List.Elements.{All-head, All-tail}
use Rattle.hex.specs.Hex.{IsBytes}
use Rattle.iob_base.specs.DeviceBlock.{DeviceBlock}
use Rattle.iob_base.specs.declared.sector.Page.{Page}
use Rattle.iob_base.specs.declared.stamp.Mark.{Mark}
use Rattle.iob_base.specs.declared.stamp.Stamp.{Stamp}
use Rattle.io_model.specs.Finals.{sector_bytes}
use Rattle.io_model.specs.Kinds.{kind_at, mapped_number}
use Rattle.io_model.specs.RunText.{stamps_text, journal_line, journal_lines, map_line, map_lines, dirty_line, dirty_lines, image_line, image_lines, file_lines, files_lines}
use Rattle.io_model.specs.SizeText.{size_stamps_text, size_lines}
use Rattle.io_model.specs.declared.file.BlockEnd.{BlockEnd}
use Rattle.io_model.specs.declared.file.Extent.{Extent}
use Rattle.io_model.specs.declared.file.FileEnd.{FileEnd}
use Rattle.io_model.specs.declared.file.Kind.{Kind}
use Rattle.io_model.specs.declared.file.Kind.TheVariants.{Hole, Delalloc, Unwritten, Mapped}
use Rattle.io_model.specs.declared.file.SizeMark.{SizeMark}
use Rattle.io_model.specs.declared.file.SizeStamp.{SizeStamp}
use Rattle.io_script.specs.Ranges.{IsWord, IsExtentInRange, IsSectorInRange, IsPageInRange, IsBlockInRange, IsFileInRange, IsSizeInRange, IsSizeStampInRange}
use Rattle.io_script.specs.Told.{told_stamps, told_sizes, told_page, told_sector, image_from, dirty_bytes_of, image_of}
use Rattle.io_script.proofs.Reading.Lists.{Each, IfThere, present, lines, lines_append, each_append, each_present, length_map}
use Rattle.io_script.proofs.Reading.Lines.{Line, journal, sized, mapping, dirty, image, IsName, IsLawful, IsSizeTurn, line_text, stamp_line, size_stamp_line, place_text}
use Rattle.io_script.proofs.Reading.Merged.{is_span, onto_spans, spans}

-- The values

abbrev pub some_stamps : List Stamp → Option (List (ℕ × Mark))
some_stamps [] = None
some_stamps (st ∷ sts) = Some (told_stamps (st ∷ sts))

abbrev pub stamps_at : FileEnd → List (Option (List (ℕ × Mark)))
stamps_at end = map (λ block. some_stamps block.journal) end.blocks

abbrev pub journal_at : List ℕ → ℕ × List (ℕ × Mark) → Line
journal_at name p = journal name p.0 p.1

abbrev pub dirty_at : List ℕ → ℕ × List ℕ → Line
dirty_at name p = dirty name p.0 p.1

abbrev pub image_at : List ℕ → ℕ × List ℕ → Line
image_at name p = image name p.0 p.1

abbrev pub journals : List ℕ → FileEnd → List Line
journals name end = map (journal_at name) (present 0 (stamps_at end))

abbrev pub sizings_of : List ℕ → Option ℕ → List (ℕ × SizeMark) → List Line
sizings_of name None turns = []
sizings_of name (Some n) turns = sized name n turns ∷ []

abbrev pub sizings : List ℕ → FileEnd → List Line
sizings name end = sizings_of name end.size (told_sizes end.sizes)

abbrev pub mappings : List ℕ → FileEnd → List Line
mappings name end = map (mapping name) (spans end.extents)

abbrev pub dirties : List ℕ → FileEnd → List Line
dirties name end = map (dirty_at name) (present 0 (dirty_bytes_of end))

abbrev pub images : Bool → List ℕ → FileEnd → List Line
images asked name end = if asked then map (image_at name) (present 0 (image_of end)) else []

abbrev pub file_values : Bool → List ℕ → FileEnd → List Line
file_values asked name end = journals name end ++ (sizings name end ++ (mappings name end ++ (dirties name end ++ images asked name end)))

abbrev pub files_values : Bool → List (List ℕ) → List FileEnd → List Line
files_values asked [] ends = []
files_values asked (name ∷ names) [] = []
files_values asked (name ∷ names) (end ∷ ends) = file_values asked name end ++ files_values asked names ends

-- Their texts

stamps_text-lines : (sts : List Stamp) (rest : List ℕ) → stamps_text sts rest ≡ lines stamp_line (told_stamps sts) rest
stamps_text-lines [] rest = refl
stamps_text-lines (st ∷ sts) rest = ap (stamp_line (st.call, st.mark)) (stamps_text-lines sts rest)

journal_line-value : (name : List ℕ) (b : ℕ) (stamps : List Stamp) (os : List (Option (List (ℕ × Mark)))) (more rest : List ℕ)
    → more ≡ lines line_text (map (journal_at name) (present (b + 1) os)) rest
    → journal_line name b stamps more ≡ lines line_text (map (journal_at name) (present b (some_stamps stamps ∷ os))) rest
journal_line-value name b [] os more rest e = e
journal_line-value name b (st ∷ sts) os more rest e =
    ap (place_text (codes "journal ") name b) (stamps_text-lines (st ∷ sts) (10 ∷ more)) ∙ ap (line_text (journal name b (told_stamps (st ∷ sts)))) e

journal_lines-values : (name : List ℕ) (b : ℕ) (blocks : List BlockEnd) (rest : List ℕ)
    → journal_lines name b blocks rest ≡ lines line_text (map (journal_at name) (present b (map (λ block. some_stamps block.journal) blocks))) rest
journal_lines-values name b [] rest = refl
journal_lines-values name b (block ∷ blocks) rest =
    journal_line-value name b block.journal (map (λ block. some_stamps block.journal) blocks) (journal_lines name (b + 1) blocks rest) rest (journal_lines-values name (b + 1) blocks rest)

size_stamps_text-lines : (sts : List SizeStamp) (rest : List ℕ) → size_stamps_text sts rest ≡ lines size_stamp_line (told_sizes sts) rest
size_stamps_text-lines [] rest = refl
size_stamps_text-lines (st ∷ sts) rest = ap (size_stamp_line (st.call, st.mark)) (size_stamps_text-lines sts rest)

size_lines-values : (name : List ℕ) (size : Option ℕ) (sts : List SizeStamp) (rest : List ℕ)
    → size_lines name size sts rest ≡ lines line_text (sizings_of name size (told_sizes sts)) rest
size_lines-values name None sts rest = refl
size_lines-values name (Some n) [] rest = refl
size_lines-values name (Some n) (st ∷ sts) rest =
    ap (λ t. codes "sizes " ++ (name ++ t)) (size_stamps_text-lines (st ∷ sts) (10 ∷ place_text (codes "size ") name n (10 ∷ rest)))

map_line-value : (k : Kind) (name : List ℕ) (e : Extent) (es : List Extent) (more rest : List ℕ) → e.kind ≡ k
    → more ≡ lines line_text (map (mapping name) es) rest → map_line name e k more ≡ lines line_text (map (mapping name) (onto_spans e k es)) rest
map_line-value Hole name e es more rest is t = t
map_line-value Delalloc name e es more rest is t = ap (map_line name e Delalloc) t ∙ ap (λ k. map_line name e k (lines line_text (map (mapping name) es) rest)) (sym is)
map_line-value (Unwritten d) name e es more rest is t = ap (map_line name e (Unwritten d)) t ∙ ap (λ k. map_line name e k (lines line_text (map (mapping name) es) rest)) (sym is)
map_line-value (Mapped d) name e es more rest is t = ap (map_line name e (Mapped d)) t ∙ ap (λ k. map_line name e k (lines line_text (map (mapping name) es) rest)) (sym is)

map_lines-values : (name : List ℕ) (es : List Extent) (rest : List ℕ) → map_lines name es rest ≡ lines line_text (map (mapping name) (spans es)) rest
map_lines-values name [] rest = refl
map_lines-values name (e ∷ es) rest = map_line-value e.kind name e (spans es) (map_lines name es rest) rest refl (map_lines-values name es rest)

dirty_line-value : (name : List ℕ) (b : ℕ) (page : Option Page) (os : List (Option (List ℕ))) (more rest : List ℕ)
    → more ≡ lines line_text (map (dirty_at name) (present (b + 1) os)) rest → dirty_line name b page more ≡ lines line_text (map (dirty_at name) (present b (told_page page ∷ os))) rest
dirty_line-value name b None os more rest e = e
dirty_line-value name b (Some page) os more rest e = ap (line_text (dirty name b page.bytes)) e

dirty_lines-values : (name : List ℕ) (b : ℕ) (blocks : List BlockEnd) (rest : List ℕ)
    → dirty_lines name b blocks rest ≡ lines line_text (map (dirty_at name) (present b (map (λ block. told_page block.dirty) blocks))) rest
dirty_lines-values name b [] rest = refl
dirty_lines-values name b (block ∷ blocks) rest =
    dirty_line-value name b block.dirty (map (λ block. told_page block.dirty) blocks) (dirty_lines name (b + 1) blocks rest) rest (dirty_lines-values name (b + 1) blocks rest)

image_line-value : (name : List ℕ) (b : ℕ) (mapped : Option ℕ) (page : Option Page) (sector : Option DeviceBlock) (os : List (Option (List ℕ))) (more rest : List ℕ)
    → more ≡ lines line_text (map (image_at name) (present (b + 1) os)) rest
    → image_line name b mapped page sector more ≡ lines line_text (map (image_at name) (present b (told_sector mapped page sector ∷ os))) rest
image_line-value name b None page sector os more rest e = e
image_line-value name b (Some d) (Some page) sector os more rest e = e
image_line-value name b (Some d) None sector os more rest e = ap (line_text (image name b (sector_bytes sector))) e

image_lines-values : (name : List ℕ) (es : List Extent) (b : ℕ) (blocks : List BlockEnd) (rest : List ℕ)
    → image_lines name es b blocks rest ≡ lines line_text (map (image_at name) (present b (image_from es b blocks))) rest
image_lines-values name es b [] rest = refl
image_lines-values name es b (block ∷ blocks) rest =
    image_line-value name b (mapped_number (kind_at es b)) block.dirty block.sector (image_from es (b + 1) blocks) (image_lines name es (b + 1) blocks rest) rest (image_lines-values name es (b + 1) blocks rest)

asked-values : (asked : Bool) (name : List ℕ) (end : FileEnd) (rest : List ℕ)
    → (if asked then image_lines name end.extents 0 end.blocks rest else rest) ≡ lines line_text (images asked name end) rest
asked-values true name end rest = image_lines-values name end.extents 0 end.blocks rest
asked-values false name end rest = refl

-- the text of some values before others
lines_join : (xs ys : List Line) (t rest : List ℕ) → t ≡ lines line_text ys rest → lines line_text xs t ≡ lines line_text (xs ++ ys) rest
lines_join xs ys t rest e = ap (lines line_text xs) e ∙ sym (lines_append line_text xs ys rest)

file_lines-values : (asked : Bool) (name : List ℕ) (end : FileEnd) (rest : List ℕ) → file_lines asked name end rest ≡ lines line_text (file_values asked name end) rest
file_lines-values asked name end rest =
    let image = asked-values asked name end rest in
    let dirty_text = dirty_lines name 0 end.blocks (if asked then image_lines name end.extents 0 end.blocks rest else rest) in
    let dirty_part = dirty_lines-values name 0 end.blocks (if asked then image_lines name end.extents 0 end.blocks rest else rest)
    ∙ lines_join (dirties name end) (images asked name end) (if asked then image_lines name end.extents 0 end.blocks rest else rest) rest image in
    let map_part = map_lines-values name end.extents dirty_text ∙ lines_join (mappings name end) (dirties name end ++ images asked name end) dirty_text rest dirty_part in
    let map_text = map_lines name end.extents dirty_text in
    let size_part = size_lines-values name end.size end.sizes map_text
    ∙ lines_join (sizings name end) (mappings name end ++ (dirties name end ++ images asked name end)) map_text rest map_part in
    journal_lines-values name 0 end.blocks (size_lines name end.size end.sizes map_text)
    ∙ lines_join (journals name end) (sizings name end ++ (mappings name end ++ (dirties name end ++ images asked name end))) (size_lines name end.size end.sizes map_text) rest size_part

pub files_lines-values : (asked : Bool) (names : List (List ℕ)) (ends : List FileEnd) (rest : List ℕ) → files_lines asked names ends rest ≡ lines line_text (files_values asked names ends) rest
files_lines-values asked [] ends rest = refl
files_lines-values asked (name ∷ names) [] rest = refl
files_lines-values asked (name ∷ names) (end ∷ ends) rest =
    file_lines-values asked name end (files_lines asked names ends rest)
    ∙ lines_join (file_values asked name end) (files_values asked names ends) (files_lines asked names ends rest) rest (files_lines-values asked names ends rest)

-- They are lawful

told_stamps-words : (sts : List Stamp) → All (λ st. IsWord st.call) sts → Each (λ st. IsWord st.0) (told_stamps sts)
told_stamps-words [] h = tt
told_stamps-words (st ∷ sts) h = (All-head (λ st. IsWord st.call) st sts h, told_stamps-words sts (All-tail (λ st. IsWord st.call) st sts h))

some_stamps-words : (sts : List Stamp) → All (λ st. IsWord st.call) sts → IfThere (Each (λ st. IsWord st.0)) (some_stamps sts)
some_stamps-words [] h = tt
some_stamps-words (st ∷ sts) h = told_stamps-words (st ∷ sts) h

told_page-bytes : (page : Option Page) → IsPageInRange page → IfThere IsBytes (told_page page)
told_page-bytes None h = tt
told_page-bytes (Some page) h = h

told_sector-bytes : (mapped : Option ℕ) (page : Option Page) (sector : Option DeviceBlock) → IsSectorInRange sector → IfThere IsBytes (told_sector mapped page sector)
told_sector-bytes None page sector h = tt
told_sector-bytes (Some d) (Some page) sector h = tt
told_sector-bytes (Some d) None None h = λ i. omega arith
told_sector-bytes (Some d) None (Some sector) h = h

stamps_lawful : (blocks : List BlockEnd) → All IsBlockInRange blocks → Each (IfThere (Each (λ st. IsWord st.0))) (map (λ block. some_stamps block.journal) blocks)
stamps_lawful [] h = tt
stamps_lawful (block ∷ blocks) h = (some_stamps-words block.journal (All-head IsBlockInRange block blocks h).2, stamps_lawful blocks (All-tail IsBlockInRange block blocks h))

pages_lawful : (blocks : List BlockEnd) → All IsBlockInRange blocks → Each (IfThere IsBytes) (map (λ block. told_page block.dirty) blocks)
pages_lawful [] h = tt
pages_lawful (block ∷ blocks) h = (told_page-bytes block.dirty (All-head IsBlockInRange block blocks h).1, pages_lawful blocks (All-tail IsBlockInRange block blocks h))

image_lawful : (es : List Extent) (b : ℕ) (blocks : List BlockEnd) → All IsBlockInRange blocks → Each (IfThere IsBytes) (image_from es b blocks)
image_lawful es b [] h = tt
image_lawful es b (block ∷ blocks) h =
    (told_sector-bytes (mapped_number (kind_at es b)) block.dirty block.sector (All-head IsBlockInRange block blocks h).0, image_lawful es (b + 1) blocks (All-tail IsBlockInRange block blocks h))

pub length_image : (es : List Extent) (b : ℕ) (blocks : List BlockEnd) → length (image_from es b blocks) ≡ length blocks
length_image es b [] = refl
length_image es b (block ∷ blocks) = let more = length_image es (b + 1) blocks in omega (arith, more)

mapping_lawful : (k : Kind) (name : List ℕ) (e : Extent) (es : List Extent) → e.kind ≡ k → IsName name → IsExtentInRange e → Each IsLawful (map (mapping name) es) → Each IsLawful (map (mapping name) (onto_spans e k es))
mapping_lawful Hole name e es is hn he h = h
mapping_lawful Delalloc name e es is hn he h = ((hn, he, ap is_span is), h)
mapping_lawful (Unwritten d) name e es is hn he h = ((hn, he, ap is_span is), h)
mapping_lawful (Mapped d) name e es is hn he h = ((hn, he, ap is_span is), h)

mappings_lawful : (name : List ℕ) (es : List Extent) → IsName name → All IsExtentInRange es → Each IsLawful (map (mapping name) (spans es))
mappings_lawful name [] hn h = tt
mappings_lawful name (e ∷ es) hn h =
    mapping_lawful e.kind name e (spans es) refl hn (All-head IsExtentInRange e es h) (mappings_lawful name es hn (All-tail IsExtentInRange e es h))

images_lawful : (asked : Bool) (name : List ℕ) (end : FileEnd) → IsName name → IsFileInRange end → Each IsLawful (images asked name end)
images_lawful true name end hn h =
    let size = length_image end.extents 0 end.blocks in
    each_present IsBytes IsLawful (image_at name) (2 ^ 64) (λ n x small bytes. (hn, small, bytes)) 0 (image_of end) (omega (arith, size, h.2)) (image_lawful end.extents 0 end.blocks h.1)
images_lawful false name end hn h = tt

told_sizes-words : (sts : List SizeStamp) → All IsSizeStampInRange sts → Each IsSizeTurn (told_sizes sts)
told_sizes-words [] h = tt
told_sizes-words (st ∷ sts) h = (All-head IsSizeStampInRange st sts h, told_sizes-words sts (All-tail IsSizeStampInRange st sts h))

sizings_lawful : (name : List ℕ) (size : Option ℕ) (sts : List SizeStamp) → IsName name → IsSizeInRange size → All IsSizeStampInRange sts → Each IsLawful (sizings_of name size (told_sizes sts))
sizings_lawful name None sts hn small turns = tt
sizings_lawful name (Some n) sts hn small turns = ((hn, small, told_sizes-words sts turns), tt)

file_lawful : (asked : Bool) (name : List ℕ) (end : FileEnd) → IsName name → IsFileInRange end → Each IsLawful (file_values asked name end)
file_lawful asked name end hn h =
    let stamps = length_map (λ block. some_stamps block.journal) end.blocks in
    let pages = length_map (λ block. told_page block.dirty) end.blocks in
    each_append IsLawful (journals name end) (sizings name end ++ (mappings name end ++ (dirties name end ++ images asked name end)))
    (each_present (Each (λ st. IsWord st.0)) IsLawful (journal_at name) (2 ^ 64) (λ n x small words. (hn, small, words)) 0 (stamps_at end) (omega (arith, stamps, h.2)) (stamps_lawful end.blocks h.1))
    (each_append IsLawful (sizings name end) (mappings name end ++ (dirties name end ++ images asked name end)) (sizings_lawful name end.size end.sizes hn h.3 h.4)
    (each_append IsLawful (mappings name end) (dirties name end ++ images asked name end) (mappings_lawful name end.extents hn h.0)
    (each_append IsLawful (dirties name end) (images asked name end)
    (each_present IsBytes IsLawful (dirty_at name) (2 ^ 64) (λ n x small bytes. (hn, small, bytes)) 0 (dirty_bytes_of end) (omega (arith, pages, h.2)) (pages_lawful end.blocks h.1))
    (images_lawful asked name end hn h))))

pub files_lawful : (asked : Bool) (names : List (List ℕ)) (ends : List FileEnd) → Each IsName names → All IsFileInRange ends → Each IsLawful (files_values asked names ends)
files_lawful asked [] ends hn h = tt
files_lawful asked (name ∷ names) [] hn h = tt
files_lawful asked (name ∷ names) (end ∷ ends) hn h =
    each_append IsLawful (file_values asked name end) (files_values asked names ends) (file_lawful asked name end hn.0 (All-head IsFileInRange end ends h))
    (files_lawful asked names ends hn.1 (All-tail IsFileInRange end ends h))
