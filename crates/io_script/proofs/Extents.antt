-- Merged extents, and the image lines of the blocks that they cover.
use Rattle.std.proofs.Common.{◌≡◌, ℕ, zero, suc, ◌+◌, ◌-◌, ◌<◌, ◌≤◌, ◌==◌, ◌&&◌, Bool, true, false, not, nat_lt, List, [], ◌∷◌, Option, Some, None, length, take, drop, IsTrue, refl, sym, ap, ◌∙◌, arith}
use Rattle.std.proofs.lemmas.Bool.{eqb-true, eq-eqb, false≢true}
use Rattle.std.proofs.lemmas.Bool.Decides.{nat_tests}
use Rattle.std.proofs.lemmas.List.{nil_from_length}
use Rattle.std.specs.List.{list_all}
use Rattle.iob_base.specs.DeviceBlock.{DeviceBlock}
use Rattle.iob_base.specs.declared.sector.Page.{Page}
use Rattle.io_model.specs.Fitting.{is_file_end, is_merged_from, could_be_joined}
use Rattle.io_model.specs.Kinds.{covers, kind_after, kind_at, mapped_number}
use Rattle.io_model.specs.Lists.{both_from}
use Rattle.io_model.specs.RunText.{image_line, image_lines}
use Rattle.io_model.specs.declared.file.BlockEnd.{BlockEnd}
use Rattle.io_model.specs.declared.file.Extent.{Extent}
use Rattle.io_model.specs.declared.file.FileEnd.{FileEnd}
use Rattle.io_model.specs.declared.file.FileSpec.{FileSpec}
use Rattle.io_model.specs.declared.file.Kind.{Kind}
use Rattle.io_model.specs.declared.file.Kind.TheVariants.{Hole, Delalloc, Unwritten, Mapped}
use Rattle.io_script.specs.Image.{mapped_lines, lines_of_kind}

and_left : (a b : Bool) → IsTrue (a && b) → IsTrue a
and_left true b h = refl
and_left false b h = h

and_right : (a b : Bool) → IsTrue (a && b) → IsTrue b
and_right true b h = h
and_right false b h = absurd (false≢true h)

-- merged extents that begin with this one: it begins where they do, and the others begin where it ends
pub merged_next : (b n : ℕ) (e : Extent) (es : List Extent) → IsTrue (is_merged_from b n (e ∷ es)) → (e.block ≡ b) × IsTrue (is_merged_from (b + e.length) n es)
merged_next b n e [] h =
    let first = eqb-true e.block b (and_left _ _ h) in
    let last = eqb-true (e.block + e.length) n (and_right (nat_lt 0 e.length) _ (and_right (e.block == b) _ h)) in
    (first, eq-eqb (b + e.length) n (omega arith))
merged_next b n e (next ∷ es) h =
    let after = and_right (nat_lt 0 e.length) _ (and_right (e.block == b) _ h) in
    (eqb-true e.block b (and_left _ _ h), and_right (not (could_be_joined e next)) _ after)

-- merged extents begin at or before their end
pub merged_within : (b n : ℕ) (es : List Extent) → IsTrue (is_merged_from b n es) → b ≤ n
merged_within b n [] h = let same = eqb-true b n h in omega arith
merged_within b n (e ∷ es) h =
    let within = merged_within (b + e.length) n es (merged_next b n e es h).1 in omega arith

covers-here : (e : Extent) (b : ℕ) → e.block ≤ b → b < e.block + e.length → covers e b ≡ true
covers-here e b low high = grind (arith, nat_tests)

covers-later : (e : Extent) (b : ℕ) → e.block + e.length ≤ b → covers e b ≡ false
covers-later e b after = grind (arith, nat_tests)

kind_at-here : (e : Extent) (es : List Extent) (b : ℕ) → e.block ≤ b → b < e.block + e.length → kind_at (e ∷ es) b ≡ kind_after e.kind (b - e.block)
kind_at-here e es b low high = rw (covers-here e b low high) refl

kind_at-later : (e : Extent) (es : List Extent) (b : ℕ) → e.block + e.length ≤ b → kind_at (e ∷ es) b ≡ kind_at es b
kind_at-later e es b after = rw (covers-later e b after) refl

-- past its last block an extent says nothing
image_lines-later : (name : List ℕ) (e : Extent) (es : List Extent) (b : ℕ) (blocks : List BlockEnd) (rest : List ℕ) → e.block + e.length ≤ b
    → image_lines name (e ∷ es) b blocks rest ≡ image_lines name es b blocks rest
image_lines-later name e es b [] rest after = refl
image_lines-later name e es b (block ∷ blocks) rest after =
    ap (λ kind. image_line name b (mapped_number kind) block.dirty block.sector (image_lines name (e ∷ es) (b + 1) blocks rest)) (kind_at-later e es b after)
    ∙ ap (image_line name b (mapped_number (kind_at es b)) block.dirty block.sector) (image_lines-later name e es (b + 1) blocks rest (omega arith))

-- a line does not show the number on the device
image_line-number : (name : List ℕ) (b d e : ℕ) (dirty : Option Page) (sector : Option DeviceBlock) (rest : List ℕ)
    → image_line name b (Some d) dirty sector rest ≡ image_line name b (Some e) dirty sector rest
image_line-number name b d e None sector rest = refl
image_line-number name b d e (Some page) sector rest = refl

lines_of_kind-step : (kind : Kind) (i : ℕ) (name : List ℕ) (b : ℕ) (block : BlockEnd) (blocks : List BlockEnd) (rest : List ℕ)
    → image_line name b (mapped_number (kind_after kind i)) block.dirty block.sector (lines_of_kind kind name (b + 1) blocks rest) ≡ lines_of_kind kind name b (block ∷ blocks) rest
lines_of_kind-step Hole i name b block blocks rest = refl
lines_of_kind-step Delalloc i name b block blocks rest = refl
lines_of_kind-step (Unwritten d) i name b block blocks rest = refl
lines_of_kind-step (Mapped d) i name b block blocks rest = image_line-number name b (d + i) 0 block.dirty block.sector (mapped_lines name (b + 1) blocks rest)

lines_of_kind-none : (kind : Kind) (name : List ℕ) (b : ℕ) (rest : List ℕ) → lines_of_kind kind name b [] rest ≡ rest
lines_of_kind-none Hole name b rest = refl
lines_of_kind-none Delalloc name b rest = refl
lines_of_kind-none (Unwritten d) name b rest = refl
lines_of_kind-none (Mapped d) name b rest = refl

-- the blocks of the first extent, from one of them on, and then those of the others
pub image_lines-over : (name : List ℕ) (e : Extent) (es : List Extent) (n b end : ℕ) (blocks : List BlockEnd) (rest : List ℕ) → e.block ≤ b → b + n ≡ end → end ≡ e.block + e.length
    → image_lines name (e ∷ es) b blocks rest ≡ lines_of_kind e.kind name b (take n blocks) (image_lines name es end (drop n blocks) rest)
image_lines-over name e es zero b end blocks rest low here last =
    let same : b ≡ end = omega (arith, here) in
    image_lines-later name e es b blocks rest (omega arith) ∙ ap (λ k. image_lines name es k blocks rest) same
    ∙ sym (lines_of_kind-none e.kind name b (image_lines name es end blocks rest))
image_lines-over name e es (suc n) b end [] rest low here last = sym (lines_of_kind-none e.kind name b rest)
image_lines-over name e es (suc n) b end (block ∷ blocks) rest low here last =
    ap (λ kind. image_line name b (mapped_number kind) block.dirty block.sector (image_lines name (e ∷ es) (b + 1) blocks rest)) (kind_at-here e es b low (omega arith))
    ∙ ap (image_line name b (mapped_number (kind_after e.kind (b - e.block))) block.dirty block.sector) (image_lines-over name e es n (b + 1) end blocks rest (omega arith) (omega arith) last)
    ∙ lines_of_kind-step e.kind (b - e.block) name b block (take n blocks) (image_lines name es end (drop n blocks) rest)

-- the blocks of the first of merged extents, and then those of the others
pub image_lines-part : (name : List ℕ) (e : Extent) (es : List Extent) (first n : ℕ) (left : List BlockEnd) (rest : List ℕ) → IsTrue (is_merged_from first n (e ∷ es))
    → image_lines name (e ∷ es) first left rest ≡ lines_of_kind e.kind name first (take e.length left) (image_lines name es (first + e.length) (drop e.length left) rest)
image_lines-part name e es first n left rest merged =
    let begins = (merged_next first n e es merged).0 in
    image_lines-over name e es e.length first (first + e.length) left rest (omega arith) refl (omega arith)

-- merged extents that are used up leave no block
pub merged_none : (first : ℕ) (left : List BlockEnd) → IsTrue (is_merged_from first (first + length left) []) → left ≡ []
merged_none first left merged = let ends = eqb-true first (first + length left) merged in nil_from_length left (omega arith)

and_both : (a b : Bool) → IsTrue a → IsTrue b → IsTrue (a && b)
and_both true b ha hb = hb
and_both false b ha hb = ha

merged_file : (size : ℕ) (file : FileSpec) (end : FileEnd) → IsTrue (is_file_end size file end) → IsTrue (is_merged_from 0 (length end.blocks) end.extents)
merged_file size file end h =
    let count = eqb-true (length end.blocks) file.blocks (and_left _ _ h) in
    let rest = and_right (length end.blocks == file.blocks) _ h in
    ap (λ n. is_merged_from 0 n end.extents) count ∙ and_left (is_merged_from 0 file.blocks end.extents) _ rest

-- the extents of each file of a run that fits are merged, and cover its blocks
pub merged_files : (size f : ℕ) (files : List FileSpec) (ends : List FileEnd) → IsTrue (both_from (λ f file end. is_file_end size file end) f files ends)
    → IsTrue (list_all (λ end. is_merged_from 0 (length end.blocks) end.extents) ends)
merged_files size f [] [] h = refl
merged_files size f [] (end ∷ ends) h = absurd (false≢true h)
merged_files size f (file ∷ files) [] h = refl
merged_files size f (file ∷ files) (end ∷ ends) h =
    and_both _ _ (merged_file size file end (and_left (is_file_end size file end) _ h))
    (merged_files size (f + 1) files ends (and_right (is_file_end size file end) _ h))
