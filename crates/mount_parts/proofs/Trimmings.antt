-- The sectors of blocks are trimmed, one after another.
use Rattle.std.proofs.Common.{◌≡◌, ℕ, zero, suc, ◌+◌, ◌-◌, ◌*◌, ◌<◌, ◌≤◌, min, Option, Some, None, List, [], ◌∷◌, ◌++◌, length, take, refl, sym, subst, ap, ◌∙◌, arith}
use Rattle.std.specs.Prelude.{All, slice_get}
use Rattle.std.proofs.lemmas.List.{append_assoc, length-append, length-replicate, length-take, replicate-append-replicate, take-replicate}
use Rattle.std.proofs.lemmas.List.Elements.{All-cons, All-nil, All-head, All-tail}
use Rattle.iob_base.specs.DeviceBlock.{DeviceBlock}
use Rattle.io_model.specs.Contents.{cut_content, zeros}
use Rattle.io_model.specs.Kinds.{kind_at}
use Rattle.io_model.specs.declared.file.Extent.{Extent}
use Rattle.io_model.specs.declared.file.Kind.{Kind}
use Rattle.io_model.specs.declared.file.Kind.TheVariants.{Hole, Delalloc, Unwritten, Mapped}
use Rattle.file_stripes.specs.Kinds.{kinds_from, numbers_of}
use Rattle.file_stripes.specs.Taking.{IsWhole, sector_numbers}
use Rattle.range_core.specs.BlockContents.{opening_bytes}
use Rattle.range_core.specs.Cells.{cells_of, sectors_after}
use Rattle.mount_parts.specs.Trims.{next_trimmed, trimmed_from, trimmed_in, zeroed_past}

-- These sectors are done, and the rest with the kinds that are left make up all
pub record TrimsOn (size end b : ℕ) (kinds : List Kind) (done rest : List DeviceBlock) (first : ℕ) (all : List Kind) (sectors : List DeviceBlock) : Type 0 where
  pub whole : All (IsWhole size) rest
  pub so_far : done ++ trimmed_from size end b kinds rest ≡ trimmed_from size end first all sectors

after-whole : (size : ℕ) (kind : Kind) (ss : List DeviceBlock) → All (IsWhole size) ss → All (IsWhole size) (sectors_after kind ss)
after-whole size Hole ss w = w
after-whole size Delalloc ss w = w
after-whole size (Unwritten d) [] w = w
after-whole size (Unwritten d) (s ∷ ss) w = All-tail (IsWhole size) s ss w
after-whole size (Mapped d) [] w = w
after-whole size (Mapped d) (s ∷ ss) w = All-tail (IsWhole size) s ss w

pub trims-next : (size end first i blocks : ℕ) (extents : List Extent) (all : List Kind) (kind : Kind) (done done' rest rest' sectors : List DeviceBlock) → TrimsOn size end (first + i) (kinds_from extents (first + i) (blocks - i)) done rest first all sectors
    → i < blocks → kind ≡ kind_at extents (first + i) → done' ≡ done ++ next_trimmed size end (first + i) kind rest → rest' ≡ sectors_after kind rest → TrimsOn size end (first + (i + 1)) (kinds_from extents (first + (i + 1)) (blocks - (i + 1))) done' rest' first all sectors
trims-next size end first i blocks extents all kind done done' rest rest' sectors t below k d r =
    let m : blocks - i ≡ suc (blocks - (i + 1)) = omega arith in
    let at : first + i + 1 ≡ first + (i + 1) = omega arith in
    let tail : ℕ → List DeviceBlock → List DeviceBlock = λ b ss. trimmed_from size end b (kinds_from extents b (blocks - (i + 1))) ss in
    let here : trimmed_from size end (first + i) (kinds_from extents (first + i) (blocks - i)) rest ≡ next_trimmed size end (first + i) kind rest ++ tail (first + (i + 1)) rest' =
    ap (λ j. trimmed_from size end (first + i) (kinds_from extents (first + i) j) rest) m
    ∙ ap (λ q. next_trimmed size end (first + i) q rest ++ tail (first + i + 1) (sectors_after q rest)) (sym k)
    ∙ ap (λ ss. next_trimmed size end (first + i) kind rest ++ tail (first + i + 1) ss) (sym r)
    ∙ ap (λ b. next_trimmed size end (first + i) kind rest ++ tail b rest') at in
    record {
      whole = subst (All (IsWhole size)) (sym r) (after-whole size kind rest t.whole);
      so_far = ap (λ l. l ++ tail (first + (i + 1)) rest') d ∙ append_assoc done (next_trimmed size end (first + i) kind rest) (tail (first + (i + 1)) rest') ∙ ap (λ l. done ++ l) (sym here) ∙ t.so_far;
    }

trimmed-numbers : (size end b : ℕ) (ks : List Kind) (ss : List DeviceBlock) → sector_numbers ss ≡ numbers_of ks → sector_numbers (trimmed_from size end b ks ss) ≡ sector_numbers ss
trimmed-numbers size end b [] [] e = refl
trimmed-numbers size end b [] (s ∷ ss) e = absurd (let l : suc (length (sector_numbers ss)) ≡ 0 = ap length e in omega arith)
trimmed-numbers size end b (Hole ∷ ks) ss e = trimmed-numbers size end (b + 1) ks ss e
trimmed-numbers size end b (Delalloc ∷ ks) ss e = trimmed-numbers size end (b + 1) ks ss e
trimmed-numbers size end b (Unwritten d ∷ ks) [] e = absurd (let l : 0 ≡ suc (length (numbers_of ks)) = ap length e in omega arith)
trimmed-numbers size end b (Unwritten d ∷ ks) (s ∷ ss) e = ap (λ l. s.number ∷ l) (trimmed-numbers size end (b + 1) ks ss (let t : sector_numbers ss ≡ numbers_of ks = cc in t))
trimmed-numbers size end b (Mapped d ∷ ks) [] e = absurd (let l : 0 ≡ suc (length (numbers_of ks)) = ap length e in omega arith)
trimmed-numbers size end b (Mapped d ∷ ks) (s ∷ ss) e = ap (λ l. s.number ∷ l) (trimmed-numbers size end (b + 1) ks ss (let t : sector_numbers ss ≡ numbers_of ks = cc in t))

pub trims-numbers : (size : ℕ) (end : Option ℕ) (b : ℕ) (ks : List Kind) (ss : List DeviceBlock) → sector_numbers ss ≡ numbers_of ks → sector_numbers (trimmed_in size end b ks ss) ≡ sector_numbers ss
trims-numbers size None b ks ss e = refl
trims-numbers size (Some end) b ks ss e = trimmed-numbers size end b ks ss e

zeroed-whole : (size end b : ℕ) (s : DeviceBlock) → IsWhole size s → IsWhole size (zeroed_past size end b s)
zeroed-whole size end b s w =
    let n : ℕ = min size (end - b * size) in
    omega (arith, length-append (take n s.bytes) (zeros (size - n)), length-take n s.bytes, length-replicate {A = ℕ} (size - n) 0)

trimmed-whole : (size end b : ℕ) (ks : List Kind) (ss : List DeviceBlock) → All (IsWhole size) ss → All (IsWhole size) (trimmed_from size end b ks ss)
trimmed-whole size end b [] ss w = All-nil (IsWhole size)
trimmed-whole size end b (Hole ∷ ks) ss w = trimmed-whole size end (b + 1) ks ss w
trimmed-whole size end b (Delalloc ∷ ks) ss w = trimmed-whole size end (b + 1) ks ss w
trimmed-whole size end b (Unwritten d ∷ ks) [] w = trimmed-whole size end (b + 1) ks [] w
trimmed-whole size end b (Unwritten d ∷ ks) (s ∷ ss) w =
    All-cons (IsWhole size) s (trimmed_from size end (b + 1) ks ss) (All-head (IsWhole size) s ss w) (trimmed-whole size end (b + 1) ks ss (All-tail (IsWhole size) s ss w))
trimmed-whole size end b (Mapped d ∷ ks) [] w = trimmed-whole size end (b + 1) ks [] w
trimmed-whole size end b (Mapped d ∷ ks) (s ∷ ss) w =
    All-cons (IsWhole size) (zeroed_past size end b s) (trimmed_from size end (b + 1) ks ss) (zeroed-whole size end b s (All-head (IsWhole size) s ss w)) (trimmed-whole size end (b + 1) ks ss (All-tail (IsWhole size) s ss w))

pub trims-whole : (size : ℕ) (end : Option ℕ) (b : ℕ) (ks : List Kind) (ss : List DeviceBlock) → All (IsWhole size) ss → All (IsWhole size) (trimmed_in size end b ks ss)
trims-whole size None b ks ss w = w
trims-whole size (Some end) b ks ss w = trimmed-whole size end b ks ss w

cut-zeros : (size : ℕ) (end : Option ℕ) (b : ℕ) → cut_content size end b (zeros size) ≡ zeros size
cut-zeros size None b = refl
cut-zeros size (Some end) b =
    let n : ℕ = min size (end - b * size) in
    ap (λ l. l ++ zeros (size - n)) (take-replicate n size 0 (let h : n ≤ size = omega arith in h)) ∙ replicate-append-replicate n (size - n) 0 ∙ ap zeros (let e : n + (size - n) ≡ size = omega arith in e)

on-block : (size end b i : ℕ) (content : List ℕ) → cut_content size (Some end) (b + 1 + i) content ≡ cut_content size (Some end) (b + suc i) content
on-block size end b i content = ap (λ n. cut_content size (Some end) n content) (let p : b + 1 + i ≡ b + suc i = omega arith in p)

trimmed-content : (size end b : ℕ) (ks : List Kind) (ss : List DeviceBlock) (i : ℕ) → sector_numbers ss ≡ numbers_of ks
    → opening_bytes size (slice_get (cells_of ks (trimmed_from size end b ks ss)) i) ≡ cut_content size (Some end) (b + i) (opening_bytes size (slice_get (cells_of ks ss) i))
trimmed-content size end b [] ss i e = sym (cut-zeros size (Some end) (b + i))
trimmed-content size end b (Hole ∷ ks) ss zero e = sym (cut-zeros size (Some end) (b + 0))
trimmed-content size end b (Hole ∷ ks) ss (suc i) e = trimmed-content size end (b + 1) ks ss i e ∙ on-block size end b i (opening_bytes size (slice_get (cells_of ks ss) i))
trimmed-content size end b (Delalloc ∷ ks) ss zero e = sym (cut-zeros size (Some end) (b + 0))
trimmed-content size end b (Delalloc ∷ ks) ss (suc i) e = trimmed-content size end (b + 1) ks ss i e ∙ on-block size end b i (opening_bytes size (slice_get (cells_of ks ss) i))
trimmed-content size end b (Unwritten d ∷ ks) [] i e = absurd (let l : 0 ≡ suc (length (numbers_of ks)) = ap length e in omega arith)
trimmed-content size end b (Unwritten d ∷ ks) (s ∷ ss) zero e = sym (cut-zeros size (Some end) (b + 0))
trimmed-content size end b (Unwritten d ∷ ks) (s ∷ ss) (suc i) e = trimmed-content size end (b + 1) ks ss i (let t : sector_numbers ss ≡ numbers_of ks = cc in t) ∙ on-block size end b i (opening_bytes size (slice_get (cells_of ks ss) i))
trimmed-content size end b (Mapped d ∷ ks) [] i e = absurd (let l : 0 ≡ suc (length (numbers_of ks)) = ap length e in omega arith)
trimmed-content size end b (Mapped d ∷ ks) (s ∷ ss) zero e = ap (λ n. cut_content size (Some end) n s.bytes) (let p : b ≡ b + 0 = omega arith in p)
trimmed-content size end b (Mapped d ∷ ks) (s ∷ ss) (suc i) e = trimmed-content size end (b + 1) ks ss i (let t : sector_numbers ss ≡ numbers_of ks = cc in t) ∙ on-block size end b i (opening_bytes size (slice_get (cells_of ks ss) i))

-- the content of a block before the first entry: that which its sector had, with zeros from the end of its file on
pub trims-content : (size : ℕ) (end : Option ℕ) (b : ℕ) (ks : List Kind) (ss : List DeviceBlock) (i : ℕ) → sector_numbers ss ≡ numbers_of ks
    → opening_bytes size (slice_get (cells_of ks (trimmed_in size end b ks ss)) i) ≡ cut_content size end (b + i) (opening_bytes size (slice_get (cells_of ks ss) i))
trims-content size None b ks ss i e = refl
trims-content size (Some end) b ks ss i e = trimmed-content size end b ks ss i e
