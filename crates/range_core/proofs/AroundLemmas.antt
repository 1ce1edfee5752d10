-- The bytes of a page around a part of its block.
use Rattle.std.proofs.Common.{◌≡◌, ℕ, ◌+◌, ◌-◌, ◌*◌, ◌≤◌, Bool, true, false, Option, Some, None, if◌then◌else◌, zero, suc, List, [], ◌∷◌, ◌++◌, All, length, map, take, drop, get_or, refl, sym, ◌∙◌, ap, subst, arith, append-nil, append_assoc, length-drop}
use borrow.Rule.Slice.PartMut.{put_mid}
use Rattle.std.specs.List.{refill}
use Rattle.std.specs.Prelude.{IsSomeAnd, slice_get, slice_set}
use Rattle.iob_base.specs.Parting.{pages_of}
use Rattle.iob_base.specs.declared.part.Part.{Part}
use Rattle.iob_base.specs.declared.sector.Page.{Page}
use Rattle.std.proofs.Math.Seq.{drop-append_seam, take-append-add, take-append_seam}
use Rattle.std.proofs.lemmas.List.{drop_all, length-replicate, length-take-le, take_all}
use Rattle.io_model.specs.Contents.{Content, zeros}
use Rattle.io_model.specs.Effects.{overlay}
use Rattle.io_model.specs.Lists.{bytes_between}
use Rattle.io_model.specs.Parts.{part_in, span}
use Rattle.range_core.specs.BlockTruth.{IsWholePage}
use Rattle.range_core.specs.ByteRuns.{IsByteRun, IsRunIn, part_at, part_bytes}
use Rattle.range_core.specs.Kinds.{is_mapped}
use Rattle.range_core.specs.Paging.{bytes_of}
use Rattle.range_core.specs.LendParts.{IsOpenPart, around_in, with_around}
use Rattle.range_core.specs.RangeView.{RangeView}
use Rattle.range_core.specs.Spots.{bytes_of_part, overlaid}
use Rattle.range_core.specs.declared.cell.Cell.{Cell}
use Rattle.range_core.specs.declared.parts.BlockPart.{BlockPart}
use Rattle.range_core.specs.declared.parts.ByteRun.{ByteRun}
use Rattle.range_core.proofs.ByteRunLemmas.{begun, begun-none, next_part}
use Rattle.range_core.proofs.LayLemmas.{length-overlay}
use Rattle.range_core.proofs.LendLemmas.{MayLend}
use Rattle.range_core.proofs.DirectNowLemmas.{refill-whole}
use Rattle.range_core.proofs.StoreLemmas.{part_piece}

-- bytes that were changed from a place on
put_back : (end : ℕ) (xs ys : List ℕ) → put_mid end (length xs - end) xs ys ≡ take end xs ++ ys
put_back end xs ys = ap (λ l. take end xs ++ (ys ++ l)) (drop_all (length xs - end) (drop end xs) (omega (arith, length-drop end xs))) ∙ ap (λ l. take end xs ++ l) (append-nil ys)

-- bytes that were changed before a part and after it
pub around_laid : (at n : ℕ) (bytes around front back : List ℕ) → at + n ≤ length bytes → length around ≡ length bytes → front ≡ take at around → back ≡ drop (at + n) around
    → put_mid (at + n) (length (front ++ drop at bytes) - (at + n)) (front ++ drop at bytes) back ≡ overlay at (take n (drop at bytes)) around
around_laid at n bytes around front back within long f b =
    let part : List ℕ = take n (drop at bytes) in
    let first : length front ≡ at = ap length f ∙ length-take-le at around (omega arith) in
    let many : length part ≡ n = length-take-le n (drop at bytes) (omega (arith, length-drop at bytes)) in
    let taken : take (at + n) (front ++ drop at bytes) ≡ take at around ++ part = ap (λ m. take (m + n) (front ++ drop at bytes)) (sym first) ∙ take-append-add front (drop at bytes) n ∙ ap (λ l. l ++ part) f in
    put_back (at + n) (front ++ drop at bytes) back ∙ ap (λ l. l ++ back) taken ∙ append_assoc (take at around) part back
    ∙ ap (λ l. take at around ++ (part ++ l)) (b ∙ ap (λ m. drop (at + m) around) (sym many))

-- a part of a content over which other bytes were laid has these bytes
part_laid : (at n : ℕ) (part around : List ℕ) → length part ≡ n → at + n ≤ length around → take n (drop at (overlay at part around)) ≡ part
part_laid at n part around many within =
    let first : length (take at around) ≡ at = length-take-le at around (omega arith) in
    let rest : List ℕ = drop (at + length part) around in
    ap (λ m. take n (drop m (take at around ++ (part ++ rest)))) (sym first) ∙ ap (take n) (drop-append_seam (take at around) (part ++ rest)) ∙ ap (λ m. take m (part ++ rest)) (sym many) ∙ take-append_seam part rest

module _ (run : ByteRun) (r : IsByteRun run) (alone : run.blocks ≡ 1) where
  abbrev b : ℕ
  b = run.first

  abbrev p : BlockPart
  p = part_at run run.first

  b_is : run.first + 0 ≡ b
  b_is = omega arith

  -- the part lies in the block
  pub part_within : p.at + p.length ≤ run.size
  part_within = let W : ℕ → Type 0 = λ m. (part_at run m).at + (part_at run m).length ≤ run.size in subst W b_is (next_part run r 0 (omega arith)).within

  -- a page with a part of its own and a content around has that content around the part
  pub around_part : (bytes around : Content) → length bytes ≡ run.size → length around ≡ run.size
      → overlay p.at (part_bytes p bytes) around ≡ overlaid run.size run.from run.to (bytes_of_part run.size run.from run.to b (overlay p.at (part_bytes p bytes) around)) b around
  around_part bytes around whole long =
      let part : List ℕ = part_bytes p bytes in
      let page : List ℕ = overlay p.at part around in
      let within = part_within in
      let many : length part ≡ p.length = length-take-le p.length (drop p.at bytes) (omega (arith, length-drop p.at bytes)) in
      let begins = r.begins in
      let some = r.some in
      let starts = r.starts in
      let count : (part_in run.size (span run.from run.to) b).to - b * run.size - ((part_in run.size (span run.from run.to) b).from - b * run.size) ≡ p.length = omega arith in
      let own : bytes_of_part run.size run.from run.to b page ≡ part = ap (λ m. take m (drop p.at page)) count ∙ part_laid p.at p.length part around many (omega arith) in
      let P : ℕ → Type 0 = λ m. bytes_between ((part_in run.size (span run.from run.to) m).from - run.from) ((part_in run.size (span run.from run.to) m).to - run.from) part ≡ take (part_at run m).length (drop (begun run 0) part) in
      let piece : P b = subst P b_is (part_piece run r 0 (omega arith) part) in
      let all : take p.length (drop (begun run 0) part) ≡ part = ap (λ m. take p.length (drop m part)) (begun-none run r) ∙ take_all p.length part (omega arith) in
      ap (λ l. overlay p.at l around) (sym (piece ∙ all)) ∙ ap (λ l. overlaid run.size run.from run.to l b around) (sym own)

  -- and is as long as a block
  pub length-around : (bytes around : Content) → length bytes ≡ run.size → length around ≡ run.size → length (overlay p.at (part_bytes p bytes) around) ≡ run.size
  length-around bytes around whole long =
      let within = part_within in
      let many : length (part_bytes p bytes) ≡ p.length = length-take-le p.length (drop p.at bytes) (omega (arith, length-drop p.at bytes)) in
      length-overlay p.at (part_bytes p bytes) around (omega arith) ∙ long

-- what a block has around a part is as long as the block
pub length-around_in : (size : ℕ) (c : Cell) → (is_mapped c.kind ≡ true → IsSomeAnd c.page (IsWholePage size)) → length (around_in size c) ≡ size
length-around_in size c page = at (is_mapped c.kind) refl
  where
    long : (o : Option Page) → IsSomeAnd o (IsWholePage size) → length (bytes_of o) ≡ size
    long None h = absurd h
    long (Some p) h = h

    at : (m : Bool) → is_mapped c.kind ≡ m → length (around_in size c) ≡ size
    at true e = ap (λ u. length (if u then bytes_of c.page else zeros size)) e ∙ long c.page (page e)
    at false e = ap (λ u. length (if u then bytes_of c.page else zeros size)) e ∙ length-replicate size 0

-- a page stays whole
with_around-whole : (size : ℕ) (part : BlockPart) (around : Content) (p : Page) → part.at + part.length ≤ size → length around ≡ size → IsWholePage size p → IsWholePage size (with_around part around p)
with_around-whole size part around p within long whole =
    let many : length (part_bytes part p.bytes) ≡ part.length = length-take-le part.length (drop part.at p.bytes) (omega (arith, whole, length-drop part.at p.bytes)) in
    length-overlay part.at (part_bytes part p.bytes) around (omega arith) ∙ long

pub laid_whole : (size : ℕ) (part : BlockPart) (around : Content) (pages : List Page) → part.at + part.length ≤ size → length around ≡ size → length pages ≡ 1 → All (IsWholePage size) pages → All (IsWholePage size) (map (with_around part around) pages)
laid_whole size part around [] within long one whole = absurd (omega arith)
laid_whole size part around (p ∷ []) within long one whole = at
  where
    at : All (IsWholePage size) (with_around part around p ∷ [])
    at zero d l = with_around-whole size part around p within long (whole 0 p (omega arith))
    at (suc k) d l = absurd (omega arith)
laid_whole size part around (p ∷ q ∷ pages) within long one whole = absurd (omega arith)

-- a list of one part whose page was laid around
pub one_laid : (size : ℕ) (part : BlockPart) (c : Cell) (pages parts : List Part) (d new : Part) → parts ≡ pages → length (pages_of pages) ≡ 1 → All (IsWholePage size) (pages_of pages)
    → new ≡ record (get_or parts 0 d) { page = with_around part (around_in (length (get_or parts 0 d).page.bytes) c) (get_or parts 0 d).page } → pages_of (refill (length pages) pages (slice_set parts 0 new)) ≡ map (with_around part (around_in size c)) (pages_of pages)
one_laid size part c [] parts d new same one whole laid = absurd (omega arith)
one_laid size part c (p ∷ []) parts d new same one whole laid =
    let put : slice_set parts 0 new ≡ new ∷ [] = ap (λ l. slice_set l 0 new) same in
    let old_is : get_or parts 0 d ≡ p = ap (λ l. get_or l 0 d) same in
    let long : length p.page.bytes ≡ size = whole 0 p.page (omega arith) in
    let page : new.page ≡ with_around part (around_in size c) p.page =
    ap (λ (q : Part). q.page) laid ∙ ap (λ (q : Part). with_around part (around_in (length q.page.bytes) c) q.page) old_is ∙ ap (λ m. with_around part (around_in m c) p.page) long in
    ap pages_of (refill-whole (p ∷ []) (slice_set parts 0 new) (ap length put) ∙ put) ∙ ap (λ q. q ∷ []) page
one_laid size part c (p ∷ q ∷ pages) parts d new same one whole laid = absurd (omega arith)

-- the block of an open part may be lent
pub open_lends : (r : RangeView) (run : ByteRun) (pages : List Page) → IsRunIn r run → IsOpenPart r run pages → MayLend r.cells (run.first - r.first) 1
open_lends r run pages at able =
    let low = at.lies.low in
    let high = at.lies.high in
    let one = able.alone in
    record {
      within = omega arith;
      home = λ k c l there. let z : run.first - r.first + k ≡ run.first - r.first = omega arith in (able.block c (ap (slice_get r.cells) (sym z) ∙ there)).home;
      space = λ k c l there. let z : run.first - r.first + k ≡ run.first - r.first = omega arith in (able.block c (ap (slice_get r.cells) (sym z) ∙ there)).space;
    }
