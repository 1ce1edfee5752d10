-- A device's sectors go to the stripes of files and to the pool.
use Rattle.std.proofs.Common.{◌≡◌, ℕ, ◌+◌, ◌<◌, ◌≤◌, ◌^◌, ◌==◌, get_or, List, [], ◌∷◌, ◌++◌, length, drop, refl, sym, subst, ap, ◌∙◌, arith}
use Rattle.std.specs.Prelude.{All, if◌then◌else◌}
use Rattle.std.proofs.lemmas.List.Elements.{All-head}
use Rattle.std.proofs.lemmas.List.{drop_more}
use Rattle.iob_base.specs.DeviceBlock.{DeviceBlock}
use Rattle.iob_base.specs.Layout.{Layout}
use Rattle.io_model.specs.declared.file.FileSpec.{FileSpec}
use Rattle.file_stripes.specs.Files.{IsFile, blocks_of_files, numbers_of_files}
use Rattle.file_stripes.specs.Taking as device
use Rattle.file_stripes.specs.Taking.{sector_numbers, weight}
use Rattle.turn_cell.specs.Stakes.{total}
use Rattle.turn_cell.specs.Views.{CellView}
use Rattle.turn_cell.proofs.Sums.{total-append, total-map}
use Rattle.space_pool.specs.Claims.{ClaimsView, claims_with, times}
use Rattle.space_pool.specs.Pool.{AreDistinct, PoolView, fresh_pool}
use Rattle.space_pool.specs.Sectors.{SameSectors}
use Rattle.range_core.specs.RangeView.{RangeView}
use Rattle.mount_parts.specs.Pieces.{AreCut, AreOpened, KeepsFor, LaidStripes, blocks_of, idle_of, sectors_of}
use Rattle.mount_parts.specs.declared.piece.Piece.{Piece}

pub count-next : (files : List FileSpec) (i blocks : ℕ) (f : FileSpec) → i < length files → f ≡ get_or files i f → blocks + blocks_of_files (drop i files) ≡ blocks_of_files files → (blocks + f.blocks) + blocks_of_files (drop (i + 1) files) ≡ blocks_of_files files
count-next files i blocks f below is e =
    let here : blocks_of_files (drop i files) ≡ f.blocks + blocks_of_files (drop (i + 1) files) = ap blocks_of_files (drop_more files i f below) ∙ ap (λ g. g.blocks + blocks_of_files (drop (i + 1) files)) (sym is) in
    omega arith

same-times : (x : ℕ) (ns : List ℕ) → times x ns ≡ device.times x ns
same-times x [] = refl
same-times x (n ∷ ns) = ap (λ k. (if n == x then 1 else 0) + k) (same-times x ns)

same-weight : (f : DeviceBlock → ℕ) (ss : List DeviceBlock) → total f ss ≡ weight f ss
same-weight f [] = refl
same-weight f (s ∷ ss) = ap (λ k. f s + k) (same-weight f ss)

pub once-distinct : (ns : List ℕ) → ((x : ℕ) → device.times x ns ≤ 1) → AreDistinct ns
once-distinct ns once x = omega (arith, once x, same-times x ns)

pub front-distinct : (ns ms : List ℕ) → AreDistinct (ns ++ ms) → AreDistinct ns
front-distinct ns ms are x = omega (arith, are x, total-append (λ y. if y == x then 1 else 0) ns ms)

pub keeps-first : (size blocks : ℕ) (held sectors : List DeviceBlock) (claims : ClaimsView) → claims ≡ claims_with held blocks size → sectors ≡ held → (count : ℕ) → count ≡ blocks → KeepsFor size count sectors claims
keeps-first size blocks held sectors claims is same count e = record {
  numbers = λ f. ap (λ c. total f c.numbers) is ∙ total-map f (λ (s : DeviceBlock). s.number) held ∙ ap (total (λ s. f s.number)) (sym same);
  reserved = ap (λ c. c.reserved) is;
  cap = ap (λ c. c.cap) is ∙ sym e;
  sized = ap (λ c. c.size) is;
}

pub no-idle : (files : List FileSpec) (sectors : List DeviceBlock) → 0 < length files → idle_of files sectors ≡ []
no-idle [] sectors some = absurd (omega arith)
no-idle (f ∷ fs) sectors some = refl

pub laid-stripes : (geometry : Layout) (cookie cap : ℕ) (sectors held free idle : List DeviceBlock) (files : List FileSpec) (openings : List RangeView) (pool : CellView PoolView) (pieces : List Piece)
    → AreCut files pieces → sectors_of pieces ≡ held → AreOpened geometry cookie pool.cell (2 ^ 63) pieces openings → sector_numbers held ≡ numbers_of_files files → ((f : DeviceBlock → ℕ) → weight f held + weight f free ≡ weight f sectors)
    → SameSectors free pool.opening.free → pool.opening ≡ fresh_pool pool.opening.free (sector_numbers held ++ sector_numbers free) cap geometry.block_size → cap ≡ blocks_of_files files → idle ≡ [] → 0 < length files
    → LaidStripes geometry cookie sectors files openings pool idle
laid-stripes geometry cookie cap sectors held free idle files openings pool pieces cut held_are opened numbers all same fresh many none some = record {
  pieces = pieces;
  cut = cut;
  opened = opened;
  numbers = ap sector_numbers held_are ∙ numbers;
  all = λ f. (let z : total f idle ≡ 0 = ap (total f) none in omega (arith, ap (total f) held_are, same f, same-weight f held, same-weight f free, same-weight f sectors, all f, z));
  free = ap (λ p. p.reserved) fresh;
  known = λ f.
      let g : DeviceBlock → ℕ = λ s. f s.number in
      let e : total f pool.opening.numbers ≡ total f (sector_numbers held ++ sector_numbers free) = ap (λ p. total f p.numbers) fresh in
      let a : total f (sector_numbers held) ≡ total g held = total-map f (λ (s : DeviceBlock). s.number) held in
      let b : total f (sector_numbers free) ≡ total g free = total-map f (λ (s : DeviceBlock). s.number) free in
      let z : total g idle ≡ 0 = ap (total g) none in
      omega (arith, e, total-append f (sector_numbers held) (sector_numbers free), a, b, same-weight g held, same-weight g free, same-weight g sectors, all g, z);
  cap = ap (λ p. p.cap) fresh ∙ many;
  size = ap (λ p. p.size) fresh;
  idle_is = none ∙ sym (no-idle files sectors some);
}

no-files : (files : List FileSpec) → length files ≡ 0 → files ≡ []
no-files [] e = refl
no-files (f ∷ fs) e = absurd (omega arith)

-- a device without files, whose pool has no sectors
pub laid-none : (geometry : Layout) (cookie : ℕ) (sectors none free : List DeviceBlock) (files : List FileSpec) (openings : List RangeView) (pool : CellView PoolView) → length files ≡ 0 → openings ≡ [] → none ≡ [] → free ≡ []
    → SameSectors free pool.opening.free → pool.opening ≡ fresh_pool pool.opening.free (sector_numbers none ++ sector_numbers free) 0 geometry.block_size → LaidStripes geometry cookie sectors files openings pool sectors
laid-none geometry cookie sectors none free files openings pool e o n m same fresh =
    let numbers : pool.opening.numbers ≡ [] = ap (λ p. p.numbers) fresh ∙ ap (λ l. sector_numbers l ++ sector_numbers free) n ∙ ap sector_numbers m in
    subst (λ fs. LaidStripes geometry cookie sectors fs openings pool sectors) (sym (no-files files e)) (record {
      pieces = [];
      cut = refl;
      opened = o;
      numbers = refl;
      all = λ f. (let z : total f free ≡ 0 = ap (total f) m in omega (arith, same f, z));
      free = ap (λ p. p.reserved) fresh;
      known = λ f. (let z : total f pool.opening.numbers ≡ 0 = ap (total f) numbers in omega (arith, z));
      cap = ap (λ p. p.cap) fresh;
      size = ap (λ p. p.size) fresh;
      idle_is = refl;
    })

-- files have stripes
pub some-pieces : (files : List FileSpec) (pieces : List Piece) → All IsFile files → 0 < length files → blocks_of pieces ≡ blocks_of_files files → 0 < length pieces
some-pieces [] pieces are some e = absurd (omega arith)
some-pieces (f ∷ fs) [] are some e = absurd (let h = (All-head IsFile f fs are).some in omega arith)
some-pieces (f ∷ fs) (p ∷ ps) are some e = omega arith
