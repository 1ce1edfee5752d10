-- Files are cut into stripes, one after another.
use Rattle.std.proofs.Common.{◌≡◌, ℕ, suc, ◌+◌, ◌<◌, get_or, Option, List, [], ◌∷◌, ◌++◌, length, map, take, drop, refl, sym, subst, ap, ◌∙◌, arith}
use Rattle.std.specs.Prelude.{All}
use Rattle.std.proofs.lemmas.List.{append-nil, append_assoc, append_cancel_left, drop_all, length-append, map-append, take-append-drop, take_all, take_more}
use Rattle.std.proofs.lemmas.List.Elements.{All-append, All-cons, All-nil}
use Rattle.iob_base.specs.DeviceBlock.{DeviceBlock}
use Rattle.iob_base.specs.declared.stamp.Mode.{Mode}
use Rattle.io_model.specs.declared.file.FileSpec.{FileSpec}
use Rattle.io_model.specs.declared.file.Kind.{Kind}
use Rattle.file_stripes.specs.Files.{blocks_of_files, kinds_of_file, numbers_of_file, numbers_of_files}
use Rattle.file_stripes.specs.Stripes.{AreStripes, IsStripe, sectors_in}
use Rattle.file_stripes.specs.Taking.{BeginsWith, sector_numbers}
use Rattle.file_stripes.specs.declared.stripe.Stripe.{Stripe}
use Rattle.file_stripes.proofs.KindLemmas.{length-kinds_from}
use Rattle.file_stripes.proofs.TakingLemmas.{files_next}
use Rattle.mount_parts.specs.Pieces.{AddsFile, AreCut, IsPiece, blocks_of, piece_of, sectors_of}
use Rattle.mount_parts.specs.declared.piece.Piece.{Piece}

cut-more : (fs : List FileSpec) (f : FileSpec) (ps : List Piece) (own : List Stripe) → AreCut fs ps → AreStripes 64 0 (kinds_of_file f) own → AreCut (fs ++ f ∷ []) (ps ++ map (piece_of f.mode f.size) own)
cut-more [] f ps own none are = (own, [], ap (λ l. l ++ map (piece_of f.mode f.size) own) none ∙ sym (append-nil (map (piece_of f.mode f.size) own)), are, refl)
cut-more (g ∷ fs) f ps own (theirs, rest, is, ok, more) are =
    (theirs, rest ++ map (piece_of f.mode f.size) own, ap (λ l. l ++ map (piece_of f.mode f.size) own) is ∙ append_assoc (map (piece_of g.mode g.size) theirs) rest (map (piece_of f.mode f.size) own), ok, cut-more fs f rest own more are)

sectors-append : (ps qs : List Piece) → sectors_of (ps ++ qs) ≡ sectors_of ps ++ sectors_of qs
sectors-append [] qs = refl
sectors-append (p ∷ ps) qs = ap (λ l. p.stripe.sectors ++ l) (sectors-append ps qs) ∙ sym (append_assoc p.stripe.sectors (sectors_of ps) (sectors_of qs))

sectors-own : (mode : Mode) (size : Option ℕ) (own : List Stripe) → sectors_of (map (piece_of mode size) own) ≡ sectors_in own
sectors-own mode size [] = refl
sectors-own mode size (s ∷ ss) = ap (λ l. s.sectors ++ l) (sectors-own mode size ss)

blocks-append : (ps qs : List Piece) → blocks_of (ps ++ qs) ≡ blocks_of ps + blocks_of qs
blocks-append [] qs = omega arith
blocks-append (p ∷ ps) qs = omega (arith, blocks-append ps qs)

blocks-own : (mode : Mode) (size : Option ℕ) (b : ℕ) (kinds : List Kind) (own : List Stripe) → AreStripes 64 b kinds own → blocks_of (map (piece_of mode size) own) ≡ length kinds
blocks-own mode size b kinds [] none = sym (ap length none)
blocks-own mode size b kinds (s ∷ ss) are =
    omega (arith, are.0.blocks_are, blocks-own mode size (b + 64) (drop 64 kinds) ss are.1, length-append (take 64 kinds) (drop 64 kinds), ap length (take-append-drop 64 kinds))

piece-is : (mode : Mode) (size : Option ℕ) (b : ℕ) (kinds : List Kind) (s : Stripe) → IsStripe b kinds s → IsPiece (piece_of mode size s)
piece-is mode size b kinds s is = record { some = is.some; below = is.below; inside = is.inside; sectors_are = is.sectors_are; few = is.few }

pieces-own : (mode : Mode) (size : Option ℕ) (b : ℕ) (kinds : List Kind) (own : List Stripe) → AreStripes 64 b kinds own → All IsPiece (map (piece_of mode size) own)
pieces-own mode size b kinds [] none = All-nil IsPiece
pieces-own mode size b kinds (s ∷ ss) are = All-cons IsPiece (piece_of mode size s) (map (piece_of mode size) ss) (piece-is mode size b (take 64 kinds) s are.0) (pieces-own mode size (b + 64) (drop 64 kinds) ss are.1)

pub cut-pieces : (fs : List FileSpec) (ps : List Piece) → AreCut fs ps → All IsPiece ps
cut-pieces [] ps none = subst (All IsPiece) (sym none) (All-nil IsPiece)
cut-pieces (f ∷ fs) ps (own, rest, is, ok, more) =
    subst (All IsPiece) (sym is) (All-append IsPiece (map (piece_of f.mode f.size) own) rest (pieces-own f.mode f.size 0 (kinds_of_file f) own ok) (cut-pieces fs rest more))

pub cut-blocks : (fs : List FileSpec) (ps : List Piece) → AreCut fs ps → blocks_of ps ≡ blocks_of_files fs
cut-blocks [] ps none = ap blocks_of none
cut-blocks (f ∷ fs) ps (own, rest, is, ok, more) =
    omega (arith, ap blocks_of is, blocks-append (map (piece_of f.mode f.size) own) rest, blocks-own f.mode f.size 0 (kinds_of_file f) own ok, length-kinds_from f.extents 0 f.blocks, cut-blocks fs rest more)

-- The first so many files are cut, and these sectors are left for the rest
pub record CutSoFar (all : List FileSpec) (i : ℕ) (ps : List Piece) (held rest : List DeviceBlock) : Type 0 where
  pub cut : AreCut (take i all) ps
  pub sectors : sectors_of ps ++ rest ≡ held
  pub numbers : sector_numbers rest ≡ numbers_of_files (drop i all)

pub cut-none : (all : List FileSpec) (ps : List Piece) (held : List DeviceBlock) → ps ≡ [] → sector_numbers held ≡ numbers_of_files all → CutSoFar all 0 ps held held
cut-none all ps held e n = record { cut = e; sectors = ap (λ l. sectors_of l ++ held) e; numbers = n }

pub cut-begins : (all : List FileSpec) (i : ℕ) (f : FileSpec) (ps : List Piece) (held rest : List DeviceBlock) → CutSoFar all i ps held rest → i < length all → f ≡ get_or all i f → BeginsWith (numbers_of_file f) (sector_numbers rest)
cut-begins all i f ps held rest so below is = (numbers_of_files (drop (i + 1) all), so.numbers ∙ files_next all i f below is)

pub cut-next : (all : List FileSpec) (i : ℕ) (f : FileSpec) (ps qs : List Piece) (held rest more : List DeviceBlock) → CutSoFar all i ps held rest → i < length all → f ≡ get_or all i f → AddsFile f ps rest qs more → CutSoFar all (i + 1) qs held more
cut-next all i f ps qs held rest more so below is adds =
    let own = adds.stripes in
    let taken : take (i + 1) all ≡ take i all ++ f ∷ [] = take_more all i f below ∙ ap (λ g. take i all ++ g ∷ []) (sym is) in
    let whole : sector_numbers (sectors_in own) ++ sector_numbers more ≡ sector_numbers (sectors_in own) ++ numbers_of_files (drop (i + 1) all) =
    sym (map-append (λ (s : DeviceBlock). s.number) (sectors_in own) more) ∙ ap sector_numbers adds.sectors ∙ so.numbers ∙ files_next all i f below is ∙ ap (λ ns. ns ++ numbers_of_files (drop (i + 1) all)) (sym adds.numbers) in
    record {
      cut = subst (λ fs. AreCut fs qs) (sym taken) (subst (AreCut (take i all ++ f ∷ [])) (sym adds.pieces_are) (cut-more (take i all) f ps own so.cut adds.cut));
      sectors = ap (λ l. sectors_of l ++ more) adds.pieces_are ∙ ap (λ l. l ++ more) (sectors-append ps (map (piece_of f.mode f.size) own) ∙ ap (λ l. sectors_of ps ++ l) (sectors-own f.mode f.size own))
          ∙ append_assoc (sectors_of ps) (sectors_in own) more ∙ ap (λ l. sectors_of ps ++ l) adds.sectors ∙ so.sectors;
      numbers = append_cancel_left (sector_numbers (sectors_in own)) (sector_numbers more) (numbers_of_files (drop (i + 1) all)) whole;
    }

no-numbers : (rest : List DeviceBlock) → sector_numbers rest ≡ [] → rest ≡ []
no-numbers [] e = refl
no-numbers (s ∷ ss) e = absurd (let l : suc (length (sector_numbers ss)) ≡ 0 = ap length e in omega arith)

pub cut-all : (all : List FileSpec) (i : ℕ) (ps : List Piece) (held rest : List DeviceBlock) → CutSoFar all i ps held rest → i ≡ length all → AreCut all ps
cut-all all i ps held rest so e = subst (λ fs. AreCut fs ps) (take_all i all (omega arith)) so.cut

pub cut-sectors : (all : List FileSpec) (i : ℕ) (ps : List Piece) (held rest : List DeviceBlock) → CutSoFar all i ps held rest → i ≡ length all → sectors_of ps ≡ held
cut-sectors all i ps held rest so e =
    let none : rest ≡ [] = no-numbers rest (so.numbers ∙ ap numbers_of_files (drop_all i all (omega arith))) in
    sym (append-nil (sectors_of ps)) ∙ ap (λ l. sectors_of ps ++ l) (sym none) ∙ so.sectors
