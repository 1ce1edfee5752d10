-- The stripe of a file in its place among the stripes of all files.
use Rattle.std.proofs.Common.{◌≡◌, ℕ, zero, suc, ◌+◌, ◌-◌, ◌*◌, ◌<◌, min, Option, Some, List, [], ◌∷◌, ◌++◌, length, map, drop, refl, sym, ap, ◌∙◌, arith}
use Rattle.std.specs.Prelude.{slice_get}
use Rattle.std.proofs.lemmas.Option.{none-some}
use Rattle.std.proofs.lemmas.List.{append_assoc, length-append, length-drop, length-take}
use Rattle.iob_base.specs.declared.stamp.Mode.{Mode}
use Rattle.io_model.specs.declared.file.FileSpec.{FileSpec}
use Rattle.io_model.specs.declared.file.Kind.{Kind}
use Rattle.file_stripes.specs.Files.{kinds_of_file}
use Rattle.file_stripes.specs.Stripes.{AreStripes}
use Rattle.file_stripes.specs.declared.stripe.Stripe.{Stripe}
use Rattle.file_stripes.proofs.KindLemmas.{length-kinds_from}
use Rattle.mount_parts.specs.FilePlaces.{place_of, places_from, sized_at}
use Rattle.mount_parts.specs.MountView.{size_cells, stripes_of}
use Rattle.mount_parts.specs.Pieces.{AreCut, piece_of}
use Rattle.mount_parts.specs.declared.file.FilePlace.{FilePlace}
use Rattle.mount_parts.specs.declared.piece.Piece.{Piece}

-- A stripe is the i-th of a file: its blocks lie there
pub record IsPieceOf (mode : Mode) (blocks first i : ℕ) (p : Piece) : Type 0 where
  pub mode_is : p.mode ≡ mode
  pub first_is : p.stripe.first ≡ first + i * 64
  pub blocks_are : p.stripe.blocks ≡ min 64 (blocks - i * 64)

pub own-at : (mode : Mode) (size : Option ℕ) (first : ℕ) (kinds : List Kind) (own : List Stripe) (i : ℕ) (p : Piece) → AreStripes 64 first kinds own → slice_get (map (piece_of mode size) own) i ≡ Some p → IsPieceOf mode (length kinds) first i p
own-at mode size first kinds [] i p are at = absurd (none-some p at)
own-at mode size first kinds (s ∷ ss) zero p are at =
    let e : piece_of mode size s ≡ p = cc in
    record {
      mode_is = sym (ap (λ q. q.mode) e);
      first_is = (let h : p.stripe.first ≡ s.first = sym (ap (λ q. q.stripe.first) e) in omega (arith, are.0.first_is));
      blocks_are = (let h : p.stripe.blocks ≡ s.blocks = sym (ap (λ q. q.stripe.blocks) e) in omega (arith, are.0.blocks_are, length-take 64 kinds));
    }
own-at mode size first kinds (s ∷ ss) (suc i) p are at =
    let r = own-at mode size (first + 64) (drop 64 kinds) ss i p are.1 at in
    record {
      mode_is = r.mode_is;
      first_is = (let h = r.first_is in omega arith);
      blocks_are = (let h = r.blocks_are in omega (arith, length-drop 64 kinds));
    }

pub own-long : (mode : Mode) (size : Option ℕ) (first : ℕ) (kinds : List Kind) (own : List Stripe) → AreStripes 64 first kinds own → length (map (piece_of mode size) own) ≡ stripes_of (length kinds)
own-long mode size first kinds [] are = (let e : length kinds ≡ 0 = ap length are in omega arith)
own-long mode size first kinds (s ∷ ss) are =
    let rest = own-long mode size (first + 64) (drop 64 kinds) ss are.1 in
    omega (arith, rest, length-drop 64 kinds, length-take 64 kinds, are.0.blocks_are, are.0.some)

pub past : {A : Type 0} (pre own : List A) (i : ℕ) → slice_get (pre ++ own) (length pre + i) ≡ slice_get own i
past [] own i = ap (slice_get own) (omega arith)
past (p ∷ pre) own i = ap (slice_get (p ∷ pre ++ own)) (let e : suc (length pre) + i ≡ suc (length pre + i) = omega arith in e) ∙ past pre own i

pub among : (own rest : List Piece) (i : ℕ) → i < length own → slice_get (own ++ rest) i ≡ slice_get own i
among [] rest i below = absurd (omega arith)
among (p ∷ own) rest zero below = refl
among (p ∷ own) rest (suc i) below = among own rest i (omega arith)

-- of files that lie one after the other, whose stripes follow so many others, each stripe is that of its file
pub piece-at : (stripe cell : ℕ) (fs : List FileSpec) (pre ps : List Piece) (k i : ℕ) (file : FilePlace) (p : Piece) → length pre ≡ stripe → AreCut fs ps → slice_get (places_from stripe cell fs) k ≡ Some file → i < stripes_of file.blocks → slice_get (pre ++ ps) (file.stripe + i) ≡ Some p → IsPieceOf file.mode file.blocks 0 i p
piece-at stripe cell [] pre ps k i file p long cut there below at = absurd (none-some file there)
piece-at stripe cell (f ∷ fs) pre ps zero i file p long (own, rest, is, are, more) there below at =
    let mine : List Piece = map (piece_of f.mode f.size) own in
    let e : place_of f stripe cell ≡ file = cc in
    let b : length (kinds_of_file f) ≡ f.blocks = length-kinds_from f.extents 0 f.blocks in
    let fb : file.blocks ≡ f.blocks = sym (ap (λ q. q.blocks) e) in
    let fs' : file.stripe ≡ stripe = sym (ap (λ q. q.stripe) e) in
    let many : length mine ≡ stripes_of f.blocks = own-long f.mode f.size 0 (kinds_of_file f) own are ∙ ap stripes_of b in
    let here : slice_get mine i ≡ Some p =
    sym (among mine rest i (let w : stripes_of file.blocks ≡ stripes_of f.blocks = ap stripes_of fb in omega arith)) ∙ ap (λ l. slice_get l i) (sym is) ∙ sym (past pre ps i) ∙ ap (λ n. slice_get (pre ++ ps) (n + i)) (long ∙ sym fs') ∙ at in
    let r = own-at f.mode f.size 0 (kinds_of_file f) own i p are here in
    record { mode_is = r.mode_is ∙ ap (λ q. q.mode) e; first_is = r.first_is; blocks_are = r.blocks_are ∙ ap (λ n. min 64 (n - i * 64)) (b ∙ sym fb) }
piece-at stripe cell (f ∷ fs) pre ps (suc k) i file p long (own, rest, is, are, more) there below at =
    let mine : List Piece = map (piece_of f.mode f.size) own in
    let b : length (kinds_of_file f) ≡ f.blocks = length-kinds_from f.extents 0 f.blocks in
    let many : length mine ≡ stripes_of f.blocks = own-long f.mode f.size 0 (kinds_of_file f) own are ∙ ap stripes_of b in
    piece-at (stripe + stripes_of f.blocks) (cell + size_cells (sized_at f.size cell)) fs (pre ++ mine) rest k i file p (omega (arith, length-append pre mine, many, long)) more there below
    (ap (λ l. slice_get l (file.stripe + i)) (append_assoc pre mine rest ∙ ap (λ l. pre ++ l) (sym is)) ∙ at)
