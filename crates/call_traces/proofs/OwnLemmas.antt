-- What the acts of a call made at one stripe.
use Rattle.std.proofs.Common.{◌≡◌, ℕ, zero, suc, ◌+◌, ◌/◌, ◌<◌, ◌≤◌, ◌==◌, Bool, true, false, List, [], ◌∷◌, ◌++◌, length, get_or, if◌then◌else◌, refl, sym, ap, ◌∙◌, arith, inl, inr}
use Rattle.std.specs.Prelude.{All, Some, None}
use Rattle.std.specs.List.{cons_option}
use Rattle.std.proofs.lemmas.Bool.{cases_eq, cases_order, eq-eqb, ne_eqb}
use Rattle.std.proofs.lemmas.List.Elements.{All-head, All-tail}
use Rattle.iob_base.specs.declared.stamp.FileId.{FileId}
use Rattle.iob_base.specs.declared.stamp.Stamp.{Stamp}
use Rattle.turn_cell.specs.Stakes.{total}
use Rattle.turn_cell.proofs.Sums.{total-append}
use Rattle.range_core.specs.EntryStamps.{stamps_of}
use Rattle.range_core.specs.Stamps.{stamps_at}
use Rattle.range_core.specs.declared.entry.Entry.{Entry}
use Rattle.mount_parts.specs.MountView.{HasBlock, IsLaidOut, LieInOrder, MountView, no_file, size_cells, stripe_at, stripes_of}
use Rattle.mount_parts.specs.declared.file.FilePlace.{FilePlace}
use Rattle.mini_fs.specs.Acts.{Act, made_in, own_entries, seen_in}
use Rattle.mini_fs.specs.Acts.Act.{Turn, SizeTurn, Busy, Open, Close, Take, Refused, Leave, Run, Note, Number}
use Rattle.mini_fs.specs.CallActs.{IsActAt}
use Rattle.call_parts.specs.Steps.{IsPlaced}
use Rattle.call_traces.specs.Journals.{weight_left}

module _ (f : Entry → ℕ) (k : ℕ) where
  -- what was made is among what was seen
  pub made-few : (acts : List Act) → total f (made_in k acts) ≤ total f (seen_in k acts)
  made-few [] = omega arith
  made-few (Turn stripe others own ∷ acts) = at (stripe == k) (made-few acts)
    where
      at : (t : Bool) → total f (made_in k acts) ≤ total f (seen_in k acts) → total f ((if t then own ∷ [] else []) ++ made_in k acts) ≤ total f ((if t then others ++ own ∷ [] else []) ++ seen_in k acts)
      at true le = omega (arith, le, total-append f (others ++ own ∷ []) (seen_in k acts), total-append f others (own ∷ []))
      at false le = le
  made-few (SizeTurn cell others own ∷ acts) = made-few acts
  made-few (Busy stripe word ∷ acts) = made-few acts
  made-few (Open stripe ∷ acts) = made-few acts
  made-few (Close stripe ∷ acts) = made-few acts
  made-few (Take file c before after ∷ acts) = made-few acts
  made-few (Refused file c before after ∷ acts) = made-few acts
  made-few (Leave file c before after ∷ acts) = made-few acts
  made-few (Run bios ∷ acts) = made-few acts
  made-few (Note begun ∷ acts) = made-few acts
  made-few (Number call ∷ acts) = made-few acts

-- stamps of blocks of other stripes are none of a block
none-here : (m : MountView) (file : FileId) (stripe b : ℕ) (log : List (ℕ × Stamp)) → (stripe ≡ stripe_at m file b → ⊥) → All (λ x. stripe ≡ stripe_at m file x.0) log → stamps_at b log ≡ []
none-here m file stripe b [] apart all = refl
none-here m file stripe b (x ∷ log) apart all =
    let here : stripe ≡ stripe_at m file x.0 = All-head (λ (y : ℕ × Stamp). stripe ≡ stripe_at m file y.0) x log all in
    let other : (x.0 == b) ≡ false = ne_eqb x.0 b (λ e. apart (here ∙ ap (stripe_at m file) e)) in
    ap (λ t. cons_option (if t then Some x.1 else None) (stamps_at b log)) other ∙ none-here m file stripe b log apart (All-tail (λ (y : ℕ × Stamp). stripe ≡ stripe_at m file y.0) x log all)

module _ (m : MountView) (file : FileId) (b : ℕ) (f : Stamp → ℕ) where
  -- all stamps that a call left on a block of its file were left at the block's stripe
  pub made-placed : (acts : List Act) → All (IsPlaced m file) acts → total (weight_left m.geometry.block_size b f) (made_in (stripe_at m file b) acts) ≡ total (weight_left m.geometry.block_size b f) (own_entries acts)
  made-placed [] placed = refl
  made-placed (Turn stripe others own ∷ acts) placed = elim (cases_eq stripe (stripe_at m file b)) [
    | inl e ↦
        ap (λ t. total (weight_left m.geometry.block_size b f) ((if t then own ∷ [] else []) ++ made_in (stripe_at m file b) acts)) (eq-eqb stripe (stripe_at m file b) e)
        ∙ ap (λ k. weight_left m.geometry.block_size b f own + k) (made-placed acts (All-tail (IsPlaced m file) (Turn stripe others own) acts placed))
    | inr apart ↦
        let none : weight_left m.geometry.block_size b f own ≡ 0 = ap (total f) (none-here m file stripe b (stamps_of m.geometry.block_size own) apart (All-head (IsPlaced m file) (Turn stripe others own) acts placed)) in
        let away : total (weight_left m.geometry.block_size b f) (made_in (stripe_at m file b) (Turn stripe others own ∷ acts)) ≡ total (weight_left m.geometry.block_size b f) (made_in (stripe_at m file b) acts) =
        ap (λ t. total (weight_left m.geometry.block_size b f) ((if t then own ∷ [] else []) ++ made_in (stripe_at m file b) acts)) (ne_eqb stripe (stripe_at m file b) apart) in
        omega (arith, away, none, made-placed acts (All-tail (IsPlaced m file) (Turn stripe others own) acts placed))
  ]
  made-placed (SizeTurn cell others own ∷ acts) placed = made-placed acts (All-tail (IsPlaced m file) _ acts placed)
  made-placed (Busy stripe word ∷ acts) placed = made-placed acts (All-tail (IsPlaced m file) _ acts placed)
  made-placed (Open stripe ∷ acts) placed = made-placed acts (All-tail (IsPlaced m file) _ acts placed)
  made-placed (Close stripe ∷ acts) placed = made-placed acts (All-tail (IsPlaced m file) _ acts placed)
  made-placed (Take at c before after ∷ acts) placed = made-placed acts (All-tail (IsPlaced m file) _ acts placed)
  made-placed (Refused at c before after ∷ acts) placed = made-placed acts (All-tail (IsPlaced m file) _ acts placed)
  made-placed (Leave at c before after ∷ acts) placed = made-placed acts (All-tail (IsPlaced m file) _ acts placed)
  made-placed (Run bios ∷ acts) placed = made-placed acts (All-tail (IsPlaced m file) _ acts placed)
  made-placed (Note begun ∷ acts) placed = made-placed acts (All-tail (IsPlaced m file) _ acts placed)
  made-placed (Number call ∷ acts) placed = made-placed acts (All-tail (IsPlaced m file) _ acts placed)

-- a file's stripes lie from this one on
lies-from : (fs : List FilePlace) (from size stripes sizes g j : ℕ) → LieInOrder from size fs stripes sizes → j < stripes_of (get_or fs g no_file).blocks → from ≤ (get_or fs g no_file).stripe
lies-from [] from size stripes sizes g j lies below = absurd (omega arith)
lies-from (f ∷ fs) from size stripes sizes zero j lies below = let e = lies.0 in omega arith
lies-from (f ∷ fs) from size stripes sizes (suc g) j lies below = let h = lies-from fs (from + stripes_of f.blocks) (size + size_cells f.size) stripes sizes g j lies.2 below in omega (arith, h)

-- the stripes of one file lie before those of later ones
lies-before : (fs : List FilePlace) (from size stripes sizes f g i j : ℕ) → LieInOrder from size fs stripes sizes → f < g → i < stripes_of (get_or fs f no_file).blocks → j < stripes_of (get_or fs g no_file).blocks
    → (get_or fs f no_file).stripe + i < (get_or fs g no_file).stripe + j
lies-before [] from size stripes sizes f g i j lies less here there = absurd (omega arith)
lies-before (x ∷ fs) from size stripes sizes zero zero i j lies less here there = absurd (omega arith)
lies-before (x ∷ fs) from size stripes sizes zero (suc g) i j lies less here there =
    let e = lies.0 in let h = lies-from fs (from + stripes_of x.blocks) (size + size_cells x.size) stripes sizes g j lies.2 there in omega (arith, e, h, here)
lies-before (x ∷ fs) from size stripes sizes (suc f) zero i j lies less here there = absurd (omega arith)
lies-before (x ∷ fs) from size stripes sizes (suc f) (suc g) i j lies less here there = lies-before fs (from + stripes_of x.blocks) (size + size_cells x.size) stripes sizes f g i j lies.2 (omega arith) here there

-- blocks of two files lie in different stripes
files-apart : (m : MountView) (file other : FileId) (b c : ℕ) → IsLaidOut m → (file.0 ≡ other.0 → ⊥) → HasBlock m file b → HasBlock m other c → stripe_at m file b ≡ stripe_at m other c → ⊥
files-apart m file other b c laid apart here there same = elim (cases_order file.0 other.0) [
  | inl e ↦ apart e
  | inr unequal ↦ elim unequal [
    | inl less ↦ (let h = lies-before m.files 0 0 (length m.stripes) (length m.sizes) file.0 other.0 (b / 64) (c / 64) laid.order less (omega arith) (omega arith) in omega (arith, h, same))
    | inr more ↦ (let h = lies-before m.files 0 0 (length m.stripes) (length m.sizes) other.0 file.0 (c / 64) (b / 64) laid.order more (omega arith) (omega arith) in omega (arith, h, same))
  ]
]

-- a call made nothing at the stripes of other files
pub made-elsewhere : (m : MountView) (file other : FileId) (b : ℕ) (acts : List Act) → IsLaidOut m → (other.0 ≡ file.0 → ⊥) → HasBlock m file b → All (IsActAt m other) acts → made_in (stripe_at m file b) acts ≡ []
made-elsewhere m file other b [] laid apart has at = refl
made-elsewhere m file other b (Turn stripe others own ∷ acts) laid apart has at =
    let here = All-head (IsActAt m other) (Turn stripe others own) acts at in
    let away : (stripe == stripe_at m file b) ≡ false = ne_eqb stripe (stripe_at m file b) (λ e. files-apart m other file here.0 b laid apart here.1 has (sym here.2 ∙ e)) in
    ap (λ t. (if t then own ∷ [] else []) ++ made_in (stripe_at m file b) acts) away ∙ made-elsewhere m file other b acts laid apart has (All-tail (IsActAt m other) _ acts at)
made-elsewhere m file other b (SizeTurn cell others own ∷ acts) laid apart has at = made-elsewhere m file other b acts laid apart has (All-tail (IsActAt m other) _ acts at)
made-elsewhere m file other b (Busy stripe word ∷ acts) laid apart has at = made-elsewhere m file other b acts laid apart has (All-tail (IsActAt m other) _ acts at)
made-elsewhere m file other b (Open stripe ∷ acts) laid apart has at = made-elsewhere m file other b acts laid apart has (All-tail (IsActAt m other) _ acts at)
made-elsewhere m file other b (Close stripe ∷ acts) laid apart has at = made-elsewhere m file other b acts laid apart has (All-tail (IsActAt m other) _ acts at)
made-elsewhere m file other b (Take one c before after ∷ acts) laid apart has at = made-elsewhere m file other b acts laid apart has (All-tail (IsActAt m other) _ acts at)
made-elsewhere m file other b (Refused one c before after ∷ acts) laid apart has at = made-elsewhere m file other b acts laid apart has (All-tail (IsActAt m other) _ acts at)
made-elsewhere m file other b (Leave one c before after ∷ acts) laid apart has at = made-elsewhere m file other b acts laid apart has (All-tail (IsActAt m other) _ acts at)
made-elsewhere m file other b (Run bios ∷ acts) laid apart has at = made-elsewhere m file other b acts laid apart has (All-tail (IsActAt m other) _ acts at)
made-elsewhere m file other b (Note begun ∷ acts) laid apart has at = made-elsewhere m file other b acts laid apart has (All-tail (IsActAt m other) _ acts at)
made-elsewhere m file other b (Number call ∷ acts) laid apart has at = made-elsewhere m file other b acts laid apart has (All-tail (IsActAt m other) _ acts at)
