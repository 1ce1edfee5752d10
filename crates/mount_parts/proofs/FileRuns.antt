-- The runs of the stripes of one file, one after another.
use Rattle.std.proofs.Common.{◌≡◌, ℕ, zero, suc, ◌+◌, ◌-◌, ◌*◌, ◌<◌, min, Some, List, [], ◌∷◌, ◌++◌, length, refl, sym, ◌∙◌, ap, subst, arith}
use Rattle.std.specs.Prelude.{IsTrue, slice_get}
use Rattle.std.proofs.lemmas.List.{length-append}
use Rattle.std.proofs.lemmas.Option.{none-some}
use Rattle.io_model.specs.Fitting.{is_merged_from}
use Rattle.io_model.specs.Kinds.{kind_at}
use Rattle.io_model.specs.declared.file.Extent.{Extent}
use Rattle.io_model.specs.declared.file.Kind.{Kind}
use Rattle.file_stripes.specs.Ends.{FollowOn, blocks_in, kinds_of_ends}
use Rattle.file_stripes.specs.Kinds.{kinds_from}
use Rattle.file_stripes.specs.declared.run_end.RunEnd.{RunEnd}
use Rattle.file_stripes.proofs.KindLemmas.{length-kinds_from}
use Rattle.mount_parts.specs.MountView.{stripes_of}
use Rattle.mount_parts.proofs.Places.{within}

-- A run has the blocks of the i-th stripe, where so many blocks from one on are cut into stripes
pub record IsRunAt (first blocks i : ℕ) (e : RunEnd) : Type 0 where
  pub merged : IsTrue (is_merged_from (first + i * 64) (first + i * 64 + length e.blocks) e.extents)
  pub long : length e.blocks ≡ min 64 (blocks - i * 64)

abbrev pub AreRunsAt : ℕ → ℕ → List RunEnd → Type 0
AreRunsAt first blocks own = (i : ℕ) (e : RunEnd) → slice_get own i ≡ Some e → IsRunAt first blocks i e

module _ {A : Type 0} where
  -- what stands in the second of two lists, and in the first
  pub behind : (xs ys : List A) (n i : ℕ) → length xs ≡ n → slice_get (xs ++ ys) (n + i) ≡ slice_get ys i
  behind [] ys n i long = ap (slice_get ys) (omega arith)
  behind (x ∷ xs) ys zero i long = absurd (omega arith)
  behind (x ∷ xs) ys (suc n) i long = ap (slice_get (x ∷ xs ++ ys)) (let e : suc n + i ≡ suc (n + i) = omega arith in e) ∙ behind xs ys n i (omega arith)

  pub before : (xs ys : List A) (i : ℕ) → i < length xs → slice_get (xs ++ ys) i ≡ slice_get xs i
  before [] ys i below = absurd (omega arith)
  before (x ∷ xs) ys zero below = refl
  before (x ∷ xs) ys (suc i) below = before xs ys i (omega arith)

runs-rest : (first blocks : ℕ) (e : RunEnd) (own : List RunEnd) → AreRunsAt first blocks (e ∷ own) → AreRunsAt (first + 64) (blocks - 64) own
runs-rest first blocks e own are i f at =
    let r = are (suc i) f at in
    let n : first + suc i * 64 ≡ first + 64 + i * 64 = omega arith in
    let m : min 64 (blocks - suc i * 64) ≡ min 64 (blocks - 64 - i * 64) = omega arith in
    record { merged = subst (λ x. IsTrue (is_merged_from x (x + length f.blocks) f.extents)) n r.merged; long = r.long ∙ m }

-- each run but the last has the blocks of a whole stripe
wide : (first blocks : ℕ) (e : RunEnd) (own : List RunEnd) → AreRunsAt first blocks (e ∷ own) → length (e ∷ own) ≡ stripes_of blocks → 0 < length own → length e.blocks ≡ 64
wide first blocks e own are many more = let r = (are 0 e refl).long in omega arith

fewer : (blocks n : ℕ) → suc n ≡ stripes_of blocks → n ≡ stripes_of (blocks - 64)
fewer blocks n many = omega arith

front-merged : (first blocks : ℕ) (e : RunEnd) (own : List RunEnd) → AreRunsAt first blocks (e ∷ own) → IsTrue (is_merged_from first (first + length e.blocks) e.extents)
front-merged first blocks e own are = let z : first + 0 * 64 ≡ first = omega arith in subst (λ x. IsTrue (is_merged_from x (x + length e.blocks) e.extents)) z (are 0 e refl).merged

pub follow-on : (first blocks : ℕ) (own : List RunEnd) → AreRunsAt first blocks own → length own ≡ stripes_of blocks → FollowOn first own
follow-on first blocks [] are many = tt
follow-on first blocks (e ∷ []) are many = (front-merged first blocks e [] are, tt)
follow-on first blocks (e ∷ f ∷ own) are many =
    let long : length e.blocks ≡ 64 = wide first blocks e (f ∷ own) are many (omega arith) in
    let next : first + 64 ≡ first + length e.blocks = omega arith in
    (front-merged first blocks e (f ∷ own) are, subst (λ n. FollowOn n (f ∷ own)) next (follow-on (first + 64) (blocks - 64) (f ∷ own) (runs-rest first blocks e (f ∷ own) are) (fewer blocks (length (f ∷ own)) many)))

pub runs-long : (first blocks : ℕ) (own : List RunEnd) → AreRunsAt first blocks own → length own ≡ stripes_of blocks → length (blocks_in own) ≡ blocks
runs-long first blocks [] are many = omega arith
runs-long first blocks (e ∷ own) are many =
    let rest : length (blocks_in own) ≡ blocks - 64 = runs-long (first + 64) (blocks - 64) own (runs-rest first blocks e own are) (fewer blocks (length own) many) in
    let long = (are 0 e refl).long in
    let both = length-append e.blocks (blocks_in own) in
    omega arith

-- where a block stands in its run
pub block-in : (first blocks : ℕ) (own : List RunEnd) (q r : ℕ) (e : RunEnd) → AreRunsAt first blocks own → length own ≡ stripes_of blocks → slice_get own q ≡ Some e → r < length e.blocks → slice_get (blocks_in own) (q * 64 + r) ≡ slice_get e.blocks r
block-in first blocks [] q r e are many at below = absurd (none-some e at)
block-in first blocks (d ∷ own) zero r e are many at below =
    let same : d ≡ e = cc in
    let long : length d.blocks ≡ length e.blocks = ap (λ x. length x.blocks) same in
    let z : 0 * 64 + r ≡ r = omega arith in
    ap (slice_get (d.blocks ++ blocks_in own)) z ∙ before d.blocks (blocks_in own) r (omega arith) ∙ ap (λ x. slice_get x.blocks r) same
block-in first blocks (d ∷ own) (suc q) r e are many at below =
    let more = within own q e at in
    let n : suc q * 64 + r ≡ 64 + (q * 64 + r) = omega arith in
    ap (slice_get (d.blocks ++ blocks_in own)) n ∙ behind d.blocks (blocks_in own) 64 (q * 64 + r) (wide first blocks d own are many (omega arith))
    ∙ block-in (first + 64) (blocks - 64) own q r e (runs-rest first blocks d own are) (fewer blocks (length own) many) at below

pub kind-there : (extents : List Extent) (b n i : ℕ) → i < n → slice_get (kinds_from extents b n) i ≡ Some (kind_at extents (b + i))
kind-there extents b zero i below = absurd (omega arith)
kind-there extents b (suc n) zero below = ap (λ x. Some (kind_at extents x)) (let z : b ≡ b + 0 = omega arith in z)
kind-there extents b (suc n) (suc i) below = kind-there extents (b + 1) n i (omega arith) ∙ ap (λ x. Some (kind_at extents x)) (let z : b + 1 + i ≡ b + suc i = omega arith in z)

kind-in : (first blocks : ℕ) (own : List RunEnd) (q r : ℕ) (e : RunEnd) → AreRunsAt first blocks own → length own ≡ stripes_of blocks → slice_get own q ≡ Some e → r < length e.blocks → slice_get (kinds_of_ends first own) (q * 64 + r) ≡ Some (kind_at e.extents (first + (q * 64 + r)))
kind-in first blocks [] q r e are many at below = absurd (none-some e at)
kind-in first blocks (d ∷ own) zero r e are many at below =
    let same : d ≡ e = cc in
    let long : length d.blocks ≡ length e.blocks = ap (λ x. length x.blocks) same in
    let z : 0 * 64 + r ≡ r = omega arith in
    let rest : List Kind = kinds_of_ends (first + length d.blocks) own in
    let head : slice_get (kinds_from d.extents first (length d.blocks) ++ rest) r ≡ Some (kind_at d.extents (first + r)) =
    before (kinds_from d.extents first (length d.blocks)) rest r (omega (arith, length-kinds_from d.extents first (length d.blocks))) ∙ kind-there d.extents first (length d.blocks) r (omega arith) in
    ap (slice_get (kinds_from d.extents first (length d.blocks) ++ rest)) z ∙ head ∙ ap (λ x. Some (kind_at x.extents (first + r))) same ∙ ap (λ x. Some (kind_at e.extents (first + x))) (sym z)
kind-in first blocks (d ∷ own) (suc q) r e are many at below =
    let more = within own q e at in
    let long = wide first blocks d own are many (omega arith) in
    let n : suc q * 64 + r ≡ 64 + (q * 64 + r) = omega arith in
    let next : first + length d.blocks ≡ first + 64 = omega arith in
    let m : first + 64 + (q * 64 + r) ≡ first + (suc q * 64 + r) = omega arith in
    ap (slice_get (kinds_of_ends first (d ∷ own))) n
    ∙ behind (kinds_from d.extents first (length d.blocks)) (kinds_of_ends (first + length d.blocks) own) 64 (q * 64 + r) (length-kinds_from d.extents first (length d.blocks) ∙ long)
    ∙ ap (λ x. slice_get (kinds_of_ends x own) (q * 64 + r)) next
    ∙ kind-in (first + 64) (blocks - 64) own q r e (runs-rest first blocks d own are) (fewer blocks (length own) many) at below
    ∙ ap (λ x. Some (kind_at e.extents x)) m

-- the extents of the whole file give a block the kind that those of its run give it
pub same-kind : (blocks n : ℕ) (own : List RunEnd) (extents : List Extent) (q r : ℕ) (e : RunEnd) → AreRunsAt 0 blocks own → length own ≡ stripes_of blocks → slice_get own q ≡ Some e → r < length e.blocks → kinds_from extents 0 n ≡ kinds_of_ends 0 own → q * 64 + r < n
    → kind_at extents (q * 64 + r) ≡ kind_at e.extents (q * 64 + r)
same-kind blocks n own extents q r e are many at below kinds within_all =
    let z : 0 + (q * 64 + r) ≡ q * 64 + r = omega arith in
    let both : Some (kind_at extents (0 + (q * 64 + r))) ≡ Some (kind_at e.extents (0 + (q * 64 + r))) =
    sym (kind-there extents 0 n (q * 64 + r) within_all) ∙ ap (λ l. slice_get l (q * 64 + r)) kinds ∙ kind-in 0 blocks own q r e are many at below in
    let inner : kind_at extents (0 + (q * 64 + r)) ≡ kind_at e.extents (0 + (q * 64 + r)) = cc in
    ap (kind_at extents) (sym z) ∙ inner ∙ ap (kind_at e.extents) z
