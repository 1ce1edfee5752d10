-- The dirty bits of a run of blocks as one number.
use Rattle.std.proofs.Common.{◌≡◌, ℕ, zero, suc, ◌+◌, ◌-◌, ◌*◌, ◌<◌, ◌≤◌, ◌^◌, Bool, true, false, Some, List, [], ◌∷◌, length, get_or, drop, refl, sym, ◌∙◌, ap, subst, arith, min, take, length-drop, length-take, ⊎_elim}
use Rattle.std.specs.Prelude.{slice_get}
use Rattle.std.specs.Int.{bit_at}
use Rattle.std.proofs.Math.Arith.{digits_div, digits_mod}
use Rattle.std.proofs.Math.Nat.{pow-suc}
use Rattle.std.proofs.Math.Seq.{drop-cons}
use Rattle.std.proofs.lemmas.Bool.{cases_lt}
use Rattle.std.proofs.lemmas.Nat.Bits.{bit_at-suc, bit_at_lowest}
use Rattle.range_core.specs.EntryCounts.{one_where}
use Rattle.range_core.specs.Lookups.{extent_at}
use Rattle.range_core.specs.RangeView.{RangeView, cells_from}
use Rattle.range_core.specs.Surveys.{TellsDirty, dirty_word, survey_at}
use Rattle.range_core.specs.declared.cell.Cell.{Cell}
use Rattle.range_core.specs.declared.range.survey.Survey.{Survey}
use Rattle.range_core.proofs.SampleLemmas.{slice_get-drop}

bit_below : (t : Bool) → one_where t < 2
bit_below true = omega arith
bit_below false = omega arith

-- of no block there is no bit
pub dirty_word-none : (cells : List Cell) → dirty_word cells 0 ≡ 0
dirty_word-none [] = refl
dirty_word-none (c ∷ cells) = refl

-- one block more, before the others
pub dirty_word-more : (cells : List Cell) (n i : ℕ) (d : Cell) → i < n → n ≤ length cells → dirty_word (drop (n - (i + 1)) cells) (i + 1) ≡ dirty_word (drop (n - i) cells) i * 2 + one_where (get_or cells (n - 1 - i) d).dirty
dirty_word-more cells n i d l h =
    let k : ℕ = n - 1 - i in
    let here : n - (i + 1) ≡ k = omega arith in
    let after : suc k ≡ n - i = omega arith in
    let head : drop k cells ≡ get_or cells k d ∷ drop (suc k) cells = drop-cons cells k d (omega arith) in
    let one : i + 1 ≡ suc i = omega arith in
    ap (λ m. dirty_word (drop m cells) (i + 1)) here ∙ ap (λ xs. dirty_word xs (i + 1)) head ∙ ap (dirty_word (get_or cells k d ∷ drop (suc k) cells)) one
    ∙ ap (λ m. dirty_word (drop m cells) i * 2 + one_where (get_or cells k d).dirty) after

-- so many bits make a number below that power of two
pub dirty_word-few : (cells : List Cell) (n : ℕ) → dirty_word cells n < 2 ^ n
dirty_word-few [] zero = omega arith
dirty_word-few [] (suc n) = let rest = dirty_word-few [] n in let two : 2 ^ suc n ≡ 2 ^ n * 2 = pow-suc 2 n in omega arith
dirty_word-few (c ∷ cells) zero = omega arith
dirty_word-few (c ∷ cells) (suc n) = let rest = dirty_word-few cells n in let bit = bit_below c.dirty in let two : 2 ^ suc n ≡ 2 ^ n * 2 = pow-suc 2 n in omega arith

-- one bit more than so few fits a word
pub room_for_bit : (cells : List Cell) (n i word : ℕ) → i < n → n ≤ 64 → word ≡ dirty_word (drop (n - i) cells) i → word * 2 + 1 < 2 ^ 64
room_for_bit cells n i word l few is =
    let below : dirty_word (drop (n - i) cells) i < 2 ^ i = dirty_word-few (drop (n - i) cells) i in
    let most : 2 ^ i ≤ 2 ^ 63 = pow-le i 63 (omega arith) in
    omega arith
  where
    pow-le : (i k : ℕ) → i ≤ k → 2 ^ i ≤ 2 ^ k
    pow-le i zero h = let z : i ≡ 0 = omega arith in let same : 2 ^ i ≡ 2 ^ 0 = ap (λ m. 2 ^ m) z in omega arith
    pow-le i (suc k) h = ⊎_elim
        (λ (less : i < suc k). let rest = pow-le i k (omega arith) in let two : 2 ^ suc k ≡ 2 ^ k * 2 = pow-suc 2 k in omega arith)
        (λ (more : suc k ≤ i). let z : i ≡ suc k = omega arith in let same : 2 ^ i ≡ 2 ^ suc k = ap (λ m. 2 ^ m) z in omega arith)
        (cases_lt i (suc k))

-- each bit tells of its block
pub dirty_word-bit : (cells : List Cell) (n i : ℕ) (c : Cell) → i < n → slice_get cells i ≡ Some c → bit_at (dirty_word cells n) i ≡ one_where c.dirty
dirty_word-bit [] n i c l e = absurd (cc)
dirty_word-bit (x ∷ cells) zero i c l e = absurd (omega arith)
dirty_word-bit (x ∷ cells) (suc n) zero c l e =
    let is : x ≡ c = cc in
    bit_at_lowest (dirty_word cells n * 2 + one_where x.dirty) ∙ digits_mod (dirty_word cells n) (bit_below x.dirty) ∙ ap (λ (y : Cell). one_where y.dirty) is
dirty_word-bit (x ∷ cells) (suc n) (suc i) c l e =
    bit_at-suc (dirty_word cells n * 2 + one_where x.dirty) i ∙ ap (λ w. bit_at w i) (digits_div (dirty_word cells n) (bit_below x.dirty)) ∙ dirty_word-bit cells n i c (omega arith) e

-- a survey's bits tell of the blocks of its extent
pub survey_tells : (r : RangeView) (b most : ℕ) (survey : Survey) → survey ≡ survey_at r b most → TellsDirty r survey
survey_tells r b most survey is =
    let T : Survey → Type 0 = λ s. TellsDirty r s in
    subst T (sym is) (λ i c l at. dirty_word-bit (cells_from r b) (extent_at r b most).length i c l (slice_get-drop (b - r.first) i r.cells ∙ at))

-- so many blocks are left of a list from a place on
pub tail_fits : (n at : ℕ) (cells now : List Cell) → n ≤ length (drop at cells) → now ≡ cells → n ≤ length (take (length now - at) (drop at now))
tail_fits n at cells now few same =
    let left : length (drop at now) ≡ length now - at = length-drop at now in
    let all : length (take (length now - at) (drop at now)) ≡ min (length now - at) (length (drop at now)) = length-take (length now - at) (drop at now) in
    let is : length (drop at now) ≡ length (drop at cells) = ap (λ (l : List Cell). length (drop at l)) same in
    grind (arith, few, left, all, is)
