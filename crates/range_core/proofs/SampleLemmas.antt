-- What a sample of the history tells of the range now, and that samples stay right.
use Rattle.std.proofs.Common.{◌≡◌, ℕ, zero, suc, ◌+◌, ◌-◌, ◌<◌, ◌≤◌, Bool, true, false, if◌then◌else◌, Some, List, [], ◌∷◌, ◌++◌, length, drop, All, refl, sym, ◌∙◌, ap, subst, arith, length-drop}
use Rattle.std.specs.Prelude.{min, slice_get, ◌%◌}
use Rattle.std.proofs.lemmas.List.Elements.{All-push}
use Rattle.iob_base.specs.declared.TheConstants.{STRIPE}
use Rattle.io_model.specs.Kinds.{is_kind, kind_after}
use Rattle.io_model.specs.declared.file.Extent.{Extent}
use Rattle.io_model.specs.declared.file.Kind.{Kind}
use Rattle.turn_cell.specs.Stakes.{Begins}
use Rattle.range_core.specs.Lookups.{GivesPresent, IsOfRangeNow, extent_at, first_kind, most_asked}
use Rattle.range_core.specs.RangeTruth.{RangeTruth}
use Rattle.range_core.specs.RangeView.{RangeView, cells_from}
use Rattle.range_core.specs.Runs.{run_from, run_length}
use Rattle.range_core.specs.KnownSamples.{IsExtentOf, IsKnown, WasGiven}
use Rattle.range_core.specs.Stakes.{RangeStake}
use Rattle.range_core.specs.declared.cell.Cell.{Cell}
use Rattle.range_core.specs.declared.entry.Entry.{Entry}
use Rattle.range_core.specs.declared.entry.Outcome.{Outcome}
use Rattle.range_core.specs.declared.entry.Outcome.TheVariants.{Sampled}
use Rattle.range_core.specs.declared.sample.Sample.{Sample}
use Rattle.range_core.proofs.FirstTruth.{All-there}
use Rattle.range_core.proofs.KindLemmas.{is_kind-true}
use Rattle.range_core.proofs.KindRuns.{keep_samples, kinds_of}

-- what a beginning of a list has, the list has
slice_get-begins : {A : Type 0} (xs rest : List A) (i : ℕ) (x : A) → slice_get xs i ≡ Some x → slice_get (xs ++ rest) i ≡ Some x
slice_get-begins [] rest i x e = absurd (cc)
slice_get-begins (y ∷ xs) rest zero x e = e
slice_get-begins (y ∷ xs) rest (suc i) x e = slice_get-begins xs rest i x e

-- a sample that a seat has seen is one of the history
pub given_later : (sample : Sample) (seen history : List Entry) → Begins seen history → WasGiven sample seen → WasGiven sample history
given_later sample seen history b g = record {
  place = g.place;
  entry = g.entry;
  here = ap (λ l. slice_get l g.place) (sym b.1) ∙ slice_get-begins seen b.0 g.place g.entry g.here;
  gave = g.gave;
}

pub slice_get-drop : {A : Type 0} (n i : ℕ) (xs : List A) → slice_get (drop n xs) i ≡ slice_get xs (n + i)
slice_get-drop zero i xs = ap (slice_get xs) (omega arith)
slice_get-drop (suc n) i [] = refl
slice_get-drop (suc n) i (x ∷ xs) = slice_get-drop n i xs ∙ (let z : suc (n + i) ≡ suc n + i = omega arith in ap (slice_get (x ∷ xs)) z)

run_from-within : (kind : Kind) (i : ℕ) (cells : List Cell) (n : ℕ) → (run_from kind i cells n ≤ length cells) × (run_from kind i cells n ≤ n)
run_from-within kind i [] n = (omega arith, omega arith)
run_from-within kind i (c ∷ cells) zero = (omega arith, omega arith)
run_from-within kind i (c ∷ cells) (suc n) = at (is_kind (kind_after kind i) c.kind) (run_from-within kind (i + 1) cells n)
  where
    at : (t : Bool) → (run_from kind (i + 1) cells n ≤ length cells) × (run_from kind (i + 1) cells n ≤ n) → ((if t then suc (run_from kind (i + 1) cells n) else 0) ≤ suc (length cells)) × ((if t then suc (run_from kind (i + 1) cells n) else 0) ≤ suc n)
    at true r = (omega (arith, r.0), omega (arith, r.1))
    at false r = (omega arith, omega arith)

pub run_length-within : (cells : List Cell) (n : ℕ) → (run_length cells n ≤ length cells) × (run_length cells n ≤ n)
run_length-within [] n = (omega arith, omega arith)
run_length-within (c ∷ cells) n = run_from-within c.kind 0 (c ∷ cells) n

-- each block of a run goes on with its extent
pub run_from-kinds : (kind : Kind) (i : ℕ) (cells : List Cell) (n k : ℕ) (c : Cell) → k < run_from kind i cells n → slice_get cells k ≡ Some c → c.kind ≡ kind_after kind (i + k)
run_from-kinds kind i [] n k c l e = absurd (cc)
run_from-kinds kind i (x ∷ cells) zero k c l e = absurd (omega arith)
run_from-kinds kind i (x ∷ cells) (suc n) k c l e = at (is_kind (kind_after kind i) x.kind) refl k l e (λ j m f. run_from-kinds kind (i + 1) cells n j c m f)
  where
    at : (t : Bool) → is_kind (kind_after kind i) x.kind ≡ t → (k : ℕ) → k < (if t then suc (run_from kind (i + 1) cells n) else 0) → slice_get (x ∷ cells) k ≡ Some c
        → ((j : ℕ) → j < run_from kind (i + 1) cells n → slice_get cells j ≡ Some c → c.kind ≡ kind_after kind (i + 1 + j)) → c.kind ≡ kind_after kind (i + k)
    at false t k l e rest = absurd (omega arith)
    at true t zero l e rest = let is : x ≡ c = cc in let z : i ≡ i + 0 = omega arith in ap (λ (y : Cell). y.kind) (sym is) ∙ sym (is_kind-true _ _ t) ∙ ap (kind_after kind) z
    at true t (suc k) l e rest = let z : i + 1 + k ≡ i + suc k = omega arith in let m : k < run_from kind (i + 1) cells n = omega arith in rest k m e ∙ ap (kind_after kind) z

-- each block of a run has the kind that it says
pub run_length-kinds : (cells : List Cell) (n k : ℕ) (c : Cell) → k < run_length cells n → slice_get cells k ≡ Some c → c.kind ≡ kind_after (first_kind cells) k
run_length-kinds [] n k c l e = absurd (cc)
run_length-kinds (x ∷ cells) n k c l e = let z : 0 + k ≡ k = omega arith in run_from-kinds x.kind 0 (x ∷ cells) n k c l e ∙ ap (kind_after x.kind) z

-- the extent of a look-up is one of the range
pub extent_at-known : (r : RangeView) (b most : ℕ) → r.first ≤ b → IsExtentOf r (extent_at r b most)
extent_at-known r b most begins =
    let low : ℕ = b - r.first in
    let within = run_length-within (drop low r.cells) (min most (STRIPE - b % STRIPE)) in
    record {
      begins = begins;
      inside = λ some. omega (arith, within.0, length-drop low r.cells);
      stripe = omega (arith, within.1);
      kinds = λ k c l at. run_length-kinds (cells_from r b) (min most (STRIPE - b % STRIPE)) k c l (slice_get-drop low k r.cells ∙ at);
    }

-- a sample of the history tells the range now, while its cookie is the range's
pub known_sample : (opening now : RangeView) (history : List Entry) (stakes : List RangeStake) (sample : Sample) → RangeTruth opening now history stakes → WasGiven sample history → IsKnown now sample
known_sample opening now history stakes sample t g same =
    let gives : GivesPresent now g.entry = All-there (GivesPresent now) history g.place g.entry t.samples_give_extents g.here in
    let G : Outcome → Type 0 = λ o. IsOfRangeNow now g.entry.event o in
    let at : IsOfRangeNow now g.entry.event (Sampled sample) = subst G g.gave gives in
    let E : Extent → Type 0 = λ x. IsExtentOf now x in
    subst E (sym (at.present same)) (extent_at-known now sample.extent.block (most_asked g.entry.event sample) at.begins)

-- an entry that gives no sample and changes no kind, or raises the cookie, leaves samples right
pub samples_next : (now next : RangeView) (history : List Entry) (e : Entry) → next.first ≡ now.first → now.cookie ≤ next.cookie → (next.cookie ≡ now.cookie → kinds_of next.cells ≡ kinds_of now.cells)
    → All (GivesPresent now) history → GivesPresent next e → All (GivesPresent next) (history ++ e ∷ [])
samples_next now next history e first rises kinds all gives = All-push (GivesPresent next) history e (keep_samples now next history first rises kinds all) gives
