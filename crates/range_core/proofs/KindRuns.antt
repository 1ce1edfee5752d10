-- Runs depend on the kinds of blocks alone, so samples stay right while no kind changes.
use Rattle.std.proofs.Common.{◌≡◌, ℕ, zero, suc, ◌+◌, ◌-◌, ◌≤◌, if◌then◌else◌, Some, List, [], ◌∷◌, map, drop, get_or, All, refl, sym, ◌∙◌, ap, subst, arith}
use Rattle.std.specs.Prelude.{min, slice_get, ◌%◌}
use Rattle.iob_base.specs.declared.TheConstants.{STRIPE}
use Rattle.io_model.specs.Kinds.{is_kind, kind_after}
use Rattle.io_model.specs.declared.file.Kind.{Kind}
use Rattle.range_core.specs.Lookups.{IsOfRangeNow, GivesPresent, extent_at, first_kind, most_asked, sample_at}
use Rattle.range_core.specs.RangeView.{RangeView, cells_from}
use Rattle.range_core.specs.Runs.{run_from, run_length}
use Rattle.range_core.specs.declared.cell.Cell.{Cell}
use Rattle.range_core.specs.declared.entry.Entry.{Entry}
use Rattle.range_core.specs.declared.entry.Event.{Event}
use Rattle.range_core.specs.declared.entry.Event.TheVariants as events
use Rattle.range_core.specs.declared.sample.Sample.{Sample}
use Rattle.range_core.specs.declared.entry.Outcome.{Outcome}
use Rattle.range_core.specs.declared.entry.Outcome.TheVariants.{Refused, Sampled, Counted, Took, Lending, Finished}

abbrev pub kinds_of : List Cell → List Kind
kinds_of cells = map (λ c. c.kind) cells

run_from-kinds : (kind : Kind) (i : ℕ) (xs ys : List Cell) (n : ℕ) → kinds_of xs ≡ kinds_of ys → run_from kind i xs n ≡ run_from kind i ys n
run_from-kinds kind i [] [] n e = refl
run_from-kinds kind i [] (y ∷ ys) n e = absurd (cc)
run_from-kinds kind i (x ∷ xs) [] n e = absurd (cc)
run_from-kinds kind i (x ∷ xs) (y ∷ ys) zero e = refl
run_from-kinds kind i (x ∷ xs) (y ∷ ys) (suc n) e =
    let head : x.kind ≡ y.kind = cc in
    let rest : kinds_of xs ≡ kinds_of ys = cc in
    let more : ℕ → Kind → ℕ = λ m k. if is_kind (kind_after kind i) k then suc m else 0 in
    ap (λ m. more m x.kind) (run_from-kinds kind (i + 1) xs ys n rest) ∙ ap (more (run_from kind (i + 1) ys n)) head

run_length-kinds : (xs ys : List Cell) (n : ℕ) → kinds_of xs ≡ kinds_of ys → run_length xs n ≡ run_length ys n
run_length-kinds [] [] n e = refl
run_length-kinds [] (y ∷ ys) n e = absurd (cc)
run_length-kinds (x ∷ xs) [] n e = absurd (cc)
run_length-kinds (x ∷ xs) (y ∷ ys) n e =
    let head : x.kind ≡ y.kind = cc in
    run_from-kinds x.kind 0 (x ∷ xs) (y ∷ ys) n e ∙ ap (λ k. run_from k 0 (y ∷ ys) n) head

first_kind-kinds : (xs ys : List Cell) → kinds_of xs ≡ kinds_of ys → first_kind xs ≡ first_kind ys
first_kind-kinds [] [] e = refl
first_kind-kinds [] (y ∷ ys) e = absurd (cc)
first_kind-kinds (x ∷ xs) [] e = absurd (cc)
first_kind-kinds (x ∷ xs) (y ∷ ys) e = cc

drop-kinds : (n : ℕ) (xs ys : List Cell) → kinds_of xs ≡ kinds_of ys → kinds_of (drop n xs) ≡ kinds_of (drop n ys)
drop-kinds zero xs ys e = e
drop-kinds (suc n) [] [] e = refl
drop-kinds (suc n) [] (y ∷ ys) e = absurd (cc)
drop-kinds (suc n) (x ∷ xs) [] e = absurd (cc)
drop-kinds (suc n) (x ∷ xs) (y ∷ ys) e = let rest : kinds_of xs ≡ kinds_of ys = cc in drop-kinds n xs ys rest

-- a range with the same kinds has the same extents
pub extent_at-kinds : (r s : RangeView) (b most : ℕ) → r.first ≡ s.first → kinds_of r.cells ≡ kinds_of s.cells → extent_at r b most ≡ extent_at s b most
extent_at-kinds r s b most first kinds =
    let from : kinds_of (cells_from r b) ≡ kinds_of (cells_from s b) =
    drop-kinds (b - r.first) r.cells s.cells kinds ∙ ap (λ n. kinds_of (drop (b - n) s.cells)) first in
    let len = run_length-kinds (cells_from r b) (cells_from s b) (min most (STRIPE - b % STRIPE)) from in
    let kind = first_kind-kinds (cells_from r b) (cells_from s b) from in
    λ i. record { block = b; length = len i; kind = kind i }

-- a sample stays one of the range while its cookie is the range's
pub keeps_sample : (now next : RangeView) (event : Event) (outcome : Outcome) → next.first ≡ now.first → now.cookie ≤ next.cookie → (next.cookie ≡ now.cookie → kinds_of next.cells ≡ kinds_of now.cells)
    → IsOfRangeNow now event outcome → IsOfRangeNow next event outcome
keeps_sample now next event (Refused fault) first rises kinds s = tt
keeps_sample now next event (Sampled sample) first rises kinds s =
    let past = s.past in
    let begins = s.begins in
    record {
      past = omega arith;
      begins = omega arith;
      present = λ e.
          let stays : next.cookie ≡ now.cookie = omega arith in
          let of : sample.cookie ≡ now.cookie = omega arith in
          s.present of ∙ sym (extent_at-kinds next now sample.extent.block (most_asked event sample) first (kinds stays));
    }
keeps_sample now next event (Counted n) first rises kinds s = tt
keeps_sample now next event (Took sectors) first rises kinds s = tt
keeps_sample now next event (Lending ticket n) first rises kinds s = tt
keeps_sample now next event Finished first rises kinds s = tt

pub keep_samples : (now next : RangeView) (history : List Entry) → next.first ≡ now.first → now.cookie ≤ next.cookie → (next.cookie ≡ now.cookie → kinds_of next.cells ≡ kinds_of now.cells)
    → All (GivesPresent now) history → All (GivesPresent next) history
keep_samples now next history first rises kinds all = λ k d l. keeps_sample now next (get_or history k d).event (get_or history k d).outcome first rises kinds (all k d l)

-- the first of the blocks from a place on
pub first_kind-drop : (cells : List Cell) (i : ℕ) (c : Cell) → slice_get cells i ≡ Some c → first_kind (drop i cells) ≡ c.kind
first_kind-drop [] i c e = absurd (cc)
first_kind-drop (x ∷ cells) zero c e = let is : x ≡ c = cc in ap (λ (y : Cell). y.kind) is
first_kind-drop (x ∷ cells) (suc i) c e = first_kind-drop cells i c e

-- the present sample is one of the range
pub present_sample : (now : RangeView) (b most : ℕ) (sample : Sample) → now.first ≤ b → sample ≡ sample_at now b most → IsOfRangeNow now (events.Sample b most) (Sampled sample)
present_sample now b most sample low e =
    let S : Sample → Type 0 = λ s. IsOfRangeNow now (events.Sample b most) (Sampled s) in
    let le : now.cookie ≤ now.cookie = omega arith in
    subst S (sym e) (record { past = le; begins = low; present = λ _. refl })
