-- That samples and loans are of blocks of the range.
use Rattle.std.proofs.Common.{◌≡◌, ℕ, zero, suc, ◌+◌, ◌-◌, ◌<◌, ◌≤◌, Bool, true, false, if◌then◌else◌, List, [], ◌∷◌, length, min, refl, sym, ap, subst, arith, length-drop, nat_eq}
use Rattle.std.specs.Prelude.{◌%◌}
use Rattle.std.proofs.lemmas.Nat.{mod_below}
use Rattle.iob_base.specs.declared.TheConstants.{STRIPE}
use Rattle.iob_base.specs.declared.sector.Page.{Page}
use Rattle.io_model.specs.Kinds.{is_kind, kind_after}
use Rattle.range_core.specs.Lends.{lent_of, parts_of}
use Rattle.range_core.specs.Samples.{MaySample, SampleLies}
use Rattle.range_core.specs.Lookups.{extent_at, sample_at}
use Rattle.range_core.specs.RangeTruth.{IsSameRun}
use Rattle.range_core.specs.RangeView.{LiesAt, RangeView, cells_from}
use Rattle.range_core.specs.Runs.{run_length, run_from}
use Rattle.range_core.specs.declared.cell.Cell.{Cell}
use Rattle.range_core.specs.declared.lending.Lent.{Lent}
use Rattle.range_core.specs.declared.sample.Sample.{Sample}
use Rattle.range_core.proofs.LendLemmas.{length-parts_of}
use Rattle.range_core.proofs.SampleLemmas.{run_length-within}
use Rattle.std.proofs.lemmas.Bool.{eqb-false}
use Rattle.io_model.specs.declared.file.Kind.{Kind}
use Rattle.io_model.specs.declared.file.Kind.TheVariants.{Hole, Delalloc, Unwritten, Mapped}

-- what lies in a range as it was opened lies in it now
pub lies_now : (opening now : RangeView) (b n : ℕ) → IsSameRun opening now → LiesAt opening b n → LiesAt now b n
lies_now opening now b n same lies =
    let f = same.first in
    let m = same.blocks in
    let low = lies.low in
    let high = lies.high in
    record { low = omega arith; some = lies.some; high = omega arith }

-- a loan of as many blocks as there are pages is of blocks of the range
pub loan_lies : (opening now : RangeView) (b ticket : ℕ) (pages : List Page) (lent : Lent) → IsSameRun opening now → opening.first ≤ b → 0 < length pages → b - now.first + length pages ≤ length now.cells
    → lent ≡ lent_of ticket b (parts_of (cells_from now b) pages) → LiesAt opening lent.block (length lent.parts)
loan_lies opening now b ticket pages lent same low some within is =
    let f = same.first in
    let m = same.blocks in
    let many : length (parts_of (cells_from now b) pages) ≡ length pages = length-parts_of (b - now.first) now.cells pages within in
    let L : Lent → Type 0 = λ l. LiesAt opening l.block (length l.parts) in
    subst L (sym is) (record { low = low; some = omega arith; high = omega arith })

same_number : (n : ℕ) → nat_eq (n + 0) n ≡ true
same_number n = at (nat_eq (n + 0) n) refl
  where
    at : (t : Bool) → nat_eq (n + 0) n ≡ t → t ≡ true
    at true e = refl
    at false e = absurd (eqb-false (n + 0) n e (omega arith))

-- a block goes on with itself
same_kind : (k : Kind) → is_kind (kind_after k 0) k ≡ true
same_kind Hole = refl
same_kind Delalloc = refl
same_kind (Unwritten d) = same_number d
same_kind (Mapped d) = same_number d

-- there is at least one block in a look-up of one
run_length-some : (cells : List Cell) (n : ℕ) → 0 < length cells → 0 < n → 0 < run_length cells n
run_length-some [] n h k = absurd (omega arith)
run_length-some (c ∷ cells) zero h k = absurd (omega arith)
run_length-some (c ∷ cells) (suc n) h k =
    let one : run_length (c ∷ cells) (suc n) ≡ suc (run_from c.kind (0 + 1) cells n) = ap (λ t. if t then suc (run_from c.kind (0 + 1) cells n) else 0) (same_kind c.kind) in
    omega (arith, one)

-- a look-up has no more blocks than there are, and none of another stripe
pub extent_within : (r : RangeView) (b most : ℕ) → ((extent_at r b most).length ≤ length (cells_from r b)) × ((extent_at r b most).length ≤ STRIPE)
extent_within r b most = let within = run_length-within (cells_from r b) (min most (STRIPE - b % STRIPE)) in (within.0, omega (arith, within.1))

-- a sample that was looked up is of blocks of the range as it was opened
pub sample_lies : (opening now : RangeView) (b most : ℕ) (sample : Sample) → IsSameRun opening now → MaySample opening b most → sample ≡ sample_at now b most → SampleLies opening sample
sample_lies opening now b most sample same may is =
    let f = same.first in
    let m = same.blocks in
    let low = may.lies.low in
    let high = may.lies.high in
    let wanted = may.some in
    let cut : b % STRIPE < STRIPE = mod_below b STRIPE (omega arith) in
    let left : length (cells_from now b) ≡ length now.cells - (b - now.first) = length-drop (b - now.first) now.cells in
    let within = extent_within now b most in
    let some : 0 < min most (STRIPE - b % STRIPE) = grind arith in
    let more = run_length-some (cells_from now b) (min most (STRIPE - b % STRIPE)) (omega arith) some in
    let S : Sample → Type 0 = λ s. SampleLies opening s in
    subst S (sym is) (record { low = low; some = more; high = omega (arith, within.0) })
