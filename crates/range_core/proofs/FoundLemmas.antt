-- What an entry says that it found of the blocks of a run, of the blocks of a range.
use Rattle.std.proofs.Common.{◌≡◌, ℕ, zero, suc, ◌+◌, ◌-◌, ◌<◌, ◌≤◌, ◌⊎◌, Bool, true, false, ◌&&◌, nat_eq, if◌then◌else◌, Option, Some, None, List, [], ◌∷◌, length, refl, sym, ◌∙◌, ap, subst, arith, inl, inr}
use Rattle.std.specs.Prelude.{IsSomeAnd, not, nat_le, nat_lt, slice_get, is_none, is_some}
use Rattle.std.proofs.lemmas.Bool.{eq-eqb, leb-false, ltb-false}
use Rattle.iob_base.specs.DeviceBlock.{DeviceBlock}
use Rattle.iob_base.specs.declared.stamp.Op.{Op}
use Rattle.iob_base.specs.declared.stamp.Op.TheVariants.{Read, Write}
use Rattle.io_model.specs.Kinds.{is_kind, kind_after}
use Rattle.io_model.specs.declared.file.Kind.{Kind}
use Rattle.range_core.specs.Attaches.{pairs_taken}
use Rattle.range_core.specs.BlockStates.{BlockState, state_of, taken_by}
use Rattle.range_core.specs.Happened.{is_bare, is_lendable, is_out, is_same_lender, is_same_op, is_settled, keeps_page, took_just, is_cold_in}
use Rattle.range_core.specs.Kinds.{has_space, is_mapped}
use Rattle.range_core.specs.OnRun.{count_on}
use Rattle.range_core.specs.Placing.{count_in}
use Rattle.range_core.specs.RangeTruth.{IsUncached}
use Rattle.range_core.specs.RangeView.{RangeView}
use Rattle.range_core.specs.Refusals.{pageless_at, is_cold}
use Rattle.range_core.specs.Spots.{in_run, is_met}
use Rattle.range_core.specs.declared.cell.Cell.{Cell}
use Rattle.range_core.specs.declared.lending.Away.{Away}
use Rattle.range_core.specs.declared.lending.Lender.{Lender}
use Rattle.range_core.specs.declared.lending.Lender.TheVariants.{Reading, Writeback, Direct, Part as InPart}
use Rattle.range_core.specs.declared.parts.ByteRun.{ByteRun}
use Rattle.range_core.specs.ByteRuns.{IsByteRun}
use Rattle.range_core.proofs.AfterRun.{in_run-bounds}
use Rattle.range_core.proofs.ByteRunLemmas.{met-inside, met-outside}
use Rattle.range_core.proofs.DaxPutLemmas.{count-below}
use Rattle.range_core.proofs.KindLemmas.{is_kind-same}
use Rattle.range_core.proofs.LawfulLemmas.{both}
use Rattle.range_core.proofs.PlaceLemmas.{number_of, taken-in_run, taken-out_of_run}
use Rattle.iob_base.specs.declared.sector.Page.{Page}

pub if_any : (t u : Bool) → u ≡ true → (if t then u else true) ≡ true
if_any true u e = e
if_any false u e = refl

pub if_none : (t u : Bool) → t ≡ false → (if t then u else true) ≡ true
if_none true u e = absurd (cc)
if_none false u e = refl

module _ (now : RangeView) (block n : ℕ) where
  -- what is said of the blocks that an event met is so of each of them
  pub found_on : (met : ℕ → Bool) (test : ℕ → BlockState → Bool) → now.first ≤ block → ((b : ℕ) → in_run block n b ≡ false → met b ≡ false)
      → ((k : ℕ) (c : Cell) → k < n → slice_get now.cells (block - now.first + k) ≡ Some c → test (block + k) (state_of c) ≡ true)
      → (i : ℕ) (c : Cell) → slice_get now.cells i ≡ Some c → (if met (now.first + i) then test (now.first + i) (state_of c) else true) ≡ true
  found_on met test low outside inside i c at = by (in_run block n (now.first + i)) refl
    where
      by : (t : Bool) → in_run block n (now.first + i) ≡ t → (if met (now.first + i) then test (now.first + i) (state_of c) else true) ≡ true
      by false e = if_none (met (now.first + i)) _ (outside (now.first + i) e)
      by true e =
          let p = in_run-bounds block n (now.first + i) e in
          let l = p.0 in
          let h = p.1 in
          let begins : now.first ≤ block = low in
          let k : ℕ = now.first + i - block in
          let place : i ≡ block - now.first + k = omega arith in
          let b : block + k ≡ now.first + i = omega arith in
          let T : ℕ → Type 0 = λ x. test x (state_of c) ≡ true in
          if_any (met (now.first + i)) _ (subst T b (inside k c (omega arith) (ap (slice_get now.cells) (sym place) ∙ at)))

  -- the same of an event that met all blocks of a run
  pub found_run : (test : ℕ → BlockState → Bool) → now.first ≤ block → ((k : ℕ) (c : Cell) → k < n → slice_get now.cells (block - now.first + k) ≡ Some c → test (block + k) (state_of c) ≡ true)
      → (i : ℕ) (c : Cell) → slice_get now.cells i ≡ Some c → (if in_run block n (now.first + i) then test (now.first + i) (state_of c) else true) ≡ true
  found_run test low inside = found_on (in_run block n) test low (λ b e. e) inside

-- the same of an event that met the blocks of a run of bytes
pub found_met : (now : RangeView) (run : ByteRun) (test : ℕ → BlockState → Bool) → IsByteRun run → now.first ≤ run.first → ((k : ℕ) (c : Cell) → k < run.blocks → slice_get now.cells (run.first - now.first + k) ≡ Some c → test (run.first + k) (state_of c) ≡ true)
    → (i : ℕ) (c : Cell) → slice_get now.cells i ≡ Some c → (if is_met run.size run.from run.to (now.first + i) then test (now.first + i) (state_of c) else true) ≡ true
found_met now run test cut low inside = found_on now run.first run.blocks (is_met run.size run.from run.to) test low (λ b e. met-outside run cut b e) inside

-- bytes meet the blocks of their run, and no other
pub met-run : (run : ByteRun) → IsByteRun run → (b : ℕ) → is_met run.size run.from run.to b ≡ in_run run.first run.blocks b
met-run run cut b = by (in_run run.first run.blocks b) refl
  where
    by : (t : Bool) → in_run run.first run.blocks b ≡ t → is_met run.size run.from run.to b ≡ in_run run.first run.blocks b
    by false e = met-outside run cut b e ∙ sym e
    by true e =
        let p = in_run-bounds run.first run.blocks b e in
        let l = p.0 in
        let h = p.1 in
        let k : ℕ = b - run.first in
        let is : run.first + k ≡ b = omega arith in
        ap (is_met run.size run.from run.to) (sym is) ∙ met-inside run cut k (omega arith) ∙ sym e

same_op : (op : Op) → is_same_op op op ≡ true
same_op Read = refl
same_op Write = refl

same_lender : (l : Lender) → is_same_lender l l ≡ true
same_lender Reading = refl
same_lender Writeback = refl
same_lender (Direct by op) = both (nat_eq by.caller by.caller) _ (eq-eqb _ _ refl) (both (nat_eq by.call by.call) _ (eq-eqb _ _ refl) (same_op op))
same_lender (InPart by from to) = both (nat_eq by.caller by.caller) _ (eq-eqb _ _ refl) (both (nat_eq by.call by.call) _ (eq-eqb _ _ refl) (both (nat_eq from from) _ (eq-eqb _ _ refl) (eq-eqb _ _ refl)))

-- a block that is away on this ticket to this lender is out so
pub out-found : (ticket : ℕ) (lender : Lender) (o : Option Away) (away : Away) → o ≡ Some away → away.ticket ≡ ticket → away.lender ≡ lender → is_out ticket lender o ≡ true
out-found ticket lender o away e t l =
    ap (is_out ticket lender) e ∙ both (nat_eq away.ticket ticket) _ (eq-eqb _ _ t) (ap (λ x. is_same_lender x lender) l ∙ same_lender lender)

-- what comes back is told with the kind that its first block has
pub kind-found : (kind held own : Kind) (block k : ℕ) → held ≡ kind → kind_after held k ≡ own → is_kind (kind_after kind (block + k - block)) own ≡ true
kind-found kind held own block k same is =
    let off : block + k - block ≡ k = omega arith in
    ap (λ j. is_kind (kind_after kind j) own) off ∙ ap (λ q. is_kind (kind_after q k) own) (sym same) ∙ ap (λ q. is_kind q own) is ∙ is_kind-same own

pub settled-found : (c : Cell) → c.away ≡ None → c.dirty ≡ false → is_settled (state_of c) ≡ true
settled-found c home clean = ap (λ a. is_settled (record (state_of c) { away = a })) home ∙ ap not clean

pub bare-found : (c : Cell) → IsUncached c → is_bare (state_of c) ≡ true
bare-found c u = both (is_settled (state_of c)) _ (settled-found c u.home u.clean) (ap not u.reserved)

-- a block whose page does not hinder has it here
pub page-found : (b : ℕ) (o : Option Away) → pageless_at b o ≡ None → keeps_page o ≡ true
page-found b None e = refl
page-found b (Some away) e = at away.lender e
  where
    at : (l : Lender) → pageless_at b (Some (record away { lender = l })) ≡ None → is_same_lender l Writeback ≡ true
    at Reading e = absurd (cc)
    at Writeback e = refl
    at (Direct tag op) e = absurd (cc)
    at (InPart tag from to) e = absurd (cc)

-- what a state tells of cold is so of its block
pub cold-state : (c : Cell) → is_cold_in (state_of c) ≡ is_cold c
cold-state c = at c.page
  where
    at : (o : Option Page) → (is_mapped c.kind && (is_none c.away && not (is_some o))) ≡ (is_mapped c.kind && (is_none c.away && is_none o))
    at None = refl
    at (Some p) = refl

pub warm-found : (c : Cell) → is_cold c ≡ false → not (is_cold_in (state_of c)) ≡ true
warm-found c e = ap not (cold-state c ∙ e)

pub part-found : (c : Cell) (t : Bool) → (t && is_cold c) ≡ false → not (t && is_cold_in (state_of c)) ≡ true
part-found c t e = ap (λ u. not (t && u)) (cold-state c) ∙ ap not e

-- of the blocks of a range, those that are picked in a run took a sector each, where there is one for each
module _ (picks : Cell → Bool) (now : RangeView) (block n : ℕ) (sectors : List DeviceBlock) where
  pub found_taken : now.first ≤ block → length sectors ≡ count_in picks now block n → (i : ℕ) (c : Cell) → slice_get now.cells i ≡ Some c
      → took_just (in_run block n (now.first + i) && picks c) (taken_by (now.first + i) (pairs_taken picks now block n sectors)) ≡ true
  found_taken low many i c at = by (in_run block n (now.first + i)) refl
    where
      out : (t : Bool) (o : Option ℕ) → t ≡ false → o ≡ None → took_just t o ≡ true
      out true o e none = absurd (cc)
      out false o e none = ap (took_just false) none

      out_of_run : (u t : Bool) → u ≡ false → (u && t) ≡ false
      out_of_run true t e = absurd (cc)
      out_of_run false t e = refl

      beyond : in_run block n (now.first + i) ≡ false → (now.first + i < block) ⊎ (block + n ≤ now.first + i)
      beyond e = side (nat_le block (now.first + i)) refl
        where
          side : (u : Bool) → nat_le block (now.first + i) ≡ u → (now.first + i < block) ⊎ (block + n ≤ now.first + i)
          side false u = inl (leb-false block (now.first + i) u)
          side true u = inr (ltb-false (now.first + i) (block + n) (ap (λ v. v && nat_lt (now.first + i) (block + n)) (sym u) ∙ e))

      took : (m : ℕ) (t : Bool) → (t ≡ true → m < length sectors) → took_just t (if t then number_of (slice_get sectors m) else None) ≡ true
      took m false within = refl
      took m true within = some (slice_get sectors m) (there sectors m (within refl))
        where
          some : (o : Option DeviceBlock) → IsSomeAnd o (λ _. Unit {0}) → took_just true (number_of o) ≡ true
          some None s = absurd s
          some (Some d) s = refl

          there : (xs : List DeviceBlock) (j : ℕ) → j < length xs → IsSomeAnd (slice_get xs j) (λ _. Unit {0})
          there [] j h = absurd (omega arith)
          there (x ∷ xs) zero h = tt
          there (x ∷ xs) (suc j) h = there xs j (omega arith)

      by : (t : Bool) → in_run block n (now.first + i) ≡ t → took_just (in_run block n (now.first + i) && picks c) (taken_by (now.first + i) (pairs_taken picks now block n sectors)) ≡ true
      by false e = out _ _ (out_of_run _ (picks c) e) (taken-out_of_run picks (now.first + i) block (block - now.first) n now.cells sectors (beyond e))
      by true e =
          let p = in_run-bounds block n (now.first + i) e in
          let l = p.0 in
          let h = p.1 in
          let begins : now.first ≤ block = low in
          let k : ℕ = now.first + i - block in
          let place : i ≡ block - now.first + k = omega arith in
          let b : block + k ≡ now.first + i = omega arith in
          let less : k < n = omega arith in
          let here : slice_get now.cells (block - now.first + k) ≡ Some c = ap (slice_get now.cells) (sym place) ∙ at in
          let m : ℕ = count_on picks (block - now.first) k now.cells in
          let is : taken_by (now.first + i) (pairs_taken picks now block n sectors) ≡ (if picks c then number_of (slice_get sectors m) else None) =
          ap (λ x. taken_by x (pairs_taken picks now block n sectors)) (sym b) ∙ taken-in_run picks block (block - now.first) n k now.cells sectors c less here in
          ap (λ u. took_just (u && picks c) (taken_by (now.first + i) (pairs_taken picks now block n sectors))) e ∙ ap (took_just (picks c)) is
          ∙ took m (picks c) (λ q. let below = count-below picks (block - now.first) n k now.cells c less here q in omega arith)

-- such a block may be lent with a caller's own page
pub lendable-found : (op : Op) (kind : Kind) → (op ≡ Read → is_mapped kind ≡ true) → has_space kind ≡ true → is_lendable op kind ≡ true
lendable-found Read kind mapped space = mapped refl
lendable-found Write kind mapped space = space
