-- The range truth after a store.
use Rattle.std.proofs.Common.{◌≡◌, ◌≢◌, ℕ, ◌+◌, ◌-◌, ◌<◌, ◌≤◌, Bool, true, false, not, ◌&&◌, if◌then◌else◌, Option, Some, None, List, [], ◌∷◌, ◌++◌, length, set, refl, sym, ◌∙◌, ap, subst, arith}
use Rattle.std.specs.Prelude.{OnErr, OnOk, Result, Ok, Err, nat_eq, slice_get}
use Rattle.std.proofs.lemmas.Bool.{eqb-true}
use Rattle.iob_base.specs.declared.stamp.Tag.{Tag}
use Rattle.io_model.specs.Contents.{Content}
use Rattle.io_model.specs.Kinds.{kind_after}
use Rattle.io_model.specs.declared.file.Kind.{Kind}
use Rattle.io_model.specs.declared.file.Kind.TheVariants.{Hole, Delalloc, Unwritten, Mapped}
use Rattle.range_core.specs.BlockStates.{state_of, becomes_dirty}
use Rattle.range_core.specs.BlockTruth.{IsTrueAt}
use Rattle.range_core.specs.ByteRuns.{IsByteRun, IsInFolio, after_bytes, run_between}
use Rattle.range_core.specs.ClaimsView.{ClaimsView}
use Rattle.range_core.specs.Kinds.{is_hole}
use Rattle.range_core.specs.Outcomes.{finished}
use Rattle.range_core.specs.RangeTruth.{RangeTruth}
use Rattle.range_core.specs.RangeView.{RangeView}
use Rattle.range_core.specs.Refusals.{away_with_page, cold_in_part, covers_in_part, first_that_stops, is_cold, met, pageless_at, run_of, stale, store_refusal, ◌orElse◌}
use Rattle.range_core.specs.KnownSamples.{IsExtentOf, IsKnown}
use Rattle.range_core.specs.Spots.{is_met, overlaid}
use Rattle.range_core.specs.Stakes.{RangeStake}
use Rattle.range_core.specs.Stores.{LieInExtent, after_store, stored}
use Rattle.range_core.specs.declared.cell.Cell.{Cell}
use Rattle.range_core.specs.declared.entry.Entry.{Entry}
use Rattle.range_core.specs.declared.entry.Event.TheVariants.{Store}
use Rattle.range_core.specs.declared.fault.EventFault.{EventFault}
use Rattle.range_core.specs.declared.fault.EventFault.TheVariants.{Cold, Stale}
use Rattle.range_core.specs.declared.parts.ByteRun.{ByteRun}
use Rattle.range_core.specs.declared.sample.Sample.{Sample}
use Rattle.range_core.proofs.AfterBytes.{bytes_truth}
use Rattle.range_core.proofs.ByteRunLemmas.{met-inside, met-outside}
use Rattle.range_core.proofs.FetchTruth.{refused_truth}
use Rattle.range_core.proofs.LayLemmas.{stored_true}
use Rattle.range_core.proofs.StopLemmas.{neither, none_stops, run_of-at, where_true-not}
use Rattle.range_core.proofs.StoreLemmas.{stored_keeps}
use Rattle.range_core.proofs.FoundLemmas.{found_met, page-found, part-found}
use Rattle.range_core.proofs.LawfulLemmas.{both}
use Rattle.range_core.specs.Happened.{keeps_page, is_cold_in}
use Rattle.iob_base.specs.declared.sector.Page.{Page}
use Rattle.range_core.proofs.StakeTruth.{Works}

-- no block of a run hinders a store over it
abbrev pub AreStorable : RangeView → ByteRun → Type 0
AreStorable r run = (k : ℕ) (c : Cell) → k < run.blocks → slice_get r.cells (run.first - r.first + k) ≡ Some c
    → (pageless_at (run.first + k) c.away ≡ None) × ((covers_in_part run.size run.from run.to (run.first + k) && is_cold c) ≡ false)

-- what a store that was not refused tells: the sample is of the present cookie, and no block hinders
pub record IsStorable (r : RangeView) (seen : Sample) (from to : ℕ) : Type 0 where
  pub fresh : seen.cookie ≡ r.cookie
  pub blocks : AreStorable r (run_between r.geometry.block_size from to)

not_not : (t : Bool) → not t ≡ false → t ≡ true
not_not true e = refl
not_not false e = absurd (cc)

pub storable : (r : RangeView) (seen : Sample) (from to : ℕ) → store_refusal r seen from to ≡ None → IsStorable r seen from to
storable r seen from to e =
    let run : ByteRun = run_between r.geometry.block_size from to in
    let aways : Option EventFault = first_that_stops away_with_page run.first (met r from to) in
    let colds : Option EventFault = first_that_stops (cold_in_part run.size from to) run.first (met r from to) in
    let one = neither (stale r seen) (aways orElse colds) e in
    let two = neither aways colds one.1 in
    record {
      fresh = eqb-true _ _ (not_not (nat_eq seen.cookie r.cookie) (where_true-not (not (nat_eq seen.cookie r.cookie)) (Stale seen.cookie r.cookie) one.0));
      blocks = λ k c l at.
          let here : slice_get (run_of r run.first run.blocks) k ≡ Some c = run_of-at r run.first run.blocks k c l at in (
            none_stops away_with_page run.first (met r from to) k c two.0 here,
            where_true-not (covers_in_part run.size from to (run.first + k) && is_cold c) (Cold (run.first + k)) (none_stops (cold_in_part run.size from to) run.first (met r from to) k c two.1 here),
          );
    }

-- the kind of no block of an extent with space is a hole
no_hole : (kind : Kind) (i : ℕ) → is_hole kind ≡ false → kind_after kind i ≢ Hole
no_hole Hole i e h = absurd (cc)
no_hole Delalloc i e h = cc
no_hole (Unwritten d) i e h = cc
no_hole (Mapped d) i e h = cc

not_hole : (kind : Kind) → kind ≢ Hole → not (is_hole kind) ≡ true
not_hole Hole h = absurd (h refl)
not_hole Delalloc h = refl
not_hole (Unwritten d) h = refl
not_hole (Mapped d) h = refl

-- a block of the sample's extent is no hole
pub seen_space : (r : RangeView) (seen : Sample) (first k blocks : ℕ) (c : Cell) → IsExtentOf r seen.extent → seen.extent.block ≤ first → first + blocks ≤ seen.extent.block + seen.extent.length → is_hole seen.extent.kind ≡ false → k < blocks
    → slice_get r.cells (first - r.first + k) ≡ Some c → c.kind ≢ Hole
seen_space r seen first k blocks c known low high space l at h =
    let begins = known.begins in
    let place : seen.extent.block - r.first + (first + k - seen.extent.block) ≡ first - r.first + k = omega arith in
    let is : c.kind ≡ kind_after seen.extent.kind (first + k - seen.extent.block) = known.kinds (first + k - seen.extent.block) c (omega arith) (ap (slice_get r.cells) place ∙ at) in
    no_hole seen.extent.kind (first + k - seen.extent.block) space (sym is ∙ h)

-- a block of a store is dirty, and else as it was
pub stored_state : (run : ByteRun) (bytes : List ℕ) (k : ℕ) (c : Cell) → state_of (stored run bytes k c) ≡ becomes_dirty (state_of c)
stored_state run bytes k c = at c.page
  where
    at : (o : Option Page) → state_of (stored run bytes k (record c { page = o })) ≡ becomes_dirty (state_of (record c { page = o }))
    at None = refl
    at (Some p) = refl

pub if_met : {A : Type 0} (t : Bool) (x y : A) → t ≡ true → x ≡ (if t then x else y)
if_met true x y e = refl
if_met false x y e = absurd (cc)

pub if_unmet : {A : Type 0} (t : Bool) (x y : A) → t ≡ false → (if t then x else y) ≡ y
if_unmet true x y e = absurd (cc)
if_unmet false x y e = refl

module _ (opening now : RangeView) (history : List Entry) (stakes : List RangeStake) (number : ℕ) (claims : ClaimsView) (made : List Entry) (by : Tag) (seen : Sample) (from to : ℕ) (bytes : List ℕ) where
  -- the entry of a store with this answer
  abbrev pub store_done : Result (Unit {0}) EventFault → Entry
  store_done answer = record { caller = claims.caller; event = Store by seen from to bytes; outcome = finished answer }

  -- the truth after a store that came about
  stored_truth : RangeTruth opening now history stakes → Works stakes number claims made → IsInFolio opening from to → LieInExtent opening from to seen.extent → is_hole seen.extent.kind ≡ false → length bytes ≡ to - from
      → IsKnown now seen → IsByteRun (run_between now.geometry.block_size from to) → store_refusal now seen from to ≡ None
      → RangeTruth opening (after_store now by from to bytes) (history ++ store_done (Ok tt) ∷ []) (set stakes number (Some claims, made ++ store_done (Ok tt) ∷ []))
  stored_truth t here folio extent space all known cut free =
      let size : ℕ = opening.geometry.block_size in
      let run : ByteRun = run_between size from to in
      let e : Entry = store_done (Ok tt) in
      let same : now.geometry.block_size ≡ size = ap (λ g. g.block_size) t.same_run.geometry in
      let first : now.first ≡ opening.first = t.same_run.first in
      let able = storable now seen from to free in
      let S : ℕ → Type 0 = λ n. AreStorable now (run_between n from to) in
      let blocks : AreStorable now run = subst S same able.blocks in
      let C : ℕ → Type 0 = λ n. IsByteRun (run_between n from to) in
      let met_blocks : IsByteRun run = subst C same cut in
      let T : ℕ → Type 0 = λ n. RangeTruth opening (after_bytes (stored (run_between n from to) bytes) now by (run_between n from to)) (history ++ e ∷ []) (set stakes number (Some claims, made ++ e ∷ [])) in
      subst T (sym same)
      (bytes_truth opening now history e stakes number claims made (stored run bytes) by run t here folio.cached folio.blocks.low (stored_keeps run bytes)
      (record {
        caller_is = refl;
        failed = refl;
        lent = refl;
        changed = refl;
        stamps = refl;
        sample = tt;
        found = found_met now run (λ b s. not (is_hole s.kind) && (keeps_page s.away && not (covers_in_part size from to b && is_cold_in s))) met_blocks (omega (arith, folio.blocks.low, first))
            (λ k c l at.
            both (not (is_hole c.kind)) _ (not_hole c.kind (seen_space now seen run.first k run.blocks c (known able.fresh) extent.low extent.high space l at)) (both (keeps_page c.away) _ (page-found (run.first + k) c.away (blocks k c l at).0) (part-found c (covers_in_part size from to (run.first + k)) (blocks k c l at).1)));
      })
      (record {
        content = λ b x out. if_unmet (is_met size from to b) (overlaid size from to bytes b x) x (met-outside run met_blocks b out);
        state = λ b x out. if_unmet (is_met size from to b) (becomes_dirty x) x (met-outside run met_blocks b out);
        becomes = λ k was l at. stored_state run bytes k was ∙ if_met (is_met size from to (run.first + k)) (becomes_dirty (state_of was)) (state_of was) (met-inside run met_blocks k l);
        holds = λ k was content l at h.
            let there : slice_get now.cells (run.first - now.first + k) ≡ Some was = ap (λ n. slice_get now.cells (run.first - n + k)) first ∙ at in
            let f = blocks k was l there in
            let kind = seen_space now seen run.first k run.blocks was (known able.fresh) extent.low extent.high space l there in
            let B : Content → Type 0 = λ x. IsTrueAt size (run.first + k) (stored run bytes k was) x stakes in
            subst B (if_met (is_met size from to (run.first + k)) (overlaid size from to bytes (run.first + k) content) content (met-inside run met_blocks k l))
            (stored_true run met_blocks bytes all k l was content stakes kind f.0 f.1 h);
      }))

  -- the truth after a store, whatever came of it
  pub store_keeps : (after : RangeView) → RangeTruth opening now history stakes → Works stakes number claims made → IsInFolio opening from to → LieInExtent opening from to seen.extent → is_hole seen.extent.kind ≡ false → length bytes ≡ to - from
      → IsKnown now seen → IsByteRun (run_between now.geometry.block_size from to) → (answer : Result (Unit {0}) EventFault) → OnOk answer (store_refusal now seen from to ≡ None) → OnErr answer (after ≡ now) → OnOk answer (after ≡ after_store now by from to bytes)
      → RangeTruth opening after (history ++ store_done answer ∷ []) (set stakes number (Some claims, made ++ store_done answer ∷ []))
  store_keeps after t here folio extent space all known cut (Ok x) free unchanged state =
      let T : RangeView → Type 0 = λ r. RangeTruth opening r (history ++ store_done (Ok x) ∷ []) (set stakes number (Some claims, made ++ store_done (Ok x) ∷ [])) in
      subst T (sym state) (stored_truth t here folio extent space all known cut free)
  store_keeps after t here folio extent space all known cut (Err f) free unchanged state =
      let T : RangeView → Type 0 = λ r. RangeTruth opening r (history ++ store_done (Err f) ∷ []) (set stakes number (Some claims, made ++ store_done (Err f) ∷ [])) in
      subst T (sym unchanged) (refused_truth opening now history stakes number claims made (Store by seen from to bytes) f t here)
