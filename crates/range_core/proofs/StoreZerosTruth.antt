-- The range truth after a store of zeros.
use Rattle.std.proofs.Common.{◌≡◌, ◌≢◌, ℕ, ◌+◌, ◌-◌, ◌<◌, Bool, true, false, not, ◌&&◌, if◌then◌else◌, Option, Some, None, List, [], ◌∷◌, ◌++◌, length, set, refl, sym, ◌∙◌, ap, subst, arith}
use Rattle.std.specs.Prelude.{IsSomeAnd, IsTrue, OnErr, OnOk, Result, Ok, Err, is_some, slice_get}
use Rattle.std.proofs.lemmas.Bool.{and_parts}
use Rattle.std.proofs.lemmas.List.{length-replicate}
use Rattle.iob_base.specs.declared.sector.Page.{Page}
use Rattle.iob_base.specs.declared.stamp.Tag.{Tag}
use Rattle.io_model.specs.Contents.{Content, zeros}
use Rattle.io_model.specs.declared.file.Kind.{Kind}
use Rattle.io_model.specs.declared.file.Kind.TheVariants.{Hole}
use Rattle.range_core.specs.BlockStates.{is_zero_already, state_of, becomes_dirty}
use Rattle.range_core.specs.BlockTruth.{HomeContent, IsHomeContent, IsTrueAt}
use Rattle.range_core.specs.ByteRuns.{IsByteRun, IsInFolio, after_bytes, run_between}
use Rattle.range_core.specs.Cells.{HasPlace}
use Rattle.range_core.specs.ClaimsView.{ClaimsView}
use Rattle.range_core.specs.Kinds.{has_space, is_mapped}
use Rattle.range_core.specs.Outcomes.{finished}
use Rattle.range_core.specs.RangeTruth.{RangeTruth}
use Rattle.range_core.specs.RangeView.{RangeView}
use Rattle.range_core.specs.Refusals.{covers_in_part, is_cold, pageless_at, store_refusal}
use Rattle.range_core.specs.Spots.{is_met, overlaid}
use Rattle.range_core.specs.Stakes.{RangeStake}
use Rattle.range_core.specs.Stores.{stored}
use Rattle.range_core.specs.StoreZeros.{after_zeros, zeroed, zeros_of}
use Rattle.range_core.specs.declared.cell.Cell.{Cell}
use Rattle.range_core.specs.declared.entry.Entry.{Entry}
use Rattle.range_core.specs.declared.entry.Event.TheVariants.{StoreZeros}
use Rattle.range_core.specs.declared.fault.EventFault.{EventFault}
use Rattle.range_core.specs.declared.lending.Away.{Away}
use Rattle.range_core.specs.declared.parts.ByteRun.{ByteRun}
use Rattle.range_core.specs.declared.sample.Sample.{Sample}
use Rattle.range_core.proofs.AfterBytes.{bytes_truth}
use Rattle.range_core.proofs.ByteRunLemmas.{met-inside, met-outside}
use Rattle.range_core.proofs.FetchTruth.{refused_truth}
use Rattle.range_core.proofs.LayLemmas.{stored_true}
use Rattle.range_core.proofs.StoreTruth.{AreStorable, if_met, if_unmet, storable, stored_state}
use Rattle.range_core.proofs.StoreZerosLemmas.{either_zero, zeroed_keeps, zeros_over}
use Rattle.range_core.proofs.FoundLemmas.{found_met, page-found, part-found}
use Rattle.range_core.specs.Happened.{keeps_page, is_cold_in}
use Rattle.range_core.proofs.LawfulLemmas.{both}
use Rattle.range_core.proofs.StakeTruth.{Works}

untrue : (t : Bool) → not t ≡ true → t ≡ false
untrue true e = absurd (cc)
untrue false e = refl

-- A block that zeros do not change is at home, and reads as zeros
pub zero_content : (size b : ℕ) (c : Cell) (content : Content) (stakes : List RangeStake) → is_zero_already (state_of c) ≡ true → IsTrueAt size b c content stakes → content ≡ zeros size
zero_content size b c content stakes e t =
    let one = and_parts (not (is_mapped c.kind)) (not c.dirty && not (is_some c.away)) e in
    let two = and_parts (not c.dirty) (not (is_some c.away)) one.1 in
    let H : Option Away → Type 0 = λ a. HomeContent size c content a in
    let here : IsHomeContent size c content = subst H (home c.away two.1) t.home_is_on_device in
    here.spaceless_is_zeros (untrue (is_mapped c.kind) one.0) (untrue c.dirty two.0)
  where
    home : (a : Option Away) → not (is_some a) ≡ true → a ≡ None
    home None e = refl
    home (Some away) e = absurd (cc)

-- a block that zeros change is no hole
pub changed_space : (size b : ℕ) (c : Cell) (content : Content) (stakes : List RangeStake) → is_zero_already (state_of c) ≡ false → IsTrueAt size b c content stakes → c.kind ≢ Hole
changed_space size b c content stakes e t h = at c.dirty refl
  where
    kind_of : (o : Option Page) (Q : Type 0) → IsSomeAnd o (λ p. Q) → Q
    kind_of None Q x = absurd x
    kind_of (Some p) Q x = x

    home : (a : Option Away) → HasPlace size c.kind c.sector a → is_some a ≡ false
    home None p = refl
    home (Some away) p = let S : Kind → Type 0 = λ k. IsTrue (has_space k) in let z : false ≡ true = subst S h p.1 in cc

    still : (m d s : Bool) → m ≡ false → d ≡ false → s ≡ false → (not m && (not d && not s)) ≡ false → ⊥
    still true d s x y z f = absurd (cc)
    still false true s x y z f = absurd (cc)
    still false false true x y z f = absurd (cc)
    still false false false x y z f = absurd (cc)

    at : (d : Bool) → c.dirty ≡ d → ⊥
    at true x = kind_of c.page (c.kind ≢ Hole) (t.dirty_is_uptodate x) h
    at false x = still (is_mapped c.kind) c.dirty (is_some c.away) (ap is_mapped h) x (home c.away t.place) e

-- a met block becomes dirty where zeros change it
zeroed_state : (run : ByteRun) (k : ℕ) (met : Bool) (c : Cell) → met ≡ true → state_of (zeroed run k c) ≡ (if met && not (is_zero_already (state_of c)) then becomes_dirty (state_of c) else state_of c)
zeroed_state run k met c m =
    either_zero (λ d. state_of d ≡ (if met && not (is_zero_already (state_of c)) then becomes_dirty (state_of c) else state_of c)) (stored run (zeros_of run) k) c
    (λ e. sym (if_unmet (met && not (is_zero_already (state_of c))) (becomes_dirty (state_of c)) (state_of c) (still met (is_zero_already (state_of c)) e)))
    (λ e. stored_state run (zeros_of run) k c ∙ if_met (met && not (is_zero_already (state_of c))) (becomes_dirty (state_of c)) (state_of c) (ap (λ t. t && not (is_zero_already (state_of c))) m ∙ ap not e))
  where
    still : (m t : Bool) → t ≡ true → (m && not t) ≡ false
    still true true e = refl
    still true false e = absurd (cc)
    still false t e = refl

unmet_state : (met z : Bool) → met ≡ false → (met && z) ≡ false
unmet_state true z e = absurd (cc)
unmet_state false z e = refl

-- a block of a store of zeros is true of the content that the store leaves
zeroed_true : (run : ByteRun) → IsByteRun run → (k : ℕ) → k < run.blocks → (c : Cell) (content : Content) (stakes : List RangeStake) → pageless_at (run.first + k) c.away ≡ None → (covers_in_part run.size run.from run.to (run.first + k) && is_cold c) ≡ false
    → IsTrueAt run.size (run.first + k) c content stakes → IsTrueAt run.size (run.first + k) (zeroed run k c) (overlaid run.size run.from run.to (zeros_of run) (run.first + k) content) stakes
zeroed_true run r k l c content stakes free warm t =
    let b : ℕ = run.first + k in
    let g : Content → Content = overlaid run.size run.from run.to (zeros_of run) b in
    let all : length (zeros_of run) ≡ run.to - run.from = length-replicate (run.to - run.from) 0 in
    either_zero (λ d. IsTrueAt run.size b d (g content) stakes) (stored run (zeros_of run) k) c
    (λ e.
    let is : content ≡ zeros run.size = zero_content run.size b c content stakes e t in
    let B : Content → Type 0 = λ x. IsTrueAt run.size b c x stakes in
    let same : content ≡ g content = is ∙ sym (zeros_over run r k l) ∙ ap g (sym is) in
    subst B same t)
    (λ e. stored_true run r (zeros_of run) all k l c content stakes (changed_space run.size b c content stakes e t) free warm t)

module _ (opening now : RangeView) (history : List Entry) (stakes : List RangeStake) (number : ℕ) (claims : ClaimsView) (made : List Entry) (by : Tag) (seen : Sample) (from to : ℕ) where
  -- the entry of a store of zeros with this answer
  abbrev pub zeros_done : Result (Unit {0}) EventFault → Entry
  zeros_done answer = record { caller = claims.caller; event = StoreZeros by seen from to; outcome = finished answer }

  -- the truth after a store of zeros that came about
  zeroed_truth : RangeTruth opening now history stakes → Works stakes number claims made → IsInFolio opening from to → IsByteRun (run_between now.geometry.block_size from to) → store_refusal now seen from to ≡ None
      → RangeTruth opening (after_zeros now by from to) (history ++ zeros_done (Ok tt) ∷ []) (set stakes number (Some claims, made ++ zeros_done (Ok tt) ∷ []))
  zeroed_truth t here folio cut free =
      let size : ℕ = opening.geometry.block_size in
      let run : ByteRun = run_between size from to in
      let e : Entry = zeros_done (Ok tt) in
      let same : now.geometry.block_size ≡ size = ap (λ g. g.block_size) t.same_run.geometry in
      let first : now.first ≡ opening.first = t.same_run.first in
      let able = storable now seen from to free in
      let S : ℕ → Type 0 = λ n. AreStorable now (run_between n from to) in
      let blocks : AreStorable now run = subst S same able.blocks in
      let C : ℕ → Type 0 = λ n. IsByteRun (run_between n from to) in
      let met_blocks : IsByteRun run = subst C same cut in
      let T : ℕ → Type 0 = λ n. RangeTruth opening (after_bytes (zeroed (run_between n from to)) now by (run_between n from to)) (history ++ e ∷ []) (set stakes number (Some claims, made ++ e ∷ [])) in
      subst T (sym same)
      (bytes_truth opening now history e stakes number claims made (zeroed run) by run t here folio.cached folio.blocks.low (zeroed_keeps run)
      (record {
        caller_is = refl;
        failed = refl;
        lent = refl;
        changed = refl;
        stamps = refl;
        sample = tt;
        found = found_met now run (λ b s. keeps_page s.away && not (covers_in_part size from to b && is_cold_in s)) met_blocks (omega (arith, folio.blocks.low, first))
            (λ k c l at. both (keeps_page c.away) _ (page-found (run.first + k) c.away (blocks k c l at).0) (part-found c (covers_in_part size from to (run.first + k)) (blocks k c l at).1));
      })
      (record {
        content = λ b x out. if_unmet (is_met size from to b) (overlaid size from to (zeros_of run) b x) x (met-outside run met_blocks b out);
        state = λ b x out. if_unmet (is_met size from to b && not (is_zero_already x)) (becomes_dirty x) x (unmet_state (is_met size from to b) (not (is_zero_already x)) (met-outside run met_blocks b out));
        becomes = λ k was l at. zeroed_state run k (is_met size from to (run.first + k)) was (met-inside run met_blocks k l);
        holds = λ k was content l at h.
            let there : slice_get now.cells (run.first - now.first + k) ≡ Some was = ap (λ n. slice_get now.cells (run.first - n + k)) first ∙ at in
            let f = blocks k was l there in
            let B : Content → Type 0 = λ x. IsTrueAt size (run.first + k) (zeroed run k was) x stakes in
            subst B (if_met (is_met size from to (run.first + k)) (overlaid size from to (zeros_of run) (run.first + k) content) content (met-inside run met_blocks k l))
            (zeroed_true run met_blocks k l was content stakes f.0 f.1 h);
      }))

  -- the truth after a store of zeros, whatever came of it
  pub zeros_keep : (after : RangeView) → RangeTruth opening now history stakes → Works stakes number claims made → IsInFolio opening from to → IsByteRun (run_between now.geometry.block_size from to)
      → (answer : Result (Unit {0}) EventFault) → OnOk answer (store_refusal now seen from to ≡ None) → OnErr answer (after ≡ now) → OnOk answer (after ≡ after_zeros now by from to)
      → RangeTruth opening after (history ++ zeros_done answer ∷ []) (set stakes number (Some claims, made ++ zeros_done answer ∷ []))
  zeros_keep after t here folio cut (Ok x) free unchanged state =
      let T : RangeView → Type 0 = λ r. RangeTruth opening r (history ++ zeros_done (Ok x) ∷ []) (set stakes number (Some claims, made ++ zeros_done (Ok x) ∷ [])) in
      subst T (sym state) (zeroed_truth t here folio cut free)
  zeros_keep after t here folio cut (Err f) free unchanged state =
      let T : RangeView → Type 0 = λ r. RangeTruth opening r (history ++ zeros_done (Err f) ∷ []) (set stakes number (Some claims, made ++ zeros_done (Err f) ∷ [])) in
      subst T (sym unchanged) (refused_truth opening now history stakes number claims made (StoreZeros by seen from to) f t here)
