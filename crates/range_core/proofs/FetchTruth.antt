-- The range truth after a fetch, and the bytes that it gives.
use Rattle.std.proofs.Common.{◌≡◌, ℕ, ◌+◌, ◌-◌, ◌<◌, ◌≤◌, false, Option, Some, None, List, [], ◌∷◌, ◌++◌, length, get_or, set, refl, sym, ◌∙◌, ap, subst, arith}
use Rattle.std.specs.Prelude.{IfSome, IsSomeAnd, OnErr, OnOk, Result, Ok, Err, slice_get, ◌&&◌, not}
use Rattle.std.proofs.lemmas.Option.{slice_get-get_or}
use Rattle.iob_base.specs.declared.sector.Page.{Page}
use Rattle.iob_base.specs.declared.stamp.Tag.{Tag}
use Rattle.io_model.specs.Contents.{Content}
use Rattle.iov_iter.specs.IovView.{IovView, written_on}
use Rattle.range_core.specs.BlockStates.{state_of, becomes_uptodate}
use Rattle.range_core.specs.BlockTruth.{IsTrueAt, IsWholePage}
use Rattle.range_core.specs.ByteRuns.{after_bytes, run_between, run_bytes, IsInFolio, IsByteRun}
use Rattle.range_core.specs.ClaimsView.{ClaimsView}
use Rattle.range_core.specs.Paging.{HaveWholePages, fill_each, HasWholePage, bytes_of, cached_at, filled, lacks_page}
use Rattle.range_core.specs.Fetches.{after_fetch, fetched, replayed_run}
use Rattle.range_core.specs.Outcomes.{finished}
use Rattle.range_core.specs.OnRun.{on_each}
use Rattle.range_core.specs.RangeTruth.{RangeTruth, content_at}
use Rattle.range_core.specs.RangeView.{LiesAt, RangeView}
use Rattle.range_core.specs.Refusals.{away_with_page, cold, fetch_refusal, first_that_stops, is_cold, met, pageless_at, run_of}
use Rattle.range_core.specs.Stakes.{RangeStake}
use Rattle.range_core.specs.declared.cell.Cell.{Cell}
use Rattle.range_core.specs.declared.entry.Entry.{Entry}
use Rattle.range_core.specs.declared.entry.Event.{Event}
use Rattle.range_core.specs.declared.entry.Event.TheVariants.{Fetch}
use Rattle.range_core.specs.declared.entry.Outcome.TheVariants.{Finished, Refused}
use Rattle.range_core.specs.declared.fault.EventFault.{EventFault}
use Rattle.range_core.specs.declared.fault.EventFault.TheVariants.{Cold}
use Rattle.range_core.specs.declared.parts.ByteRun.{ByteRun}
use Rattle.range_core.proofs.AfterBytes.{bytes_truth}
use Rattle.range_core.proofs.AfterEntry.{quiet_truth}
use Rattle.range_core.proofs.ByteRunLemmas.{gathered-same, met-inside, met-outside}
use Rattle.range_core.proofs.EachLemmas.{in_run-there, is_there}
use Rattle.range_core.proofs.FetchLemmas.{cached-block}
use Rattle.range_core.proofs.FetchFills.{filled_true}
use Rattle.range_core.proofs.PagingLemmas.{filled-whole, filled_keeps}
use Rattle.range_core.proofs.RefusedLemmas.{refused_is_quiet}
use Rattle.range_core.proofs.StopLemmas.{neither, none_stops, run_of-at, where_true-not}
use Rattle.range_core.specs.Happened.{keeps_page, is_cold_in}
use Rattle.range_core.proofs.FoundLemmas.{found_met, page-found, warm-found}
use Rattle.range_core.proofs.LawfulLemmas.{both}
use Rattle.range_core.specs.Spots.{is_met}
use Rattle.range_core.proofs.RunLemmas.{if_false, if_true}
use Rattle.range_core.proofs.StakeTruth.{Works}

-- the truth after an event that was refused
pub refused_truth : (opening now : RangeView) (history : List Entry) (stakes : List RangeStake) (number : ℕ) (claims : ClaimsView) (made : List Entry) (event : Event) (fault : EventFault) → RangeTruth opening now history stakes
    → Works stakes number claims made
    → RangeTruth opening now (history ++ record { caller = claims.caller; event = event; outcome = Refused fault } ∷ []) (set stakes number (Some claims, made ++ record { caller = claims.caller; event = event; outcome = Refused fault } ∷ []))
refused_truth opening now history stakes number claims made event fault t here =
    quiet_truth opening now history (record { caller = claims.caller; event = event; outcome = Refused fault }) stakes number claims made t here (refused_is_quiet opening.geometry.block_size claims.caller event fault) tt refl

-- the page of a block that is true has a block's length
true_whole : (size b : ℕ) (c : Cell) (content : Content) (stakes : List RangeStake) → IsTrueAt size b c content stakes → HasWholePage size c
true_whole size b c content stakes t = at c.page t.uptodate_is_replay
  where
    at : (o : Option Page) → IfSome o (λ p. p.bytes ≡ content) → IfSome o (IsWholePage size)
    at None e = tt
    at (Some p) e = ap length e ∙ t.whole

-- the pages of a range have a block's length
pub pages_whole : (opening now : RangeView) (history : List Entry) (stakes : List RangeStake) → RangeTruth opening now history stakes → HaveWholePages now
pages_whole opening now history stakes t =
    let W : ℕ → Type 0 = λ n. (k : ℕ) (d : Cell) → k < length now.cells → HasWholePage n (get_or now.cells k d) in
    subst W (ap (λ g. g.block_size) (sym t.same_run.geometry)) (λ k d l.
    let c : Cell = get_or now.cells k d in
    true_whole opening.geometry.block_size (opening.first + k) c (content_at opening history k) stakes (t.blocks k c (slice_get-get_or now.cells k d l)))

-- no block of a run hinders a fetch of it
abbrev pub AreFetchable : RangeView → ByteRun → Type 0
AreFetchable r run = (k : ℕ) (c : Cell) → k < run.blocks → slice_get r.cells (run.first - r.first + k) ≡ Some c → (pageless_at (run.first + k) c.away ≡ None) × (is_cold c ≡ false)

pub fetchable : (r : RangeView) (from to : ℕ) → fetch_refusal r from to ≡ None → AreFetchable r (run_between r.geometry.block_size from to)
fetchable r from to e k c l at =
    let run : ByteRun = run_between r.geometry.block_size from to in
    let two = neither (first_that_stops away_with_page run.first (met r from to)) (first_that_stops cold run.first (met r from to)) e in
    let here : slice_get (run_of r run.first run.blocks) k ≡ Some c = run_of-at r run.first run.blocks k c l at in (
      none_stops away_with_page run.first (met r from to) k c two.0 here,
      where_true-not (is_cold c) (Cold (run.first + k)) (none_stops cold run.first (met r from to) k c two.1 here),
    )

module _ (opening now : RangeView) (history : List Entry) (stakes : List RangeStake) (run : ByteRun) where
  -- the blocks of a fetch are true with their pages
  pub filled_block : RangeTruth opening now history stakes → run.size ≡ opening.geometry.block_size → AreFetchable now run → opening.first ≤ run.first → (k : ℕ) (was : Cell) → k < run.blocks → slice_get now.cells (run.first - opening.first + k) ≡ Some was
      → (content : Content) → IsTrueAt opening.geometry.block_size (run.first + k) was content stakes → IsTrueAt opening.geometry.block_size (run.first + k) (fill_each run k was) content stakes
  filled_block t sized free low k was l at content h =
      let first = t.same_run.first in
      let f = free k was l (ap (λ n. slice_get now.cells (run.first - n + k)) first ∙ at) in
      let S : ℕ → Type 0 = λ n. IsTrueAt opening.geometry.block_size (run.first + k) (filled n was) content stakes in
      subst S (sym sized) (filled_true opening.geometry.block_size (run.first + k) was content stakes h f.0 f.1)

  has_bytes : (size : ℕ) (o : Option Page) (content : Content) → IsSomeAnd o (IsWholePage size) → IfSome o (λ p. p.bytes ≡ content) → bytes_of o ≡ content
  has_bytes size None content h e = absurd h
  has_bytes size (Some p) content h e = e

  -- the bytes of the pages are those that the history leaves
  pub fetched_bytes : RangeTruth opening now history stakes → run.size ≡ opening.geometry.block_size → AreFetchable now run → LiesAt opening run.first run.blocks
      → run_bytes run (cached_at now.first (on_each (fill_each run) 0 (run.first - now.first) run.blocks now.cells)) ≡ run_bytes run (λ b. content_at opening history (b - opening.first))
  fetched_bytes t sized free lies =
      gathered-same run (cached_at now.first (on_each (fill_each run) 0 (run.first - now.first) run.blocks now.cells)) (λ b. content_at opening history (b - opening.first)) run.first run.blocks
      (λ k l.
      let low = lies.low in
      let high = lies.high in
      let first = t.same_run.first in
      let many = t.same_run.blocks in
      let size : ℕ = opening.geometry.block_size in
      let i : ℕ = run.first - opening.first + k in
      let x = is_there now.cells i (omega arith) in
      let h : IsTrueAt size (opening.first + i) x.item (content_at opening history i) stakes = t.blocks i x.item x.here in
      let same : opening.first + i ≡ run.first + k = omega arith in
      let place : run.first + k - opening.first ≡ i = omega arith in
      let B : ℕ → Type 0 = λ b. IsTrueAt size b x.item (content_at opening history i) stakes in
      let after = filled_block t sized free lies.low k x.item l x.here (content_at opening history i) (subst B same h) in
      let begin : i ≡ run.first - now.first + k = ap (λ n. run.first - n + k) (sym first) in
      let there = in_run-there (fill_each run) (run.first - now.first) run.blocks k now.cells x.item l (ap (slice_get now.cells) (sym begin) ∙ x.here) in
      let W : ℕ → Type 0 = λ n. HasWholePage n x.item in
      let has = filled-whole run.size x.item (subst W (sym sized) (true_whole size (opening.first + i) x.item (content_at opening history i) stakes h)) in
      cached-block run now.first (on_each (fill_each run) 0 (run.first - now.first) run.blocks now.cells) (omega arith) k (fill_each run k x.item) there
      ∙ has_bytes run.size (fill_each run k x.item).page (content_at opening history i) has after.uptodate_is_replay ∙ ap (content_at opening history) (sym place))

filled-state : (size : ℕ) (c : Cell) → state_of (filled size c) ≡ becomes_uptodate (state_of c)
filled-state size c = at c.page
  where
    at : (o : Option Page) → state_of (filled size (record c { page = o })) ≡ becomes_uptodate (state_of (record c { page = o }))
    at None = refl
    at (Some p) = refl

-- the entry of a fetch that came about
abbrev pub fetch_done : ClaimsView → Tag → ℕ → ℕ → Entry
fetch_done claims by from to = record { caller = claims.caller; event = Fetch by from to; outcome = Finished }

-- the truth after a fetch that came about
pub fetched_truth : (opening now : RangeView) (history : List Entry) (stakes : List RangeStake) (number : ℕ) (claims : ClaimsView) (made : List Entry) (by : Tag) (from to : ℕ) → RangeTruth opening now history stakes
    → Works stakes number claims made → IsInFolio opening from to → fetch_refusal now from to ≡ None → IsByteRun (run_between now.geometry.block_size from to)
    → RangeTruth opening (after_fetch now by from to) (history ++ fetch_done claims by from to ∷ []) (set stakes number (Some claims, made ++ fetch_done claims by from to ∷ []))
fetched_truth opening now history stakes number claims made by from to t here bytes free met_blocks =
    let size : ℕ = opening.geometry.block_size in
    let run : ByteRun = run_between size from to in
    let e : Entry = fetch_done claims by from to in
    let same : now.geometry.block_size ≡ size = ap (λ g. g.block_size) t.same_run.geometry in
    let F : ℕ → Type 0 = λ n. AreFetchable now (run_between n from to) in
    let able : AreFetchable now run = subst F same (fetchable now from to free) in
    let C : ℕ → Type 0 = λ n. IsByteRun (run_between n from to) in
    let cut : IsByteRun run = subst C same met_blocks in
    let T : ℕ → Type 0 = λ n. RangeTruth opening (after_bytes (fill_each (run_between n from to)) now by (run_between n from to)) (history ++ e ∷ []) (set stakes number (Some claims, made ++ e ∷ [])) in
    subst T (sym same)
    (bytes_truth opening now history e stakes number claims made (fill_each run) by run t here bytes.cached bytes.blocks.low (filled_keeps lacks_page size)
    (record { caller_is = refl; failed = refl; lent = refl; changed = refl; stamps = refl; sample = tt; found = found_met now run (λ b s. keeps_page s.away && not (is_cold_in s)) cut (omega (arith, bytes.blocks.low, t.same_run.first)) (λ k c l at. both (keeps_page c.away) _ (page-found (run.first + k) c.away (able k c l at).0) (warm-found c (able k c l at).1)) })
    (record {
      content = λ b x out. refl;
      state = λ b x out. if_false (is_met size from to b) (becomes_uptodate x) x (met-outside run cut b out);
      becomes = λ k was l at. filled-state size was ∙ sym (if_true (is_met size from to (run.first + k)) (becomes_uptodate (state_of was)) (state_of was) (met-inside run cut k l));
      holds = λ k was content l at h. filled_block opening now history stakes run t refl able bytes.blocks.low k was l at content h;
    }))

-- the bytes that a fetch gives are those that the history leaves
pub fetched_replay : (opening now : RangeView) (history : List Entry) (stakes : List RangeStake) (by : Tag) (from to : ℕ) → RangeTruth opening now history stakes → IsInFolio opening from to → fetch_refusal now from to ≡ None
    → fetched (after_fetch now by from to) from to ≡ replayed_run opening history from to
fetched_replay opening now history stakes by from to t bytes free =
    let size : ℕ = opening.geometry.block_size in
    let same : now.geometry.block_size ≡ size = ap (λ g. g.block_size) t.same_run.geometry in
    let F : ℕ → Type 0 = λ n. AreFetchable now (run_between n from to) in
    let able : AreFetchable now (run_between size from to) = subst F same (fetchable now from to free) in
    let B : ℕ → List ℕ = λ n. let run = run_between n from to in run_bytes run (cached_at now.first (on_each (fill_each run) 0 (run.first - now.first) run.blocks now.cells)) in
    ap B same ∙ fetched_bytes opening now history stakes (run_between size from to) t refl able bytes.blocks

module _ (opening now after : RangeView) (history : List Entry) (stakes : List RangeStake) (number : ℕ) (claims : ClaimsView) (made : List Entry) (by : Tag) (from to : ℕ) (t : RangeTruth opening now history stakes)
    (here : Works stakes number claims made) (bytes : IsInFolio opening from to) where
  -- the entry of a fetch with this answer
  abbrev entry : Result (Unit {0}) EventFault → Entry
  entry answer = record { caller = claims.caller; event = Fetch by from to; outcome = finished answer }

  -- the truth after a fetch, whatever came of it
  pub fetch_keeps : IsByteRun (run_between now.geometry.block_size from to) → (answer : Result (Unit {0}) EventFault) → OnOk answer (fetch_refusal now from to ≡ None) → OnErr answer (after ≡ now) → OnOk answer (after ≡ after_fetch now by from to)
      → RangeTruth opening after (history ++ entry answer ∷ []) (set stakes number (Some claims, made ++ entry answer ∷ []))
  fetch_keeps cut (Ok x) free same state =
      let T : RangeView → Type 0 = λ r. RangeTruth opening r (history ++ entry (Ok x) ∷ []) (set stakes number (Some claims, made ++ entry (Ok x) ∷ [])) in
      subst T (sym state) (fetched_truth opening now history stakes number claims made by from to t here bytes free cut)
  fetch_keeps cut (Err f) free same state =
      let T : RangeView → Type 0 = λ r. RangeTruth opening r (history ++ entry (Err f) ∷ []) (set stakes number (Some claims, made ++ entry (Err f) ∷ [])) in
      subst T (sym same) (refused_truth opening now history stakes number claims made (Fetch by from to) f t here)

  -- the bytes that a fetch gave are those that the history leaves
  pub fetch_gives : (answer : Result (Unit {0}) EventFault) (v w : IovView) → OnOk answer (fetch_refusal now from to ≡ None) → OnOk answer (after ≡ after_fetch now by from to) → OnOk answer (w ≡ written_on (fetched after from to) v)
      → OnOk answer (w ≡ written_on (replayed_run opening history from to) v)
  fetch_gives (Ok x) v w free state got = got ∙ ap (λ b. written_on b v) (ap (λ r. fetched r from to) state ∙ fetched_replay opening now history stakes by from to t bytes free)
  fetch_gives (Err f) v w free state got = tt
