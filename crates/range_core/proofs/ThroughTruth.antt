-- The range truth after an entry that changes the sectors' bytes of a run of blocks of a file that skips the page cache, and leaves a stamp on each.
use Rattle.std.proofs.Common.{◌≡◌, ℕ, ◌+◌, ◌-◌, ◌≤◌, ◌||◌, ◌&&◌, Option, Some, None, List, [], ◌∷◌, ◌++◌, length, set, refl, sym, ◌∙◌, ap, subst, arith}
use Rattle.std.specs.Prelude.{IfSome, is_some}
use Rattle.iob_base.specs.declared.sector.Page.{Page}
use Rattle.iob_base.specs.declared.stamp.Tag.{Tag}
use Rattle.io_model.specs.Contents.{Content}
use Rattle.turn_cell.specs.Stakes.{total}
use Rattle.range_core.specs.BlockStates.{state_of}
use Rattle.range_core.specs.BlockTruth.{FitsAway, HomeContent, IsHomeContent, IsTrueAt, gone}
use Rattle.range_core.specs.ByteRuns.{after_bytes}
use Rattle.range_core.specs.Cells.{HasPlace}
use Rattle.range_core.specs.ClaimsView.{ClaimsView}
use Rattle.range_core.specs.EntryCounts.{one_where}
use Rattle.range_core.specs.Kinds.{is_delalloc, is_unwritten}
use Rattle.range_core.specs.OnRun.{on_each}
use Rattle.range_core.specs.RangeTruth.{IsUncached, RangeTruth, is_lent_for_writing, pending}
use Rattle.range_core.specs.RangeView.{RangeView}
use Rattle.range_core.specs.Space.{ClaimsSpace, SpaceClaims}
use Rattle.range_core.specs.Stakes.{RangeStake, held_by}
use Rattle.range_core.specs.declared.cell.Cell.{Cell}
use Rattle.range_core.specs.declared.entry.Entry.{Entry}
use Rattle.range_core.specs.declared.lending.Away.{Away}
use Rattle.range_core.specs.declared.parts.ByteRun.{ByteRun}
use Rattle.range_core.proofs.AfterBytes.{ActsOnRun, StampsRun}
use Rattle.range_core.proofs.AfterEntry.{quiet_tickets}
use Rattle.range_core.proofs.AfterRun.{changed_truth, keeps_claims}
use Rattle.range_core.proofs.OnRunLemmas.{All-on_each, map-on_each, total-on_each}
use Rattle.range_core.proofs.SampleLemmas.{samples_next}
use Rattle.range_core.proofs.SpaceLemmas.{space_by_kinds}
use Rattle.range_core.proofs.KindRuns.{kinds_of}
use Rattle.range_core.specs.Through.{on_sector, through, where_mapped}
use Rattle.range_core.proofs.ThroughLemmas.{either_mapped, place-changed}
use Rattle.io_model.specs.Contents.{zeros}
use Rattle.iob_base.specs.DeviceBlock.{DeviceBlock}
use Rattle.range_core.proofs.StakeTruth.{Works}

-- each block keeps all but its sector
pub record KeepsStates (f : ℕ → Cell → Cell) : Type 0 where
  pub kind : (j : ℕ) (c : Cell) → (f j c).kind ≡ c.kind
  pub page : (j : ℕ) (c : Cell) → (f j c).page ≡ c.page
  pub dirty : (j : ℕ) (c : Cell) → (f j c).dirty ≡ c.dirty
  pub away : (j : ℕ) (c : Cell) → (f j c).away ≡ c.away

module _ (f : ℕ → Cell → Cell) (keeps : KeepsStates f) where
  pub state-stays : (j : ℕ) (c : Cell) → state_of (f j c) ≡ state_of c
  state-stays j c =
      let kind = keeps.kind j c in
      let dirty = keeps.dirty j c in
      let away = keeps.away j c in
      let page = keeps.page j c in
      λ i. record { kind = kind i; dirty = dirty i; away = away i; uptodate = is_some (page i) }

  uncached-stays : (j : ℕ) (c : Cell) → IsUncached c → IsUncached (f j c)
  uncached-stays j c u = record {
    page = keeps.page j c ∙ u.page;
    clean = keeps.dirty j c ∙ u.clean;
    reserved = ap is_delalloc (keeps.kind j c) ∙ u.reserved;
    home = keeps.away j c ∙ u.home;
  }

  pending-stays : (j : ℕ) (c : Cell) → pending (f j c) ≡ pending c
  pending-stays j c =
      ap (λ k. one_where (is_delalloc k || (is_unwritten k && is_lent_for_writing (f j c).away))) (keeps.kind j c)
      ∙ ap (λ a. one_where (is_delalloc c.kind || (is_unwritten c.kind && is_lent_for_writing a))) (keeps.away j c)

  pub kinds_stay : (low n : ℕ) (cells : List Cell) → kinds_of (on_each f 0 low n cells) ≡ kinds_of cells
  kinds_stay low n cells = map-on_each f (λ (c : Cell). c.kind) keeps.kind 0 low n cells

  pub space_stays : (size low n : ℕ) (cells : List Cell) (space : SpaceClaims) → ClaimsSpace size cells space → ClaimsSpace size (on_each f 0 low n cells) space
  space_stays size low n cells space h = space_by_kinds size cells (on_each f 0 low n cells) space (kinds_stay low n cells) h

  pub through_truth : (opening now : RangeView) (history : List Entry) (e : Entry) (stakes : List RangeStake) (number : ℕ) (claims : ClaimsView) (made : List Entry) (by : Tag) (run : ByteRun) → RangeTruth opening now history stakes
      → Works stakes number claims made → opening.first ≤ run.first → StampsRun opening.geometry.block_size claims.caller now (after_bytes f now by run) by run e
      → ActsOnRun opening.geometry.block_size opening.first now stakes f run e
      → RangeTruth opening (after_bytes f now by run) (history ++ e ∷ []) (set stakes number (Some claims, made ++ e ∷ []))
  through_truth opening now history e stakes number claims made by run t here low s acts =
      let size : ℕ = opening.geometry.block_size in
      let next : RangeView = after_bytes f now by run in
      let at : ℕ = run.first - now.first in
      let kinds = kinds_stay at run.blocks now.cells in
      let pends : total pending next.cells ≡ total pending now.cells = total-on_each f pending pending-stays 0 at run.blocks now.cells in
      let claims_stay = λ (b : ℕ). keeps_claims size b stakes number claims claims made (made ++ e ∷ []) here refl in
      changed_truth opening now next history e stakes number claims claims made f run.first run.blocks t here
      (record {
        low = low;
        cells = ap (λ n. on_each f 0 (run.first - n) run.blocks now.cells) t.same_run.first;
        outside = λ b out. record { content = λ x. acts.content b x out; state = λ st. acts.state b st out; claims = claims_stay b };
        inside = λ k was content l at h. record { state = acts.becomes k was l at; holds = claims_stay (run.first + k) (f k was) _ (acts.holds k was content l at h) };
      })
      (record {
        geometry = refl;
        mode = refl;
        first = refl;
        pool = refl;
        errors = let n = s.failed in let p = t.errors_counted in omega arith;
        tickets = quiet_tickets opening now history e stakes t s.lent;
        cookie = let n = s.changed in omega arith;
        log = ap (λ l. now.log ++ l) (sym s.stamps);
        headroom = let h = t.cookie_has_headroom in omega arith;
        uncached = λ d. All-on_each f IsUncached uncached-stays 0 at run.blocks now.cells (t.dax_is_uncached d);
        space = space_stays size at run.blocks now.cells now.space t.pool_claims_sectors;
        found = s.found;
      })
      (samples_next now next history e refl (omega arith) (λ _. kinds) t.samples_give_extents s.sample)
      (record { caller = refl; spare = refl; main = refl })
      s.caller_is

-- a block of which nothing is cached or lent is true of another content once its sector is
pub written_true : (size b : ℕ) (c d : Cell) (content new : Content) (stakes : List RangeStake) → IsUncached c → IsUncached d → length new ≡ size → HasPlace size d.kind d.sector d.away → IsHomeContent size d new
    → IsTrueAt size b c content stakes → IsTrueAt size b d new stakes
written_true size b c d content new stakes u v whole place home t = record {
  whole = whole;
  place = place;
  uptodate_is_replay = let P : Option Page → Type 0 = λ o. IfSome o (λ p. p.bytes ≡ new) in subst P (sym v.page) tt;
  home_is_on_device = let H : Option Away → Type 0 = λ a. HomeContent size d new a in subst H (sym v.home) home;
  dirty_is_uptodate = λ e. let clean = v.clean in absurd (cc);
  away_is_claimed = record {
    once = t.away_is_claimed.once ∙ ap gone (u.home ∙ sym v.home);
    fits = λ n s at more. let F : Option Away → Type 0 = λ a. FitsAway size b d new a (held_by s.0) in subst F (sym v.home) tt;
  };
}

-- what is true of a block at home
pub home_content : (size b : ℕ) (c : Cell) (content : Content) (stakes : List RangeStake) → IsUncached c → IsTrueAt size b c content stakes → IsHomeContent size c content
home_content size b c content stakes u t = let H : Option Away → Type 0 = λ a. HomeContent size c content a in subst H u.home t.home_is_on_device

pub sector_has : (f : Content → Content) (content : Content) (o : Option DeviceBlock) → IfSome o (λ s. s.bytes ≡ content) → IfSome (on_sector f o) (λ s. s.bytes ≡ f content)
sector_has f content None h = tt
sector_has f content (Some s) h = ap f h

-- a block is true of its content changed in a way that leaves zeros, where the sector of a mapped block is changed alike
pub where_mapped_true : (size b : ℕ) (f : Content → Content) (c : Cell) (content : Content) (stakes : List RangeStake) → ((x : Content) → length x ≡ size → length (f x) ≡ size) → f (zeros size) ≡ zeros size → IsUncached c
    → IsTrueAt size b c content stakes → IsTrueAt size b (where_mapped f c) (f content) stakes
where_mapped_true size b f c content stakes long blank u t =
    let home = home_content size b c content stakes u t in
    either_mapped (λ d. IsTrueAt size b d (f content) stakes) f c
    (λ m. written_true size b c (through f c) content (f content) stakes u (record { page = u.page; clean = u.clean; reserved = u.reserved; home = u.home }) (long content t.whole) (place-changed size f long c.kind c.sector c.away t.place)
    (record { clean_is_on_device = λ _ d. sector_has f content c.sector (home.clean_is_on_device m d); spaceless_is_zeros = λ n _. absurd (cc) }) t)
    (λ m.
    let is : content ≡ zeros size = home.spaceless_is_zeros m u.clean in
    let same : content ≡ f content = is ∙ sym blank ∙ ap f (sym is) in
    let T : Content → Type 0 = λ x. IsTrueAt size b c x stakes in
    subst T same t)
