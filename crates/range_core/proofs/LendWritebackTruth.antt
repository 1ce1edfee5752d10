-- The turn that lends dirty blocks for a write keeps the truth.
use Rattle.std.proofs.Common.{◌≡◌, ◌≢◌, ℕ, ◌+◌, ◌-◌, ◌<◌, ◌≤◌, Bool, true, false, if◌then◌else◌, Option, Some, None, Result, Ok, Err, IsSomeAnd, IfSome, IfOk, IfErr, OnOk, OnErr, List, [], ◌∷◌, ◌++◌, length, take, drop, map, get_or, option_map, set, All, refl, sym, ◌∙◌, ap, subst, arith}
use Rattle.std.specs.Prelude.{◌||◌, MatchResult, max, unwrap_or, ◌&&◌, is_none}
use Rattle.std.specs.List.{list_any}
use Rattle.std.proofs.lemmas.Option.{slice_get-get_or, slice_get-map}
use Rattle.iob_base.specs.Layout.{Layout}
use Rattle.iob_base.specs.declared.TheConstants.{WORN}
use Rattle.iob_base.specs.declared.sector.Page.{Page}
use Rattle.fault_device.specs.Transfer.{CanTransfer}
use Rattle.io_model.specs.Contents.{Content}
use Rattle.io_model.specs.declared.file.Kind.TheVariants.{Hole}
use Rattle.turn_cell.specs.Laws.{Advanced}
use Rattle.turn_cell.specs.Stakes.{total}
use Rattle.range_core.specs.BlockStates.{lent_clean, state_of}
use Rattle.range_core.specs.BlockTruth.{IsTrueAt, IsWholePage}
use Rattle.range_core.specs.ClaimsView.{ClaimsView}
use Rattle.range_core.specs.Kinds.{is_unwritten, has_space}
use Rattle.range_core.specs.Lends.{TakesHold, lent_cell}
use Rattle.range_core.specs.Lookups.{first_kind}
use Rattle.range_core.specs.RangeTruth.{IsUncached, RangeTruth, content_at, pending}
use Rattle.range_core.specs.RangeView.{RangeView, cells_from, LiesAt}
use Rattle.range_core.specs.Refusals.{at_first, away, lend_writeback_refusal, not_ready, some_block, worn}
use Rattle.range_core.specs.Stakes.{RangeStake}
use Rattle.range_core.specs.LendWritebacks.{IsDirtyRun, IsWritable, LentDirty, MayWrite, RefusedDirty, copied, dirty_entry, dirty_loan, lent_dirty, page_copy, write_length}
use Rattle.range_core.specs.declared.cell.Cell.{Cell}
use Rattle.range_core.specs.declared.entry.Entry.{Entry}
use Rattle.range_core.specs.declared.entry.Outcome.TheVariants.{Lending, Refused}
use Rattle.range_core.specs.declared.fault.EventFault.TheVariants.{NoMemory}
use Rattle.range_core.specs.declared.lending.Away.{Away}
use Rattle.range_core.specs.declared.lending.Lender.TheVariants.{Writeback}
use Rattle.range_core.specs.declared.lending.Lent.{Lent}
use Rattle.range_core.specs.declared.loan_answer.LendRefused.{LendRefused}
use Rattle.range_core.specs.declared.range.lend_writeback.LendWritebackRun.{LendWritebackRun}
use Rattle.range_core.proofs.AfterEntry.{quiet_truth}
use Rattle.range_core.proofs.LendReadLemmas.{mapped_pending}
use Rattle.range_core.proofs.FirstTruth.{All-there, total-few}
use Rattle.range_core.proofs.LendLemmas.{item_within}
use Rattle.range_core.proofs.LoanTurns.{loan_truth}
use Rattle.range_core.proofs.OnRunLemmas.{length-on_each}
use Rattle.range_core.proofs.RefusedLemmas.{refused_is_quiet}
use Rattle.range_core.proofs.SoundLemmas.{total-moved}
use Rattle.range_core.proofs.StopLemmas.{neither, unworn}
use Rattle.range_core.proofs.LendWritebackLemmas.{copies-length, mapped_of, pending-few, taken_at, unwritten_after}
use Rattle.range_core.proofs.FoundLemmas.{found_run}
use Rattle.range_core.proofs.LawfulLemmas.{both}
use Rattle.range_core.specs.Happened.{is_at_home}
use Rattle.range_core.proofs.StakeTruth.{Works}
use Rattle.range_core.proofs.LiesLemmas.{loan_lies}

-- the page of a dirty block
record HasPage (c : Cell) (content : Content) : Type 0 where
  page : Page
  is : c.page ≡ Some page
  bytes : page.bytes ≡ content

has_page : (size b : ℕ) (c : Cell) (content : Content) (stakes : List RangeStake) → IsTrueAt size b c content stakes → c.dirty ≡ true → HasPage c content
has_page size b c content stakes t dirty = at c.page refl t.uptodate_is_replay (t.dirty_is_uptodate dirty)
  where
    at : (o : Option Page) → c.page ≡ o → IfSome c.page (λ p. p.bytes ≡ content) → IsSomeAnd c.page (λ p. c.kind ≢ Hole) → HasPage c content
    at None e r d = let S : Option Page → Type 0 = λ o. IsSomeAnd o (λ p. c.kind ≢ Hole) in absurd (subst S e d)
    at (Some p) e r d = let R : Option Page → Type 0 = λ o. IfSome o (λ q. q.bytes ≡ content) in record { page = p; is = e; bytes = subst R e r }

-- between two turns each dirty block has a whole page
pub writable_now : (opening now : RangeView) (history : List Entry) (stakes : List RangeStake) → RangeTruth opening now history stakes → All (IsWritable now.geometry.block_size) now.cells
writable_now opening now history stakes t = λ k d l dirty.
    let c : Cell = get_or now.cells k d in
    let true_at = t.blocks k c (slice_get-get_or now.cells k d l) in
    let has = has_page opening.geometry.block_size (opening.first + k) c (content_at opening history k) stakes true_at dirty in
    let size : now.geometry.block_size ≡ opening.geometry.block_size = ap (λ (g : Layout). g.block_size) t.same_run.geometry in
    let D : Option Page → Type 0 = λ o. IsSomeAnd o (λ p. c.kind ≢ Hole) in
    let hole : c.kind ≢ Hole = let h : IsSomeAnd (Some has.page) (λ p. c.kind ≢ Hole) = subst D has.is (true_at.dirty_is_uptodate dirty) in h in
    let W : Option Page → Type 0 = λ o. IsSomeAnd o (λ p. IsWholePage now.geometry.block_size p × (c.kind ≢ Hole)) in
    subst W (sym has.is) (ap length has.bytes ∙ true_at.whole ∙ sym size, hole)

-- a cookie is left where blocks that were never written are lent
unworn_first : (r : RangeView) (b : ℕ) → lend_writeback_refusal r b ≡ None → is_unwritten (first_kind (cells_from r b)) ≡ true → r.cookie < WORN
unworn_first r b e u =
    let one = neither (at_first away r b) _ e in
    let two = neither (at_first not_ready r b) _ one.1 in
    let uses : some_block (λ c. is_unwritten c.kind) r b 1 ≡ true = at (cells_from r b) u in
    unworn r (ap (worn r) (sym uses) ∙ two.1)
  where
    at : (cells : List Cell) → is_unwritten (first_kind cells) ≡ true → list_any (λ c. is_unwritten c.kind) (take 1 cells) ≡ true
    at [] f = absurd (cc)
    at (x ∷ cells) f = ap (λ t. t || list_any (λ c. is_unwritten c.kind) (take 0 cells)) f

module _ (opening now : RangeView) (history : List Entry) (stakes : List RangeStake) (number : ℕ) (claims left : ClaimsView) (made : List Entry) (change : LendWritebackRun) where
  abbrev n : ℕ
  n = write_length now change.block change.blocks

  abbrev low : ℕ
  low = change.block - now.first

  abbrev loan : Entry
  loan = dirty_entry claims change (Lending now.tickets n)

  abbrev pages : List Page
  pages = map page_copy (take n (cells_from now change.block))

  abbrev away_now : Away
  away_now = record { ticket = now.tickets; lender = Writeback }

  abbrev next : RangeView
  next = lent_dirty now change.block change.blocks

  -- the cookie still stands for every block that may change its kind
  headroom : RangeTruth opening now history stakes → lend_writeback_refusal now change.block ≡ None → IsDirtyRun now.cells low n → max now.cookie WORN + total pending next.cells ≤ WORN + 65536
  headroom t free run = at (is_unwritten (first_kind (cells_from now change.block))) refl
    where
      at : (u : Bool) → is_unwritten (first_kind (cells_from now change.block)) ≡ u → max now.cookie WORN + total pending next.cells ≤ WORN + 65536
      at true e =
          let left_over = unworn_first now change.block free e in
          let few = total-few pending next.cells pending-few in
          let many = length-on_each (λ _ c. lent_cell away_now c) 0 low n now.cells in
          let same = t.same_run.blocks in
          let bound = t.few in
          omega arith
      at false e =
          let moved = total-moved (λ _ c. lent_cell away_now c) pending 0 0 0 low n now.cells run.within
          (λ k c l p.
          let mapped = mapped_of c.kind (run.dirty k c l p).space (ap is_unwritten (sym (run.kinds k c l p)) ∙ unwritten_after (first_kind (cells_from now change.block)) k ∙ e) in
          let a : pending (lent_cell away_now c) ≡ 0 = mapped_pending (lent_cell away_now c) mapped in
          let b : pending c ≡ 0 = mapped_pending c mapped in
          omega arith) in
          let r = t.cookie_has_headroom in
          omega arith

  dirty_holds : RangeTruth opening now history stakes → Works stakes number claims made → MayWrite opening claims change.block change.blocks → lend_writeback_refusal now change.block ≡ None → IsDirtyRun now.cells low n
      → TakesHold claims left (dirty_loan now change.block change.blocks) Writeback (first_kind (cells_from now change.block))
      → RangeTruth opening next (history ++ loan ∷ []) (set stakes number (Some left, made ++ loan ∷ []))
  dirty_holds t here may free run hold =
      loan_truth opening now history stakes number claims left made loan Writeback change.block n pages t here may.lies.low may.free hold (copies-length low n now.cells run.within) run.within
      (record {
        content = λ x y. refl;
        outside = λ x s out. ap (λ u. if u then lent_clean now.tickets s else s) out;
        inside = λ x c met. sym (ap (λ u. if u then lent_clean now.tickets (state_of c) else state_of c) met);
        failed = refl;
        lent = refl;
        changed = refl;
        stamps = refl;
        sample = tt;
        caller = refl;
        found = found_run now change.block n (λ b s. has_space s.kind && (is_at_home s && s.dirty)) (let low = may.lies.low in let first = t.same_run.first in omega arith)
            (λ k c l at. let dirty = run.dirty k c l at in both (has_space c.kind) _ dirty.space (both (is_none c.away) c.dirty (ap is_none dirty.home) dirty.dirty));
      })
      (λ k was content l at h.
      let size : ℕ = opening.geometry.block_size in
      let dirty = run.dirty k was l at in
      let has = has_page size (change.block + k) was content stakes h dirty.dirty in
      let bytes : (page_copy was).bytes ≡ has.page.bytes = ap (λ o. (copied o).bytes) has.is in
      let F : Option Page → Type 0 = λ o. IsSomeAnd o (λ p. false ≡ false → p.bytes ≡ (page_copy was).bytes) in
      record {
        home = dirty.home;
        space = dirty.space;
        kind = run.kinds k was l at;
        page = page_copy was;
        page_is = slice_get-map page_copy (take n (drop low now.cells)) k ∙ ap (option_map page_copy) (taken_at n low k now.cells was l at);
        whole = ap length bytes ∙ ap length has.bytes ∙ h.whole;
        fits = subst F (sym has.is) (λ _. sym bytes);
        around = tt;
        stays = h.uptodate_is_replay;
        dirty = λ d. absurd (cc);
      })
      (headroom t free run)
      (λ dax.
      let first = item_within now.cells (low + 0) (let s = run.some in let w = run.within in omega arith) in
      absurd (let clean = (All-there IsUncached now.cells (low + 0) first.0 (t.dax_is_uncached dax) first.1).clean in let dirty = (run.dirty 0 first.0 run.some first.1).dirty in cc))

-- what the plain event tells of a turn
pub record DirtyClauses (now next : RangeView) (claims left : ClaimsView) (change : LendWritebackRun) (result : Result Lent LendRefused) : Type 0 where
  pub refused : IfErr result (λ e. e.fault ≡ unwrap_or (lend_writeback_refusal now change.block) NoMemory)
  pub list : IfErr result (λ e. e.parts ≡ [])
  pub made : OnOk result (lend_writeback_refusal now change.block ≡ None)
  pub run : OnOk result (IsDirtyRun now.cells (change.block - now.first) (write_length now change.block change.blocks))
  pub unchanged : OnErr result (next ≡ now)
  pub free : OnErr result (left ≡ claims)
  pub state : OnOk result (next ≡ lent_dirty now change.block change.blocks)
  pub lent : IfOk result (λ lent. lent ≡ dirty_loan now change.block change.blocks)
  pub ready : IfOk result (λ lent. CanTransfer lent.parts)
  pub claims_are : IfOk result (λ lent. TakesHold claims left lent Writeback (first_kind (cells_from now change.block)))

abbrev pub DirtyDoes : RangeView → LendWritebackRun → LendWritebackRun → RangeView → RangeView → ClaimsView → ClaimsView → Result Lent LendRefused → Entry → Type 0
DirtyDoes opening change later before after claims left result entry = MatchResult result (λ lent. LentDirty opening change later before after claims left lent entry) (λ refused. RefusedDirty change later before after claims left refused entry)

pub dirty_turn : (opening now next : RangeView) (history : List Entry) (stakes : List RangeStake) (number : ℕ) (claims left : ClaimsView) (made : List Entry) (change later : LendWritebackRun) (result : Result Lent LendRefused) → RangeTruth opening now history stakes
    → Works stakes number claims made → MayWrite opening claims change.block change.blocks → later ≡ record change { parts = None } → DirtyClauses now next claims left change result
    → Advanced RangeTruth (λ opened _ entry. DirtyDoes opened change later now next claims left result entry) opening next history stakes number left made
dirty_turn opening now next history stakes number claims left made change later (Err e) t here may same c =
    let entry : Entry = dirty_entry claims change (Refused e.fault) in
    let next_is : next ≡ now = c.unchanged in
    let left_is : left ≡ claims = c.free in
    let N : RangeView → Type 0 = λ r. RangeTruth opening r (history ++ entry ∷ []) (set stakes number (Some left, made ++ entry ∷ [])) in
    let L : ClaimsView → Type 0 = λ l. RangeTruth opening now (history ++ entry ∷ []) (set stakes number (Some l, made ++ entry ∷ [])) in
    record {
      entry = entry;
      done = record { change_is = same; fault_is = c.refused; list = c.list; value = next_is; claims_are = left_is; entry_is = refl };
      holds = subst N (sym next_is) (subst L (sym left_is) (quiet_truth opening now history entry stakes number claims made t here (refused_is_quiet _ claims.caller entry.event e.fault) tt refl));
    }
dirty_turn opening now next history stakes number claims left made change later (Ok lent) t here may same c =
    let entry : Entry = dirty_entry claims change (Lending now.tickets (write_length now change.block change.blocks)) in
    let next_is : next ≡ lent_dirty now change.block change.blocks = c.state in
    let n : ℕ = write_length now change.block change.blocks in
    let pages : List Page = map page_copy (take n (cells_from now change.block)) in
    let many : length pages ≡ n = copies-length (change.block - now.first) n now.cells c.run.within in
    let some = c.run.some in
    let within = c.run.within in
    let lies : LiesAt opening lent.block (length lent.parts) = loan_lies opening now change.block now.tickets pages lent t.same_run may.lies.low (omega arith) (omega arith) c.lent in
    let N : RangeView → Type 0 = λ r. RangeTruth opening r (history ++ entry ∷ []) (set stakes number (Some left, made ++ entry ∷ [])) in
    record {
      entry = entry;
      done = record { change_is = same; made = c.made; run = c.run; value = next_is; lent_is = c.lent; ready = c.ready; claims_are = c.claims_are; entry_is = refl; lies = lies };
      holds = subst N (sym next_is) (dirty_holds opening now history stakes number claims left made change t here may c.made c.run
          (record { claim = c.claims_are.claim; left_is = c.claims_are.left_is; lent_is = c.claims_are.lent_is ∙ c.lent; lender_is = c.claims_are.lender_is; kind_is = c.claims_are.kind_is }));
    }
