-- The turns that read blocks into the cache keep the truth.
use Rattle.std.proofs.Common.{◌≡◌, ℕ, ◌+◌, ◌-◌, if◌then◌else◌, Some, None, Result, Ok, Err, IfOk, IfErr, OnOk, OnErr, List, [], ◌∷◌, ◌++◌, All, set, refl, sym, ◌∙◌, ap, subst, arith, length}
use Rattle.std.specs.Prelude.{◌&&◌, ◌||◌, MatchResult, unwrap_or, is_none, is_some, not}
use Rattle.iob_base.specs.DeviceBlock.{BLANK}
use Rattle.iob_base.specs.Layout.{Layout}
use Rattle.iob_base.specs.declared.sector.Page.{Page}
use Rattle.iob_base.specs.declared.stamp.Mode.TheVariants.{Cached, Dax}
use Rattle.fault_device.specs.Transfer.{CanTransfer}
use Rattle.turn_cell.specs.Laws.{Advanced}
use Rattle.turn_cell.specs.Stakes.{total}
use Rattle.range_core.specs.BlockStates.{lent_for, state_of}
use Rattle.range_core.specs.ClaimsView.{ClaimsView}
use Rattle.range_core.specs.LendReads.{IsColdLoan, IsColdRun, LentCold, MayFill, RefusedCold, cold_entry, fill_length, lent_cold}
use Rattle.range_core.specs.EntryCounts.{one_where}
use Rattle.range_core.specs.Kinds.{is_delalloc, is_unwritten, is_mapped}
use Rattle.range_core.specs.Lends.{TakesHold, lent_cell, lent_of, parts_of}
use Rattle.range_core.specs.Lookups.{first_kind}
use Rattle.range_core.specs.RangeTruth.{RangeTruth, is_lent_for_writing, pending}
use Rattle.range_core.specs.Pages.{IsCachePage}
use Rattle.range_core.specs.RangeView.{RangeView, cells_from, LiesAt}
use Rattle.range_core.specs.Refusals.{lend_read_refusal}
use Rattle.range_core.specs.Stakes.{RangeStake}
use Rattle.range_core.specs.declared.entry.Entry.{Entry}
use Rattle.range_core.specs.declared.entry.Outcome.TheVariants.{Lending, Refused}
use Rattle.range_core.specs.declared.fault.EventFault.TheVariants.{NoMemory}
use Rattle.range_core.specs.declared.lending.Away.{Away}
use Rattle.range_core.specs.declared.lending.Lender.TheVariants.{Reading}
use Rattle.range_core.specs.declared.lending.Lent.{Lent}
use Rattle.range_core.specs.declared.loan_answer.LendRefused.{LendRefused}
use Rattle.range_core.specs.declared.range.lend_read.LendReadRun.{LendReadRun}
use Rattle.range_core.proofs.AfterEntry.{quiet_truth}
use Rattle.range_core.proofs.LendReadLemmas.{mapped_space}
use Rattle.range_core.proofs.FirstTruth.{All-there}
use Rattle.range_core.proofs.LendLemmas.{item_within}
use Rattle.range_core.proofs.LoanTurns.{loan_truth}
use Rattle.range_core.proofs.LoanTruth.{clean_without_page, has_block, home_bytes}
use Rattle.range_core.proofs.RefusedLemmas.{refused_is_quiet}
use Rattle.range_core.proofs.SoundLemmas.{total-moved}
use Rattle.range_core.proofs.FoundLemmas.{found_run}
use Rattle.range_core.proofs.LawfulLemmas.{both}
use Rattle.range_core.specs.Happened.{is_cold_in}
use Rattle.range_core.proofs.StakeTruth.{Works}
use Rattle.range_core.proofs.LiesLemmas.{loan_lies}

module _ (opening now : RangeView) (history : List Entry) (stakes : List RangeStake) (number : ℕ) (claims left : ClaimsView) (made : List Entry) (change : LendReadRun) where
  abbrev n : ℕ
  n = fill_length now change.block change.blocks

  abbrev loan : Entry
  loan = cold_entry claims change (Lending now.tickets n)

  abbrev away : Away
  away = record { ticket = now.tickets; lender = Reading }

  -- no block that an event without refusal may change comes or goes
  pending_same : IsColdRun now.cells (change.block - now.first) n → total pending (lent_cold now change.block change.blocks).cells ≡ total pending now.cells
  pending_same run =
      let t = total-moved (λ _ c. lent_cell away c) pending 0 0 0 (change.block - now.first) n now.cells run.within
      (λ k c l at. let a : pending (lent_cell away c) ≡ pending c = ap (λ o. one_where (is_delalloc c.kind || (is_unwritten c.kind && is_lent_for_writing o))) (sym (run.cold k c l at).home) in omega arith) in
      omega arith

  cold_holds : RangeTruth opening now history stakes → Works stakes number claims made → MayFill opening claims change.block change.blocks → IsColdRun now.cells (change.block - now.first) n
      → (pages : List Page) → length pages ≡ n → All (IsCachePage now.geometry.block_size) pages → TakesHold claims left (lent_of now.tickets change.block (parts_of (cells_from now change.block) pages)) Reading (first_kind (cells_from now change.block))
      → RangeTruth opening (lent_cold now change.block change.blocks) (history ++ loan ∷ []) (set stakes number (Some left, made ++ loan ∷ []))
  cold_holds t here may run pages many kept hold =
      loan_truth opening now history stakes number claims left made loan Reading change.block n pages t here may.lies.low may.free hold many run.within
      (record {
        content = λ x y. refl;
        outside = λ x s out. ap (λ u. if u then lent_for Reading now.tickets s else s) out;
        inside = λ x c met. sym (ap (λ u. if u then lent_for Reading now.tickets (state_of c) else state_of c) met);
        failed = refl;
        lent = refl;
        changed = refl;
        stamps = refl;
        sample = tt;
        caller = refl;
        found = found_run now change.block n (λ b s. is_cold_in s && not s.dirty) (let low = may.lies.low in let first = t.same_run.first in omega arith)
            (λ k c l at. let cold = run.cold k c l at in both (is_cold_in (state_of c)) _ (both (is_mapped c.kind) _ cold.mapped (both (is_none c.away) (not (is_some c.page)) (ap is_none cold.home) (ap (λ o. not (is_some o)) cold.page))) (ap not (clean_without_page opening.geometry.block_size _ c _ stakes (t.blocks _ c at) cold.page)));
      })
      (λ k was content l at h.
      let size : ℕ = opening.geometry.block_size in
      let page = item_within pages k (omega arith) in
      let cache : IsCachePage now.geometry.block_size page.0 = All-there (IsCachePage now.geometry.block_size) pages k page.0 kept page.1 in
      let cold = run.cold k was l at in
      let has = has_block size was h.place cold.home (mapped_space was.kind cold.mapped) in
      let clean = clean_without_page size (change.block + k) was content stakes h cold.page in
      let bytes = home_bytes size (change.block + k) was content stakes has.sector h cold.home cold.mapped clean has.is in
      record {
        home = cold.home;
        space = mapped_space was.kind cold.mapped;
        kind = run.kinds k was l at;
        page = page.0;
        page_is = page.1;
        whole = cache.whole ∙ ap (λ (g : Layout). g.block_size) t.same_run.geometry;
        fits = (cold.mapped, ap (λ o. (unwrap_or o BLANK).bytes) has.is ∙ bytes, cold.page);
        around = tt;
        stays = h.uptodate_is_replay;
        dirty = h.dirty_is_uptodate;
      })
      (let r = t.cookie_has_headroom in omega (arith, pending_same run))
      (λ dax. absurd (let both : Cached ≡ Dax = sym may.cached ∙ sym t.same_run.mode ∙ dax in cc))

-- what the plain event tells of a turn
pub record ColdClauses (now next : RangeView) (claims left : ClaimsView) (change : LendReadRun) (result : Result Lent LendRefused) : Type 0 where
  pub refused : IfErr result (λ e. e.fault ≡ unwrap_or (lend_read_refusal now change.block) NoMemory)
  pub list : IfErr result (λ e. e.parts ≡ [])
  pub made : OnOk result (lend_read_refusal now change.block ≡ None)
  pub run : OnOk result (IsColdRun now.cells (change.block - now.first) (fill_length now change.block change.blocks))
  pub unchanged : OnErr result (next ≡ now)
  pub free : OnErr result (left ≡ claims)
  pub state : OnOk result (next ≡ lent_cold now change.block change.blocks)
  pub loan : IfOk result (IsColdLoan now change.block change.blocks)
  pub ready : IfOk result (λ lent. CanTransfer lent.parts)
  pub claims_are : IfOk result (λ lent. TakesHold claims left lent Reading (first_kind (cells_from now change.block)))

abbrev pub ColdDoes : RangeView → LendReadRun → LendReadRun → RangeView → RangeView → ClaimsView → ClaimsView → Result Lent LendRefused → Entry → Type 0
ColdDoes opening change later before after claims left result entry = MatchResult result (λ lent. LentCold opening change later before after claims left lent entry) (λ refused. RefusedCold change later before after claims left refused entry)

pub cold_turn : (opening now next : RangeView) (history : List Entry) (stakes : List RangeStake) (number : ℕ) (claims left : ClaimsView) (made : List Entry) (change later : LendReadRun) (result : Result Lent LendRefused) → RangeTruth opening now history stakes
    → Works stakes number claims made → MayFill opening claims change.block change.blocks → later ≡ record change { parts = None } → ColdClauses now next claims left change result
    → Advanced RangeTruth (λ opened _ entry. ColdDoes opened change later now next claims left result entry) opening next history stakes number left made
cold_turn opening now next history stakes number claims left made change later (Err e) t here may same c =
    let entry : Entry = cold_entry claims change (Refused e.fault) in
    let T : RangeView × ClaimsView → Type 0 = λ p. RangeTruth opening p.0 (history ++ entry ∷ []) (set stakes number (Some p.1, made ++ entry ∷ [])) in
    let next_is : next ≡ now = c.unchanged in
    let left_is : left ≡ claims = c.free in
    let N : RangeView → Type 0 = λ r. RangeTruth opening r (history ++ entry ∷ []) (set stakes number (Some left, made ++ entry ∷ [])) in
    let L : ClaimsView → Type 0 = λ l. RangeTruth opening now (history ++ entry ∷ []) (set stakes number (Some l, made ++ entry ∷ [])) in
    record {
      entry = entry;
      done = record { change_is = same; fault_is = c.refused; list = c.list; value = next_is; claims_are = left_is; entry_is = refl };
      holds = subst N (sym next_is) (subst L (sym left_is) (quiet_truth opening now history entry stakes number claims made t here (refused_is_quiet _ claims.caller entry.event e.fault) tt refl));
    }
cold_turn opening now next history stakes number claims left made change later (Ok lent) t here may same c =
    let n : ℕ = fill_length now change.block change.blocks in
    let entry : Entry = cold_entry claims change (Lending now.tickets n) in
    let next_is : next ≡ lent_cold now change.block change.blocks = c.state in
    let pages : List Page = c.loan.pages in
    let many : length pages ≡ n = c.loan.many in
    let some = c.run.some in
    let within = c.run.within in
    let lies : LiesAt opening lent.block (length lent.parts) = loan_lies opening now change.block now.tickets pages lent t.same_run may.lies.low (omega arith) (omega arith) c.loan.lent_is in
    let N : RangeView → Type 0 = λ r. RangeTruth opening r (history ++ entry ∷ []) (set stakes number (Some left, made ++ entry ∷ [])) in
    record {
      entry = entry;
      done = record { change_is = same; made = c.made; run = c.run; value = next_is; loan = c.loan; ready = c.ready; claims_are = c.claims_are; entry_is = refl; lies = lies };
      holds = subst N (sym next_is) (cold_holds opening now history stakes number claims left made change t here may c.run pages many c.loan.kept (record { claim = c.claims_are.claim; left_is = c.claims_are.left_is; lent_is = c.claims_are.lent_is ∙ c.loan.lent_is; lender_is = c.claims_are.lender_is; kind_is = c.claims_are.kind_is }));
    }
