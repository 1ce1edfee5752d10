-- The range truth after a turn that lends blocks for a caller's own pages, or answers zeros.
use Rattle.std.proofs.Common.{◌≡◌, ℕ, zero, suc, ◌+◌, ◌-◌, ◌<◌, Bool, true, false, if◌then◌else◌, Option, Some, None, List, [], ◌∷◌, ◌++◌, length, map, get_or, set, All, append-nil, refl, sym, ◌∙◌, ap, subst, arith}
use Rattle.std.specs.Prelude.{IfErr, IfOk, OnErr, OnOk, Result, Ok, Err, slice_get, unwrap_or, ◌&&◌, not}
use Rattle.std.proofs.lemmas.Option.{slice_get-get_or, slice_get_within}
use Rattle.iob_base.specs.Parting.{IsBare, bare_parts, pages_of}
use Rattle.iob_base.proofs.PartLemmas.{pages_of-bare}
use Rattle.iob_base.specs.declared.part.Part.{Part}
use Rattle.iob_base.specs.declared.sector.Page.{Page}
use Rattle.iob_base.specs.declared.stamp.Op.{Op}
use Rattle.iob_base.specs.declared.stamp.Op.TheVariants.{Read, Write}
use Rattle.iob_base.specs.declared.stamp.Tag.{Tag}
use Rattle.io_model.specs.Contents.{zeros}
use Rattle.io_model.specs.Kinds.{kind_after}
use Rattle.io_model.specs.declared.file.Kind.{Kind}
use Rattle.io_model.specs.declared.file.Kind.TheVariants.{Hole}
use Rattle.turn_cell.specs.Laws.{Advanced}
use Rattle.turn_cell.specs.Stakes.{Begins}
use Rattle.range_core.specs.BlockStates.{lent_directly, state_of}
use Rattle.range_core.specs.BlockTruth.{HomeContent, IsHomeContent, IsWholePage}
use Rattle.range_core.specs.ClaimsView.{ClaimsView}
use Rattle.range_core.specs.LendDirects.{CanLendDirect, ClaimsAnswer, GoesOut, ReadsZeros, ReadyToLend, TurnedToLend, after_lend_direct, away_direct, direct_answer, direct_lent, direct_loan, goes_out, lend_entry, lend_outcome, pages_in, zeros_given, AnswerLies}
use Rattle.range_core.specs.Pages.{zeroed_page}
use Rattle.range_core.specs.Kinds.{has_space, is_mapped}
use Rattle.range_core.specs.Lends.{TakesHold, lent_cell, parts_of}
use Rattle.range_core.specs.Loans.{ChangesSeat}
use Rattle.range_core.specs.Lookups.{first_kind}
use Rattle.range_core.specs.OnRun.{on_each}
use Rattle.range_core.specs.RangeTruth.{RangeTruth, content_at}
use Rattle.range_core.specs.RangeView.{RangeView, cells_from}
use Rattle.range_core.specs.Refusals.{lend_direct_refusal}
use Rattle.range_core.specs.Spots.{in_run}
use Rattle.range_core.specs.Stakes.{RangeStake, names_block}
use Rattle.range_core.specs.Stamps.{done_by, stamps_from}
use Rattle.range_core.specs.declared.cell.Cell.{Cell}
use Rattle.range_core.specs.declared.direct_answer.Direct.{Direct as Answer}
use Rattle.range_core.specs.declared.direct_answer.Direct.TheVariants.{Lent as LentOut, Zeros}
use Rattle.range_core.specs.declared.direct_answer.DirectRefused.{DirectRefused}
use Rattle.range_core.specs.declared.entry.Entry.{Entry}
use Rattle.range_core.specs.declared.entry.Event.TheVariants.{LendDirect}
use Rattle.range_core.specs.declared.entry.Outcome.TheVariants.{Finished, Lending, Refused}
use Rattle.range_core.specs.declared.fault.EventFault.TheVariants.{NoMemory}
use Rattle.range_core.specs.declared.lending.Away.{Away}
use Rattle.range_core.specs.declared.lending.Held.{Held}
use Rattle.range_core.specs.declared.lending.Lender.TheVariants.{Direct}
use Rattle.range_core.specs.declared.lending.Lent.{Lent}
use Rattle.range_core.specs.declared.range.lend_direct.LendDirectRun.{LendDirectRun}
use Rattle.range_core.specs.declared.sample.Sample.{Sample}
use Rattle.range_core.proofs.AfterEntry.{quiet_truth}
use Rattle.range_core.proofs.AfterRun.{changed_truth, in_run-true}
use Rattle.range_core.proofs.LendDirectLemmas.{AreLendable, ClaimsBlock, lendable, lent_headroom, lent_true, out_has_space, unnamed_true}
use Rattle.range_core.proofs.FirstTruth.{All-there}
use Rattle.range_core.proofs.KindRuns.{first_kind-drop, kinds_of}
use Rattle.range_core.proofs.KindSteps.{kind_after-plus, mapped-after, space-after}
use Rattle.range_core.proofs.LendLemmas.{length-parts_of, parts_of-at}
use Rattle.range_core.proofs.OnRunLemmas.{map-on_each}
use Rattle.range_core.proofs.RefusedLemmas.{refused_is_quiet}
use Rattle.range_core.proofs.SampleLemmas.{given_later, known_sample, samples_next}
use Rattle.range_core.proofs.SpaceLemmas.{space_by_kinds}
use Rattle.range_core.proofs.StampedTruth.{stamped_truth}
use Rattle.range_core.specs.Happened.{is_lendable, is_settled}
use Rattle.range_core.proofs.FoundLemmas.{found_run, lendable-found, settled-found}
use Rattle.range_core.proofs.LawfulLemmas.{both}
use Rattle.range_core.proofs.StakeTruth.{Works}
use Rattle.range_core.proofs.LiesLemmas.{loan_lies}

-- a block that does not go out is not mapped
unmapped : (op : Op) (k : Kind) → goes_out op k ≡ false → is_mapped k ≡ false
unmapped Read k e = e
unmapped Write k e = absurd (cc)

-- and its list has no blocks
pub bare_ready : (opening : RangeView) (seen : List Entry) (claims : ClaimsView) (change : LendDirectRun) (pages : List Part) → (ready : ReadyToLend change opening seen claims) → change.pages ≡ Some pages → All IsBare pages
bare_ready opening seen claims change pages ready is =
    let same : ready.pages ≡ pages = cc (ready.pages_are, is) in
    let B : List Part → Type 0 = All IsBare in
    subst B same ready.bare

-- a turn that is ready may make the loan
pub can_lend : (opening now : RangeView) (history seen : List Entry) (stakes : List RangeStake) (claims : ClaimsView) (change : LendDirectRun) (pages : List Part) → RangeTruth opening now history stakes → Begins seen history → (ready : ReadyToLend change opening seen claims)
    → change.pages ≡ Some pages → CanLendDirect now claims change.seen change.op change.block (pages_of pages)
can_lend opening now history seen stakes claims change pages t begins ready is =
    let same : ready.pages ≡ pages = cc (ready.pages_are, is) in
    let first = t.same_run.first in
    let many = t.same_run.blocks in
    let lies = ready.lies in
    let low = lies.low in
    let high = lies.high in
    let C : List Part → Type 0 = λ ps. CanLendDirect now claims change.seen change.op change.block (pages_of ps) in
    let W : ℕ → Type 0 = λ size. All (IsWholePage size) (pages_of ready.pages) in
    subst C same (record {
      cached = t.same_run.mode ∙ ready.cached;
      lies = record { low = omega arith; some = lies.some; high = omega arith };
      whole = subst W (ap (λ g. g.block_size) (sym t.same_run.geometry)) ready.whole;
      low = ready.low;
      high = ready.high;
      known = known_sample opening now history stakes change.seen t (given_later change.seen seen history begins ready.given);
      takes = ready.takes;
      free = ready.free;
    })

module _ (opening now : RangeView) (history : List Entry) (stakes : List RangeStake) (number : ℕ) (claims : ClaimsView) (made : List Entry) (by : Tag) (seen : Sample) (op : Op) (block : ℕ) (pages : List Page)
    (t : RangeTruth opening now history stakes) (here : Works stakes number claims made) (can : CanLendDirect now claims seen op block pages) (free : AreLendable now seen op block (length pages)) where
  abbrev lent_entry : Entry
  lent_entry = record { caller = claims.caller; event = LendDirect by seen op block (length pages); outcome = Lending now.tickets (length pages) }

  abbrev zeros_entry : Entry
  zeros_entry = record { caller = claims.caller; event = LendDirect by seen op block (length pages); outcome = Finished }

  -- the claim on the k-th block
  claims_block : (left : ClaimsView) (hold : TakesHold claims left (direct_loan now block pages) (Direct by op) (first_kind (cells_from now block))) (k : ℕ) (was : Cell) → k < length pages → slice_get now.cells (block - now.first + k) ≡ Some was
      → ClaimsBlock by op now.tickets (block + k) was (get_or pages k (record { number = 0; bytes = [] })) hold.claim
  claims_block left hold k was l at =
      let h : Held = hold.claim in
      let loan : Lent = direct_loan now block pages in
      let n : ℕ = length pages in
      let low : ℕ = block - now.first in
      let begins = can.lies.low in
      let ends = can.lies.high in
      let many : length (parts_of (cells_from now block) pages) ≡ n = length-parts_of low now.cells pages (omega arith) in
      let page : Page = get_or pages k (record { number = 0; bytes = [] }) in
      let off : block + k - block ≡ k = omega arith in
      let block_is : h.lent.value.block ≡ block = ap (λ (x : Lent). x.block) hold.lent_is in
      let place : block + k - h.lent.value.block ≡ k = ap (λ b. block + k - b) block_is ∙ off in
      let some = can.lies.some in
      let z : low + 0 ≡ low = omega arith in
      let within : low < length now.cells = omega arith in
      let head : Cell = get_or now.cells low was in
      let first : slice_get now.cells low ≡ Some head = slice_get-get_or now.cells low was within in
      let first_is : head.kind ≡ kind_after seen.extent.kind (block - seen.extent.block + 0) = (free.each 0 head some (ap (slice_get now.cells) z ∙ first)).kind in
      let kind : h.kind ≡ kind_after seen.extent.kind (block - seen.extent.block + 0) = hold.kind_is ∙ first_kind-drop now.cells low head first ∙ first_is in
      let sum : block - seen.extent.block + 0 + k ≡ block - seen.extent.block + k = omega arith in
      record {
        named =
            ap (λ (x : Lent). in_run x.block (length x.parts) (block + k)) hold.lent_is ∙ ap (λ m. in_run block m (block + k)) many
            ∙ in_run-true block n (block + k) (omega arith) (omega arith);
        ticket_is = ap (λ (x : Lent). x.ticket) hold.lent_is;
        lender_is = hold.lender_is;
        kind_is = ap (kind_after h.kind) place ∙ ap (λ q. kind_after q k) kind ∙ kind_after-plus seen.extent.kind (block - seen.extent.block + 0) k ∙ ap (kind_after seen.extent.kind) sum ∙ sym (free.each k was l at).kind;
        part_is = ap (slice_get h.lent.value.parts) place ∙ ap (λ (x : Lent). slice_get x.parts k) hold.lent_is
            ∙ parts_of-at low k now.cells pages was page at (slice_get-get_or pages k (record { number = 0; bytes = [] }) l);
      }

  -- the truth holds when the blocks are lent
  pub lent_truth : (left : ClaimsView) → goes_out op seen.extent.kind ≡ true → TakesHold claims left (direct_loan now block pages) (Direct by op) (first_kind (cells_from now block))
      → RangeTruth opening (direct_lent now by op block (length pages)) (history ++ lent_entry ∷ []) (set stakes number (Some left, made ++ lent_entry ∷ []))
  lent_truth left out hold =
      let n : ℕ = length pages in
      let size : ℕ = opening.geometry.block_size in
      let low : ℕ = block - now.first in
      let next : RangeView = direct_lent now by op block n in
      let others : List RangeStake = set stakes number (Some left, made ++ lent_entry ∷ []) in
      let f : ℕ → Cell → Cell = λ _ c. lent_cell (away_direct by op now.tickets) c in
      let first = t.same_run.first in
      let begins = can.lies.low in
      let ends = can.lies.high in
      let many = t.same_run.blocks in
      let h : Held = hold.claim in
      let held : left.held ≡ Some h = ap (λ (c : ClaimsView). c.held) hold.left_is in
      let change : ChangesSeat stakes others claims left = record { number = number; made = made; now = made ++ lent_entry ∷ []; here = here.here; is = refl } in
      let length_is : length h.lent.value.parts ≡ n = ap (λ (x : Lent). length x.parts) hold.lent_is ∙ length-parts_of low now.cells pages (omega arith) in
      let block_is : h.lent.value.block ≡ block = ap (λ (x : Lent). x.block) hold.lent_is in
      let places : block - opening.first ≡ low = omega arith in
      let whole : All (IsWholePage size) pages = let W : ℕ → Type 0 = λ s. All (IsWholePage s) pages in subst W (ap (λ g. g.block_size) t.same_run.geometry) can.whole in
      let kinds : kinds_of next.cells ≡ kinds_of now.cells = map-on_each f (λ (x : Cell). x.kind) (λ _ _. refl) 0 low n now.cells in
      let pends = lent_headroom now seen by op block n now.tickets free (omega arith) (let few = t.few in omega arith) t.cookie_has_headroom in
      changed_truth opening now next history lent_entry stakes number claims left made f block n t here
      (record {
        low = omega arith;
        cells = ap (λ l. on_each f 0 l n now.cells) (sym places);
        outside = λ b outside. record {
          content = λ x. refl;
          state = λ s. ap (λ u. if u then lent_directly by op now.tickets s else s) outside;
          claims = λ c x.
              unnamed_true size b c x stakes others claims left change (ap (names_block b) can.free)
              (ap (names_block b) held ∙ ap (λ m. in_run h.lent.value.block m b) length_is ∙ ap (λ m. in_run m n b) block_is ∙ outside);
        };
        inside = λ k was content l at true_at.
            let here_at : slice_get now.cells (block - now.first + k) ≡ Some was = ap (λ m. slice_get now.cells (m + k)) (sym places) ∙ at in
            let fresh = free.each k was l here_at in
            let p : Page = get_or pages k (record { number = 0; bytes = [] }) in
            record {
              state = sym (ap (λ u. if u then lent_directly by op now.tickets (state_of was) else state_of was) (in_run-true block n (block + k) (omega arith) (omega arith)));
              holds =
                  lent_true size (block + k) was content by op now.tickets p h stakes others claims left change can.free held (claims_block left hold k was l here_at) fresh.home fresh.clean
                  (ap has_space fresh.kind ∙ space-after seen.extent.kind _ ∙ out_has_space op seen.extent.kind can.takes out)
                  (whole k (record { number = 0; bytes = [] }) l) true_at;
            };
      })
      (record {
        geometry = refl;
        mode = refl;
        first = refl;
        pool = refl;
        errors = let p = t.errors_counted in omega arith;
        tickets = refl;
        cookie = omega arith;
        log = sym (append-nil now.log);
        headroom = pends;
        uncached = λ d. absurd (let c = can.cached in cc);
        space = space_by_kinds size now.cells next.cells now.space kinds t.pool_claims_sectors;
        found = found_run now block n (λ b s. is_lendable op s.kind && is_settled s) can.lies.low
            (λ k c l at.
            let fresh = free.each k c l at in
            both (is_lendable op c.kind) _
            (lendable-found op c.kind (λ r. let G : Op → Type 0 = λ o. goes_out o seen.extent.kind ≡ true in ap is_mapped fresh.kind ∙ mapped-after seen.extent.kind _ ∙ subst G r out)
            (ap has_space fresh.kind ∙ space-after seen.extent.kind _ ∙ out_has_space op seen.extent.kind can.takes out))
            (settled-found c fresh.home fresh.clean));
      })
      (samples_next now next history lent_entry refl (omega arith) (λ _. kinds) t.samples_give_extents tt)
      (record { caller = ap (λ (c : ClaimsView). c.caller) hold.left_is; spare = ap (λ (c : ClaimsView). c.spare) hold.left_is; main = ap (λ (c : ClaimsView). c.main) hold.left_is })
      refl

  -- the truth holds when zeros are answered
  pub zeros_truth : goes_out op seen.extent.kind ≡ false → RangeTruth opening (zeros_given now by block (length pages)) (history ++ zeros_entry ∷ []) (set stakes number (Some claims, made ++ zeros_entry ∷ []))
  zeros_truth out =
      stamped_truth opening now history zeros_entry (stamps_from block (length pages) (done_by by)) stakes number claims made t here
      (record {
        caller_is = refl;
        content = λ b x. refl;
        state = λ b s. refl;
        failed = refl;
        lent = refl;
        changed = refl;
        stamps_are = refl;
        sample = tt;
        found = found_run now block (length pages) (λ b s. not (is_mapped s.kind) && is_settled s) can.lies.low
            (λ k c l at.
            let fresh = free.each k c l at in
            both (not (is_mapped c.kind)) _ (ap not (ap is_mapped fresh.kind ∙ mapped-after seen.extent.kind _ ∙ unmapped op seen.extent.kind out)) (settled-found c fresh.home fresh.clean));
      })

  -- the blocks read as zeros
  zero_content : goes_out op seen.extent.kind ≡ false → (k : ℕ) → k < length pages → content_at opening history (block - opening.first + k) ≡ zeros opening.geometry.block_size
  zero_content out k l =
      let begins = can.lies.low in
      let ends = can.lies.high in
      let first = t.same_run.first in
      let i : ℕ = block - opening.first + k in
      let j : block - now.first + k ≡ i = omega arith in
      let blank : Cell = record { kind = Hole; sector = None; away = None; page = None; dirty = false } in
      let was : Cell = get_or now.cells i blank in
      let at : slice_get now.cells i ≡ Some was = slice_get-get_or now.cells i blank (omega arith) in
      let fresh = free.each k was l (ap (slice_get now.cells) j ∙ at) in
      let size : ℕ = opening.geometry.block_size in
      let H : Option Away → Type 0 = λ a. HomeContent size was (content_at opening history i) a in
      let home : IsHomeContent size was (content_at opening history i) = subst H fresh.home (t.blocks i was at).home_is_on_device in
      home.spaceless_is_zeros (ap is_mapped fresh.kind ∙ mapped-after seen.extent.kind _ ∙ unmapped op seen.extent.kind out) fresh.clean

  -- pages of zeros have the contents of these blocks
  pub zeros_read : goes_out op seen.extent.kind ≡ false → (k : ℕ) (p : Page) → slice_get (map zeroed_page pages) k ≡ Some p → p.bytes ≡ content_at opening history (block - opening.first + k)
  zeros_read out k p at =
      let m = zeroed_at k pages p at in
      let l : k < length pages = slice_get_within pages k m.0 m.1.0 in
      let size : length m.0.bytes ≡ opening.geometry.block_size = All-there (IsWholePage now.geometry.block_size) pages k m.0 can.whole m.1.0 ∙ ap (λ g. g.block_size) t.same_run.geometry in
      ap (λ (x : Page). x.bytes) (sym m.1.1) ∙ ap zeros size ∙ sym (zero_content out k l)
    where
      zeroed_at : (k : ℕ) (pages : List Page) (p : Page) → slice_get (map zeroed_page pages) k ≡ Some p → (q : Page) × ((slice_get pages k ≡ Some q) × (zeroed_page q ≡ p))
      zeroed_at k [] p e = absurd (cc)
      zeroed_at zero (q ∷ pages) p e = (q, (refl, (cc)))
      zeroed_at (suc k) (q ∷ pages) p e = zeroed_at k pages p e

-- what the event says of its answer, and of what it leaves
pub record DirectAnswered (now next : RangeView) (claims left : ClaimsView) (by : Tag) (seen : Sample) (op : Op) (block : ℕ) (pages : List Part) (result : Result Answer DirectRefused) : Type 0 where
  pub made : OnOk result (lend_direct_refusal now seen op block (length (pages_of pages)) ≡ None)
  pub state : OnOk result (next ≡ after_lend_direct now by seen op block (length (pages_of pages)))
  pub answer : IfOk result (λ a. a ≡ direct_answer now seen op block (pages_of pages))
  pub ready : IfOk result (λ a. GoesOut op (first_kind (cells_from now block)) a)
  pub claims_are : IfOk result (λ a. ClaimsAnswer claims left by op (first_kind (cells_from now block)) a)
  pub refused : IfErr result (λ e. e.fault ≡ unwrap_or (lend_direct_refusal now seen op block (length (pages_of pages))) NoMemory)
  pub pages_back : IfErr result (λ e. e.pages ≡ pages)
  pub unchanged : OnErr result (next ≡ now)
  pub unclaimed : OnErr result (left ≡ claims)

module _ (opening now next : RangeView) (history seen : List Entry) (stakes : List RangeStake) (number : ℕ) (claims left : ClaimsView) (made : List Entry) (change later : LendDirectRun) (pages : List Part)
    (t : RangeTruth opening now history stakes) (here : Works stakes number claims made) (begins : Begins seen history) (ready : ReadyToLend change opening seen claims) (given : change.pages ≡ Some pages) (used : later ≡ record change { pages = None }) where
  abbrev Turned : Result Answer DirectRefused → Type 0
  Turned result = Advanced RangeTruth (λ opening history entry. TurnedToLend change later opening history now next claims left result entry) opening next history stakes number left made

  abbrev can : CanLendDirect now claims change.seen change.op change.block (pages_of pages)
  can = can_lend opening now history seen stakes claims change pages t begins ready given

  pages_are : pages_in change ≡ (pages_of pages)
  pages_are = ap (λ o. pages_in (record change { pages = o })) given

  abbrev entry_of : List Page → Answer → Entry
  entry_of ps answer = record { caller = claims.caller; event = LendDirect change.by change.seen change.op change.block (length ps); outcome = lend_outcome now.tickets (length ps) answer }

  abbrev After : ClaimsView → RangeView → Entry → Type 0
  After now_left v e = RangeTruth opening v (history ++ e ∷ []) (set stakes number (Some now_left, made ++ e ∷ []))

  refused_turn : (refused : DirectRefused) → DirectAnswered now next claims left change.by change.seen change.op change.block pages (Err refused) → Turned (Err refused)
  refused_turn refused a =
      let e : Entry = lend_entry claims change (Refused refused.fault) in
      let N : RangeView → Type 0 = λ v. After left v e in
      let L : ClaimsView → Type 0 = λ c. After c now e in
      record {
        entry = e;
        done = record {
          change_is = used;
          did = record {
            cause = a.refused ∙ ap (λ l. unwrap_or (lend_direct_refusal now change.seen change.op change.block (length l)) NoMemory) (sym pages_are);
            pages = given ∙ ap Some (sym a.pages_back);
            value = a.unchanged;
            claims_are = a.unclaimed;
            entry_is = refl;
          };
        };
        holds = subst N (sym a.unchanged) (subst L (sym a.unclaimed) (quiet_truth opening now history e stakes number claims made t here (refused_is_quiet opening.geometry.block_size claims.caller e.event refused.fault) tt refl));
      }

  answered_turn : (answer : Answer) → DirectAnswered now next claims left change.by change.seen change.op change.block pages (Ok answer) → Turned (Ok answer)
  answered_turn answer a =
      let n : ℕ = length (pages_of pages) in
      let free : AreLendable now change.seen change.op change.block n = lendable now claims change.seen change.op change.block (pages_of pages) can a.made in
      let e : Entry = entry_of (pages_in change) answer in
      let lies : (After left next e) × ReadsZeros opening history change.block answer = at free (goes_out change.op change.seen.extent.kind) refl in
      record {
        entry = e;
        done = record {
          change_is = used;
          did = record {
            free = ap (λ l. lend_direct_refusal now change.seen change.op change.block (length l)) pages_are ∙ a.made;
            value = a.state ∙ ap (λ l. after_lend_direct now change.by change.seen change.op change.block (length l)) (sym pages_are);
            answer_is = a.answer ∙ ap (direct_answer now change.seen change.op change.block) (sym pages_are);
            goes = a.ready;
            claims_are = a.claims_are;
            entry_is = refl;
            reads = lies.1;
            lies = answer_lies (goes_out change.op change.seen.extent.kind) refl;
          };
        };
        holds = lies.0;
      }
    where
      answer_lies : (u : Bool) → goes_out change.op change.seen.extent.kind ≡ u → AnswerLies opening answer
      answer_lies true out =
          let loan : Answer = LentOut (direct_loan now change.block (pages_of pages)) in
          let is : answer ≡ loan = a.answer ∙ ap (λ u. if u then loan else Zeros (bare_parts (map zeroed_page (pages_of pages)))) out in
          let L : Answer → Type 0 = λ x. AnswerLies opening x in
          let low = can.lies.low in
          let high = can.lies.high in
          let first = t.same_run.first in
          subst L (sym is) (loan_lies opening now change.block now.tickets (pages_of pages) (direct_loan now change.block (pages_of pages)) t.same_run ready.lies.low can.lies.some (omega arith) refl)
      answer_lies false out =
          let zeros_in : Answer = Zeros (bare_parts (map zeroed_page (pages_of pages))) in
          let is : answer ≡ zeros_in = a.answer ∙ ap (λ u. if u then LentOut (direct_loan now change.block (pages_of pages)) else zeros_in) out in
          let L : Answer → Type 0 = λ x. AnswerLies opening x in
          subst L (sym is) tt

      at : AreLendable now change.seen change.op change.block (length (pages_of pages)) → (u : Bool) → goes_out change.op change.seen.extent.kind ≡ u → (After left next (entry_of (pages_in change) answer)) × ReadsZeros opening history change.block answer
      at free true out =
          let n : ℕ = length (pages_of pages) in
          let loan : Answer = LentOut (direct_loan now change.block (pages_of pages)) in
          let is : answer ≡ loan = a.answer ∙ ap (λ u. if u then loan else Zeros (bare_parts (map zeroed_page (pages_of pages)))) out in
          let after : next ≡ direct_lent now change.by change.op change.block n = a.state ∙ ap (λ u. if u then direct_lent now change.by change.op change.block n else zeros_given now change.by change.block n) out in
          let H : Answer → Type 0 = λ x. ClaimsAnswer claims left change.by change.op (first_kind (cells_from now change.block)) x in
          let R : Answer → Type 0 = λ x. ReadsZeros opening history change.block x in
          let E : Entry → Type 0 = λ e. After left next e in
          let N : RangeView → Type 0 = λ v. After left v (entry_of (pages_of pages) loan) in
          let entries : entry_of (pages_in change) answer ≡ entry_of (pages_of pages) loan = ap (λ l. entry_of l answer) pages_are ∙ ap (entry_of (pages_of pages)) is in (
            subst E (sym entries) (subst N (sym after) (lent_truth opening now history stakes number claims made change.by change.seen change.op change.block (pages_of pages) t here can free left out (subst H is a.claims_are))),
            subst R (sym is) tt,
          )
      at free false out =
          let n : ℕ = length (pages_of pages) in
          let zeros_in : Answer = Zeros (bare_parts (map zeroed_page (pages_of pages))) in
          let is : answer ≡ zeros_in = a.answer ∙ ap (λ u. if u then LentOut (direct_loan now change.block (pages_of pages)) else zeros_in) out in
          let after : next ≡ zeros_given now change.by change.block n = a.state ∙ ap (λ u. if u then direct_lent now change.by change.op change.block n else zeros_given now change.by change.block n) out in
          let H : Answer → Type 0 = λ x. ClaimsAnswer claims left change.by change.op (first_kind (cells_from now change.block)) x in
          let R : Answer → Type 0 = λ x. ReadsZeros opening history change.block x in
          let E : Entry → Type 0 = λ e. After left next e in
          let N : RangeView → Type 0 = λ v. After left v (entry_of (pages_of pages) zeros_in) in
          let L : ClaimsView → Type 0 = λ c. After c (zeros_given now change.by change.block n) (entry_of (pages_of pages) zeros_in) in
          let entries : entry_of (pages_in change) answer ≡ entry_of (pages_of pages) zeros_in = ap (λ l. entry_of l answer) pages_are ∙ ap (entry_of (pages_of pages)) is in
          let Z : List Page → Type 0 = λ ps. (k : ℕ) (p : Page) → slice_get ps k ≡ Some p → p.bytes ≡ content_at opening history (change.block - opening.first + k) in
          let same : left ≡ claims = subst H is a.claims_are in (
            subst E (sym entries) (subst N (sym after) (subst L (sym same) (zeros_truth opening now history stakes number claims made change.by change.seen change.op change.block (pages_of pages) t here can free out))),
            subst R (sym is) (subst Z (sym (pages_of-bare (map zeroed_page (pages_of pages)))) (zeros_read opening now history stakes number claims made change.by change.seen change.op change.block (pages_of pages) t here can free out)),
          )

  pub turned_to_lend : (result : Result Answer DirectRefused) → DirectAnswered now next claims left change.by change.seen change.op change.block pages result → Turned result
  turned_to_lend (Ok answer) a = answered_turn answer a
  turned_to_lend (Err refused) a = refused_turn refused a
