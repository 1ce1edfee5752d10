-- A turn that lends blocks keeps the truth.
use Rattle.std.proofs.Common.{◌≡◌, ◌≢◌, ℕ, ◌+◌, ◌-◌, ◌<◌, ◌≤◌, ◌^◌, ◌%◌, true, false, Some, None, IsTrue, IfSome, IsSomeAnd, List, [], ◌∷◌, ◌++◌, length, set, All, refl, sym, ◌∙◌, ap, subst, arith, append-nil}
use Rattle.std.specs.Prelude.{max, slice_get}
use Rattle.iob_base.specs.declared.TheConstants.{WORN}
use Rattle.iob_base.specs.declared.sector.Page.{Page}
use Rattle.iob_base.specs.declared.stamp.Mode.TheVariants.{Dax}
use Rattle.io_model.specs.Contents.{Content}
use Rattle.io_model.specs.Kinds.{kind_after}
use Rattle.io_model.specs.declared.file.Kind.{Kind}
use Rattle.io_model.specs.declared.file.Kind.TheVariants.{Hole}
use Rattle.turn_cell.specs.Stakes.{total}
use Rattle.range_core.specs.BlockContents.{content_after}
use Rattle.range_core.specs.BlockStates.{BlockState, state_after, state_of}
use Rattle.range_core.specs.BlockTruth.{FitsLender, IsAround, IsTrueAt, IsWholePage}
use Rattle.range_core.specs.ClaimsView.{ClaimsView, holding}
use Rattle.range_core.specs.EntryCounts.{changes, failures, lendings}
use Rattle.range_core.specs.EntryStamps.{stamps_of}
use Rattle.range_core.specs.Kinds.{has_space}
use Rattle.range_core.specs.Lends.{TakesHold, lent_cell, lent_of, part_of, parts_of, with_lent}
use Rattle.range_core.specs.Lookups.{GivesPresent, first_kind}
use Rattle.range_core.specs.OnRun.{on_each}
use Rattle.range_core.specs.RangeTruth.{IsUncached, RangeTruth, pending}
use Rattle.range_core.specs.RangeView.{RangeView, cells_from}
use Rattle.range_core.specs.Spots.{in_run}
use Rattle.range_core.specs.Stakes.{RangeStake, names_block}
use Rattle.range_core.specs.declared.cell.Cell.{Cell}
use Rattle.range_core.specs.declared.entry.Entry.{Entry}
use Rattle.range_core.specs.declared.lending.Away.{Away}
use Rattle.range_core.specs.declared.lending.Held.{Held}
use Rattle.range_core.specs.declared.lending.Lender.{Lender}
use Rattle.range_core.proofs.AfterRun.{changed_truth, in_run-true}
use Rattle.range_core.proofs.KindRuns.{kinds_of}
use Rattle.range_core.proofs.LendLemmas.{length-parts_of, lent-away, lent-kind, lent-sector}
use Rattle.range_core.proofs.LoanTruth.{changes_seat, has_block, loan_fits, true_lent, true_outside}
use Rattle.range_core.proofs.OnRunLemmas.{map-on_each}
use Rattle.range_core.proofs.SampleLemmas.{samples_next}
use Rattle.range_core.proofs.SpaceLemmas.{space_by_kinds}
use Rattle.range_core.specs.Happened.{IsAsFound}
use Rattle.range_core.proofs.StakeTruth.{Works}

-- what a claim on so many blocks names
loan_named : (block n x : ℕ) (claims left : ClaimsView) (claim : Held) → left ≡ holding claims claim → claim.lent.value.block ≡ block → length claim.lent.value.parts ≡ n → names_block x left.held ≡ in_run block n x
loan_named block n x claims left claim is at many = ap (λ (l : ClaimsView). names_block x l.held) is ∙ ap (λ b. in_run b (length claim.lent.value.parts) x) at ∙ ap (λ m. in_run block m x) many

module _ (opening now : RangeView) (history : List Entry) (stakes : List RangeStake) (number : ℕ) (claims left : ClaimsView) (made : List Entry) (entry : Entry) (lender : Lender) (block n : ℕ) (pages : List Page) where
  abbrev away : Away
  away = record { ticket = now.tickets; lender = lender }

  abbrev size : ℕ
  size = opening.geometry.block_size

  abbrev low : ℕ
  low = block - now.first

  abbrev others : List RangeStake
  others = set stakes number (Some left, made ++ entry ∷ [])

  abbrev next : RangeView
  next = with_lent lender now block n

  -- the entry says that these blocks are lent, and nothing else
  pub record IsLoan : Type 0 where
    pub content : (x : ℕ) (y : Content) → content_after size x y entry ≡ y
    pub outside : (x : ℕ) (s : BlockState) → in_run block n x ≡ false → state_after size x s entry ≡ s
    pub inside : (x : ℕ) (c : Cell) → in_run block n x ≡ true → state_of (lent_cell away c) ≡ state_after size x (state_of c) entry
    pub failed : failures entry ≡ 0
    pub lent : lendings entry ≡ 1
    pub changed : changes entry ≡ 0
    pub stamps : stamps_of size entry ≡ []
    pub sample : GivesPresent next entry
    pub caller : entry.caller ≡ claims.caller
    pub found : IsAsFound size now entry

  -- the k-th block may be lent with its page, and what stays of it is right
  pub record LendsBlock (k : ℕ) (was : Cell) (content : Content) : Type 0 where
    pub home : was.away ≡ None
    pub space : IsTrue (has_space was.kind)
    pub kind : kind_after (first_kind (cells_from now block)) k ≡ was.kind
    pub page : Page
    pub page_is : slice_get pages k ≡ Some page
    pub whole : IsWholePage size page
    pub fits : FitsLender size (lent_cell away was) content (part_of was page) lender
    pub around : IsAround size (block + k) content (lent_of now.tickets block (parts_of (cells_from now block) pages)) page lender
    pub stays : IfSome (lent_cell away was).page (λ p. p.bytes ≡ content)
    pub dirty : (lent_cell away was).dirty ≡ true → IsSomeAnd (lent_cell away was).page (λ p. (lent_cell away was).kind ≢ Hole)

  abbrev Holds : Type 0
  Holds = TakesHold claims left (lent_of now.tickets block (parts_of (cells_from now block) pages)) lender (first_kind (cells_from now block))

  lent_inside : Works stakes number claims made → claims.held ≡ None → (hold : Holds) → (k : ℕ) (was : Cell) (content : Content) → slice_get now.cells (low + k) ≡ Some was
      → IsTrueAt size (block + k) was content stakes → names_block (block + k) (Some hold.claim) ≡ true → LendsBlock k was content → IsTrueAt size (block + k) (lent_cell away was) content others
  lent_inside here free hold k was content at t named b =
      let kind : (lent_cell away was).kind ≡ was.kind = lent-kind away was in
      let has = has_block size was t.place b.home b.space in
      true_lent size (block + k) was (lent_cell away was) content away hold.claim stakes others claims left (changes_seat stakes number claims left made entry here) free (ap (λ (v : ClaimsView). v.held) hold.left_is) named b.home (lent-away away was) (lent-sector away was)
      (let S : Kind → Type 0 = λ x. IsTrue (has_space x) in subst S (sym kind) b.space) b.stays b.dirty
      (loan_fits size low block now.tickets k now.cells pages lender hold.claim was (lent_cell away was) b.page content hold.lent_is hold.lender_is at b.page_is (ap (λ q. kind_after q k) hold.kind_is ∙ b.kind ∙ sym kind) kind has b.whole b.fits b.around)
      t

  pub loan_truth : RangeTruth opening now history stakes → Works stakes number claims made → opening.first ≤ block → claims.held ≡ None → Holds → length pages ≡ n → low + n ≤ length now.cells → IsLoan
      → ((k : ℕ) (was : Cell) (content : Content) → k < n → slice_get now.cells (low + k) ≡ Some was → IsTrueAt size (block + k) was content stakes → LendsBlock k was content)
      → max now.cookie WORN + total pending next.cells ≤ WORN + 65536 → (now.mode ≡ Dax → All IsUncached next.cells)
      → RangeTruth opening next (history ++ entry ∷ []) others
  loan_truth t here begins free hold as_many within is blocks headroom uncached =
      let lends : ℕ → Cell → Cell = λ _ c. lent_cell away c in
      let many : length hold.claim.lent.value.parts ≡ n = ap (λ l. length l.parts) hold.lent_is ∙ length-parts_of low now.cells pages (omega arith) ∙ as_many in
      let at_block : hold.claim.lent.value.block ≡ block = ap (λ l. l.block) hold.lent_is in
      let held : left.held ≡ Some hold.claim = ap (λ (l : ClaimsView). l.held) hold.left_is in
      let kinds : kinds_of next.cells ≡ kinds_of now.cells = map-on_each lends (λ (c : Cell). c.kind) (λ _ c. lent-kind away c) 0 low n now.cells in
      let seat = changes_seat stakes number claims left made entry here in
      let failed = is.failed in
      let changed = is.changed in
      changed_truth opening now next history entry stakes number claims left made lends block n t here
      (record {
        low = begins;
        cells = ap (λ f. on_each lends 0 (block - f) n now.cells) t.same_run.first;
        outside = λ x out. record {
          content = λ y. is.content x y;
          state = λ s. is.outside x s out;
          claims = λ c y h. true_outside size x c y stakes others claims left seat (ap (names_block x) free) (loan_named block n x claims left hold.claim hold.left_is at_block many ∙ out) h;
        };
        inside = λ k was content l at h.
            let x : ℕ = block + k in
            let place : slice_get now.cells (low + k) ≡ Some was = ap (λ f. slice_get now.cells (block - f + k)) t.same_run.first ∙ at in
            let met : in_run block n x ≡ true = in_run-true block n x (omega arith) (omega arith) in
            let C : Content → Type 0 = λ y. IsTrueAt size x (lent_cell away was) y others in
            record {
              state = is.inside x was met;
              holds = subst C (sym (is.content x content)) (lent_inside here free hold k was content place h (sym (ap (names_block x) held) ∙ loan_named block n x claims left hold.claim hold.left_is at_block many ∙ met) (blocks k was content l place h));
            };
      })
      (record {
        geometry = refl;
        mode = refl;
        first = refl;
        pool = refl;
        errors = let e = t.errors_counted in omega arith;
        tickets = ap (λ m. (now.tickets + m) % (2 ^ 64)) (sym is.lent);
        cookie = omega arith;
        log = sym (append-nil now.log) ∙ ap (λ l. now.log ++ l) (sym is.stamps);
        headroom = headroom;
        uncached = uncached;
        space = space_by_kinds size now.cells next.cells now.space kinds t.pool_claims_sectors;
        found = is.found;
      })
      (samples_next now next history entry refl (omega arith) (λ _. kinds) t.samples_give_extents is.sample)
      (record { caller = ap (λ (c : ClaimsView). c.caller) hold.left_is; spare = ap (λ (c : ClaimsView). c.spare) hold.left_is; main = ap (λ (c : ClaimsView). c.main) hold.left_is }) is.caller
