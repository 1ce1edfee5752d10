-- The range truth after a turn that lends a block for a write of a part of it.
use Rattle.std.proofs.Common.{◌≡◌, ℕ, zero, suc, ◌+◌, ◌-◌, ◌/◌, ◌<◌, ◌≤◌, Bool, true, false, ◌&&◌, ◌||◌, if◌then◌else◌, Option, Some, None, List, [], ◌∷◌, ◌++◌, length, option_map, drop, get_or, set, All, refl, sym, ◌∙◌, ap, subst, arith}
use Rattle.std.specs.Prelude.{IfErr, IfOk, IfSome, IsSomeAnd, OnErr, OnOk, Result, Ok, Err, is_none, is_some, max, slice_get, unwrap_or}
use Rattle.std.proofs.lemmas.Bool.{eqb-true}
use Rattle.std.proofs.lemmas.Option.{slice_get-get_or, slice_get-map, slice_get_within}
use Rattle.std.proofs.lemmas.List.{length-map}
use Rattle.fault_device.specs.Transfer.{CanTransfer}
use Rattle.iob_base.specs.Parting.{pages_of}
use Rattle.iob_base.specs.declared.TheConstants.{WORN}
use Rattle.iob_base.specs.declared.part.Part.{Part}
use Rattle.iob_base.specs.declared.sector.Page.{Page}
use Rattle.iob_base.specs.declared.stamp.Mode.TheVariants.{Cached, Dax}
use Rattle.iob_base.specs.declared.stamp.Tag.{Tag}
use Rattle.io_model.specs.Contents.{Content, zeros}
use Rattle.io_model.specs.Kinds.{kind_after}
use Rattle.io_model.specs.declared.file.Kind.{Kind}
use Rattle.io_model.specs.declared.file.Kind.TheVariants.{Hole, Delalloc, Unwritten, Mapped}
use Rattle.turn_cell.specs.Laws.{Advanced}
use Rattle.turn_cell.specs.Stakes.{Begins, total}
use Rattle.range_core.specs.BlockStates.{lent_in_part, state_of}
use Rattle.range_core.specs.BlockTruth.{HomeContent, IsHomeContent, IsTrueAt, IsWholePage}
use Rattle.range_core.specs.ByteRuns.{IsByteRun, part_at, run_between}
use Rattle.range_core.specs.ClaimsView.{ClaimsView}
use Rattle.range_core.specs.EntryCounts.{one_where}
use Rattle.range_core.specs.Happened.{is_lendable_in_part, is_settled}
use Rattle.range_core.specs.Kinds.{has_space, is_delalloc, is_mapped, is_unwritten}
use Rattle.range_core.specs.Lends.{TakesHold, lent_cell, part_of}
use Rattle.range_core.specs.Lookups.{first_kind}
use Rattle.range_core.specs.OnRun.{on_each}
use Rattle.range_core.specs.Paging.{HasWholePage, HaveWholePages, bytes_of}
use Rattle.range_core.specs.LendParts.{CanLendPart, HasAround, IsOpenPart, ReadyToLendPart, TurnedToLendPart, around_first, around_in, change_run, page_in, pages_around, part_entry, part_lent, part_loan, with_around}
use Rattle.range_core.specs.RangeTruth.{RangeTruth, content_at, is_lent_for_writing, pending}
use Rattle.range_core.specs.RangeView.{LiesAt, RangeView, cells_from}
use Rattle.range_core.specs.Refusals.{at_first, away, cold, covers_in_part, dirty, is_cold, lend_part_refusal, run_of, stale, worn}
use Rattle.range_core.specs.Spots.{blocks_met, bytes_of_part, overlaid}
use Rattle.range_core.specs.Stakes.{RangeStake}
use Rattle.range_core.specs.declared.cell.Cell.{Cell}
use Rattle.range_core.specs.declared.direct_answer.PartRefused.{PartRefused}
use Rattle.range_core.specs.declared.entry.Entry.{Entry}
use Rattle.range_core.specs.declared.entry.Event.TheVariants.{LendPart}
use Rattle.range_core.specs.declared.entry.Outcome.TheVariants.{Lending, Refused}
use Rattle.range_core.specs.declared.fault.EventFault.TheVariants.{NoMemory}
use Rattle.range_core.specs.declared.lending.Away.{Away}
use Rattle.range_core.specs.declared.lending.Lender.TheVariants.{Part as InPart}
use Rattle.range_core.specs.declared.lending.Lent.{Lent}
use Rattle.range_core.specs.declared.parts.ByteRun.{ByteRun}
use Rattle.range_core.specs.declared.range.lend_part.LendPartRun.{LendPartRun}
use Rattle.range_core.specs.declared.sample.Sample.{Sample}
use Rattle.range_core.proofs.AfterEntry.{quiet_truth}
use Rattle.range_core.proofs.AroundLemmas.{around_part, length-around}
use Rattle.range_core.proofs.LendDirectLemmas.{at_home, not-false, part_content}
use Rattle.range_core.proofs.FirstTruth.{All-there, total-few}
use Rattle.range_core.proofs.FoundLemmas.{found_run, settled-found, warm-found}
use Rattle.range_core.proofs.KindLemmas.{kind_after-zero}
use Rattle.range_core.proofs.KindRuns.{first_kind-drop}
use Rattle.range_core.proofs.KindSteps.{space-after, unwritten-after}
use Rattle.range_core.proofs.LawfulLemmas.{both}
use Rattle.range_core.proofs.LendLemmas.{length-parts_of, parts_of-at}
use Rattle.range_core.proofs.LiesLemmas.{loan_lies}
use Rattle.range_core.proofs.LoanTruth.{has_block}
use Rattle.range_core.proofs.LoanTurns.{loan_truth}
use Rattle.range_core.proofs.OnRunLemmas.{length-on_each}
use Rattle.range_core.proofs.RefusedLemmas.{refused_is_quiet}
use Rattle.range_core.proofs.SampleLemmas.{given_later, known_sample}
use Rattle.range_core.proofs.SoundLemmas.{total-moved}
use Rattle.range_core.proofs.StakeTruth.{Works}
use Rattle.range_core.proofs.StopLemmas.{neither, none_stops, run_of-at, unworn, where_true-not}
use Rattle.range_core.proofs.LendWritebackLemmas.{pending-few}

-- a block that a loan in part may take: at home, clean, with its page where it is mapped, and of the kind that the sample says
pub record IsFreeBlock (seen : Sample) (block : ℕ) (c : Cell) : Type 0 where
  pub home : c.away ≡ None
  pub warm : is_cold c ≡ false
  pub clean : c.dirty ≡ false
  pub kind : c.kind ≡ kind_after seen.extent.kind (block - seen.extent.block)

-- what it tells of the range that nothing hinders the loan
pub record IsPartFree (r : RangeView) (seen : Sample) (block : ℕ) : Type 0 where
  pub each : (c : Cell) → slice_get r.cells (block - r.first) ≡ Some c → IsFreeBlock seen block c
  pub left : is_unwritten seen.extent.kind ≡ true → r.cookie < WORN

-- where the block of a part is, in the range and in the sample's extent
pub record IsWithin (r : RangeView) (seen : Sample) (block : ℕ) : Type 0 where
  pub low : r.first ≤ block
  pub high : block + 1 ≤ r.first + length r.cells
  pub after : seen.extent.block ≤ block
  pub before : block + 1 ≤ seen.extent.block + seen.extent.length

module _ (r : RangeView) (claims : ClaimsView) (seen : Sample) (from to : ℕ) (pages : List Page) (can : CanLendPart r claims seen from to pages) where
  abbrev run : ByteRun
  run = run_between r.geometry.block_size from to

  pub part_placed : IsWithin r seen run.first
  part_placed =
      let one = can.bytes.one in
      let low = can.bytes.lies.low in
      let high = can.bytes.lies.high in
      let after = can.bytes.extent.low in
      let before = can.bytes.extent.high in
      record { low = low; high = omega arith; after = after; before = omega arith }

  pub part_free : lend_part_refusal r seen run.first ≡ None → IsPartFree r seen run.first
  part_free free =
      let b : ℕ = run.first in
      let p = part_placed in
      let one = neither (stale r seen) _ free in
      let two = neither (at_first away r b) _ one.1 in
      let three = neither (at_first cold r b) _ two.1 in
      let four = neither (at_first dirty r b) _ three.1 in
      let same : seen.cookie ≡ r.cookie = eqb-true _ _ (not-false _ (where_true-not _ _ one.0)) in
      let known = can.known same in
      let begins = known.begins in
      let low = p.low in
      let after = p.after in
      let before = p.before in
      record {
        each = λ c at.
            let z : b - r.first ≡ b - r.first + 0 = omega arith in
            let here = run_of-at r b 1 0 c (omega arith) (ap (slice_get r.cells) (sym z) ∙ at) in
            let place : seen.extent.block - r.first + (b - seen.extent.block) ≡ b - r.first = omega arith in
            record {
              home = at_home (b + 0) c (none_stops away b (run_of r b 1) 0 c two.0 here);
              warm = where_true-not _ _ (none_stops cold b (run_of r b 1) 0 c three.0 here);
              clean = where_true-not _ _ (none_stops dirty b (run_of r b 1) 0 c four.0 here);
              kind = known.kinds (b - seen.extent.block) c (omega arith) (ap (slice_get r.cells) place ∙ at);
            };
        left = λ u. unworn r (ap (worn r) (sym u) ∙ four.1);
      }

-- a mapped block at home that is not cold has its page
paged : (P : Page → Type 0) (m : Bool) (a : Option Away) (o : Option Page) → (m && (is_none a && is_none o)) ≡ false → a ≡ None → m ≡ true → IfSome o P → IsSomeAnd o P
paged P true None None warm home mapped p = absurd (cc)
paged P true None (Some x) warm home mapped p = p
paged P true (Some x) o warm home mapped p = absurd (cc)
paged P false a o warm home mapped p = absurd (cc)

-- so the block may be lent
pub part_open : (r : RangeView) (claims : ClaimsView) (seen : Sample) (from to : ℕ) (pages : List Page) (met : ByteRun) → met ≡ run_between r.geometry.block_size from to → CanLendPart r claims seen from to pages → HaveWholePages r
    → lend_part_refusal r seen met.first ≡ None → IsOpenPart r met pages
part_open r claims seen from to pages met is can whole free =
    let cut : ByteRun = run_between r.geometry.block_size from to in
    let F : ByteRun → Type 0 = λ x. lend_part_refusal r seen x.first ≡ None in
    let able = part_free r claims seen from to pages can (subst F is free) in
    let O : ByteRun → Type 0 = λ x. IsOpenPart r x pages in
    subst O (sym is) (record {
      alone = can.bytes.one;
      block = λ c at.
          let here = able.each c at in
          record {
            home = here.home;
            space = ap has_space here.kind ∙ space-after seen.extent.kind _ ∙ can.bytes.space;
            page = λ m. paged (IsWholePage r.geometry.block_size) (is_mapped c.kind) c.away c.page here.warm here.home m (All-there (HasWholePage r.geometry.block_size) r.cells _ c whole at);
          };
      one = can.one;
      whole = can.whole;
    })

around_first-drop : (size i : ℕ) (cells : List Cell) (c : Cell) → slice_get cells i ≡ Some c → around_first size (drop i cells) ≡ around_in size c
around_first-drop size i [] c e = absurd (cc)
around_first-drop size zero (x ∷ cells) c e = let is : x ≡ c = cc in ap (around_in size) is
around_first-drop size (suc i) (x ∷ cells) c e = around_first-drop size i cells c e

-- what a block has around a part is its content
around_content : (size b : ℕ) (c : Cell) (content : Content) (stakes : List RangeStake) → IsTrueAt size b c content stakes → c.away ≡ None → is_cold c ≡ false → c.dirty ≡ false → around_in size c ≡ content
around_content size b c content stakes t home warm clean =
    let H : Option Away → Type 0 = λ a. HomeContent size c content a in
    let here : IsHomeContent size c content = subst H home t.home_is_on_device in
    at (is_mapped c.kind) refl here
  where
    bytes : (o : Option Page) → IsSomeAnd o (λ p. p.bytes ≡ content) → bytes_of o ≡ content
    bytes None h = absurd h
    bytes (Some p) h = h

    at : (m : Bool) → is_mapped c.kind ≡ m → IsHomeContent size c content → around_in size c ≡ content
    at true m here = ap (λ u. if u then bytes_of c.page else zeros size) m ∙ bytes c.page (paged (λ p. p.bytes ≡ content) (is_mapped c.kind) c.away c.page warm home m t.uptodate_is_replay)
    at false m here = ap (λ u. if u then bytes_of c.page else zeros size) m ∙ sym (here.spaceless_is_zeros m clean)

-- a block that is not unwritten changes its kind no more than before
still : (k : Kind) (lent home : Bool) → is_unwritten k ≡ false → one_where (is_delalloc k || (is_unwritten k && lent)) ≡ one_where (is_delalloc k || (is_unwritten k && home))
still Hole lent home e = refl
still Delalloc lent home e = refl
still (Unwritten d) lent home e = absurd (cc)
still (Mapped d) lent home e = refl

-- there is room for the cookie that the loan may use when it comes back
part_headroom : (r : RangeView) (seen : Sample) (by : Tag) (from to ticket block : ℕ) → IsPartFree r seen block → block - r.first + 1 ≤ length r.cells → length r.cells ≤ 65536 → max r.cookie WORN + total pending r.cells ≤ WORN + 65536
    → max r.cookie WORN + total pending (on_each (λ _ c. lent_cell (record { ticket = ticket; lender = InPart by from to }) c) 0 (block - r.first) 1 r.cells) ≤ WORN + 65536
part_headroom r seen by from to ticket block free within few room = at (is_unwritten seen.extent.kind) refl
  where
    lends : ℕ → Cell → Cell
    lends _ c = lent_cell (record { ticket = ticket; lender = InPart by from to }) c

    at : (u : Bool) → is_unwritten seen.extent.kind ≡ u → max r.cookie WORN + total pending (on_each lends 0 (block - r.first) 1 r.cells) ≤ WORN + 65536
    at true e =
        let left : r.cookie < WORN = free.left e in
        let most : total pending (on_each lends 0 (block - r.first) 1 r.cells) ≤ length (on_each lends 0 (block - r.first) 1 r.cells) = total-few pending (on_each lends 0 (block - r.first) 1 r.cells) pending-few in
        omega (arith, length-on_each lends 0 (block - r.first) 1 r.cells)
    at false e =
        let same = total-moved lends pending 0 0 0 (block - r.first) 1 r.cells within
        (λ k c l at.
        let z : block - r.first + k ≡ block - r.first = omega arith in
        let kind = (free.each c (ap (slice_get r.cells) (sym z) ∙ at)).kind in
        ap (λ m. m + 0) (still c.kind true (is_lent_for_writing c.away) (ap is_unwritten kind ∙ unwritten-after seen.extent.kind _ ∙ e))) in
        omega arith

module _ (opening now : RangeView) (history : List Entry) (stakes : List RangeStake) (claims : ClaimsView) (by : Tag) (seen : Sample) (from to : ℕ) (pages : List Page) (t : RangeTruth opening now history stakes) (can : CanLendPart now claims seen from to pages)
    (cut : IsByteRun (run_between now.geometry.block_size from to)) (free : lend_part_refusal now seen (run_between now.geometry.block_size from to).first ≡ None) where
  abbrev size : ℕ
  size = opening.geometry.block_size

  abbrev met : ByteRun
  met = run_between now.geometry.block_size from to

  abbrev block : ℕ
  block = met.first

  abbrev low : ℕ
  low = block - now.first

  abbrev laid : Page → Page
  laid p = with_around (part_at met block) (around_first now.geometry.block_size (cells_from now block)) p

  placed : IsWithin now seen block
  placed = part_placed now claims seen from to pages can

  able : IsPartFree now seen block
  able = part_free now claims seen from to pages can free

  same_size : now.geometry.block_size ≡ size
  same_size = ap (λ g. g.block_size) t.same_run.geometry

  within : low + 1 ≤ length now.cells
  within = let a = placed.low in let b = placed.high in omega arith

  -- what is laid around the part is the content
  around_is : (was : Cell) (content : Content) → slice_get now.cells low ≡ Some was → IsTrueAt size block was content stakes → around_first now.geometry.block_size (cells_from now block) ≡ content
  around_is was content at h =
      let f = able.each was at in
      ap (λ s. around_first s (cells_from now block)) same_size ∙ around_first-drop size low now.cells was at ∙ around_content size block was content stakes h f.home f.warm f.clean

  -- the page has it around the part, and is whole
  abbrev Around : ℕ → Content → Content → Type 0
  Around s content bytes = bytes ≡ overlaid s from to (bytes_of_part s from to block bytes) block content

  page_around : (was : Cell) (content : Content) (p : Page) → slice_get now.cells low ≡ Some was → IsTrueAt size block was content stakes → IsWholePage now.geometry.block_size p → Around size content (laid p).bytes × IsWholePage size (laid p)
  page_around was content p at h whole =
      let around : Content = around_first now.geometry.block_size (cells_from now block) in
      let is : around ≡ content = around_is was content at h in
      let long : length around ≡ met.size = ap length is ∙ h.whole ∙ sym same_size in
      let S : ℕ → Type 0 = λ s. Around s content (laid p).bytes in
      let A : Content → Type 0 = λ x. Around now.geometry.block_size x (laid p).bytes in
      let W : ℕ → Type 0 = λ s. IsWholePage s (laid p) in (
        subst S same_size (subst A is (around_part met cut can.bytes.one p.bytes around whole long)),
        subst W same_size (length-around met cut can.bytes.one p.bytes around whole long),
      )

  abbrev blank : Page
  blank = record { number = 0; bytes = [] }

  -- the one page
  abbrev own : Page
  own = get_or pages 0 blank

  own_at : slice_get pages 0 ≡ Some own
  own_at = let one = can.one in slice_get-get_or pages 0 blank (omega arith)

  own_whole : IsWholePage now.geometry.block_size own
  own_whole = All-there (IsWholePage now.geometry.block_size) pages 0 own can.whole own_at

  laid_at : slice_get (pages_around now met pages) 0 ≡ Some (laid own)
  laid_at = slice_get-map laid pages 0 ∙ ap (option_map laid) own_at

  laid_many : length (pages_around now met pages) ≡ 1
  laid_many = length-map pages laid ∙ can.one

  -- what is lent has one part
  pub loan_alone : length (part_loan now met pages).parts ≡ 1
  loan_alone = let inside = within in let many = laid_many in length-parts_of low now.cells (pages_around now met pages) (omega arith) ∙ laid_many

  -- the block as it is now
  abbrev here : Cell
  here = get_or now.cells low (record { kind = Hole; sector = None; away = None; page = None; dirty = false })

  here_at : slice_get now.cells low ≡ Some here
  here_at = let inside = within in slice_get-get_or now.cells low (record { kind = Hole; sector = None; away = None; page = None; dirty = false }) (omega arith)

  -- the page that is lent has the replay around the part
  pub loan_around : (k : ℕ) (p : Part) → slice_get (part_loan now met pages).parts k ≡ Some p → HasAround (run_between size from to) block (content_at opening history (block - opening.first)) p.page
  loan_around k p at =
      let one = loan_alone in
      let l : k < length (part_loan now met pages).parts = slice_get_within (part_loan now met pages).parts k p at in
      let none : k ≡ 0 = omega arith in
      let z : low + 0 ≡ low = omega arith in
      let first : slice_get (part_loan now met pages).parts 0 ≡ Some (part_of here (laid own)) = parts_of-at low 0 now.cells (pages_around now met pages) here (laid own) (ap (slice_get now.cells) z ∙ here_at) laid_at in
      let is : part_of here (laid own) ≡ p = let e : Some (part_of here (laid own)) ≡ Some p = sym first ∙ ap (slice_get (part_loan now met pages).parts) (sym none) ∙ at in cc in
      let begins = placed.low in
      let opened = t.same_run.first in
      let i : ℕ = block - opening.first in
      let place : low ≡ i = omega arith in
      let b : opening.first + i ≡ block = omega arith in
      let T : ℕ → Type 0 = λ m. IsTrueAt size m here (content_at opening history i) stakes in
      let h : IsTrueAt size block here (content_at opening history i) stakes = subst T b (t.blocks i here (ap (slice_get now.cells) (sym place) ∙ here_at)) in
      let P : Part → Type 0 = λ q. Around size (content_at opening history i) q.page.bytes in
      subst P is (page_around here (content_at opening history i) own here_at h own_whole).0

  module _ (number : ℕ) (left : ClaimsView) (made : List Entry) (works_here : Works stakes number claims made) where
    abbrev entry : Entry
    entry = record { caller = claims.caller; event = LendPart by seen block from to; outcome = Lending now.tickets 1 }

    abbrev Hold : Type 0
    Hold = TakesHold claims left (part_loan now met pages) (InPart by from to) (first_kind (cells_from now block))

    -- the truth holds when the block is lent
    pub part_truth : Hold → RangeTruth opening (part_lent now by met) (history ++ entry ∷ []) (set stakes number (Some left, made ++ entry ∷ []))
    part_truth hold =
        loan_truth opening now history stakes number claims left made entry (InPart by from to) block 1 (pages_around now met pages) t works_here
        (let a = placed.low in let f = t.same_run.first in omega arith) can.free hold laid_many within
        (record {
          content = λ x y. refl;
          outside = λ x s out. ap (λ u. if u then lent_in_part by from to now.tickets s else s) out;
          inside = λ x c inside. sym (ap (λ u. if u then lent_in_part by from to now.tickets (state_of c) else state_of c) inside);
          failed = refl;
          lent = refl;
          changed = refl;
          stamps = refl;
          sample = tt;
          caller = refl;
          found = found_run now block 1 (λ b s. is_lendable_in_part s) placed.low
              (λ k c l at.
              let z : low + k ≡ low = omega arith in
              let f = able.each c (ap (slice_get now.cells) (sym z) ∙ at) in
              both (has_space c.kind) _ (ap has_space f.kind ∙ space-after seen.extent.kind _ ∙ can.bytes.space) (both (is_settled (state_of c)) _ (settled-found c f.home f.clean) (warm-found c f.warm)));
        })
        (λ k was content l at h.
        let none : k ≡ 0 = omega arith in
        let z : low + k ≡ low = omega arith in
        let b : block + k ≡ block = omega arith in
        let there : slice_get now.cells low ≡ Some was = ap (slice_get now.cells) (sym z) ∙ at in
        let f = able.each was there in
        let T : ℕ → Type 0 = λ m. IsTrueAt size m was content stakes in
        let true_here : IsTrueAt size block was content stakes = subst T b h in
        let space : has_space was.kind ≡ true = ap has_space f.kind ∙ space-after seen.extent.kind _ ∙ can.bytes.space in
        let H : Option Away → Type 0 = λ a. HomeContent size was content a in
        let home : IsHomeContent size was content = subst H f.home h.home_is_on_device in
        let has = has_block size was h.place f.home space in
        let around = page_around was content own there true_here own_whole in
        let B : ℕ → Type 0 = λ m. (laid own).bytes ≡ overlaid size from to (bytes_of_part size from to m (laid own).bytes) m content in
        record {
          home = f.home;
          space = space;
          kind = ap (kind_after (first_kind (cells_from now block))) none ∙ kind_after-zero (first_kind (cells_from now block)) ∙ first_kind-drop now.cells low was there;
          page = laid own;
          page_is = ap (slice_get (pages_around now met pages)) none ∙ laid_at;
          whole = around.1;
          fits = (part_content size (is_mapped was.kind) was.sector content (ap is_some has.is) (λ m. home.clean_is_on_device m f.clean) (λ m. home.spaceless_is_zeros m f.clean) (laid own), refl);
          around = record { alone = loan_alone; around = subst B (sym b) around.0 };
          stays = tt;
          dirty = λ d. absurd (let clean = f.clean in cc);
        })
        (part_headroom now seen by from to now.tickets block able within (let few = t.few in let many = t.same_run.blocks in omega arith) t.cookie_has_headroom)
        (λ dax. absurd (let cached : Cached ≡ Dax = sym can.bytes.cached ∙ dax in cc))

-- what the event says of its answer, and of what it leaves
pub record PartAnswered (now next : RangeView) (claims left : ClaimsView) (by : Tag) (seen : Sample) (from to : ℕ) (run : ByteRun) (page : List Part) (result : Result Lent PartRefused) : Type 0 where
  pub made : OnOk result (lend_part_refusal now seen run.first ≡ None)
  pub state : OnOk result (next ≡ part_lent now by run)
  pub lent : IfOk result (λ l. l ≡ part_loan now run (pages_of page))
  pub ready : IfOk result (λ l. CanTransfer l.parts)
  pub claims_are : IfOk result (λ l. TakesHold claims left l (InPart by from to) (first_kind (cells_from now run.first)))
  pub refused : IfErr result (λ e. e.fault ≡ unwrap_or (lend_part_refusal now seen run.first) NoMemory)
  pub page_back : IfErr result (λ e. e.page ≡ page)
  pub unchanged : OnErr result (next ≡ now)
  pub unclaimed : OnErr result (left ≡ claims)

-- a turn that is ready may make the loan
pub can_lend_part : (opening now : RangeView) (history seen : List Entry) (stakes : List RangeStake) (claims : ClaimsView) (change : LendPartRun) (page : List Part) → RangeTruth opening now history stakes → Begins seen history → (ready : ReadyToLendPart change opening seen claims)
    → change.page ≡ Some page → CanLendPart now claims change.seen change.from change.to (pages_of page)
can_lend_part opening now history seen stakes claims change page t begins ready given =
    let same : ready.page ≡ page = cc (ready.page_is, given) in
    let C : List Part → Type 0 = λ ps. CanLendPart now claims change.seen change.from change.to (pages_of ps) in
    let geometry = sym t.same_run.geometry in
    let first = t.same_run.first in
    let many = t.same_run.blocks in
    let lies = ready.bytes.lies in
    let low = lies.low in
    let high = lies.high in
    let size : ℕ = opening.geometry.block_size in
    let L : ℕ → Type 0 = λ s. LiesAt now (change.from / s) (blocks_met s change.from change.to) in
    let here : L size = record { low = omega arith; some = lies.some; high = omega arith } in
    let E : ℕ → Type 0 = λ s. (change.seen.extent.block ≤ change.from / s) × (change.from / s + blocks_met s change.from change.to ≤ change.seen.extent.block + change.seen.extent.length) in
    let extent : E size = (ready.bytes.extent.low, ready.bytes.extent.high) in
    subst C same (record {
      bytes = record {
        cached = t.same_run.mode ∙ ready.bytes.cached;
        some = ready.bytes.some;
        one = ap (λ g. blocks_met g.block_size change.from change.to) t.same_run.geometry ∙ ready.bytes.one;
        part = ap (λ g. covers_in_part g.block_size change.from change.to (change.from / g.block_size)) t.same_run.geometry ∙ ready.bytes.part;
        lies = subst L (ap (λ g. g.block_size) geometry) here;
        extent = (let e = subst E (ap (λ g. g.block_size) geometry) extent in record { low = e.0; high = e.1 });
        space = ready.bytes.space;
      };
      one = ready.one;
      whole = (let W : ℕ → Type 0 = λ s. All (IsWholePage s) (pages_of ready.page) in subst W (ap (λ g. g.block_size) geometry) ready.whole);
      known = known_sample opening now history stakes change.seen t (given_later change.seen seen history begins ready.given);
      free = ready.free;
    })

module _ (opening now next : RangeView) (history seen : List Entry) (stakes : List RangeStake) (number : ℕ) (claims left : ClaimsView) (made : List Entry) (change later : LendPartRun) (page : List Part) (t : RangeTruth opening now history stakes)
    (here : Works stakes number claims made) (begins : Begins seen history) (ready : ReadyToLendPart change opening seen claims) (given : change.page ≡ Some page) (used : later ≡ record change { page = None }) (cut : IsByteRun (change_run now change)) where
  abbrev cut_now : ByteRun
  cut_now = change_run now change

  abbrev Turned : Result Lent PartRefused → Type 0
  Turned result = Advanced RangeTruth (λ opening history entry. TurnedToLendPart change later opening history now next claims left result entry) opening next history stakes number left made

  abbrev can : CanLendPart now claims change.seen change.from change.to (pages_of page)
  can = can_lend_part opening now history seen stakes claims change page t begins ready given

  page_is : page_in change ≡ pages_of page
  page_is = ap (λ o. page_in (record change { page = o })) given

  refused_turn : (refused : PartRefused) → PartAnswered now next claims left change.by change.seen change.from change.to cut_now page (Err refused) → Turned (Err refused)
  refused_turn refused a =
      let e : Entry = part_entry claims change cut_now.first (Refused refused.fault) in
      let N : RangeView → Type 0 = λ v. RangeTruth opening v (history ++ e ∷ []) (set stakes number (Some left, made ++ e ∷ [])) in
      let L : ClaimsView → Type 0 = λ c. RangeTruth opening now (history ++ e ∷ []) (set stakes number (Some c, made ++ e ∷ [])) in
      record {
        entry = e;
        done = record {
          change_is = used;
          did = record { cause = a.refused; page = given ∙ ap Some (sym a.page_back); value = a.unchanged; claims_are = a.unclaimed; entry_is = refl };
        };
        holds = subst N (sym a.unchanged) (subst L (sym a.unclaimed) (quiet_truth opening now history e stakes number claims made t here (refused_is_quiet opening.geometry.block_size claims.caller e.event refused.fault) tt refl));
      }

  lent_turn : (lent : Lent) → PartAnswered now next claims left change.by change.seen change.from change.to cut_now page (Ok lent) → Turned (Ok lent)
  lent_turn lent a =
      let e : Entry = part_entry claims change cut_now.first (Lending now.tickets 1) in
      let loan : Lent = part_loan now cut_now (pages_of page) in
      let placed = part_placed now claims change.seen change.from change.to (pages_of page) can in
      let begins_at = placed.low in
      let ends = placed.high in
      let first = t.same_run.first in
      let N : RangeView → Type 0 = λ v. RangeTruth opening v (history ++ e ∷ []) (set stakes number (Some left, made ++ e ∷ [])) in
      let A : Lent → Type 0 = λ l. (k : ℕ) (p : Part) → slice_get l.parts k ≡ Some p → HasAround (change_run opening change) l.block (content_at opening history (l.block - opening.first)) p.page in
      let many : length (pages_around now cut_now (pages_of page)) ≡ 1 = length-map (pages_of page) (with_around (part_at cut_now cut_now.first) (around_first now.geometry.block_size (cells_from now cut_now.first))) ∙ can.one in
      record {
        entry = e;
        done = record {
          change_is = used;
          did = record {
            free = a.made;
            value = a.state;
            lent_is = a.lent ∙ ap (part_loan now cut_now) (sym page_is);
            ready = a.ready;
            claims_are = a.claims_are;
            entry_is = refl;
            around = subst A (sym a.lent) (loan_around opening now history stakes claims change.by change.seen change.from change.to (pages_of page) t can cut a.made);
            lies = loan_lies opening now cut_now.first now.tickets (pages_around now cut_now (pages_of page)) lent t.same_run (omega arith) (omega arith) (omega arith) a.lent;
          };
        };
        holds = subst N (sym a.state)
            (part_truth opening now history stakes claims change.by change.seen change.from change.to (pages_of page) t can cut a.made number left made here
            (record { claim = a.claims_are.claim; left_is = a.claims_are.left_is; lent_is = a.claims_are.lent_is ∙ a.lent; lender_is = a.claims_are.lender_is; kind_is = a.claims_are.kind_is }));
      }

  pub turned_to_lend_part : (result : Result Lent PartRefused) → PartAnswered now next claims left change.by change.seen change.from change.to cut_now page result → Turned result
  turned_to_lend_part (Ok lent) a = lent_turn lent a
  turned_to_lend_part (Err refused) a = refused_turn refused a
