-- The range truth after a turn that brings blocks home from a caller's own pages.
use Rattle.std.proofs.Common.{◌≡◌, ℕ, zero, suc, ◌+◌, ◌-◌, ◌*◌, ◌<◌, ◌≤◌, Bool, true, false, ◌&&◌, if◌then◌else◌, Option, Some, None, List, [], ◌∷◌, ◌++◌, length, map, get_or, set, All, refl, sym, ◌∙◌, ap, subst, arith, ⊎_elim}
use Rattle.std.specs.Prelude.{max, nat_lt, slice_get}
use Rattle.std.proofs.lemmas.Bool.{lt-ltb}
use Rattle.std.proofs.lemmas.Option.{slice_get-get_or}
use Rattle.iob_base.specs.Parting.{IsBare, pages_of}
use Rattle.iob_base.specs.declared.part.Part.{Part}
use Rattle.iob_base.specs.declared.TheConstants.{WORN}
use Rattle.iob_base.specs.declared.sector.Page.{Page}
use Rattle.iob_base.specs.declared.stamp.Mode.TheVariants.{Dax}
use Rattle.iob_base.specs.declared.stamp.Op.{Op}
use Rattle.iob_base.specs.declared.stamp.Op.TheVariants.{Read, Write}
use Rattle.iob_base.specs.declared.stamp.Tag.{Tag}
use Rattle.fault_device.specs.declared.lane.Done.{Done}
use Rattle.io_model.specs.Contents.{Content}
use Rattle.io_model.specs.declared.file.Kind.{Kind}
use Rattle.io_model.specs.declared.file.Kind.TheVariants.{Hole}
use Rattle.turn_cell.specs.Laws.{Advanced}
use Rattle.turn_cell.specs.Stakes.{total}
use Rattle.range_core.specs.BlockContents.{content_after}
use Rattle.range_core.specs.BlockStates.{state_of}
use Rattle.range_core.specs.BlockTruth.{IsLentContent, IsTrueAt}
use Rattle.range_core.specs.Cells.{IsPlaced}
use Rattle.range_core.specs.ClaimsView.{ClaimsView, released}
use Rattle.range_core.specs.DirectBacks.{ComesDirectly, IsNotUptodate, IsLentTo, KeepsPages, ReadsContents, ReadyToReturn, ReturnedDirectly, after_direct_back, back_entry, back_event, back_in, came_back, kind_held, lender_held, marked_back, pages_held}
use Rattle.range_core.specs.EntryCounts.{is_write_back, one_where}
use Rattle.range_core.specs.Kinds.{is_mapped, is_unwritten}
use Rattle.range_core.specs.Lends.{home_cell}
use Rattle.range_core.specs.Loans.{ChangesSeat}
use Rattle.range_core.specs.OnRun.{on_each}
use Rattle.range_core.specs.RangeTruth.{IsUncached, RangeTruth, content_at, pending}
use Rattle.range_core.specs.RangeView.{RangeView}
use Rattle.fault_device.specs.Transfer.{parts_after}
use Rattle.range_core.specs.Returning.{ComesBack, IsOutOn, MayComeBack}
use Rattle.range_core.specs.Spots.{in_run}
use Rattle.range_core.specs.Stakes.{RangeStake, names_block}
use Rattle.range_core.specs.declared.cell.Cell.{Cell}
use Rattle.range_core.specs.declared.entry.Entry.{Entry}
use Rattle.range_core.specs.declared.entry.Outcome.TheVariants.{Finished}
use Rattle.range_core.specs.declared.lending.Held.{Held}
use Rattle.range_core.specs.declared.lending.Lender.{Lender}
use Rattle.range_core.specs.declared.lending.Lent.{Lent}
use Rattle.range_core.specs.declared.range.lend_direct.DirectBackRun.{DirectBackRun}
use Rattle.range_core.proofs.AfterEntry.{quiet_tickets}
use Rattle.range_core.proofs.AfterRun.{ChangesRun, CountsNext, changed_truth, in_run-true}
use Rattle.range_core.proofs.DirectBackLemmas.{IsBackRun, back-kind, back_out, back_placed, back_run, back_space}
use Rattle.range_core.proofs.LendDirectLemmas.{unnamed_true}
use Rattle.range_core.proofs.FirstTruth.{All-there}
use Rattle.range_core.proofs.KindRuns.{kinds_of}
use Rattle.range_core.proofs.KindSteps.{mapped-after, unwritten-after}
use Rattle.range_core.proofs.OnRunLemmas.{IsInRun, IsOutOfRun, on_each-at}
use Rattle.range_core.proofs.ReturnLemmas.{are_out, claim_at, comes_back}
use Rattle.range_core.proofs.SampleLemmas.{samples_next}
use Rattle.range_core.proofs.SoundLemmas.{total-moved}
use Rattle.range_core.proofs.TransferLemmas.{after-at, length-after, moved, part_after}
use Rattle.range_core.proofs.DirectBackBlocks.{AgreesBack, IsDirectlyOut, agrees_back, back_pending, back_state, back_true, directly_out, kind-stays, lost_by, map-on_each-at, pageless_clean, rise-within}
use Rattle.range_core.proofs.DirectBackEntries.{IsAlone, TellsBack, alone_of, tells_back}
use Rattle.range_core.specs.Happened.{IsAsFound, fits_by}
use Rattle.range_core.proofs.FoundLemmas.{found_run, out-found}
use Rattle.range_core.proofs.StakeTruth.{Works}

-- what an entry says of the blocks that it met, and of the others
met_fits : (fits met : Bool) → (met ≡ false → fits ≡ true) → (if met then fits else true) ≡ true → fits ≡ true
met_fits fits true out e = e
met_fits fits false out e = out refl

module _ (opening now : RangeView) (history : List Entry) (stakes : List RangeStake) (number : ℕ) (claims : ClaimsView) (made : List Entry) (by : Tag) (op : Op) (lender : Lender) (back : Lent) (done : Done)
    (t : RangeTruth opening now history stakes) (here : Works stakes number claims made) (may : MayComeBack opening claims lender op back done) (to : IsLentTo by op lender) where
  abbrev h : Held
  h = may.claim

  abbrev n : ℕ
  n = length back.parts

  abbrev comes : ComesBack now claims lender op back done
  comes = record { claim = h; lent_for = may.lent_for; is_return = may.is_return; out = are_out opening now history stakes number claims made h t here may.is_return.held may.lies }

  run : IsBackRun now back done
  run = back_run now claims lender op back done comes

  many : n ≡ length h.lent.value.parts
  many = ap length may.is_return.parts ∙ length-after op done.landed h.lent.value.parts

  block_is : back.block ≡ h.lent.value.block
  block_is = may.is_return.block

  names_it : (b : ℕ) → names_block b (Some h) ≡ in_run back.block n b
  names_it b = ap (λ m. in_run m (length h.lent.value.parts) b) (sym block_is) ∙ ap (λ m. in_run back.block m b) (sym many)

  -- each block of the claim is out on it
  pub out_at : (k : ℕ) (was : Cell) (content : Content) → k < n → IsTrueAt opening.geometry.block_size (back.block + k) was content stakes → IsDirectlyOut opening.geometry.block_size (back.block + k) k was content lender h
  out_at k was content l true_at =
      let size : ℕ = opening.geometry.block_size in
      let b : ℕ = back.block + k in
      let named : names_block b (Some h) ≡ true = names_it b ∙ in_run-true back.block n b (omega arith) (omega arith) in
      let place : b ≡ h.lent.value.block + k = ap (λ m. m + k) block_is in
      directly_out size b k was content by op lender h to place may.lent_for true_at.place (claim_at size b was content stakes number claims made h true_at here may.is_return.held named)

  -- there are cookies for what may come back
  pub cookie_left : now.cookie ≤ WORN + 65536
  cookie_left =
      let room = t.cookie_has_headroom in
      omega arith

  abbrev kind : Kind
  kind = kind_held claims.held

  kind_is : kind ≡ h.kind
  kind_is = ap kind_held may.is_return.held

  abbrev next : RangeView
  next = after_direct_back now by op kind back done

  low_is : back.block - opening.first ≡ back.block - now.first
  low_is = let f = t.same_run.first in omega arith

  -- a block of the run, as the k-th
  at_now : (k : ℕ) (was : Cell) → slice_get now.cells (back.block - opening.first + k) ≡ Some was → slice_get now.cells (back.block - now.first + k) ≡ Some was
  at_now k was at = ap (λ m. slice_get now.cells (m + k)) (sym low_is) ∙ at

  placed_at : (k : ℕ) (was : Cell) → k < n → slice_get now.cells (back.block - now.first + k) ≡ Some was → IsPlaced opening.geometry.block_size was → IsPlaced opening.geometry.block_size (came_back op done.failed (parts_after op done.landed h.lent.value.parts) k was)
  placed_at k was l at placed =
      let S : ℕ → Type 0 = λ size. IsOutOn size h k was in
      let out : IsOutOn opening.geometry.block_size h k was = subst S (ap (λ g. g.block_size) t.same_run.geometry) (back_out now claims lender op back done comes k was l at) in
      back_placed opening.geometry.block_size op done.failed done.landed k h was out placed

  -- the truth of the k-th block before the return
  true_now : (k : ℕ) (was : Cell) → slice_get now.cells (back.block - now.first + k) ≡ Some was → IsTrueAt opening.geometry.block_size (back.block + k) was (content_at opening history (back.block - opening.first + k)) stakes
  true_now k was at =
      let f = t.same_run.first in
      let begins = run.low in
      let i : ℕ = back.block - opening.first + k in
      let place : back.block - now.first + k ≡ i = ap (λ m. m + k) (sym low_is) in
      let b : opening.first + i ≡ back.block + k = omega arith in
      let T : ℕ → Type 0 = λ m. IsTrueAt opening.geometry.block_size m was (content_at opening history i) stakes in
      subst T b (t.blocks i was (ap (slice_get now.cells) (sym place) ∙ at))

  pub out_now : (k : ℕ) (was : Cell) → k < n → slice_get now.cells (back.block - now.first + k) ≡ Some was
      → IsDirectlyOut opening.geometry.block_size (back.block + k) k was (content_at opening history (back.block - opening.first + k)) lender h
  out_now k was l at = out_at k was _ l (true_now k was at)

  within : back.block - now.first + n ≤ length now.cells
  within = let begins = run.low in let ends = run.high in omega arith

  unwritten_at : (k : ℕ) (was : Cell) → k < n → slice_get now.cells (back.block - now.first + k) ≡ Some was → is_unwritten was.kind ≡ is_unwritten kind
  unwritten_at k was l at = ap is_unwritten (sym (out_now k was l at).kind) ∙ unwritten-after h.kind k ∙ ap is_unwritten (sym kind_is)

  part_there : (k : ℕ) (was : Cell) (l : k < n) (at : slice_get now.cells (back.block - now.first + k) ≡ Some was) → slice_get back.parts k ≡ Some (part_after op done.landed k (out_now k was l at).part)
  part_there k was l at = ap (λ ps. slice_get ps k) may.is_return.parts ∙ after-at op done.landed k h.lent.value.parts (out_now k was l at).part (out_now k was l at).part_is

  headroom : max next.cookie WORN + total pending next.cells ≤ WORN + 65536
  headroom =
      let f : ℕ → Cell → Cell = came_back op done.failed back.parts in
      let lost : ℕ = lost_by op (is_unwritten kind) in
      let moves = total-moved f pending lost 0 0 (back.block - now.first) n now.cells within
      (λ j x l at.
      let out = out_now j x l at in
      let z : 0 + j ≡ j = omega arith in
      let P : Bool → Type 0 = λ u. pending (f j x) + lost_by op u ≡ pending x + 0 in
      let J : ℕ → Type 0 = λ m. pending (f m x) + lost ≡ pending x + 0 in
      subst J (sym z) (subst P (unwritten_at j x l at) (back_pending op by lender done.failed back.parts j out.ticket _ x to (part_there j x l at) out.away out.space))) in
      let rise = rise-within op done.failed (is_unwritten kind) in
      let room = t.cookie_has_headroom in
      let many_lost = at_least n lost run.some in
      omega arith
    where
      at_least : (m l : ℕ) → 0 < m → l ≤ m * l
      at_least zero l h = absurd (omega arith)
      at_least (suc m) l h = omega arith

  kinds_stay : next.cookie ≡ now.cookie → kinds_of next.cells ≡ kinds_of now.cells
  kinds_stay same =
      map-on_each-at (came_back op done.failed back.parts) (λ (x : Cell). x.kind) 0 (back.block - now.first) n now.cells within
      (λ j x l at.
      let z : 0 + j ≡ j = omega arith in
      let K : ℕ → Type 0 = λ m. ◌≡◌ {A = Kind} (came_back op done.failed back.parts m x).kind x.kind in
      subst K (sym z) (back-kind op done.failed back.parts j x ∙ kind-stays op done.failed x.kind (out_now j x l at).space (ap (λ u. u && is_write_back op done.failed) (unwritten_at j x l at) ∙ none (is_unwritten kind && is_write_back op done.failed) (omega arith))))
    where
      none : (u : Bool) → one_where u ≡ 0 → u ≡ false
      none true e = absurd (omega arith)
      none false e = refl

  blank : Cell
  blank = record { kind = Hole; sector = None; away = None; page = None; dirty = false }

  there_at : (k : ℕ) → k < n → slice_get now.cells (back.block - now.first + k) ≡ Some (get_or now.cells (back.block - now.first + k) blank)
  there_at k l = let ends = within in slice_get-get_or now.cells (back.block - now.first + k) blank (omega arith)

  -- a loan in part is of one block
  pub lent_alone : IsAlone n lender
  lent_alone =
      let first : Cell = get_or now.cells (back.block - now.first + 0) blank in
      let out = out_now 0 first run.some (there_at 0 run.some) in
      alone_of opening.geometry.block_size (back.block + 0) n _ h.lent.value out.part.page lender many out.around

  -- the pages of mapped blocks that landed have the contents of these blocks
  pub back_reads : ReadsContents opening history op kind back.block done.landed (map (λ p. p.page) back.parts)
  back_reads = at op refl
    where
      page-at : (k : ℕ) (parts : List Part) (q : Part) (p : Page) → slice_get parts k ≡ Some q → slice_get (map (λ (x : Part). x.page) parts) k ≡ Some p → p ≡ q.page
      page-at k [] q p e f = absurd (cc)
      page-at zero (x ∷ parts) q p e f = let is : x ≡ q = cc in let here : x.page ≡ p = cc in sym here ∙ ap (λ (y : Part). y.page) is
      page-at (suc k) (x ∷ parts) q p e f = page-at k parts q p e f

      at : (o : Op) → op ≡ o → ReadsContents opening history o kind back.block done.landed (map (λ p. p.page) back.parts)
      at Write e = tt
      at Read e = λ k p mapped landed there.
          let few = run.landed in
          let l : k < n = omega arith in
          let was : Cell = get_or now.cells (back.block - now.first + k) blank in
          let out = out_now k was l (there_at k l) in
          let content : Content = content_at opening history (back.block - opening.first + k) in
          let is : p ≡ (part_after op done.landed k out.part).page = page-at k back.parts (part_after op done.landed k out.part) p (part_there k was l (there_at k l)) there in
          let moved_is : (part_after op done.landed k out.part).page.bytes ≡ out.part.sector.bytes =
          ap (λ o. (part_after o done.landed k out.part).page.bytes) e ∙ ap (λ u. (if u then moved Read out.part else out.part).page.bytes) (lt-ltb k done.landed landed) in
          let L : Bool → Type 0 = λ u. IsLentContent opening.geometry.block_size u content out.part in
          let on_device : is_mapped was.kind ≡ true = ap is_mapped (sym out.kind) ∙ mapped-after h.kind k ∙ ap is_mapped (sym kind_is) ∙ mapped in
          ap (λ (x : Page). x.bytes) is ∙ moved_is ∙ subst L on_device out.lent

  -- the blocks are not uptodate
  pub back_cold : (k : ℕ) (c : Cell) → k < n → slice_get next.cells (back.block - next.first + k) ≡ Some c → IsNotUptodate c
  back_cold k c l at =
      let low : ℕ = back.block - now.first in
      let f : ℕ → Cell → Cell = came_back op done.failed back.parts in
      let was : Cell = get_or now.cells (low + k) blank in
      let there = there_at k l in
      let out = out_now k was l there in
      let clean = pageless_clean opening.geometry.block_size (back.block + k) was _ stakes (true_now k was there) out.pageless in
      ⊎_elim
      (λ (e : IsInRun f 0 low n (low + k) was c). record {
        page = ap (λ (x : Cell). x.page) e.is ∙ kept_page op done.failed (slice_get back.parts (0 + (low + k - low))) was ∙ out.pageless;
        clean = ap (λ (x : Cell). x.dirty) e.is ∙ kept_dirty op done.failed (slice_get back.parts (0 + (low + k - low))) was ∙ clean;
      })
      (λ (e : IsOutOfRun low n (low + k) was c). absurd (⊎_elim (λ (x : low + k < low). let z : ⊥ = absurd (omega arith) in z) (λ (x : low + n ≤ low + k). let z : ⊥ = absurd (omega arith) in z) e.out))
      (on_each-at f 0 low n (low + k) now.cells was c there at)
    where
      home_page : (o : Option Part) (x : Cell) → (home_cell o x).page ≡ x.page
      home_page None x = refl
      home_page (Some p) x = refl

      home_dirty : (o : Option Part) (x : Cell) → (home_cell o x).dirty ≡ x.dirty
      home_dirty None x = refl
      home_dirty (Some p) x = refl

      kept_page : (o : Op) (failed : Bool) (part : Option Part) (x : Cell) → (marked_back o failed (home_cell part x)).page ≡ x.page
      kept_page Read true part x = home_page part x
      kept_page Read false part x = home_page part x
      kept_page Write true part x = home_page part x
      kept_page Write false part x = home_page part x

      kept_dirty : (o : Op) (failed : Bool) (part : Option Part) (x : Cell) → (marked_back o failed (home_cell part x)).dirty ≡ x.dirty
      kept_dirty Read true part x = home_dirty part x
      kept_dirty Read false part x = home_dirty part x
      kept_dirty Write true part x = home_dirty part x
      kept_dirty Write false part x = home_dirty part x

  module _ (entry : Entry) (tells : TellsBack opening.geometry.block_size by op lender back done kind h claims.caller entry) where
    -- what the k-th block has after the return agrees with its part
    agrees_at : (k : ℕ) (was : Cell) (content : Content) (l : k < n) (true_at : IsTrueAt opening.geometry.block_size (back.block + k) was content stakes)
        → AgreesBack opening.geometry.block_size op done k was.kind (out_at k was content l true_at).part content (content_after opening.geometry.block_size (back.block + k) content entry)
    agrees_at k was content l true_at =
        let size : ℕ = opening.geometry.block_size in
        let out = out_at k was content l true_at in
        let A : Content → Type 0 = λ x. AgreesBack size op done k was.kind out.part content x in
        let mapped : is_mapped kind ≡ is_mapped was.kind = ap is_mapped kind_is ∙ sym (mapped-after h.kind k) ∙ ap is_mapped out.kind in
        let failed : done.failed ≡ nat_lt done.landed n = may.is_return.failed ∙ ap (λ m. nat_lt done.landed m) (sym many) in
        subst A (sym (tells.inside k out.part content l out.part_is out.around))
        (agrees_back size op done n k kind was.kind out.part content mapped out.space true_at.whole out.whole out.lent failed l)

    abbrev others : List RangeStake
    others = set stakes number (Some (released claims), made ++ entry ∷ [])

    seat_changes : ChangesSeat stakes others claims (released claims)
    seat_changes = record { number = number; made = made; now = made ++ entry ∷ []; here = here.here; is = refl }

    back_changes : ChangesRun opening now next history entry stakes number claims (released claims) made (came_back op done.failed back.parts) back.block n
    back_changes =
        let size : ℕ = opening.geometry.block_size in
        let begins = run.low in
        let first = t.same_run.first in
        record {
          low = omega arith;
          cells = ap (λ l. on_each (came_back op done.failed back.parts) 0 l n now.cells) (sym low_is);
          outside = λ b outside. record {
            content = λ x. tells.outside b x outside;
            state = λ s. tells.stays b s outside;
            claims = λ c x. unnamed_true size b c x stakes others claims (released claims) seat_changes (ap (names_block b) may.is_return.held ∙ names_it b ∙ outside) refl;
          };
          inside = λ k was content l at true_at.
              let out = out_at k was content l true_at in
              let b : ℕ = back.block + k in
              let inside : in_run back.block n b ≡ true = in_run-true back.block n b (omega arith) (omega arith) in
              let named : names_block b (Some h) ≡ true = names_it b ∙ inside in
              let T : List Part → Type 0 = λ ps. IsTrueAt size b (came_back op done.failed ps k was) (content_after size b content entry) others in
              let parts : back.parts ≡ parts_after op done.landed h.lent.value.parts = may.is_return.parts in
              record {
                state =
                    back_state op done.failed back.parts k (part_after op done.landed k out.part) was (ap (λ ps. slice_get ps k) parts ∙ after-at op done.landed k h.lent.value.parts out.part out.part_is)
                    ∙ sym (tells.becomes b (state_of was) inside);
                holds = subst T (sym parts)
                    (back_true size b k was content _ op lender done h stakes others claims (released claims) seat_changes may.is_return.held refl named out (agrees_at k was content l true_at)
                    (placed_at k was l (at_now k was at) true_at.place) true_at);
              };
        }

    -- the entry says of each block what the block was
    back_found : IsAsFound opening.geometry.block_size now entry
    back_found i c at =
        met_fits (fits_by opening.geometry.block_size (now.first + i) entry (state_of c)) (in_run back.block n (now.first + i)) (tells.found_out (now.first + i) (state_of c))
        (found_run now back.block n (λ b s. fits_by opening.geometry.block_size b entry s) run.low
        (λ k x l there.
        let out = out_now k x l there in
        tells.found_in k (state_of x) l (out-found back.ticket lender x.away (record { ticket = out.ticket; lender = lender }) out.away (out.ticket_is ∙ sym may.is_return.ticket) refl) out.kind)
        i c at)

    back_counts : CountsNext opening.geometry.block_size now next entry
    back_counts = record {
      geometry = refl;
      mode = refl;
      first = refl;
      pool = refl;
      errors = let p = t.errors_counted in let none = tells.failed in omega arith;
      tickets = quiet_tickets opening now history entry stakes t tells.lent;
      cookie = ap (λ m. now.cookie + m) (sym tells.changed);
      log = ap (λ l. now.log ++ l) (sym tells.stamps);
      headroom = headroom;
      uncached = λ d. absurd (cached d);
      space = back_space opening.geometry.block_size op done.failed back.parts (back.block - now.first) n now.cells now.space t.pool_claims_sectors;
      found = back_found;
    }
      where
        cached : now.mode ≡ Dax → ⊥
        cached d =
            let first : Cell = get_or now.cells (back.block - now.first + 0) blank in
            let at = there_at 0 run.some in
            let out = out_now 0 first run.some at in
            let home = (All-there IsUncached now.cells _ first (t.dax_is_uncached d) at).home in
            let gone = out.away in
            cc

    -- the truth holds after the return
    pub back_truth : RangeTruth opening next (history ++ entry ∷ []) others
    back_truth =
        changed_truth opening now next history entry stakes number claims (released claims) made (came_back op done.failed back.parts) back.block n t here back_changes back_counts
        (samples_next now next history entry refl (omega arith) kinds_stay t.samples_give_extents (tells.sample next)) (record { caller = refl; spare = refl; main = refl }) tells.caller_is

-- what the event says of what it leaves and answers
pub record DirectReturned (now next : RangeView) (claims left : ClaimsView) (by : Tag) (op : Op) (back : Lent) (done : Done) (pages : List Part) : Type 0 where
  pub state : next ≡ after_direct_back now by op (kind_held claims.held) back done
  pub claims_are : left ≡ released claims
  pub pages_are : pages_of pages ≡ map (λ p. p.page) back.parts
  pub bare : All IsBare pages
  pub kept : KeepsPages op (pages_held claims.held) (pages_of pages)

module _ (opening now : RangeView) (history : List Entry) (stakes : List RangeStake) (number : ℕ) (claims : ClaimsView) (made : List Entry) (change : DirectBackRun) (back : Lent)
    (t : RangeTruth opening now history stakes) (here : Works stakes number claims made) (ready : ReadyToReturn change opening claims) (given : change.back ≡ Some back) where
  pub may_return : MayComeBack opening claims ready.lender change.op back change.done
  may_return =
      let same : ready.back ≡ back = cc (ready.back_is, given) in
      let M : Lent → Type 0 = λ l. MayComeBack opening claims ready.lender change.op l change.done in
      subst M same ready.may

  pub comes_home : ComesDirectly now claims change.by change.op back change.done
  comes_home = record {
    lender = ready.lender;
    comes = comes_back opening now history stakes number claims made ready.lender change.op back change.done t here may_return;
    lent_to = ready.lent_to;
  }

  pub cookie_ready : now.cookie ≤ WORN + 65536
  cookie_ready = cookie_left opening now history stakes number claims made change.by change.op ready.lender back change.done t here may_return ready.lent_to

  back_is : back_in change ≡ back
  back_is = ap (λ o. back_in (record change { back = o })) given

  lender_is : ready.lender ≡ lender_held claims.held
  lender_is = sym may_return.lent_for ∙ sym (ap lender_held may_return.is_return.held)

  -- the entry of the return tells what came back
  abbrev entry_of : ℕ → Lent → Lender → Entry
  entry_of size l lender = record { caller = claims.caller; event = back_event size change.by change.op l claims.held change.done lender; outcome = Finished }

  told : TellsBack opening.geometry.block_size change.by change.op ready.lender back change.done (kind_held claims.held) may_return.claim claims.caller (entry_of opening.geometry.block_size back ready.lender)
  told =
      tells_back opening.geometry.block_size change.by change.op ready.lender back change.done may_return.claim claims ready.lent_to may_return.is_return
      (lent_alone opening now history stakes number claims made change.by change.op ready.lender back change.done t here may_return ready.lent_to)

  pub turned_back : (next : RangeView) (left : ClaimsView) (later : DirectBackRun) (pages : List Part) → later ≡ record change { back = None } → DirectReturned now next claims left change.by change.op back change.done pages
      → Advanced RangeTruth (λ opening history entry. ReturnedDirectly change later opening history now next claims left pages entry) opening next history stakes number left made
  turned_back next left later pages used r =
      let kind : Kind = kind_held claims.held in
      let size : ℕ = opening.geometry.block_size in
      let told_entry : Entry = entry_of size back ready.lender in
      let e : Entry = back_entry now.geometry.block_size claims change in
      let is : told_entry ≡ e = ap (λ l. entry_of size back l) lender_is ∙ ap (λ l. entry_of size l (lender_held claims.held)) (sym back_is) ∙ ap (λ g. entry_of g (back_in change) (lender_held claims.held)) (ap (λ g. g.block_size) (sym t.same_run.geometry)) in
      let E : Entry → Type 0 = λ x. RangeTruth opening next (history ++ x ∷ []) (set stakes number (Some left, made ++ x ∷ [])) in
      let N : RangeView → Type 0 = λ v. RangeTruth opening v (history ++ told_entry ∷ []) (set stakes number (Some left, made ++ told_entry ∷ [])) in
      let L : ClaimsView → Type 0 = λ c. RangeTruth opening (after_direct_back now change.by change.op kind back change.done) (history ++ told_entry ∷ []) (set stakes number (Some c, made ++ told_entry ∷ [])) in
      let R : List Page → Type 0 = λ ps. ReadsContents opening history change.op kind back.block change.done.landed ps in
      let S : Lent → Type 0 = λ l. ReadsContents opening history change.op kind l.block change.done.landed (pages_of pages) in
      let C : RangeView → Type 0 = λ v. (k : ℕ) (c : Cell) → k < length back.parts → slice_get v.cells (back.block - v.first + k) ≡ Some c → IsNotUptodate c in
      let many : length (pages_of pages) ≡ length back.parts = ap length r.pages_are ∙ length_pages back.parts in
      let D : Lent → Type 0 = λ l. (k : ℕ) (c : Cell) → k < length (pages_of pages) → slice_get next.cells (l.block - next.first + k) ≡ Some c → IsNotUptodate c in
      let cold : C next = subst C (sym r.state) (back_cold opening now history stakes number claims made change.by change.op ready.lender back change.done t here may_return ready.lent_to) in
      record {
        entry = e;
        done = record {
          change_is = used;
          value = r.state ∙ ap (λ l. after_direct_back now change.by change.op kind l change.done) (sym back_is);
          cold = subst D (sym back_is) (λ k c l at. cold k c (omega arith) at);
          claims_are = r.claims_are;
          pages_are = r.pages_are ∙ ap (λ (l : Lent). map (λ (p : Part). p.page) l.parts) (sym back_is);
          bare = r.bare;
          kept = r.kept;
          reads = subst S (sym back_is) (subst R (sym r.pages_are) (back_reads opening now history stakes number claims made change.by change.op ready.lender back change.done t here may_return ready.lent_to));
          entry_is = refl;
        };
        holds = subst E is (subst N (sym r.state) (subst L (sym r.claims_are) (back_truth opening now history stakes number claims made change.by change.op ready.lender back change.done t here may_return ready.lent_to told_entry told)));
      }
    where
      length_pages : (parts : List Part) → length (map (λ (p : Part). p.page) parts) ≡ length parts
      length_pages [] = refl
      length_pages (p ∷ parts) = ap suc (length_pages parts)
