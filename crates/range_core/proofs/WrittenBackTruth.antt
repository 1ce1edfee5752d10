-- The turn that takes blocks back from a write keeps the truth.
use Rattle.std.proofs.Common.{◌≡◌, ◌≢◌, ℕ, ◌+◌, ◌-◌, ◌*◌, ◌<◌, ◌≤◌, Bool, true, false, ◌&&◌, not, if◌then◌else◌, Option, Some, None, IsTrue, IfSome, IsSomeAnd, List, [], ◌∷◌, ◌++◌, length, set, refl, sym, ◌∙◌, ap, subst, arith, append-nil}
use Rattle.std.specs.Prelude.{is_some, max, nat_lt, slice_get}
use Rattle.std.proofs.lemmas.Bool.{ltb-false}
use Rattle.iob_base.specs.declared.TheConstants.{WORN}
use Rattle.iob_base.specs.declared.sector.Page.{Page}
use Rattle.iob_base.specs.declared.stamp.Op.TheVariants.{Write}
use Rattle.fault_device.specs.declared.lane.Done.{Done}
use Rattle.iob_base.specs.declared.part.Part.{Part}
use Rattle.io_model.specs.Contents.{Content}
use Rattle.io_model.specs.Kinds.{device_number, is_kind, kind_after}
use Rattle.io_model.specs.declared.file.Kind.{Kind}
use Rattle.io_model.specs.declared.file.Kind.TheVariants.{Hole}
use Rattle.turn_cell.specs.Stakes.{total}
use Rattle.range_core.specs.BlockStates.{state_of, written_back}
use Rattle.range_core.specs.BlockTruth.{FitsLender, IsTrueAt}
use Rattle.range_core.specs.Cells.{IsBlock}
use Rattle.range_core.specs.ClaimsView.{ClaimsView, released}
use Rattle.range_core.specs.EntryCounts.{one_where}
use Rattle.range_core.specs.Kinds.{has_space, is_unwritten, written_kind}
use Rattle.range_core.specs.Loans.{ChangesSeat}
use Rattle.range_core.specs.Lookups.{first_kind}
use Rattle.range_core.specs.OnRun.{on_each}
use Rattle.range_core.specs.RangeTruth.{RangeTruth, content_at, pending}
use Rattle.range_core.specs.RangeView.{RangeView, cells_from}
use Rattle.range_core.specs.Returning.{MayComeBack}
use Rattle.range_core.specs.Stakes.{RangeStake, names_block}
use Rattle.range_core.specs.LendWritebacks.{ended_cell, ended_of, raise, written, written_entry}
use Rattle.range_core.specs.declared.cell.Cell.{Cell}
use Rattle.range_core.specs.declared.entry.Entry.{Entry}
use Rattle.range_core.specs.declared.lending.Held.{Held}
use Rattle.range_core.specs.declared.lending.Lender.{Lender}
use Rattle.range_core.specs.declared.lending.Lender.TheVariants.{Writeback}
use Rattle.range_core.specs.declared.lending.Lent.{Lent}
use Rattle.range_core.proofs.AfterRun.{ChangesBlock}
use Rattle.range_core.proofs.LendReadLemmas.{mapped_pending}
use Rattle.range_core.proofs.FirstTruth.{weighs_one}
use Rattle.range_core.proofs.ReturnHomeLemmas.{IsWrittenBack, at_claim, home_placed, written_back as part_written, written_block}
use Rattle.range_core.proofs.KindLemmas.{kind_after-zero}
use Rattle.range_core.proofs.KindRuns.{first_kind-drop, kinds_of}
use Rattle.range_core.proofs.LendLemmas.{item_within}
use Rattle.range_core.proofs.LoanTruth.{IsLentBlock, changes_seat, true_returned}
use Rattle.range_core.proofs.OnRunLemmas.{map-on_each, map-on_each_at}
use Rattle.range_core.proofs.ReturnTurns.{back_named, back_pending, back_within, now_lent, return_truth}
use Rattle.range_core.proofs.LendWritebackLemmas.{ended_home, home_pending, lent_pending, mapped_of, space_no_hole, unwritten_after, written-delalloc, written-mapped, written-number, written_same}
use Rattle.range_core.specs.Happened.{is_out}
use Rattle.range_core.proofs.FoundLemmas.{found_run, kind-found, out-found}
use Rattle.range_core.proofs.LawfulLemmas.{both}
use Rattle.range_core.proofs.StakeTruth.{Works}

-- what a write that came back leaves of a block: where it failed the block is dirty, and else its sector has the page's bytes, unless a store changed them
ended_true : (size b : ℕ) (was : Cell) (content : Content) (lent back : Part) (failed : Bool) (landed k : ℕ) (h : Held) (stakes others : List RangeStake) (claims left : ClaimsView) → ChangesSeat stakes others claims left
    → claims.held ≡ Some h → left.held ≡ None → names_block b (Some h) ≡ true → IsWrittenBack landed k lent back → (failed ≡ false → k < landed)
    → IfSome (device_number was.kind) (λ d. IsBlock size d back.sector) → IsTrue (has_space was.kind) → FitsLender size was content lent Writeback
    → IsTrueAt size b was content stakes → IsTrueAt size b (ended_cell failed (Some back) was) content others
ended_true size b was content lent back failed landed k h stakes others claims left seat held none named is whole block space fits t = at failed whole
  where
    paged : (kind : Kind) (o : Option Page) → IsSomeAnd o (λ p. was.dirty ≡ false → p.bytes ≡ lent.page.bytes) → kind ≢ Hole → IsSomeAnd o (λ p. kind ≢ Hole)
    paged kind None f n = absurd f
    paged kind (Some p) f n = n

    snapshot : (o : Option Page) → IsSomeAnd o (λ p. was.dirty ≡ false → p.bytes ≡ lent.page.bytes) → IfSome o (λ p. p.bytes ≡ content) → was.dirty ≡ false → lent.page.bytes ≡ content
    snapshot None f r clean = absurd f
    snapshot (Some p) f r clean = sym (f clean) ∙ r

    hole_free : (o : Option Page) → IsSomeAnd o (λ p. was.kind ≢ Hole) → IsSomeAnd o (λ p. written_kind was.kind ≢ Hole)
    hole_free None d = absurd d
    hole_free (Some p) d = space_no_hole (written_kind was.kind) (let S : Option ℕ → Type 0 = λ o. IsTrue (is_some o) in subst S (sym (written-number was.kind)) space)

    at : (u : Bool) → (u ≡ false → k < landed) → IsTrueAt size b (ended_cell u (Some back) was) content others
    at true w =
        let c : Cell = ended_cell true (Some back) was in
        true_returned size b was c content content h stakes others claims left seat held none named refl
        (home_placed size was c back (record { sector = refl; away = refl; number = refl; delalloc = refl }) block space) t.whole t.uptodate_is_replay
        (record { clean_is_on_device = λ mapped clean. absurd (cc); spaceless_is_zeros = λ unmapped clean. absurd (cc) })
        (λ dirty. paged was.kind was.page fits (space_no_hole was.kind space)) t
    at false w =
        let c : Cell = ended_cell false (Some back) was in
        true_returned size b was c content content h stakes others claims left seat held none named refl
        (home_placed size was c back (record { sector = refl; away = refl; number = written-number was.kind; delalloc = written-delalloc was.kind }) block space) t.whole t.uptodate_is_replay
        (record {
          clean_is_on_device = λ mapped clean. is.landed_sector (w refl) ∙ snapshot was.page fits t.uptodate_is_replay clean;
          spaceless_is_zeros = λ unmapped clean. absurd (let m = written-mapped was.kind space in cc);
        })
        (λ dirty. hole_free was.page (t.dirty_is_uptodate dirty)) t

ended_state : (u : Bool) (p : Part) (c : Cell) → state_of (ended_cell u (Some p) c) ≡ written_back u (state_of c)
ended_state true p c = refl
ended_state false p c = refl

-- where the write failed each block keeps its kind
ended-kind : (parts : List Part) (k : ℕ) (c : Cell) → (ended_of true parts k c).kind ≡ c.kind
ended-kind parts k c = at (slice_get parts k)
  where
    at : (o : Option Part) → (ended_cell true o c).kind ≡ c.kind
    at None = refl
    at (Some p) = refl

-- and where it did not, each that was written before
mapped-kind : (parts : List Part) (k : ℕ) (c : Cell) → is_unwritten c.kind ≡ false → (ended_of false parts k c).kind ≡ c.kind
mapped-kind parts k c e = at (slice_get parts k)
  where
    at : (o : Option Part) → (ended_cell false o c).kind ≡ c.kind
    at None = refl
    at (Some p) = written_same c.kind e

module _ (opening now : RangeView) (history : List Entry) (stakes : List RangeStake) (number : ℕ) (claims : ClaimsView) (made : List Entry) (back : Lent) (done : Done) (count : ℕ) (truth : RangeTruth opening now history stakes) (here : Works stakes number claims made) (may : MayComeBack opening claims Writeback Write back done) where
  abbrev size : ℕ
  size = opening.geometry.block_size

  abbrev low : ℕ
  low = back.block - now.first

  abbrev n : ℕ
  n = length back.parts

  abbrev kind : Kind
  kind = first_kind (cells_from now back.block)

  abbrev entry : Entry
  entry = written_entry claims back kind done count

  abbrev ends : ℕ → Cell → Cell
  ends = ended_of done.failed back.parts

  abbrev next : RangeView
  next = written now back done

  many : (length may.claim.lent.value.parts ≡ n) × (0 < n)
  many = let place = at_claim 0 claims may.claim Write back done may.is_return in let p = place.many in let s = may.is_return.some in (sym p, omega arith)

  lent : (k : ℕ) (c : Cell) → k < n → slice_get now.cells (low + k) ≡ Some c → IsLentBlock size k c (content_at opening history (low + k)) may.claim
  lent = now_lent opening now history stakes number claims made Writeback Write back done entry ends now.log next.cookie next.errors truth here may

  -- the claim has the kind of the first block
  kind_is : may.claim.kind ≡ kind
  kind_is =
      let within = (back_within opening now history stakes number claims made Writeback Write back done entry ends now.log next.cookie next.errors truth here may).0 in
      let some = many.1 in
      let first = item_within now.cells (low + 0) (omega arith) in
      let z : low + 0 ≡ low = omega arith in
      sym (kind_after-zero may.claim.kind) ∙ (lent 0 first.0 some first.1).kind ∙ sym (first_kind-drop now.cells low first.0 (ap (slice_get now.cells) (sym z) ∙ first.1))

  -- all blocks of the run are unwritten, or none is
  unwritten_alike : (k : ℕ) (c : Cell) (content : Content) → IsLentBlock size k c content may.claim → is_unwritten c.kind ≡ is_unwritten kind
  unwritten_alike k c content b = ap is_unwritten (sym b.kind) ∙ unwritten_after may.claim.kind k ∙ ap is_unwritten kind_is

  -- a block that has come back changes its kind by no event without refusal
  ended_pending : (k : ℕ) (c : Cell) (content : Content) → k < n → IsLentBlock size k c content may.claim → pending (ends k c) ≡ 0
  ended_pending k c content l b =
      let part = item_within back.parts k l in
      let home = ended_home done.failed back.parts k c part.0 part.1 in
      let S : Option ℕ → Type 0 = λ o. IsTrue (is_some o) in
      home_pending (ends k c) home.away (subst S (sym home.number) b.space)

  weigh_back : (a b : ℕ) → ((k : ℕ) (c : Cell) (content : Content) → k < n → IsLentBlock size k c content may.claim → pending (ends k c) + a ≡ pending c + b) → total pending next.cells + n * a ≡ total pending now.cells + n * b
  weigh_back = back_pending opening now history stakes number claims made Writeback Write back done entry ends now.log next.cookie next.errors truth here may

  -- each block that may no longer change its kind has used a cookie at most
  headroom : max next.cookie WORN + total pending next.cells ≤ WORN + 65536
  headroom = at (is_unwritten kind) refl
    where
      at : (u : Bool) → is_unwritten kind ≡ u → max next.cookie WORN + total pending next.cells ≤ WORN + 65536
      at true e =
          let moved = weigh_back 1 0 (λ k c content l b.
          let x = ended_pending k c content l b in
          let y = lent_pending c b.away b.gone (b.lender ∙ may.lent_for) (unwritten_alike k c content b ∙ e) in
          omega arith) in
          let few : raise kind done.failed ≤ 1 = weighs_one (is_unwritten kind && not done.failed) in
          let some = many.1 in
          let r = truth.cookie_has_headroom in
          omega arith
      at false e =
          let moved = weigh_back 0 0 (λ k c content l b.
          let x = ended_pending k c content l b in
          let y = mapped_pending c (mapped_of c.kind b.space (unwritten_alike k c content b ∙ e)) in
          omega arith) in
          let none : raise kind done.failed ≡ 0 = ap (λ t. one_where (t && not done.failed)) e in
          let r = truth.cookie_has_headroom in
          omega arith

  -- where the cookie stays, so do all kinds
  kinds_stay : next.cookie ≡ now.cookie → kinds_of next.cells ≡ kinds_of now.cells
  kinds_stay same = at done.failed (is_unwritten kind) refl refl
    where
      at : (u v : Bool) → done.failed ≡ u → is_unwritten kind ≡ v → kinds_of next.cells ≡ kinds_of now.cells
      at true v e g =
          let K : Bool → Type 0 = λ t. kinds_of (on_each (ended_of t back.parts) 0 low n now.cells) ≡ kinds_of now.cells in
          subst K (sym e) (map-on_each (ended_of true back.parts) (λ (c : Cell). c.kind) (λ j c. ended-kind back.parts j c) 0 low n now.cells)
      at false true e g = absurd (let r : raise kind done.failed ≡ 1 = ap (λ t. one_where (t && not done.failed)) g ∙ ap (λ t. one_where (not t)) e in omega arith)
      at false false e g =
          let K : Bool → Type 0 = λ t. kinds_of (on_each (ended_of t back.parts) 0 low n now.cells) ≡ kinds_of now.cells in
          let within = (back_within opening now history stakes number claims made Writeback Write back done entry ends now.log next.cookie next.errors truth here may).0 in
          subst K (sym e) (map-on_each_at (ended_of false back.parts) (λ (c : Cell). c.kind) 0 low n now.cells within
          (λ j c l at. mapped-kind back.parts (0 + j) c (unwritten_alike j c _ (lent j c l at) ∙ g)))

  pub written_holds : RangeTruth opening next (history ++ entry ∷ []) (set stakes number (Some (released claims), made ++ entry ∷ []))
  written_holds =
      return_truth opening now history stakes number claims made Writeback Write back done entry ends now.log next.cookie next.errors truth here may
      (record {
        content = λ x y out. refl;
        outside = λ x s out. ap (λ u. if u then written_back done.failed s else s) out;
        failed = refl;
        lent = refl;
        changed = refl;
        stamps = sym (append-nil now.log);
        sample = tt;
        caller = refl;
        found = found_run now back.block n (λ b s. is_out back.ticket Writeback s.away && is_kind (kind_after kind (b - back.block)) s.kind)
            (back_within opening now history stakes number claims made Writeback Write back done entry ends now.log next.cookie next.errors truth here may).1
            (λ k c l at.
            let b = lent k c l at in
            both (is_out back.ticket Writeback c.away) _ (out-found back.ticket Writeback c.away b.away b.gone (b.ticket ∙ sym may.is_return.ticket) (b.lender ∙ may.lent_for)) (kind-found kind may.claim.kind c.kind back.block k kind_is b.kind));
      })
      (λ k c part l at. ended_home done.failed back.parts k c part (ap (λ ps. slice_get ps k) may.is_return.parts ∙ at))
      (λ k was content l t b met.
      let q = part_written done.landed k may.claim.lent.value.parts b.part b.part_is in
      let at : slice_get back.parts k ≡ Some q.part = ap (λ ps. slice_get ps k) may.is_return.parts ∙ q.at in
      let all : done.failed ≡ false → k < done.landed =
      λ e. let less : nat_lt done.landed (length may.claim.lent.value.parts) ≡ false = sym may.is_return.failed ∙ e in let m = ltb-false _ _ less in let p = many.0 in omega arith in
      let F : Lender → Type 0 = λ r. FitsLender size was content b.part r in
      let S : Option Part → Type 0 = λ o. ChangesBlock size (back.block + k) was (ended_cell done.failed o was) content entry (set stakes number (Some (released claims), made ++ entry ∷ [])) in
      subst S (sym at) (record {
        state = ended_state done.failed q.part was ∙ sym (ap (λ u. if u then written_back done.failed (state_of was) else state_of was) met);
        holds = ended_true size (back.block + k) was content b.part q.part done.failed done.landed k may.claim stakes _ claims (released claims) (changes_seat stakes number claims (released claims) made entry here) may.is_return.held refl
            (back_named opening now history stakes number claims made Writeback Write back done entry ends now.log next.cookie next.errors truth here may (back.block + k) ∙ met) q.is all
            (written_block size done.landed k (device_number was.kind) b.part q.part q.is b.page b.sector) b.space (subst F may.lent_for b.fits) t;
      }))
      kinds_stay
      headroom
