-- The range truth after blocks took sectors.
use Rattle.std.proofs.Common.{◌≡◌, ◌≢◌, ℕ, zero, suc, ◌+◌, ◌-◌, ◌<◌, ◌≤◌, ◌⊎◌, Bool, true, false, ◌&&◌, nat_lt, Option, Some, None, IfSome, List, [], ◌∷◌, ◌++◌, length, take, drop, All, set, refl, sym, ◌∙◌, ap, subst, arith, append-nil, inl, inr}
use Rattle.std.specs.Prelude.{IsSomeAnd, max, nat_le, slice_get}
use Rattle.std.proofs.lemmas.Bool.{leb-false, ltb-false}
use Rattle.iob_base.specs.DeviceBlock.{DeviceBlock}
use Rattle.iob_base.specs.declared.TheConstants.{WORN}
use Rattle.io_model.specs.Contents.{Content}
use Rattle.io_model.specs.declared.file.Kind.{Kind}
use Rattle.io_model.specs.declared.file.Kind.TheVariants.{Delalloc, Hole, Mapped, Unwritten}
use Rattle.space_pool.specs.Pool.{HasSize}
use Rattle.space_pool.specs.declared.entry.PoolEntry.{PoolEntry}
use Rattle.turn_cell.specs.Stakes.{total}
use Rattle.turn_cell.specs.Views.{SeatView}
use Rattle.range_core.specs.Attaches.{pairs_taken, placed_run}
use Rattle.range_core.specs.BlockContents.{content_after}
use Rattle.range_core.specs.BlockStates.{BlockState, state_after, state_of, taken_by, with_space}
use Rattle.range_core.specs.BlockTruth.{IsTrueAt}
use Rattle.range_core.specs.ClaimsView.{ClaimsView}
use Rattle.range_core.specs.EntryCounts.{changes, failures, lendings, one_where}
use Rattle.range_core.specs.EntryStamps.{stamps_of}
use Rattle.range_core.specs.Kinds.{has_space, is_mapped}
use Rattle.range_core.specs.Lookups.{GivesPresent}
use Rattle.range_core.specs.OnRun.{count_on, on_each}
use Rattle.range_core.specs.Placing.{count_in, picked_with, placed_at}
use Rattle.range_core.specs.RangeTruth.{IsUncached, RangeTruth, pending}
use Rattle.range_core.specs.RangeView.{LiesAt, RangeView, part_in}
use Rattle.range_core.specs.Space.{ClaimsSpace, SpaceClaims}
use Rattle.range_core.specs.Spots.{in_run}
use Rattle.range_core.specs.Stakes.{RangeStake}
use Rattle.range_core.specs.declared.cell.Cell.{Cell}
use Rattle.range_core.specs.declared.entry.Entry.{Entry}
use Rattle.range_core.proofs.AfterEntry.{quiet_tickets}
use Rattle.range_core.proofs.AfterRun.{ChangesRun, CountsNext, changed_truth, keeps_claims}
use Rattle.range_core.proofs.CookieLemmas.{unrisen}
use Rattle.range_core.proofs.CountLemmas.{count_on-total, on_each-unpicked}
use Rattle.range_core.proofs.FirstTruth.{total-few}
use Rattle.range_core.proofs.HomeLemmas.{home_content, home_of, home_true, one_where-few, pending-few, unnamed}
use Rattle.range_core.proofs.KindRuns.{kinds_of}
use Rattle.range_core.proofs.OnRunLemmas.{All-on_each, length-on_each}
use Rattle.range_core.proofs.PlaceLemmas.{length-pairs, state-placed, taken-in_run, taken-out_of_run}
use Rattle.range_core.proofs.PlaceSpace.{All-got, PicksSpaceless, picked-placed}
use Rattle.range_core.proofs.SampleLemmas.{samples_next}
use Rattle.range_core.specs.Happened.{IsAsFound}
use Rattle.range_core.proofs.StakeTruth.{Works}

unmapped : (k : Kind) → has_space k ≡ false → is_mapped k ≡ false
unmapped Hole e = refl
unmapped Delalloc e = refl
unmapped (Unwritten d) e = refl
unmapped (Mapped d) e = absurd (cc)

a_page : {A : Type 0} (P Q : A → Type 0) (o : Option A) → ((x : A) → Q x) → IsSomeAnd o P → IsSomeAnd o Q
a_page P Q None h s = s
a_page P Q (Some x) h s = h x

-- a block that takes a sector keeps its content
pub picked-true : (size b : ℕ) (t : Bool) (o : Option DeviceBlock) (c : Cell) (content : Content) (stakes : List RangeStake) → (t ≡ true → has_space c.kind ≡ false) → IfSome o (HasSize size) → IsTrueAt size b c content stakes
    → IsTrueAt size b (picked_with t o c) content stakes
picked-true size b false o c content stakes spaceless whole h = h
picked-true size b true None c content stakes spaceless whole h = h
picked-true size b true (Some s) c content stakes spaceless whole h =
    let none = spaceless refl in
    let home : c.away ≡ None = home_of size c.kind c.sector c.away none h.place in
    let had = home_content size c content home h.home_is_on_device in
    home_true size b (picked_with true (Some s) c) content stakes (record {
      home = home;
      whole = h.whole;
      place = picked-placed size true (Some s) c spaceless whole h.place;
      uptodate = h.uptodate_is_replay;
      reads = record { clean_is_on_device = λ m d. absurd (cc); spaceless_is_zeros = λ m d. had.spaceless_is_zeros (unmapped c.kind none) d };
      dirty = λ d. a_page (λ p. c.kind ≢ Hole) (λ p. Unwritten s.number ≢ Hole) c.page (λ p e. absurd (cc)) (h.dirty_is_uptodate d);
      unclaimed = unnamed size b c content stakes home h.away_is_claimed;
    })

pub picked-uncached : (t : Bool) (o : Option DeviceBlock) (c : Cell) → IsUncached c → IsUncached (picked_with t o c)
picked-uncached false o c u = u
picked-uncached true None c u = u
picked-uncached true (Some s) c u = record { page = u.page; clean = u.clean; reserved = refl; home = u.home }

-- an entry tells that these blocks took sectors, and leaves everything else as it was
pub record IsTaking (size : ℕ) (now : RangeView) (e : Entry) (pairs : List (ℕ × ℕ)) : Type 0 where
  pub content : (b : ℕ) (x : Content) → content_after size b x e ≡ x
  pub state : (b : ℕ) (s : BlockState) → state_after size b s e ≡ with_space (taken_by b pairs) s
  pub failed : failures e ≡ 0
  pub lent : lendings e ≡ 0
  pub changed : changes e ≡ one_where (nat_lt 0 (length pairs))
  pub stamps : stamps_of size e ≡ []
  pub gives : (r : RangeView) → GivesPresent r e
  pub found : IsAsFound size now e

-- a range keeps its headroom where its cookie rises only for a change of kind, and is not used up then
pub headroom_next : (opening now next : RangeView) (history : List Entry) (stakes : List RangeStake) (k : ℕ) → RangeTruth opening now history stakes → next.cookie ≡ now.cookie + one_where (nat_lt 0 k) → (0 < k → now.cookie < WORN)
    → (k ≡ 0 → total pending next.cells ≤ total pending now.cells) → length next.cells ≡ length now.cells → max next.cookie WORN + total pending next.cells ≤ WORN + 65536
headroom_next opening now next history stakes k t cookie unworn same many = at k cookie unworn same
  where
    at : (k : ℕ) → next.cookie ≡ now.cookie + one_where (nat_lt 0 k) → (0 < k → now.cookie < WORN) → (k ≡ 0 → total pending next.cells ≤ total pending now.cells) → max next.cookie WORN + total pending next.cells ≤ WORN + 65536
    at zero cookie unworn same = let p = same refl in let h = t.cookie_has_headroom in omega arith
    at (suc k) cookie unworn same =
        let one = one_where-few (nat_lt 0 (suc k)) in
        let less = unworn (omega arith) in
        let p = total-few pending next.cells pending-few in
        let q = t.few in
        let r = t.same_run.blocks in
        omega arith

module _ (picks : Cell → Bool) (holes : Cell → ℕ) (opening now : RangeView) (seat : SeatView PoolEntry) (space : SpaceClaims) (history : List Entry) (stakes : List RangeStake) (number : ℕ) (claims : ClaimsView) (made : List Entry) (block n : ℕ) (sectors : List DeviceBlock) (e : Entry) where
  abbrev next : RangeView
  next = placed_run picks now block n sectors seat space

  abbrev f : ℕ → Cell → Cell
  f = placed_at picks (block - now.first) now.cells sectors

  pub place_truth : RangeTruth opening now history stakes → Works stakes number claims made → LiesAt opening block n → PicksSpaceless picks holes → part_in seat ≡ part_in now.seat → length sectors ≡ count_in picks now block n
      → All (HasSize opening.geometry.block_size) sectors → (0 < count_in picks now block n → now.cookie < WORN) → ClaimsSpace opening.geometry.block_size next.cells space → IsTaking opening.geometry.block_size now e (pairs_taken picks now block n sectors)
      → e.caller ≡ claims.caller → RangeTruth opening next (history ++ e ∷ []) (set stakes number (Some claims, made ++ e ∷ []))
  place_truth t here lies spaceless pool many whole unworn claimed taking by =
      let size : ℕ = opening.geometry.block_size in
      let k : ℕ = count_in picks now block n in
      let first : block - now.first ≡ block - opening.first = ap (λ m. block - m) t.same_run.first in
      let kept = λ (b : ℕ). keeps_claims size b stakes number claims claims made (made ++ e ∷ []) here refl in
      let run : ChangesRun opening now next history e stakes number claims claims made f block n = record {
        low = lies.low;
        cells = ap (λ m. on_each f 0 m n now.cells) first;
        outside = λ b out. record {
          content = taking.content b;
          state = λ s. taking.state b s ∙ ap (λ o. with_space o s) (taken-out_of_run picks b block (block - now.first) n now.cells sectors (beyond b out));
          claims = kept b;
        };
        inside = λ j was content l at h.
            let there : slice_get now.cells (block - now.first + j) ≡ Some was = ap (λ m. slice_get now.cells (m + j)) first ∙ at in
            let X : Content → Type 0 = λ x. IsTrueAt size (block + j) (f j was) x (set stakes number (Some claims, made ++ e ∷ [])) in
            record {
              state = state-placed (picks was) _ was ∙ ap (λ o. with_space o (state_of was)) (sym (taken-in_run picks block (block - now.first) n j now.cells sectors was l there)) ∙ sym (taking.state (block + j) (state_of was));
              holds = subst X (sym (taking.content (block + j) content)) (kept (block + j) (f j was) content (picked-true size (block + j) (picks was) _ was content stakes (spaceless.spaceless was) (All-got (HasSize size) sectors _ whole) h));
            };
      } in
      let same : k ≡ 0 → next.cells ≡ now.cells = on_each-unpicked f picks (λ j c u. ap (λ u. picked_with u (slice_get sectors (count_on picks (block - now.first) j now.cells)) c) u) 0 (block - now.first) n now.cells in
      let rose : changes e ≡ one_where (nat_lt 0 k) = taking.changed ∙ ap (λ m. one_where (nat_lt 0 m)) (length-pairs picks block (take n (drop (block - now.first) now.cells)) sectors (many ∙ count_on-total picks (block - now.first) n now.cells) ∙ many) in
      let counts : CountsNext size now next e = record {
        geometry = refl;
        mode = refl;
        first = refl;
        pool = pool;
        errors = let p = t.errors_counted in let q = taking.failed in omega arith;
        tickets = quiet_tickets opening now history e stakes t taking.lent;
        cookie = ap (λ m. now.cookie + m) (sym rose);
        log = sym (append-nil now.log) ∙ ap (λ l. now.log ++ l) (sym taking.stamps);
        headroom = headroom_next opening now next history stakes k t refl unworn (λ none. let p : total pending next.cells ≡ total pending now.cells = ap (total pending) (same none) in omega arith) (length-on_each f 0 (block - now.first) n now.cells);
        uncached = λ d. All-on_each f IsUncached (λ j c. picked-uncached (picks c) _ c) 0 (block - now.first) n now.cells (t.dax_is_uncached d);
        space = claimed;
        found = taking.found;
      } in
      changed_truth opening now next history e stakes number claims claims made f block n t here run counts
      (samples_next now next history e refl (omega arith) (λ still. ap kinds_of (same (unrisen now.cookie k still))) t.samples_give_extents (taking.gives next))
      (record { caller = refl; spare = refl; main = refl }) by
    where
      beyond : (b : ℕ) → in_run block n b ≡ false → (b < block) ⊎ (block + n ≤ b)
      beyond b out = at (nat_le block b) refl
        where
          at : (u : Bool) → nat_le block b ≡ u → (b < block) ⊎ (block + n ≤ b)
          at false u = inl (leb-false block b u)
          at true u = inr (ltb-false b (block + n) (ap (λ v. v && nat_lt b (block + n)) (sym u) ∙ out))
