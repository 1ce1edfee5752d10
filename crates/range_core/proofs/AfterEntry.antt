-- The range truth after one more entry.
use Rattle.std.proofs.Common.{◌≡◌, ◌≢◌, length, ℕ, ◌+◌, ◌-◌, ◌*◌, ◌/◌, ◌%◌, ◌≤◌, ◌^◌, nat_eq, Some, List, [], ◌∷◌, ◌++◌, get_or, set, true, All, refl, sym, ◌∙◌, ap, subst, arith, append_assoc, append-nil, ⊎_elim, Bool, false, ◌&&◌, if◌then◌else◌}
use Rattle.std.specs.Prelude.{min, max, slice_get}
use Rattle.std.proofs.Math.Nat.{mod-add-div', add-mul-mod_self_right}
use Rattle.std.proofs.lemmas.List.Elements.{All-push}
use Rattle.std.proofs.lemmas.List.Sums.{fold-append}
use Rattle.std.proofs.lemmas.Option.{slice_get_within, slice_get-get_or}
use mathlib.Core.Option.{some}
use lib.ListN.{get_elem?}
use Rattle.atomic_table.proofs.Lists.{at_set}
use Rattle.iob_base.specs.declared.TheConstants.{WORN}
use Rattle.iob_base.specs.declared.stamp.Mode.TheVariants.{Dax}
use Rattle.io_model.specs.Contents.{Content}
use Rattle.turn_cell.specs.Stakes.{total}
use Rattle.turn_cell.proofs.Sums.{total-append, total-at, total-set}
use Rattle.range_core.specs.BlockContents.{content_after, opening_bytes}
use Rattle.range_core.specs.BlockStates.{BlockState, state_after, state_of}
use Rattle.range_core.specs.BlockTruth.{IsTrueAt}
use Rattle.range_core.specs.ClaimsView.{ClaimsView}
use Rattle.range_core.specs.EntryCounts.{changes, failures, lendings, made_as, one_where}
use Rattle.range_core.specs.EntryStamps.{stamps_in, stamps_of}
use Rattle.range_core.specs.Lookups.{GivesPresent}
use Rattle.range_core.specs.Quiet.{IsQuiet}
use Rattle.range_core.specs.RangeTruth.{IsSameRun, IsUncached, RangeTruth, content_at, pending}
use Rattle.range_core.specs.RangeView.{RangeView}
use Rattle.range_core.specs.Space.{ClaimsSpace}
use Rattle.range_core.specs.Stakes.{IsApart, RangeStake, held_by, mains, names, names_block, spares, workers, strays}
use Rattle.range_core.specs.declared.cell.Cell.{Cell}
use Rattle.range_core.specs.declared.entry.Entry.{Entry}
use Rattle.range_core.proofs.KindRuns.{keep_samples, kinds_of}
use Rattle.range_core.proofs.SpaceLemmas.{space_by_kinds}
use Rattle.range_core.proofs.StakeTruth.{SameClaims, true-restaked, Works}
use Rattle.range_core.specs.Happened.{fits_by}
use Rattle.range_core.proofs.LawfulLemmas.{lawful-more}

-- what an entry makes of a range: each block's state, the counts, the cookie and the log
pub record IsNext (size first : ℕ) (now next : RangeView) (e : Entry) : Type 0 where
  pub same_run : IsSameRun now next
  pub states : (i : ℕ) (was c : Cell) → slice_get now.cells i ≡ Some was → slice_get next.cells i ≡ Some c → state_of c ≡ state_after size (first + i) (state_of was) e
  pub errors : next.errors ≡ min (now.errors + failures e) (2 ^ 64 - 1)
  pub tickets : next.tickets ≡ (now.tickets + lendings e) % (2 ^ 64)
  pub cookie : next.cookie ≡ now.cookie + changes e
  pub log : next.log ≡ now.log ++ stamps_of size e
  pub headroom : max next.cookie WORN + total pending next.cells ≤ WORN + 65536
  pub uncached : next.mode ≡ Dax → All IsUncached next.cells
  pub space : ClaimsSpace size next.cells next.space
  pub found : (i : ℕ) (was : Cell) → slice_get now.cells i ≡ Some was → fits_by size (first + i) e (state_of was) ≡ true

-- a seat goes on under its own number, with the numbers that it has spare
pub record GoesOn (claims left : ClaimsView) : Type 0 where
  pub caller : left.caller ≡ claims.caller
  pub spare : left.spare ≡ claims.spare
  pub main : left.main ≡ claims.main

-- one entry more leaves its stamps at the end
pub stamps_in-more : (size : ℕ) (history : List Entry) (e : Entry) → stamps_in size (history ++ e ∷ []) ≡ stamps_in size history ++ stamps_of size e
stamps_in-more size [] e = append-nil (stamps_of size e)
stamps_in-more size (x ∷ history) e =
    ap (λ l. stamps_of size x ++ l) (stamps_in-more size history e) ∙ sym (append_assoc (stamps_of size x) (stamps_in size history) (stamps_of size e))

mod-more : (x l m : ℕ) → (x % m + l) % m ≡ (x + l) % m
mod-more x l m =
    let split : x + l ≡ x % m + l + x / m * m = omega (arith, mod-add-div' x m) in
    sym (ap (λ n. n % m) split ∙ add-mul-mod_self_right (x % m + l) (x / m) m)

-- a caller's entry is made under no spare number
apart_more : (caller : ℕ) (history : List Entry) (e : Entry) (stakes : List RangeStake) (number : ℕ) (claims left : ClaimsView) (made : List Entry) → Works stakes number claims made
    → GoesOn claims left → e.caller ≡ claims.caller → IsApart caller history stakes → IsApart caller (history ++ e ∷ []) (set stakes number (Some left, made ++ e ∷ []))
apart_more caller history e stakes number claims left made works goes by a =
    let now : List Entry = made ++ e ∷ [] in
    let here = works.here in
    let s : total (spares caller) (set stakes number (Some left, now)) + spares caller (Some claims, made) ≡ total (spares caller) stakes + spares caller (Some left, now) =
    total-set (spares caller) stakes number (Some claims, made) (Some left, now) here in
    let m : total (mains caller) (set stakes number (Some left, now)) + mains caller (Some claims, made) ≡ total (mains caller) stakes + mains caller (Some left, now) =
    total-set (mains caller) stakes number (Some claims, made) (Some left, now) here in
    let w : total (workers caller) (set stakes number (Some left, now)) + workers caller (Some claims, made) ≡ total (workers caller) stakes + workers caller (Some left, now) =
    total-set (workers caller) stakes number (Some claims, made) (Some left, now) here in
    let same_spares : spares caller (Some left, now) ≡ spares caller (Some claims, made) = spares_by goes.spare in
    let same_mains : mains caller (Some left, now) ≡ mains caller (Some claims, made) = mains_by goes.main goes.caller in
    let same_workers : workers caller (Some left, now) ≡ workers caller (Some claims, made) = ap (λ n. one_where (nat_eq n caller)) goes.caller in
    let own : made_as caller e ≡ workers caller (Some claims, made) = ap (λ n. one_where (nat_eq n caller)) by in
    let working : workers caller (Some claims, made) ≤ total (workers caller) stakes = total-at (workers caller) stakes number (Some claims, made) here in
    let entries : total (made_as caller) (history ++ e ∷ []) ≡ total (made_as caller) history + (made_as caller e + 0) = total-append (made_as caller) history (e ∷ []) in
    record {
      one = let o = a.one in omega arith;
      unused = λ more. let u = a.unused (omega arith) in omega arith;
      own = λ more.
          let none = a.own (omega arith) in
          let t : total (strays caller) (set stakes number (Some left, now)) + strays caller (Some claims, made) ≡ total (strays caller) stakes + strays caller (Some left, now) =
          total-set (strays caller) stakes number (Some claims, made) (Some left, now) here in
          let same : strays caller (Some left, now) ≡ strays caller (Some claims, made) = stray_by goes.main goes.caller in
          omega arith;
    }
  where
    -- the entry is made under the number of a caller's own seat, so it is none that strays
    entered : (t : Bool) → nat_eq claims.caller caller ≡ t → (if claims.main && t then 0 else total (made_as caller) (made ++ e ∷ [])) ≡ (if claims.main && t then 0 else total (made_as caller) made)
    entered true is = ap (λ u. if u && true then 0 else total (made_as caller) (made ++ e ∷ [])) works.own ∙ sym (ap (λ u. if u && true then 0 else total (made_as caller) made) works.own)
    entered false is =
        let other : made_as caller e ≡ 0 = ap (λ n. one_where (nat_eq n caller)) by ∙ ap one_where is in
        let more : total (made_as caller) (made ++ e ∷ []) ≡ total (made_as caller) made + (made_as caller e + 0) = total-append (made_as caller) made (e ∷ []) in
        let even : total (made_as caller) (made ++ e ∷ []) ≡ total (made_as caller) made = omega arith in
        ap (λ n. if claims.main && false then 0 else n) even

    stray_by : left.main ≡ claims.main → left.caller ≡ claims.caller → strays caller (Some left, made ++ e ∷ []) ≡ strays caller (Some claims, made)
    stray_by g h =
        ap (λ u. strays caller (Some (record left { main = u }), made ++ e ∷ [])) g ∙ ap (λ n. strays caller (Some (record claims { caller = n }), made ++ e ∷ [])) h
        ∙ entered (nat_eq claims.caller caller) refl

    now : List Entry
    now = made ++ e ∷ []

    spares_by : left.spare ≡ claims.spare → spares caller (Some left, now) ≡ spares caller (Some claims, made)
    spares_by g = ap (λ n. spares caller (Some (record claims { spare = n }), made)) g

    mains_by : left.main ≡ claims.main → left.caller ≡ claims.caller → mains caller (Some left, now) ≡ mains caller (Some claims, made)
    mains_by g h = ap (λ t. mains caller (Some (record left { main = t }), made)) g ∙ ap (λ n. mains caller (Some (record claims { caller = n }), made)) h

-- a seat whose claim stays names what it named
pub same_set : (stakes : List RangeStake) (number : ℕ) (claims left : ClaimsView) (made now : List Entry) → Works stakes number claims made → left.held ≡ claims.held
    → SameClaims stakes (set stakes number (Some left, now))
same_set stakes number claims left made now here held = record {
  named = λ b.
      let t : total (names b) (set stakes number (Some left, now)) + names b (Some claims, made) ≡ total (names b) stakes + names b (Some left, now) =
      total-set (names b) stakes number (Some claims, made) (Some left, now) here.here in
      let e : names b (Some left, now) ≡ names b (Some claims, made) = ap (λ h. one_where (names_block b h)) held in
      omega arith;
  held = λ b n s at more.
      ⊎_elim
      (λ (u : (n ≡ number) × ((Some left, now) ≡ s)). record { number = number; stake = (Some claims, made); here = here.here; same = sym held ∙ ap (λ (x : RangeStake). held_by x.0) u.1 })
      (λ (u : (n ≢ number) × (get_elem? stakes n ≡ some s)). record { number = n; stake = s; here = u.1; same = refl })
      (at_set stakes number n _ s at);
}

module _ (opening now next : RangeView) (history : List Entry) (e : Entry) (stakes : List RangeStake) (number : ℕ) (claims left : ClaimsView) (made : List Entry) where
  -- each block is true after the entry, where it was before
  abbrev pub KeepsBlocks : Type 0
  KeepsBlocks = (i : ℕ) (was c : Cell) (content : Content) → slice_get now.cells i ≡ Some was → slice_get next.cells i ≡ Some c
      → IsTrueAt opening.geometry.block_size (opening.first + i) was content stakes
      → IsTrueAt opening.geometry.block_size (opening.first + i) c (content_after opening.geometry.block_size (opening.first + i) content e) (set stakes number (Some left, made ++ e ∷ []))

  pub after_entry : RangeTruth opening now history stakes → Works stakes number claims made → IsNext opening.geometry.block_size opening.first now next e
      → All (GivesPresent next) (history ++ e ∷ []) → KeepsBlocks → GoesOn claims left → e.caller ≡ claims.caller
      → RangeTruth opening next (history ++ e ∷ []) (set stakes number (Some left, made ++ e ∷ []))
  after_entry t here n samples keeps goes by =
      let size : ℕ = opening.geometry.block_size in
      let before : (i : ℕ) (c : Cell) → slice_get next.cells i ≡ Some c → slice_get now.cells i ≡ Some (get_or now.cells i c) =
      λ i c at. let l = slice_get_within next.cells i c at in let m = n.same_run.blocks in slice_get-get_or now.cells i c (omega arith) in
      let f = total-append failures history (e ∷ []) in
      let g = total-append lendings history (e ∷ []) in
      let h = total-append changes history (e ∷ []) in
      record {
        same_run = record {
          geometry = n.same_run.geometry ∙ t.same_run.geometry;
          mode = n.same_run.mode ∙ t.same_run.mode;
          first = n.same_run.first ∙ t.same_run.first;
          blocks = n.same_run.blocks ∙ t.same_run.blocks;
          pool = n.same_run.pool ∙ t.same_run.pool;
        };
        few = t.few;
        pool_claims_sectors = n.space;
        blocks = λ i c at.
            let b = opening.first + i in
            let more : content_at opening (history ++ e ∷ []) i ≡ content_after size b (content_at opening history i) e =
            fold-append (content_after size b) (opening_bytes size (slice_get opening.cells i)) history (e ∷ []) in
            let T : Content → Type 0 = λ x. IsTrueAt size b c x (set stakes number (Some left, made ++ e ∷ [])) in
            let was = get_or now.cells i c in
            subst T (sym more) (keeps i was c (content_at opening history i) (before i c at) at (t.blocks i was (before i c at)));
        states = λ i first c there at.
            let b = opening.first + i in
            let was = get_or now.cells i c in
            n.states i was c (before i c at) at ∙ ap (λ s. state_after size b s e) (t.states i first was there (before i c at))
            ∙ sym (fold-append (state_after size b) (state_of first) history (e ∷ []));
        errors_counted = let p = t.errors_counted in let q = n.errors in omega arith;
        tickets_counted =
            n.tickets ∙ ap (λ k. (k + lendings e) % (2 ^ 64)) t.tickets_counted ∙ mod-more (opening.tickets + total lendings history) (lendings e) (2 ^ 64)
            ∙ ap (λ k. k % (2 ^ 64)) (omega arith);
        cookie_counts_changes = let p = t.cookie_counts_changes in let q = n.cookie in omega arith;
        samples_give_extents = samples;
        journal_is_history =
            n.log ∙ ap (λ l. l ++ stamps_of size e) t.journal_is_history ∙ append_assoc opening.log (stamps_in size history) (stamps_of size e)
            ∙ ap (λ l. opening.log ++ l) (sym (stamps_in-more size history e));
        cookie_has_headroom = n.headroom;
        dax_is_uncached = n.uncached;
        callers_are_apart = λ caller l. apart_more caller history e stakes number claims left made here goes by (t.callers_are_apart caller l);
        has_happened = λ i first there.
            let b = opening.first + i in
            let was = get_or now.cells i first in
            let l = slice_get_within opening.cells i first there in
            let m = t.same_run.blocks in
            let at : slice_get now.cells i ≡ Some was = slice_get-get_or now.cells i first (omega arith) in
            let F : BlockState → Type 0 = λ s. fits_by size b e s ≡ true in
            lawful-more size b (state_of first) history e (t.has_happened i first there) (subst F (t.states i first was there at) (n.found i was at));
      }

-- no ticket was given
pub quiet_tickets : (opening now : RangeView) (history : List Entry) (e : Entry) (stakes : List RangeStake) → RangeTruth opening now history stakes → lendings e ≡ 0 → now.tickets ≡ (now.tickets + lendings e) % (2 ^ 64)
quiet_tickets opening now history e stakes t none =
    let z : now.tickets + lendings e ≡ now.tickets + 0 = ap (λ n. now.tickets + n) none in
    let k : now.tickets ≡ (opening.tickets + total lendings history) % (2 ^ 64) = t.tickets_counted in
    k ∙ sym (ap (λ n. n % (2 ^ 64)) (z ∙ ap (λ n. n + 0) k) ∙ mod-more (opening.tickets + total lendings history) 0 (2 ^ 64) ∙ ap (λ n. n % (2 ^ 64)) (omega arith))

pub quiet_truth : (opening now : RangeView) (history : List Entry) (e : Entry) (stakes : List RangeStake) (number : ℕ) (claims : ClaimsView) (made : List Entry) → RangeTruth opening now history stakes
    → Works stakes number claims made → IsQuiet opening.geometry.block_size e → GivesPresent now e → e.caller ≡ claims.caller
    → RangeTruth opening now (history ++ e ∷ []) (set stakes number (Some claims, made ++ e ∷ []))
quiet_truth opening now history e stakes number claims made t here q gives by =
    let same : (i : ℕ) (was c : Cell) → slice_get now.cells i ≡ Some was → slice_get now.cells i ≡ Some c → c ≡ was =
    λ i was c there at. let both : Some was ≡ Some c = sym there ∙ at in cc in
    after_entry opening now now history e stakes number claims claims made t here
    (record {
      same_run = record { geometry = refl; mode = refl; first = refl; blocks = refl; pool = refl };
      space = t.pool_claims_sectors;
      states = λ i was c there at. ap state_of (same i was c there at) ∙ sym (q.state (opening.first + i) (state_of was));
      errors = let f = q.failed in let p = t.errors_counted in omega arith;
      tickets = quiet_tickets opening now history e stakes t q.lent;
      cookie = let f = q.changed in omega arith;
      log = sym (append-nil now.log) ∙ ap (λ l. now.log ++ l) (sym q.stamps);
      headroom = t.cookie_has_headroom;
      uncached = t.dax_is_uncached;
      found = λ i was at. q.found (opening.first + i) (state_of was);
    })
    (All-push (GivesPresent now) history e t.samples_give_extents gives)
    (λ i was c content there at here_true.
    let size : ℕ = opening.geometry.block_size in
    let b : ℕ = opening.first + i in
    let others : List RangeStake = set stakes number (Some claims, made ++ e ∷ []) in
    let C : Cell → Type 0 = λ x. IsTrueAt size b x (content_after size b content e) others in
    let X : Content → Type 0 = λ x. IsTrueAt size b was x others in
    subst C (sym (same i was c there at)) (subst X (sym (q.content b content)) (true-restaked size b was content stakes others (same_set stakes number claims claims made _ here refl) here_true)))
    (record { caller = refl; spare = refl; main = refl }) by

-- an entry changes no content, raises no count and leaves no stamp
pub record LeavesContents (size : ℕ) (e : Entry) : Type 0 where
  pub content : (b : ℕ) (x : Content) → content_after size b x e ≡ x
  pub failed : failures e ≡ 0
  pub lent : lendings e ≡ 0
  pub changed : changes e ≡ 0
  pub stamps : stamps_of size e ≡ []
  pub found : (b : ℕ) (s : BlockState) → fits_by size b e s ≡ true

-- where an entry leaves everything but pages as it was, the truth holds of blocks that are as true with the pages as they are
pub paged_truth : (opening now : RangeView) (cells : List Cell) (history : List Entry) (e : Entry) (stakes : List RangeStake) (number : ℕ) (claims : ClaimsView) (made : List Entry) → RangeTruth opening now history stakes
    → Works stakes number claims made → LeavesContents opening.geometry.block_size e → GivesPresent (record now { cells = cells }) e → e.caller ≡ claims.caller
    → length cells ≡ length now.cells → kinds_of cells ≡ kinds_of now.cells → total pending cells ≡ total pending now.cells → (All IsUncached now.cells → All IsUncached cells)
    → ((i : ℕ) (was c : Cell) → slice_get now.cells i ≡ Some was → slice_get cells i ≡ Some c → state_of c ≡ state_after opening.geometry.block_size (opening.first + i) (state_of was) e)
    → ((i : ℕ) (was c : Cell) (b : ℕ) (content : Content) → slice_get now.cells i ≡ Some was → slice_get cells i ≡ Some c → IsTrueAt opening.geometry.block_size b was content stakes → IsTrueAt opening.geometry.block_size b c content stakes)
    → RangeTruth opening (record now { cells = cells }) (history ++ e ∷ []) (set stakes number (Some claims, made ++ e ∷ []))
paged_truth opening now cells history e stakes number claims made t here q gives by many kinds pends uncached states blocks =
    after_entry opening now (record now { cells = cells }) history e stakes number claims claims made t here
    (record {
      same_run = record { geometry = refl; mode = refl; first = refl; blocks = many; pool = refl };
      space = space_by_kinds opening.geometry.block_size now.cells cells now.space kinds t.pool_claims_sectors;
      states = states;
      errors = let f = q.failed in let p = t.errors_counted in omega arith;
      tickets = quiet_tickets opening now history e stakes t q.lent;
      cookie = let f = q.changed in omega arith;
      log = sym (append-nil now.log) ∙ ap (λ l. now.log ++ l) (sym q.stamps);
      headroom = let h = t.cookie_has_headroom in omega arith;
      uncached = λ d. uncached (t.dax_is_uncached d);
      found = λ i was at. q.found (opening.first + i) (state_of was);
    })
    (All-push (GivesPresent (record now { cells = cells })) history e (keep_samples now (record now { cells = cells }) history refl (omega arith) (λ _. kinds) t.samples_give_extents) gives)
    (λ i was c content there at here_true.
    let size : ℕ = opening.geometry.block_size in
    let b : ℕ = opening.first + i in
    let others : List RangeStake = set stakes number (Some claims, made ++ e ∷ []) in
    let X : Content → Type 0 = λ x. IsTrueAt size b c x others in
    subst X (sym (q.content b content)) (true-restaked size b c content stakes others (same_set stakes number claims claims made _ here refl) (blocks i was c b content there at here_true)))
    (record { caller = refl; spare = refl; main = refl }) by
