-- The range truth after an entry that changes a run of blocks.
use Rattle.std.proofs.Common.{◌≡◌, ℕ, ◌+◌, ◌-◌, ◌<◌, ◌≤◌, ◌^◌, ◌%◌, ◌⊎◌, Bool, true, false, ◌&&◌, Some, List, [], ◌∷◌, ◌++◌, length, set, All, refl, sym, ◌∙◌, ap, subst, arith, ⊎_elim, inl, inr}
use Rattle.std.specs.Prelude.{min, max, nat_le, nat_lt, slice_get}
use Rattle.std.proofs.lemmas.Bool.{and_parts, leb-true, ltb-true, le-leb, lt-ltb}
use Rattle.iob_base.specs.declared.TheConstants.{WORN}
use Rattle.iob_base.specs.declared.stamp.Mode.TheVariants.{Dax}
use Rattle.io_model.specs.Contents.{Content}
use Rattle.turn_cell.specs.Stakes.{total}
use Rattle.range_core.specs.BlockContents.{content_after}
use Rattle.range_core.specs.BlockStates.{BlockState, state_after, state_of}
use Rattle.range_core.specs.BlockTruth.{IsTrueAt}
use Rattle.range_core.specs.ClaimsView.{ClaimsView}
use Rattle.range_core.specs.EntryCounts.{changes, failures, lendings}
use Rattle.range_core.specs.EntryStamps.{stamps_of}
use Rattle.range_core.specs.Lookups.{GivesPresent}
use Rattle.range_core.specs.OnRun.{on_each}
use Rattle.range_core.specs.RangeTruth.{IsUncached, RangeTruth, pending}
use Rattle.range_core.specs.RangeView.{RangeView, part_in}
use Rattle.range_core.specs.Space.{ClaimsSpace}
use Rattle.range_core.specs.Spots.{in_run}
use Rattle.range_core.specs.Stakes.{RangeStake}
use Rattle.range_core.specs.declared.cell.Cell.{Cell}
use Rattle.range_core.specs.declared.entry.Entry.{Entry}
use Rattle.range_core.proofs.AfterEntry.{GoesOn, after_entry, same_set}
use Rattle.range_core.proofs.OnRunLemmas.{IsInRun, IsOutOfRun, length-on_each, on_each-at}
use Rattle.range_core.proofs.StakeTruth.{true-restaked, Works}
use Rattle.range_core.specs.Happened.{IsAsFound, fits_by}

-- a block is one of a run, or is not
pub in_run-true : (low n b : ℕ) → low ≤ b → b < low + n → in_run low n b ≡ true
in_run-true low n b h k = ap (λ t. t && nat_lt b (low + n)) (le-leb _ _ h) ∙ lt-ltb _ _ k

pub in_run-false : (low n b : ℕ) → (b < low) ⊎ (low + n ≤ b) → in_run low n b ≡ false
in_run-false low n b h = at (in_run low n b) refl
  where
    at : (t : Bool) → in_run low n b ≡ t → t ≡ false
    at false e = refl
    at true e =
        let p = and_parts (nat_le low b) (nat_lt b (low + n)) e in
        let l : low ≤ b = leb-true _ _ p.0 in
        let m : b < low + n = ltb-true _ _ p.1 in
        absurd (⊎_elim (λ (x : b < low). let z : ⊥ = absurd (omega arith) in z) (λ (x : low + n ≤ b). let z : ⊥ = absurd (omega arith) in z) h)

pub in_run-bounds : (low n b : ℕ) → in_run low n b ≡ true → (low ≤ b) × (b < low + n)
in_run-bounds low n b e = let p = and_parts (nat_le low b) (nat_lt b (low + n)) e in (leb-true _ _ p.0, ltb-true _ _ p.1)

-- an entry leaves the content and the state of a block, and what others claim of it
pub record LeavesBlock (size b : ℕ) (e : Entry) (stakes others : List RangeStake) : Type 0 where
  pub content : (x : Content) → content_after size b x e ≡ x
  pub state : (s : BlockState) → state_after size b s e ≡ s
  pub claims : (c : Cell) (x : Content) → IsTrueAt size b c x stakes → IsTrueAt size b c x others

-- an entry changes a block as it says, and the block is true of its content afterwards
pub record ChangesBlock (size b : ℕ) (was c : Cell) (content : Content) (e : Entry) (others : List RangeStake) : Type 0 where
  pub state : state_of c ≡ state_after size b (state_of was) e
  pub holds : IsTrueAt size b c (content_after size b content e) others

-- what an entry makes of the counts, the cookie, the log, and what the range as a whole keeps
pub record CountsNext (size : ℕ) (now next : RangeView) (e : Entry) : Type 0 where
  pub geometry : next.geometry ≡ now.geometry
  pub mode : next.mode ≡ now.mode
  pub first : next.first ≡ now.first
  pub pool : part_in next.seat ≡ part_in now.seat
  pub errors : next.errors ≡ min (now.errors + failures e) (2 ^ 64 - 1)
  pub tickets : next.tickets ≡ (now.tickets + lendings e) % (2 ^ 64)
  pub cookie : next.cookie ≡ now.cookie + changes e
  pub log : next.log ≡ now.log ++ stamps_of size e
  pub headroom : max next.cookie WORN + total pending next.cells ≤ WORN + 65536
  pub uncached : next.mode ≡ Dax → All IsUncached next.cells
  pub space : ClaimsSpace size next.cells next.space
  pub found : IsAsFound size now e

module _ (opening now next : RangeView) (history : List Entry) (e : Entry) (stakes : List RangeStake) (number : ℕ) (claims left : ClaimsView) (made : List Entry) (f : ℕ → Cell → Cell) (block n : ℕ) where
  abbrev others : List RangeStake
  others = set stakes number (Some left, made ++ e ∷ [])

  -- the entry changes the blocks of a run, each by its number in the run, and leaves all others
  pub record ChangesRun : Type 0 where
    pub low : opening.first ≤ block
    pub cells : next.cells ≡ on_each f 0 (block - opening.first) n now.cells
    pub outside : (b : ℕ) → in_run block n b ≡ false → LeavesBlock opening.geometry.block_size b e stakes others
    pub inside : (k : ℕ) (was : Cell) (content : Content) → k < n → slice_get now.cells (block - opening.first + k) ≡ Some was → IsTrueAt opening.geometry.block_size (block + k) was content stakes
        → ChangesBlock opening.geometry.block_size (block + k) was (f k was) content e others

  -- block i of the range before and after: changed, or left
  changed_at : ChangesRun → (i : ℕ) (was c : Cell) (content : Content) → slice_get now.cells i ≡ Some was → slice_get next.cells i ≡ Some c → IsTrueAt opening.geometry.block_size (opening.first + i) was content stakes
      → ChangesBlock opening.geometry.block_size (opening.first + i) was c content e others
  changed_at r i was c content there at h =
      let low : ℕ = block - opening.first in
      let size : ℕ = opening.geometry.block_size in
      let begins = r.low in
      let here : slice_get (on_each f 0 low n now.cells) i ≡ Some c = ap (λ l. slice_get l i) (sym r.cells) ∙ at in
      ⊎_elim
      (λ (u : IsInRun f 0 low n i was c).
      let l = u.low_is in
      let m = u.high in
      let k : ℕ = i - low in
      let place : i ≡ block - opening.first + k = omega arith in
      let b : opening.first + i ≡ block + k = omega arith in
      let z : 0 + (i - low) ≡ k = omega arith in
      let is : f k was ≡ c = ap (λ j. f j was) (sym z) ∙ sym u.is in
      let T : ℕ → Type 0 = λ x. IsTrueAt size x was content stakes in
      let C : ℕ → Type 0 = λ x. ChangesBlock size x was (f k was) content e others in
      let D : Cell → Type 0 = λ x. ChangesBlock size (opening.first + i) was x content e others in
      let within : k < n = omega arith in
      subst D is (subst C (sym b) (r.inside k was content within (ap (slice_get now.cells) (sym place) ∙ there) (subst T b h))))
      (λ (u : IsOutOfRun low n i was c).
      let b : ℕ = opening.first + i in
      let out : (b < block) ⊎ (block + n ≤ b) = beyond r.low u.out in
      let leaves = r.outside b (in_run-false block n b out) in
      let X : Content → Type 0 = λ x. IsTrueAt size b c x others in
      let C : Cell → Type 0 = λ x. IsTrueAt size b x content others in
      record {
        state = ap state_of u.is ∙ sym (leaves.state (state_of was));
        holds = subst X (sym (leaves.content content)) (subst C (sym u.is) (leaves.claims was content h));
      })
      (on_each-at f 0 low n i now.cells was c there here)
    where
      beyond : opening.first ≤ block → (i < block - opening.first) ⊎ (block - opening.first + n ≤ i) → (opening.first + i < block) ⊎ (block + n ≤ opening.first + i)
      beyond l (inl h) = inl (omega arith)
      beyond l (inr h) = inr (omega arith)

  -- the truth holds after an entry that changes a run
  pub changed_truth : RangeTruth opening now history stakes → Works stakes number claims made → ChangesRun → CountsNext opening.geometry.block_size now next e
      → All (GivesPresent next) (history ++ e ∷ []) → GoesOn claims left → e.caller ≡ claims.caller
      → RangeTruth opening next (history ++ e ∷ []) others
  changed_truth t here r n samples goes by =
      let many : length next.cells ≡ length now.cells = ap length r.cells ∙ length-on_each f 0 (block - opening.first) _ now.cells in
      after_entry opening now next history e stakes number claims left made t here
      (record {
        same_run = record { geometry = n.geometry; mode = n.mode; first = n.first; blocks = many; pool = n.pool };
        states = λ i was c there at. (changed_at r i was c _ there at (t.blocks i was there)).state;
        errors = n.errors;
        tickets = n.tickets;
        cookie = n.cookie;
        log = n.log;
        headroom = n.headroom;
        uncached = n.uncached;
        space = n.space;
        found = λ i was at. let F : ℕ → Type 0 = λ first. fits_by opening.geometry.block_size (first + i) e (state_of was) ≡ true in subst F t.same_run.first (n.found i was at);
      })
      samples
      (λ i was c content there at h. (changed_at r i was c content there at h).holds)
      goes by

-- where a seat's claim stays, what is claimed of each block stays
pub keeps_claims : (size b : ℕ) (stakes : List RangeStake) (number : ℕ) (claims left : ClaimsView) (made now : List Entry) → Works stakes number claims made → left.held ≡ claims.held
    → (c : Cell) (x : Content) → IsTrueAt size b c x stakes → IsTrueAt size b c x (set stakes number (Some left, now))
keeps_claims size b stakes number claims left made now here held c x h = true-restaked size b c x stakes _ (same_set stakes number claims left made now here held) h
