-- The range truth where only what seats claim has changed.
use Rattle.std.proofs.Common.{◌≡◌, ◌≢◌, ℕ, ◌+◌, ◌-◌, ◌<◌, ◌≤◌, ◌^◌, ◌⊎◌, Bool, true, false, nat_eq, nat_le, Option, Some, None, List, [], ◌∷◌, ◌++◌, set, refl, sym, ◌∙◌, ap, subst, arith, inl, inr, ⊎_elim, ◌&&◌, if◌then◌else◌}
use Rattle.std.proofs.lemmas.Bool.{eqb-true, leb-true, leb-false, ltb-true, ltb-false}
use mathlib.Core.Option.{some}
use lib.ListN.{get_elem?}
use Rattle.atomic_table.proofs.Lists.{at_set, at_snoc, set_else}
use Rattle.turn_cell.specs.Stakes.{total, Once}
use Rattle.turn_cell.proofs.Sums.{total-append, total-at, total-set}
use Rattle.range_core.specs.BlockTruth.{FitsAway, IsTrueAt}
use Rattle.range_core.specs.ClaimsView.{ClaimsView, MayMerge, either_held, merged_claims, next_claims, rest_claims, ticket_claims, loan_claims, released}
use Rattle.range_core.specs.EntryCounts.{one_where, made_as}
use Rattle.range_core.specs.RangeTruth.{RangeTruth, content_at}
use Rattle.range_core.specs.RangeView.{RangeView}
use Rattle.range_core.specs.Stakes.{RangeStake, IsApart, held_by, mains, names, names_block, spares, workers, strays, is_main_of}
use Rattle.range_core.specs.declared.cell.Cell.{Cell}
use Rattle.range_core.specs.declared.entry.Entry.{Entry}
use Rattle.range_core.specs.declared.lending.Held.{Held}
use Rattle.std.specs.Prelude.{nat_lt}

-- A caller's own seat, which alone makes turns, stands at its number with its claims and its entries
pub record Works (stakes : List RangeStake) (number : ℕ) (claims : ClaimsView) (made : List Entry) : Type 0 where
  pub here : get_elem? stakes number ≡ some (Some claims, made)
  pub own : claims.main ≡ true

pub works : {stakes : List RangeStake} {number : ℕ} {claims : ClaimsView} {made : List Entry} → get_elem? stakes number ≡ some (Some claims, made) → claims.main ≡ true → Works stakes number claims made
works here own = record { here = here; own = own }

-- some seat had this claim
pub record WasHeld (stakes : List RangeStake) (held : Option Held) : Type 0 where
  pub number : ℕ
  pub stake : RangeStake
  pub here : get_elem? stakes number ≡ some stake
  pub same : held_by stake.0 ≡ held

-- other seats have the same claims
pub record SameClaims (stakes others : List RangeStake) : Type 0 where
  pub named : (b : ℕ) → total (names b) others ≡ total (names b) stakes
  pub held : (b n : ℕ) (s : RangeStake) → get_elem? others n ≡ some s → 0 < names b s → WasHeld stakes (held_by s.0)

-- a block is as true where other seats have the same claims
pub true-restaked : (size b : ℕ) (c : Cell) (content : List ℕ) (stakes others : List RangeStake) → SameClaims stakes others → IsTrueAt size b c content stakes → IsTrueAt size b c content others
true-restaked size b c content stakes others same t = record {
  whole = t.whole;
  place = t.place;
  uptodate_is_replay = t.uptodate_is_replay;
  home_is_on_device = t.home_is_on_device;
  dirty_is_uptodate = t.dirty_is_uptodate;
  away_is_claimed = record {
    once = same.named b ∙ t.away_is_claimed.once;
    fits = λ n s at more.
        let w = same.held b n s at more in
        let F : Option Held → Type 0 = λ h. FitsAway size b c content c.away h in
        let N : Option Held → Type 0 = λ h. 0 < one_where (names_block b h) in
        subst F w.same (t.away_is_claimed.fits w.number w.stake w.here (subst N (sym w.same) more));
  };
}

pub restaked : (opening now : RangeView) (history : List Entry) (stakes others : List RangeStake) → RangeTruth opening now history stakes → SameClaims stakes others
    → ((caller : ℕ) → caller < 2 ^ 32 → IsApart caller history others) → RangeTruth opening now history others
restaked opening now history stakes others t same apart = record {
  same_run = t.same_run;
  few = t.few;
  pool_claims_sectors = t.pool_claims_sectors;
  blocks = λ i c at. true-restaked _ _ c (content_at opening history i) stakes others same (t.blocks i c at);
  states = t.states;
  errors_counted = t.errors_counted;
  tickets_counted = t.tickets_counted;
  cookie_counts_changes = t.cookie_counts_changes;
  samples_give_extents = t.samples_give_extents;
  journal_is_history = t.journal_is_history;
  cookie_has_headroom = t.cookie_has_headroom;
  dax_is_uncached = t.dax_is_uncached;
  callers_are_apart = apart;
  has_happened = t.has_happened;
}

-- a seat has at most as many stray entries as it made, so none where it made none
strays_few : (caller : ℕ) (s : RangeStake) → strays caller s ≤ total (made_as caller) s.1
strays_few caller s = at (is_main_of caller s.0)
  where
    at : (t : Bool) → (if t then 0 else total (made_as caller) s.1) ≤ total (made_as caller) s.1
    at true = omega arith
    at false = omega arith

pub none_made : (caller : ℕ) (c : ClaimsView) → strays caller (Some c, []) ≡ 0
none_made caller c = let few = strays_few caller (Some c, []) in omega arith

total-less : {A : Type 0} (f g : A → ℕ) → ((x : A) → f x ≤ g x) → (xs : List A) → total f xs ≤ total g xs
total-less f g less [] = omega arith
total-less f g less (x ∷ xs) = let here = less x in let rest = total-less f g less xs in omega arith

-- caller numbers stay apart where no more are spare, no more are in use, and none that is spare is worked under
pub apart_by : (caller : ℕ) (history : List Entry) (stakes others : List RangeStake) → IsApart caller history stakes
    → total (spares caller) others ≤ total (spares caller) stakes
    → total (spares caller) others + total (mains caller) others ≤ total (spares caller) stakes + total (mains caller) stakes
    → (0 < total (spares caller) others → total (workers caller) others ≤ total (workers caller) stakes)
    → (0 < total (mains caller) others → total (strays caller) others ≡ 0) → IsApart caller history others
apart_by caller history stakes others a fewer together works own = record {
  one = let o = a.one in omega arith;
  unused = λ more. let u = a.unused (omega arith) in let w = works more in omega arith;
  own = own;
}

-- of two seats neither has a stray entry under a number, and the second is not that caller's own
record NoneStray (caller : ℕ) (mine theirs : ClaimsView) (made given : List Entry) : Type 0 where
  pub first : strays caller (Some mine, made) ≡ 0
  pub second : strays caller (Some theirs, given) ≡ 0
  pub other : (theirs.main && nat_eq theirs.caller caller) ≡ false

-- a seat that took in another has no stray entry under a number that is still another caller's own, where neither had one
none_stray : (caller : ℕ) (mine theirs : ClaimsView) (made given : List Entry)
    → (0 < one_where (mine.main && nat_eq mine.caller caller)) ⊎ NoneStray caller mine theirs made given
    → strays caller (Some (merged_claims mine theirs), made ++ given) ≡ 0
none_stray caller mine theirs made given known = at (mine.main && nat_eq mine.caller caller) refl known
  where
    at : (t : Bool) → (mine.main && nat_eq mine.caller caller) ≡ t
        → (0 < one_where (mine.main && nat_eq mine.caller caller)) ⊎ NoneStray caller mine theirs made given
        → (if mine.main && nat_eq mine.caller caller then 0 else total (made_as caller) (made ++ given)) ≡ 0
    at true is known = ap (λ t. if t then 0 else total (made_as caller) (made ++ given)) is
    at false is (inl more) = absurd (let z : one_where (mine.main && nat_eq mine.caller caller) ≡ 0 = ap one_where is in omega arith)
    at false is (inr k) =
        let one : total (made_as caller) made ≡ 0 = sym (ap (λ t. if t then 0 else total (made_as caller) made) is) ∙ k.first in
        let two : total (made_as caller) given ≡ 0 = sym (ap (λ t. if t then 0 else total (made_as caller) given) k.other) ∙ k.second in
        let both : total (made_as caller) (made ++ given) ≡ total (made_as caller) made + total (made_as caller) given = total-append (made_as caller) made given in
        ap (λ t. if t then 0 else total (made_as caller) (made ++ given)) is ∙ omega (arith, one, two, both)

-- of two claims at most one of which is there, either names what both name
either_names : (b : ℕ) (h k : Option Held) → (h ≡ None) ⊎ (k ≡ None) → one_where (names_block b (either_held h k)) ≡ one_where (names_block b h) + one_where (names_block b k)
either_names b None k one = omega arith
either_names b (Some x) None one = omega arith
either_names b (Some x) (Some y) one = absurd (elim one [ inl e ↦ absurd (cc) | inr e ↦ absurd (cc) ])

-- a number is spare of one who has the spare numbers of two, only where it is spare of one of them
both_spare : (caller m n : ℕ) → (m ≡ 0) ⊎ (n ≡ 0) → one_where (nat_le 4294967296 (caller + (m + n))) ≤ one_where (nat_le 4294967296 (caller + m)) + one_where (nat_le 4294967296 (caller + n))
both_spare caller m n one = elim one [
  | inl e ↦ let s : caller + (m + n) ≡ caller + n = omega arith in rw s (omega arith)
  | inr e ↦ let s : caller + (m + n) ≡ caller + m = omega arith in rw s (omega arith)
]

-- after a merge
module _ (stakes : List RangeStake) (number other : ℕ) (mine theirs : ClaimsView) (made given : List Entry) (may : MayMerge mine theirs)
    (here : get_elem? stakes number ≡ some (Some mine, made)) (apart : other ≢ number) (there : get_elem? stakes other ≡ some (Some theirs, given)) where
  both : RangeStake
  both = (Some (merged_claims mine theirs), made ++ given)

  first : List RangeStake
  first = set stakes number both

  abbrev others : List RangeStake
  others = set (set stakes number (Some (merged_claims mine theirs), made ++ given)) other (None, [])

  merged-total : (f : RangeStake → ℕ) → total f others + f (Some theirs, given) + f (Some mine, made) ≡ total f stakes + f (Some (merged_claims mine theirs), made ++ given) + f (None, [])
  merged-total f =
      let b : RangeStake = (Some (merged_claims mine theirs), made ++ given) in
      let t : total f (set stakes number b) + f (Some mine, made) ≡ total f stakes + f b = total-set f stakes number (Some mine, made) b here in
      let u : total f (set (set stakes number b) other (None, [])) + f (Some theirs, given) ≡ total f (set stakes number b) + f (None, []) =
      total-set f (set stakes number b) other (Some theirs, given) (None, []) (set_else stakes number other b apart ∙ there) in
      omega arith

  same_merged : SameClaims stakes others
  same_merged = record {
    named = λ b. let t = merged-total (names b) in let e = either_names b mine.held theirs.held may.one_held in omega arith;
    held = λ b n s at more.
        ⊎_elim
        (λ (t : (n ≡ other) × ((None, []) ≡ s)). absurd (let z : 0 ≡ names b s = ap (names b) t.1 in omega arith))
        (λ (t : (n ≢ other) × (get_elem? (set stakes number (Some (merged_claims mine theirs), made ++ given)) n ≡ some s)).
        ⊎_elim
        (λ (u : (n ≡ number) × ((Some (merged_claims mine theirs), made ++ given) ≡ s)). had s u.1)
        (λ (u : (n ≢ number) × (get_elem? stakes n ≡ some s)). record { number = n; stake = s; here = u.1; same = refl })
        (at_set stakes number n _ s t.1))
        (at_set _ other n _ s at);
  }
    where
      of_either : (h k : Option Held) → mine.held ≡ h → theirs.held ≡ k → WasHeld stakes (either_held h k)
      of_either None k e f = record { number = other; stake = (Some theirs, given); here = there; same = f }
      of_either (Some x) k e f = record { number = number; stake = (Some mine, made); here = here; same = e }

      had : (s : RangeStake) → (Some (merged_claims mine theirs), made ++ given) ≡ s → WasHeld stakes (held_by s.0)
      had s e = let W : RangeStake → Type 0 = λ x. WasHeld stakes (held_by x.0) in subst W e (of_either mine.held theirs.held refl refl)

  own_merged : (caller : ℕ) (history : List Entry) → IsApart caller history stakes → 0 < total (mains caller) others → total (strays caller) others ≡ 0
  own_merged caller history a more =
      let m = merged-total (mains caller) in
      let s = merged-total (strays caller) in
      let one = a.one in
      let none = a.own (omega arith) in
      let mine_none : strays caller (Some mine, made) ≤ total (strays caller) stakes = total-at (strays caller) stakes number (Some mine, made) here in
      let theirs_none : strays caller (Some theirs, given) ≤ total (strays caller) stakes = total-at (strays caller) stakes other (Some theirs, given) there in
      let kept : mains caller (Some (merged_claims mine theirs), made ++ given) ≡ mains caller (Some mine, made) = refl in
      let z : strays caller (Some (merged_claims mine theirs), made ++ given) ≡ 0 = none_stray caller mine theirs made given (whose (mine.main && nat_eq mine.caller caller) (theirs.main && nat_eq theirs.caller caller) refl refl m one kept (omega arith) (omega arith)) in
      omega arith
    where
      whose : (t u : Bool) → (mine.main && nat_eq mine.caller caller) ≡ t → (theirs.main && nat_eq theirs.caller caller) ≡ u
          → total (mains caller) others + mains caller (Some theirs, given) + mains caller (Some mine, made) ≡ total (mains caller) stakes + mains caller (Some (merged_claims mine theirs), made ++ given) + mains caller (None, [])
          → total (spares caller) stakes + total (mains caller) stakes ≤ 1 → mains caller (Some (merged_claims mine theirs), made ++ given) ≡ mains caller (Some mine, made)
          → strays caller (Some mine, made) ≡ 0 → strays caller (Some theirs, given) ≡ 0
          → (0 < one_where (mine.main && nat_eq mine.caller caller)) ⊎ NoneStray caller mine theirs made given
      whose true u p q m one kept none nothing = inl (let z : one_where (mine.main && nat_eq mine.caller caller) ≡ 1 = ap one_where p in omega arith)
      whose false false p q m one kept none nothing = inr (record { first = none; second = nothing; other = q })
      whose false true p q m one kept none nothing = absurd (
          let z : mains caller (Some theirs, given) ≡ 1 = ap one_where q in
          let n : mains caller (None, []) ≡ 0 = refl in
          omega arith)

  apart_merged : (caller : ℕ) (history : List Entry) → IsApart caller history stakes → IsApart caller history others
  apart_merged caller history a =
      let s = merged-total (spares caller) in
      let m = merged-total (mains caller) in
      let w = merged-total (workers caller) in
      let e = both_spare caller mine.spare theirs.spare may.one_spare in
      apart_by caller history stakes others a (omega arith) (omega arith) (λ _. omega arith) (λ more. own_merged caller history a more)

  pub merged_truth : (opening now : RangeView) (history : List Entry) → RangeTruth opening now history stakes → RangeTruth opening now history others
  merged_truth opening now history t = restaked opening now history stakes others t same_merged (λ caller h. apart_merged caller history (t.callers_are_apart caller h))

-- after a cut
module _ (stakes : List RangeStake) (number : ℕ) (claims left right : ClaimsView) (made : List Entry) (here : get_elem? stakes number ≡ some (Some claims, made)) where
  abbrev parted : List RangeStake
  parted = set stakes number (Some left, made) ++ (Some right, []) ∷ []

  parted-total : (f : RangeStake → ℕ) → total f parted + f (Some claims, made) ≡ total f stakes + f (Some left, made) + f (Some right, [])
  parted-total f =
      let t : total f (set stakes number (Some left, made)) + f (Some claims, made) ≡ total f stakes + f (Some left, made) = total-set f stakes number (Some claims, made) (Some left, made) here in
      let a : total f (set stakes number (Some left, made) ++ (Some right, []) ∷ []) ≡ total f (set stakes number (Some left, made)) + (f (Some right, []) + 0) =
      total-append f (set stakes number (Some left, made)) ((Some right, []) ∷ []) in
      omega arith

  -- the seat that goes on has the number that it had, and the new one made nothing
  own_parted : (caller : ℕ) → left.main ≡ claims.main → left.caller ≡ claims.caller → strays caller (Some right, []) ≡ 0 → total (strays caller) stakes ≡ 0 → total (strays caller) parted ≡ 0
  own_parted caller m n new none =
      let t = parted-total (strays caller) in
      let same : strays caller (Some left, made) ≡ strays caller (Some claims, made) =
      ap (λ u. strays caller (Some (record left { main = u }), made)) m ∙ ap (λ k. strays caller (Some (record claims { caller = k }), made)) n in
      omega arith

  -- the loan goes with the new seat
  same_moved : left.held ≡ None → right.held ≡ claims.held → SameClaims stakes parted
  same_moved l r = record {
    named = λ b.
        let t = parted-total (names b) in
        let z : names b (Some left, made) ≡ 0 = ap (λ h. one_where (names_block b h)) l in
        let e : names b (Some right, []) ≡ names b (Some claims, made) = ap (λ h. one_where (names_block b h)) r in
        omega arith;
    held = λ b n s at more.
        ⊎_elim
        (λ (t : get_elem? (set stakes number (Some left, made)) n ≡ some s).
        ⊎_elim
        (λ (u : (n ≡ number) × ((Some left, made) ≡ s)). absurd (let z : 0 ≡ names b s = sym (ap (λ h. one_where (names_block b h)) l) ∙ ap (names b) u.1 in omega arith))
        (λ (u : (n ≢ number) × (get_elem? stakes n ≡ some s)). record { number = n; stake = s; here = u.1; same = refl })
        (at_set stakes number n _ s t))
        (λ (t : (Some right, []) ≡ s). record { number = number; stake = (Some claims, made); here = here; same = sym r ∙ ap (λ (x : RangeStake). held_by x.0) t })
        (at_snoc (set stakes number (Some left, made)) (Some right, []) s n at);
  }

  same_parted : left.held ≡ claims.held → right.held ≡ None → SameClaims stakes parted
  same_parted l r = record {
    named = λ b.
        let t = parted-total (names b) in
        let e : names b (Some left, made) ≡ names b (Some claims, made) = ap (λ h. one_where (names_block b h)) l in
        let z : names b (Some right, []) ≡ 0 = ap (λ h. one_where (names_block b h)) r in
        omega arith;
    held = λ b n s at more.
        ⊎_elim
        (λ (t : get_elem? (set stakes number (Some left, made)) n ≡ some s).
        ⊎_elim
        (λ (u : (n ≡ number) × ((Some left, made) ≡ s)). record { number = number; stake = (Some claims, made); here = here; same = sym l ∙ ap (λ (x : RangeStake). held_by x.0) u.1 })
        (λ (u : (n ≢ number) × (get_elem? stakes n ≡ some s)). record { number = n; stake = s; here = u.1; same = refl })
        (at_set stakes number n _ s t))
        (λ (t : (Some right, []) ≡ s). absurd (let z : 0 ≡ names b s = sym (ap (λ h. one_where (names_block b h)) r) ∙ ap (names b) t in omega arith))
        (at_snoc (set stakes number (Some left, made)) (Some right, []) s n at);
  }

-- the lowest spare number is no longer spare once it is handed on
next_spare : (caller spare : ℕ) → 0 < spare → spare < 2 ^ 32 → one_where (nat_le 4294967296 (caller + (spare - 1))) + one_where (nat_eq (4294967296 - spare) caller) ≤ one_where (nat_le 4294967296 (caller + spare))
next_spare caller spare left_over few = at (nat_le 4294967296 (caller + (spare - 1))) (nat_eq (4294967296 - spare) caller) (nat_le 4294967296 (caller + spare)) refl refl refl
  where
    at : (t u v : Bool) → nat_le 4294967296 (caller + (spare - 1)) ≡ t → nat_eq (4294967296 - spare) caller ≡ u → nat_le 4294967296 (caller + spare) ≡ v
        → one_where t + one_where u ≤ one_where v
    at false false v p q r = omega arith
    at true false true p q r = omega arith
    at false true true p q r = omega arith
    at true true v p q r = absurd (omega (arith, leb-true _ _ p, eqb-true _ _ q))
    at true u false p q r = absurd (omega (arith, leb-true _ _ p, leb-false _ _ r))
    at false true false p q r = absurd (omega (arith, leb-false _ _ r, eqb-true _ _ q))

-- no number below 2^32 is spare of a seat without spare numbers
none_spare : (caller : ℕ) → caller < 2 ^ 32 → one_where (nat_le 4294967296 (caller + 0)) ≡ 0
none_spare caller h = at (nat_le 4294967296 (caller + 0)) refl
  where
    at : (t : Bool) → nat_le 4294967296 (caller + 0) ≡ t → one_where t ≡ 0
    at true e = absurd (omega (arith, leb-true _ _ e))
    at false e = refl

module _ (stakes : List RangeStake) (number : ℕ) (claims : ClaimsView) (made : List Entry) (here : get_elem? stakes number ≡ some (Some claims, made)) where
  -- a ticket has its caller's number, and no spare one
  apart_with_ticket : (caller : ℕ) (history : List Entry) → caller < 2 ^ 32 → IsApart caller history stakes
      → IsApart caller history (set stakes number (Some claims, made) ++ (Some (ticket_claims claims), []) ∷ [])
  apart_with_ticket caller history h a =
      let s = parted-total stakes number claims claims (ticket_claims claims) made here (spares caller) in
      let m = parted-total stakes number claims claims (ticket_claims claims) made here (mains caller) in
      let w = parted-total stakes number claims claims (ticket_claims claims) made here (workers caller) in
      let z = none_spare caller h in
      let one : workers caller (Some claims, made) ≤ total (workers caller) stakes = total-at (workers caller) stakes number (Some claims, made) here in
      apart_by caller history stakes _ a (omega arith) (omega arith) (λ more. let u = a.unused (omega arith) in omega arith)
      (λ more. own_parted stakes number claims claims (ticket_claims claims) made here caller refl refl refl (a.own (omega arith)))

  -- a seat that carries a loan has its caller's number, and no spare one
  apart_with_loan : (caller : ℕ) (history : List Entry) → caller < 2 ^ 32 → IsApart caller history stakes
      → IsApart caller history (set stakes number (Some (released claims), made) ++ (Some (loan_claims claims), []) ∷ [])
  apart_with_loan caller history h a =
      let s = parted-total stakes number claims (released claims) (loan_claims claims) made here (spares caller) in
      let m = parted-total stakes number claims (released claims) (loan_claims claims) made here (mains caller) in
      let w = parted-total stakes number claims (released claims) (loan_claims claims) made here (workers caller) in
      let z = none_spare caller h in
      let one : workers caller (Some claims, made) ≤ total (workers caller) stakes = total-at (workers caller) stakes number (Some claims, made) here in
      apart_by caller history stakes _ a (omega arith) (omega arith) (λ more. let u = a.unused (omega arith) in omega arith)
      (λ more. own_parted stakes number claims (released claims) (loan_claims claims) made here caller refl refl refl (a.own (omega arith)))

  pub loan_cut_truth : (opening now : RangeView) (history : List Entry) → RangeTruth opening now history stakes
      → RangeTruth opening now history (set stakes number (Some (released claims), made) ++ (Some (loan_claims claims), []) ∷ [])
  loan_cut_truth opening now history t =
      restaked opening now history stakes _ t (same_moved stakes number claims (released claims) (loan_claims claims) made here refl refl)
      (λ caller h. apart_with_loan caller history h (t.callers_are_apart caller h))

  pub ticket_truth : (opening now : RangeView) (history : List Entry) → RangeTruth opening now history stakes
      → RangeTruth opening now history (set stakes number (Some claims, made) ++ (Some (ticket_claims claims), []) ∷ [])
  ticket_truth opening now history t =
      restaked opening now history stakes _ t (same_parted stakes number claims claims (ticket_claims claims) made here refl refl)
      (λ caller h. apart_with_ticket caller history h (t.callers_are_apart caller h))

  -- a new caller has the lowest spare number, which no seat had
  apart_with_caller : (caller : ℕ) (history : List Entry) → Once history stakes → 0 < claims.spare → claims.spare < 2 ^ 32 → caller < 2 ^ 32 → IsApart caller history stakes
      → IsApart caller history (set stakes number (Some (rest_claims claims), made) ++ (Some (next_claims claims), []) ∷ [])
  apart_with_caller caller history once left_over few h a =
      let s = parted-total stakes number claims (rest_claims claims) (next_claims claims) made here (spares caller) in
      let m = parted-total stakes number claims (rest_claims claims) (next_claims claims) made here (mains caller) in
      let w = parted-total stakes number claims (rest_claims claims) (next_claims claims) made here (workers caller) in
      let z = none_spare caller h in
      let n = next_spare caller claims.spare left_over few in
      let o = a.one in
      apart_by caller history stakes _ a (omega arith) (omega arith) (λ more. omega arith)
      (λ more. own_parted stakes number claims (rest_claims claims) (next_claims claims) made here caller refl refl (none_made caller (next_claims claims)) (had_none more m n o (nat_lt 0 (total (mains caller) stakes)) refl))
    where
      had_none : 0 < total (mains caller) (set stakes number (Some (rest_claims claims), made) ++ (Some (next_claims claims), []) ∷ [])
          → total (mains caller) (set stakes number (Some (rest_claims claims), made) ++ (Some (next_claims claims), []) ∷ []) + mains caller (Some claims, made) ≡ total (mains caller) stakes + mains caller (Some (rest_claims claims), made) + mains caller (Some (next_claims claims), [])
          → one_where (nat_le 4294967296 (caller + (claims.spare - 1))) + one_where (nat_eq (4294967296 - claims.spare) caller) ≤ one_where (nat_le 4294967296 (caller + claims.spare))
          → total (spares caller) stakes + total (mains caller) stakes ≤ 1
          → (t : Bool) → nat_lt 0 (total (mains caller) stakes) ≡ t → total (strays caller) stakes ≡ 0
      had_none more m n o true is = a.own (ltb-true 0 (total (mains caller) stakes) is)
      had_none more m n o false is =
          let less = ltb-false 0 (total (mains caller) stakes) is in
          let same : mains caller (Some (rest_claims claims), made) ≡ mains caller (Some claims, made) = refl in
          let spare_here : spares caller (Some claims, made) ≤ total (spares caller) stakes = total-at (spares caller) stakes number (Some claims, made) here in
          let unused = a.unused (omega arith) in
          let weighs : total (made_as caller) history ≡ total (λ (s : RangeStake). total (made_as caller) s.1) stakes = once (made_as caller) in
          let most = total-less (strays caller) (λ (s : RangeStake). total (made_as caller) s.1) (strays_few caller) stakes in
          omega arith

  pub caller_truth : (opening now : RangeView) (history : List Entry) → Once history stakes → 0 < claims.spare → claims.spare < 2 ^ 32 → RangeTruth opening now history stakes
      → RangeTruth opening now history (set stakes number (Some (rest_claims claims), made) ++ (Some (next_claims claims), []) ∷ [])
  caller_truth opening now history once left_over few t =
      restaked opening now history stakes _ t (same_parted stakes number claims (rest_claims claims) (next_claims claims) made here refl refl)
      (λ caller h. apart_with_caller caller history once left_over few h (t.callers_are_apart caller h))
