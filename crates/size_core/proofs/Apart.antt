-- Caller numbers stay apart, as one seat makes an entry, a seat is cut, or two are joined.
use Rattle.std.proofs.Common.{◌≡◌, ◌≢◌, ℕ, ◌+◌, ◌-◌, ◌<◌, ◌≤◌, ◌^◌, ◌⊎◌, Bool, true, false, nat_eq, nat_le, Some, None, List, [], ◌∷◌, ◌++◌, set, refl, ap, ◌∙◌, arith, inl, inr}
use Rattle.std.proofs.lemmas.Bool.{eqb-true, leb-true, leb-false}
use mathlib.Core.Option.{some}
use lib.ListN.{get_elem?}
use Rattle.atomic_table.proofs.Lists.{set_else}
use Rattle.turn_cell.specs.Stakes.{total}
use Rattle.turn_cell.proofs.Sums.{total-append, total-at, total-set}
use Rattle.size_core.specs.ClaimsView.{ClaimsView, MayMerge, merged_claims, next_claims, rest_claims, same_claims}
use Rattle.size_core.specs.History.{one_where, made_as}
use Rattle.size_core.specs.SizeTruth.{SizeStake, IsApart, spares, mains, workers}
use Rattle.size_core.specs.declared.entry.SizeEntry.{SizeEntry}

-- caller numbers stay apart where no more are spare, no more are in use, and none that is spare is worked under
apart_by : (caller : ℕ) (history : List SizeEntry) (stakes others : List SizeStake) → IsApart caller history stakes
    → total (spares caller) others ≤ total (spares caller) stakes
    → total (spares caller) others + total (mains caller) others ≤ total (spares caller) stakes + total (mains caller) stakes
    → (0 < total (spares caller) others → total (workers caller) others ≤ total (workers caller) stakes) → IsApart caller history others
apart_by caller history stakes others a fewer together works = record {
  one = let o = a.one in omega arith;
  unused = λ more. let u = a.unused (omega arith) in let w = works more in omega arith;
}

-- after an entry of a seat that keeps its numbers
module _ (caller : ℕ) (history : List SizeEntry) (e : SizeEntry) (stakes : List SizeStake) (number : ℕ) (claims : ClaimsView) (left_rooms : ℕ) (made now : List SizeEntry) where
  abbrev left : ClaimsView
  left = record claims { rooms = left_rooms }

  pub apart_more : get_elem? stakes number ≡ some (Some claims, made) → e.caller ≡ claims.caller → IsApart caller history stakes
      → IsApart caller (history ++ e ∷ []) (set stakes number (Some (record claims { rooms = left_rooms }), now))
  apart_more here by a =
      let s : total (spares caller) (set stakes number (Some left, now)) + spares caller (Some claims, made) ≡ total (spares caller) stakes + spares caller (Some left, now) =
      total-set (spares caller) stakes number (Some claims, made) (Some left, now) here in
      let m : total (mains caller) (set stakes number (Some left, now)) + mains caller (Some claims, made) ≡ total (mains caller) stakes + mains caller (Some left, now) =
      total-set (mains caller) stakes number (Some claims, made) (Some left, now) here in
      let w : total (workers caller) (set stakes number (Some left, now)) + workers caller (Some claims, made) ≡ total (workers caller) stakes + workers caller (Some left, now) =
      total-set (workers caller) stakes number (Some claims, made) (Some left, now) here in
      let own : made_as caller e ≡ workers caller (Some claims, made) = ap (λ n. one_where (nat_eq n caller)) by in
      let works : workers caller (Some claims, made) ≤ total (workers caller) stakes = total-at (workers caller) stakes number (Some claims, made) here in
      let entries : total (made_as caller) (history ++ e ∷ []) ≡ total (made_as caller) history + (made_as caller e + 0) = total-append (made_as caller) history (e ∷ []) in
      record {
        one = let o = a.one in omega arith;
        unused = λ more. let u = a.unused (omega arith) in omega arith;
      }

-- a number is spare of one who has the spare numbers of two, only where it is spare of one of them
both_spare : (caller m n : ℕ) → (m ≡ 0) ⊎ (n ≡ 0) → one_where (nat_le 4294967296 (caller + (m + n))) ≤ one_where (nat_le 4294967296 (caller + m)) + one_where (nat_le 4294967296 (caller + n))
both_spare caller m n one = elim one [
  | inl e ↦ let s : caller + (m + n) ≡ caller + n = omega arith in rw s (omega arith)
  | inr e ↦ let s : caller + (m + n) ≡ caller + m = omega arith in rw s (omega arith)
]

-- after a merge
module _ (stakes : List SizeStake) (number other : ℕ) (mine theirs : ClaimsView) (made given : List SizeEntry) (here : get_elem? stakes number ≡ some (Some mine, made)) (apart : other ≢ number)
    (there : get_elem? stakes other ≡ some (Some theirs, given)) where
  pub merged-total : (f : SizeStake → ℕ) → total f (set (set stakes number (Some (merged_claims mine theirs), made ++ given)) other (None, [])) + f (Some theirs, given) + f (Some mine, made) ≡ total f stakes + f (Some (merged_claims mine theirs), made ++ given) + f (None, [])
  merged-total f =
      let b : SizeStake = (Some (merged_claims mine theirs), made ++ given) in
      let t : total f (set stakes number b) + f (Some mine, made) ≡ total f stakes + f b = total-set f stakes number (Some mine, made) b here in
      let u : total f (set (set stakes number b) other (None, [])) + f (Some theirs, given) ≡ total f (set stakes number b) + f (None, []) =
      total-set f (set stakes number b) other (Some theirs, given) (None, []) (set_else stakes number other b apart ∙ there) in
      omega arith

  pub apart_merged : MayMerge mine theirs → (caller : ℕ) (history : List SizeEntry) → IsApart caller history stakes → IsApart caller history (set (set stakes number (Some (merged_claims mine theirs), made ++ given)) other (None, []))
  apart_merged may caller history a =
      let s = merged-total (spares caller) in
      let m = merged-total (mains caller) in
      let w = merged-total (workers caller) in
      let e = both_spare caller mine.spare theirs.spare may.one_spare in
      apart_by caller history stakes _ a (omega arith) (omega arith) (λ _. omega arith)

-- the lowest spare number is no longer spare once it is handed on
next_spare : (caller spare : ℕ) → 0 < spare → spare < 2 ^ 32 → one_where (nat_le 4294967296 (caller + (spare - 1))) + one_where (nat_eq (4294967296 - spare) caller) ≤ one_where (nat_le 4294967296 (caller + spare))
next_spare caller spare left_over few = at (nat_le 4294967296 (caller + (spare - 1))) (nat_eq (4294967296 - spare) caller) (nat_le 4294967296 (caller + spare)) refl refl refl
  where
    at : (t u v : Bool) → nat_le 4294967296 (caller + (spare - 1)) ≡ t → nat_eq (4294967296 - spare) caller ≡ u → nat_le 4294967296 (caller + spare) ≡ v
        → one_where t + one_where u ≤ one_where v
    at false false v p q r = omega arith
    at true false true p q r = omega arith
    at false true true p q r = omega arith
    at true true v p q r = absurd (omega (arith, leb-true _ _ p, eqb-true _ _ q))
    at true u false p q r = absurd (omega (arith, leb-true _ _ p, leb-false _ _ r))
    at false true false p q r = absurd (omega (arith, leb-false _ _ r, eqb-true _ _ q))

-- no number below 2^32 is spare of a seat without spare numbers
pub none_spare : (caller : ℕ) → caller < 2 ^ 32 → one_where (nat_le 4294967296 (caller + 0)) ≡ 0
none_spare caller h = at (nat_le 4294967296 (caller + 0)) refl
  where
    at : (t : Bool) → nat_le 4294967296 (caller + 0) ≡ t → one_where t ≡ 0
    at true e = absurd (omega (arith, leb-true _ _ e))
    at false e = refl

-- after a cut
module _ (stakes : List SizeStake) (number : ℕ) (claims : ClaimsView) (made : List SizeEntry) (here : get_elem? stakes number ≡ some (Some claims, made)) where
  pub parted-total : (left right : ClaimsView) (f : SizeStake → ℕ) → total f (set stakes number (Some left, made) ++ (Some right, []) ∷ []) + f (Some claims, made) ≡ total f stakes + f (Some left, made) + f (Some right, [])
  parted-total left right f =
      let t : total f (set stakes number (Some left, made)) + f (Some claims, made) ≡ total f stakes + f (Some left, made) = total-set f stakes number (Some claims, made) (Some left, made) here in
      let a : total f (set stakes number (Some left, made) ++ (Some right, []) ∷ []) ≡ total f (set stakes number (Some left, made)) + (f (Some right, []) + 0) =
      total-append f (set stakes number (Some left, made)) ((Some right, []) ∷ []) in
      omega arith

  -- another seat of a caller has its number, and no spare one
  pub apart_with_same : (caller : ℕ) (history : List SizeEntry) → caller < 2 ^ 32 → IsApart caller history stakes
      → IsApart caller history (set stakes number (Some claims, made) ++ (Some (same_claims claims), []) ∷ [])
  apart_with_same caller history h a =
      let s = parted-total claims (same_claims claims) (spares caller) in
      let m = parted-total claims (same_claims claims) (mains caller) in
      let w = parted-total claims (same_claims claims) (workers caller) in
      let z = none_spare caller h in
      let one : workers caller (Some claims, made) ≤ total (workers caller) stakes = total-at (workers caller) stakes number (Some claims, made) here in
      apart_by caller history stakes _ a (omega arith) (omega arith) (λ more. let u = a.unused (omega arith) in omega arith)

  -- a new caller has the lowest spare number, which no seat had
  pub apart_with_next : (caller : ℕ) (history : List SizeEntry) → 0 < claims.spare → claims.spare < 2 ^ 32 → caller < 2 ^ 32 → IsApart caller history stakes
      → IsApart caller history (set stakes number (Some (rest_claims claims), made) ++ (Some (next_claims claims), []) ∷ [])
  apart_with_next caller history left_over few h a =
      let s = parted-total (rest_claims claims) (next_claims claims) (spares caller) in
      let m = parted-total (rest_claims claims) (next_claims claims) (mains caller) in
      let w = parted-total (rest_claims claims) (next_claims claims) (workers caller) in
      let z = none_spare caller h in
      let n = next_spare caller claims.spare left_over few in
      let o = a.one in
      apart_by caller history stakes _ a (omega arith) (omega arith) (λ more. omega arith)
