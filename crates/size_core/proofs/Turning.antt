-- What each event makes of the size, of the claims and of the journal.
use Rattle.std.proofs.Common.{◌≡◌, ℕ, ◌+◌, ◌-◌, ◌≤◌, nat_eq, true, Result, Ok, Err, refl, sym, subst, arith, append-nil}
use Rattle.std.proofs.lemmas.Bool.Decides.{nat_tests}
use Rattle.std.specs.Prelude.{IfOk, OnOk, OnErr}
use Rattle.std.specs.declared.alloc.AllocError.{AllocError}
use Rattle.iob_base.specs.declared.stamp.Tag.{Tag}
use Rattle.size_core.specs.ClaimsView.{ClaimsView, with_room}
use Rattle.size_core.specs.SizesView.{SizesView, CanUse, cut_by, forgotten, grown_by, made_ready, seen_by}
use Rattle.size_core.specs.SizeTurns.{entry_by}
use Rattle.size_core.specs.declared.entry.SizeEvent.TheVariants.{See, Ready, Grow, Cut, Forget}
use Rattle.size_core.proofs.Keeping.{Steps}

same-number : (n : ℕ) → nat_eq n n ≡ true
same-number n = grind (arith, nat_tests)

module _ (value : SizesView) (claims : ClaimsView) (within : value.size ≤ value.end) where
  pub sees : (by : Tag) (next : SizesView) (out : Result ℕ AllocError) → IfOk out (λ found. (found ≡ value.size) × (next ≡ seen_by by value)) → OnErr out (next ≡ value)
      → Steps value next claims claims.rooms (entry_by claims (See by out))
  sees by next (Ok found) ok err =
      let P : ℕ → Type 0 = λ n. Steps value (seen_by by value) claims claims.rooms (entry_by claims (See by (Ok n))) in
      let N : SizesView → Type 0 = λ s. Steps value s claims claims.rooms (entry_by claims (See by (Ok found))) in
      subst N (sym ok.1) (subst P (sym ok.0) (record { end = refl; within = within; stamps = refl; size = refl; finds = rw (same-number value.size) refl; rooms = refl; caller = refl }))
  sees by next (Err e) ok err =
      let N : SizesView → Type 0 = λ s. Steps value s claims claims.rooms (entry_by claims (See by (Err e))) in
      subst N (sym err) (record { end = refl; within = within; stamps = sym (append-nil value.stamps); size = refl; finds = refl; rooms = refl; caller = refl })

  readies : (answer : Result (Unit {0}) AllocError) → Steps value (made_ready value) claims (claims.rooms + 1) (entry_by claims (Ready answer))
  readies answer = record { end = refl; within = within; stamps = sym (append-nil value.stamps); size = refl; finds = refl; rooms = omega arith; caller = refl }

  stays : (answer : Result (Unit {0}) AllocError) → Steps value value claims claims.rooms (entry_by claims (Ready answer))
  stays answer = record { end = refl; within = within; stamps = sym (append-nil value.stamps); size = refl; finds = refl; rooms = refl; caller = refl }

  -- whatever is kept by both answers is kept
  pub ready-either : (T : SizesView × ClaimsView → Type 0) (next : SizesView) (left : ClaimsView) (out : Result (Unit {0}) AllocError)
      → OnOk out ((next ≡ made_ready value) × (left ≡ with_room claims)) → OnErr out ((next ≡ value) × (left ≡ claims))
      → ((next : SizesView) (rooms : ℕ) → Steps value next claims rooms (entry_by claims (Ready out)) → T (next, record claims { rooms = rooms })) → T (next, left)
  ready-either T next left (Ok done) ok err keeps = subst T (λ i. (sym ok.0 i, sym ok.1 i)) (keeps (made_ready value) (claims.rooms + 1) (readies (Ok done)))
  ready-either T next left (Err e) ok err keeps = subst T (λ i. (sym err.0 i, sym err.1 i)) (keeps value claims.rooms (stays (Err e)))

  pub grows : (by : Tag) (to : ℕ) → CanUse value claims → to ≤ value.end → Steps value (grown_by by to value) claims (claims.rooms - 1) (entry_by claims (Grow by to))
  grows by to can fits = record {
    end = refl;
    within = omega arith;
    stamps = refl;
    size = refl;
    finds = refl;
    rooms = let s = can.some in let p = can.promised in omega arith;
    caller = refl;
  }

  pub cuts : (by : Tag) (to : ℕ) → CanUse value claims → to ≤ value.end → Steps value (cut_by by to value) claims (claims.rooms - 1) (entry_by claims (Cut by to))
  cuts by to can fits = record {
    end = refl;
    within = fits;
    stamps = refl;
    size = refl;
    finds = refl;
    rooms = let s = can.some in let p = can.promised in omega arith;
    caller = refl;
  }

  pub forgets : CanUse value claims → Steps value (forgotten value) claims (claims.rooms - 1) (entry_by claims Forget)
  forgets can = record {
    end = refl;
    within = within;
    stamps = sym (append-nil value.stamps);
    size = refl;
    finds = refl;
    rooms = let s = can.some in let p = can.promised in omega arith;
    caller = refl;
  }
