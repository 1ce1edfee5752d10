-- What the calls add to a seat's list of steps.
use Rattle.std.proofs.Common.{◌≡◌, ℕ, ◌+◌, List, [], ◌∷◌, ◌++◌, Bool, true, false, cond, sym, refl, ap, ◌∙◌, arith, append_assoc, append-nil}
use Rattle.inode_lock.specs.declared.word.Class.{Class}
use Rattle.inode_lock.specs.declared.steps.Step.{Step}
use Rattle.inode_lock.specs.declared.steps.Step.TheVariants.{Look, Take, Leave}
use Rattle.inode_lock.specs.Word.{excludes}
use Rattle.inode_lock.specs.Calls.{granted_steps, refused_steps, tries_steps}
use Rattle.inode_lock.specs.Growth.{takes_of, leaves_of, Grows, never, once, GrantTakesOnce, WinTakesOnce, RefusalTakesNothing, LeaveLeavesOnce, HoldTakesAndLeaves, StayGrowsNothing, GrowthAdds}

takes_of-append : (c : Class) (xs ys : List Step) → takes_of c (xs ++ ys) ≡ takes_of c xs + takes_of c ys
takes_of-append c [] ys = omega arith
takes_of-append c (x ∷ xs) ys = let r = takes_of-append c xs ys in omega arith

leaves_of-append : (c : Class) (xs ys : List Step) → leaves_of c (xs ++ ys) ≡ leaves_of c xs + leaves_of c ys
leaves_of-append c [] ys = omega arith
leaves_of-append c (x ∷ xs) ys = let r = leaves_of-append c xs ys in omega arith

-- a refused try takes and leaves nothing, whether its look shut it out or its take was refused
takes_of-refused : (b : Bool) (c d : Class) (read found : ℕ) → takes_of d (cond b (Look read ∷ []) (Look read ∷ Take c found false ∷ [])) ≡ 0
takes_of-refused true c d read found = refl
takes_of-refused false c d read found = refl

leaves_of-refused : (b : Bool) (c d : Class) (read found : ℕ) → leaves_of d (cond b (Look read ∷ []) (Look read ∷ Take c found false ∷ [])) ≡ 0
leaves_of-refused true c d read found = refl
leaves_of-refused false c d read found = refl

takes_of-tries : (c d : Class) (ts : List (ℕ × ℕ)) → takes_of d (tries_steps c ts) ≡ 0
takes_of-tries c d [] = refl
takes_of-tries c d (t ∷ ts) =
    let one = takes_of-refused (excludes c t.0) c d t.0 t.1 in
    let rest = takes_of-tries c d ts in
    let both = takes_of-append d (refused_steps c t.0 t.1) (tries_steps c ts) in
    omega arith

leaves_of-tries : (c d : Class) (ts : List (ℕ × ℕ)) → leaves_of d (tries_steps c ts) ≡ 0
leaves_of-tries c d [] = refl
leaves_of-tries c d (t ∷ ts) =
    let one = leaves_of-refused (excludes c t.0) c d t.0 t.1 in
    let rest = leaves_of-tries c d ts in
    let both = leaves_of-append d (refused_steps c t.0 t.1) (tries_steps c ts) in
    omega arith

pub growth_adds : GrowthAdds
growth_adds xs ys zs t l u m n o p q sum sum' = record {
  more = p.more ++ q.more;
  steps = q.steps ∙ (ap (λ (s : List Step). s ++ q.more) p.steps ∙ append_assoc xs p.more q.more);
  takes = λ c. let a = p.takes c in let b = q.takes c in let s = takes_of-append c p.more q.more in let e = sum c in omega arith;
  leaves = λ c. let a = p.leaves c in let b = q.leaves c in let s = leaves_of-append c p.more q.more in let e = sum' c in omega arith;
}

pub stay_grows_nothing : StayGrowsNothing
stay_grows_nothing xs = record { more = []; steps = sym (append-nil xs); takes = λ c. refl; leaves = λ c. refl }

pub grant_takes_once : GrantTakesOnce
grant_takes_once c v w h = record {
  more = granted_steps c h.0;
  steps = ap (λ u. u.steps) h.2;
  takes = λ d. omega arith;
  leaves = λ d. refl;
}

pub refusal_takes_nothing : RefusalTakesNothing
refusal_takes_nothing c v w read found h = record {
  more = refused_steps c read found;
  steps = ap (λ u. u.steps) h.1;
  takes = λ d. takes_of-refused (excludes c read) c d read found;
  leaves = λ d. leaves_of-refused (excludes c read) c d read found;
}

pub win_takes_once : WinTakesOnce
win_takes_once c v w h =
    let tried : Grows v.steps h.0.steps never never =
    record {
      more = tries_steps c h.1.0;
      steps = ap (λ u. u.steps) h.1.2;
      takes = λ d. takes_of-tries c d h.1.0;
      leaves = λ d. leaves_of-tries c d h.1.0;
    } in
    let granted = grant_takes_once c h.0 w h.2 in
    growth_adds v.steps h.0.steps w.steps never never (once c) never (once c) never tried granted (λ d. omega arith) (λ d. omega arith)

pub leave_leaves_once : LeaveLeavesOnce
leave_leaves_once c v w h = record {
  more = Leave c h.0 ∷ [];
  steps = ap (λ u. u.steps) h.3;
  takes = λ d. refl;
  leaves = λ d. omega arith;
}

pub hold_takes_and_leaves : HoldTakesAndLeaves
hold_takes_and_leaves c v h w won left =
    growth_adds v.steps h.steps w.steps (once c) never never (once c) (once c) (once c) (win_takes_once c v h won) (leave_leaves_once c h w left) (λ d. omega arith) (λ d. omega arith)
