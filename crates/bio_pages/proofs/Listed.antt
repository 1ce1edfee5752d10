-- How a list of bios is turned round, and how what its transfers did is told.
use Rattle.std.proofs.Common.{◌≡◌, ℕ, zero, suc, ◌<◌, ◌≤◌, Bool, true, false, not, List, [], ◌∷◌, ◌++◌, All, take, drop, get_or, length, refl, sym, ap, ◌∙◌, subst, inl, arith, append_assoc, append-nil}
use Rattle.std.proofs.lemmas.List.Elements.{All-head, All-nil, All-push, All-tail}
use mathlib.Core.Option.{some, some-injective, some-ne-none}
use lib.ListN.{get_elem?}
use Rattle.atomic_table.proofs.Lists.{drop_at}
use Rattle.fault_device.specs.LaneView.{LaneView}
use Rattle.fault_device.specs.Transfer.{Tells}
use Rattle.fault_device.specs.declared.lane.Done.{Done}
use Rattle.bio_pages.specs.declared.bio.Bio.{Bio}
use Rattle.bio_pages.specs.Lists.{AreApart, AreRun, IsApart, IsOwn, OwnFailures, Turned}
use Rattle.bio_pages.specs.Running.{IsRun}

all-less : {A : Type 0} (P Q : A → Type 0) → ((a : A) → P a → Q a) → (xs : List A) → All P xs → All Q xs
all-less P Q f xs h k d lt = f _ (h k d lt)

own-later : (number then now now' : ℕ) (d : Done) → now ≤ now' → IsOwn number then now d → IsOwn number then now' d
own-later number then now now' d le is failed = let t = is failed in let u = t.2 in (t.0, t.1, omega arith)

apart-more : (ds : List Done) (d : Done) → AreApart ds → All (λ e. IsApart e d) ds → AreApart (ds ++ d ∷ [])
apart-more [] d a b = (All-nil (IsApart d), tt)
apart-more (e ∷ ds) d a b = (All-push (IsApart e) ds d a.0 (All-head (λ x. IsApart x d) e ds b), apart-more ds d a.1 (All-tail (λ x. IsApart x d) e ds b))

pub not-both : (b : Bool) → not b ≡ true → b ≡ true → ⊥
not-both true a b = cc
not-both false a b = cc

pub not-not : (b : Bool) → not b ≡ false → b ≡ true
not-not true a = refl
not-not false a = absurd (cc)

-- the count has not fallen since
pub own-on : (number then now now' : ℕ) (ds : List Done) → now ≤ now' → OwnFailures number then now ds → OwnFailures number then now' ds
own-on number then now now' ds le x = record { own = all-less (IsOwn number then now) (IsOwn number then now') (λ d. own-later number then now now' d le) ds x.own; apart = x.apart }

-- one more that is of this lane and apart from the others
pub own-more : (number then now : ℕ) (ds : List Done) (d : Done) → OwnFailures number then now ds → IsOwn number then now d → All (λ e. IsApart e d) ds → OwnFailures number then now (ds ++ d ∷ [])
own-more number then now ds d x is apart = record { own = All-push (IsOwn number then now) ds d x.own is; apart = apart-more ds d x.apart apart }

-- one more that did not fail
pub own-whole : (number then now : ℕ) (ds : List Done) (d : Done) → OwnFailures number then now ds → not d.failed ≡ true → OwnFailures number then now (ds ++ d ∷ [])
own-whole number then now ds d x is = own-more number then now ds d x (λ failed. absurd (not-both d.failed is failed)) (λ k e lt other failed. absurd (not-both d.failed is failed))

-- one more transfer of this lane, however much it moved
pub own-told : (n then landed : ℕ) (old new : LaneView) (ds : List Done) (d : Done) → then ≤ old.count → Tells n old d new → OwnFailures old.number then old.count ds → OwnFailures new.number then new.count (ds ++ record d { landed = landed } ∷ [])
own-told n then landed old new ds d le t x =
    let rises = t.ran.never_falls in
    let before = t.before in
    let after = t.after in
    let same : old.number ≡ new.number = sym t.ran.number in
    let on : OwnFailures new.number then new.count ds = subst (λ k. OwnFailures k then new.count ds) same (own-on old.number then old.count new.count ds rises x) in
    own-more new.number then new.count ds (record d { landed = landed }) on (λ failed. (t.lane ∙ same, omega arith, omega arith))
    (all-less (IsOwn old.number then old.count) (λ e. IsApart e d) (λ e is e_failed d_failed. let u = (is e_failed).2 in inl (omega arith)) ds x.own)

module _ {T : Type 0} where
  pub run-append : (ts rs bs ss : List (Bio T)) (ds es : List Done) → AreRun ts rs ds → AreRun bs ss es → AreRun (ts ++ bs) (rs ++ ss) (ds ++ es)
  run-append [] [] bs ss [] es x y = y
  run-append (a ∷ ts) (r ∷ rs) bs ss (d ∷ ds) es x y = (x.0, run-append ts rs bs ss ds es x.1 y)
  run-append [] [] bs ss (d ∷ ds) es x y = absurd x
  run-append [] (r ∷ rs) bs ss ds es x y = absurd x
  run-append (a ∷ ts) [] bs ss ds es x y = absurd x
  run-append (a ∷ ts) (r ∷ rs) bs ss [] es x y = absurd x

  pub turned-none : (left : List (Bio T)) (ds : List Done) → Turned [] left left ds ds
  turned-none left ds = record { run = []; told = []; bios = sym (append-nil left); dones = sym (append-nil ds); are_run = tt }

  -- a bio was taken in front, run, and put behind
  pub turned-next : (ts left old new : List (Bio T)) (cs ds es : List Done) (b r : Bio T) (d : Done) → Turned ts (b ∷ left) old cs ds → IsRun b r d → new ≡ drop 1 old ++ r ∷ [] → es ≡ ds ++ d ∷ [] → Turned (ts ++ b ∷ []) left new cs es
  turned-next ts left old new cs ds es b r d x is news more = record {
    run = x.run ++ r ∷ [];
    told = x.told ++ d ∷ [];
    bios = news ∙ ap (λ xs. drop 1 xs ++ r ∷ []) x.bios ∙ append_assoc left x.run (r ∷ []);
    dones = more ∙ ap (λ xs. xs ++ d ∷ []) x.dones ∙ append_assoc cs x.told (d ∷ []);
    are_run = run-append ts x.run (b ∷ []) (r ∷ []) x.told (d ∷ []) x.are_run (is, tt);
  }

  -- a bio that was run came back behind the others
  pub turned-back : (ts left old new : List (Bio T)) (cs ds es : List Done) (b r : Bio T) (d : Done) → Turned ts left old cs ds → IsRun b r d → new ≡ old ++ r ∷ [] → es ≡ ds ++ d ∷ [] → Turned (ts ++ b ∷ []) left new cs es
  turned-back ts left old new cs ds es b r d x is news more = record {
    run = x.run ++ r ∷ [];
    told = x.told ++ d ∷ [];
    bios = news ∙ ap (λ xs. xs ++ r ∷ []) x.bios ∙ append_assoc left x.run (r ∷ []);
    dones = more ∙ ap (λ xs. xs ++ d ∷ []) x.dones ∙ append_assoc cs x.told (d ∷ []);
    are_run = run-append ts x.run (b ∷ []) (r ∷ []) x.told (d ∷ []) x.are_run (is, tt);
  }

module _ {A : Type 0} where
  pub take-at : (xs : List A) (i : ℕ) (a : A) → get_elem? xs i ≡ some a → take (suc i) xs ≡ take i xs ++ a ∷ []
  take-at [] i a at = absurd (some-ne-none a (sym at))
  take-at (x ∷ xs) zero a at = ap (λ y. y ∷ []) (some-injective x a at)
  take-at (x ∷ xs) (suc i) a at = ap (λ ys. x ∷ ys) (take-at xs i a at)

  -- what is before an end is there
  pub there : (xs : List A) (i : ℕ) → i < length xs → (a : A) × (get_elem? xs i ≡ some a)
  there [] i lt = absurd (omega arith)
  there (x ∷ xs) zero lt = (x, refl)
  there (x ∷ xs) (suc i) lt = there xs i (omega arith)

  -- what is there in front is there
  pub at-take : (n : ℕ) (xs : List A) (i : ℕ) (a : A) → i < n → get_elem? xs i ≡ some a → get_elem? (take n xs) i ≡ some a
  at-take zero xs i a lt at = absurd (omega arith)
  at-take (suc n) [] i a lt at = at
  at-take (suc n) (x ∷ xs) zero a lt at = at
  at-take (suc n) (x ∷ xs) (suc i) a lt at = at-take n xs i a (omega arith) at

  -- what is taken from a list that begins so is its first item
  pub first-of : (old rest : List A) (b r : A) → old ≡ b ∷ rest → r ≡ get_or old 0 r → r ≡ b
  first-of old rest b r is got = got ∙ ap (λ l. get_or l 0 r) is

  pub front-rest : (xs old new : List A) (k j : ℕ) (b : A) → old ≡ drop k xs → get_elem? xs k ≡ some b → new ≡ drop 1 old → j ≡ suc k → new ≡ drop j xs
  front-rest xs old new k j b is at rest next = rest ∙ ap (drop 1) (is ∙ drop_at xs k b at) ∙ ap (λ n. drop n xs) (sym next)

  pub take-all : (xs : List A) (n : ℕ) → length xs ≡ n → take n xs ≡ xs
  take-all [] zero e = refl
  take-all [] (suc n) e = refl
  take-all (x ∷ xs) zero e = absurd (omega arith)
  take-all (x ∷ xs) (suc n) e = ap (λ ys. x ∷ ys) (take-all xs n (omega arith))

module _ {T : Type 0} where
  -- the first of a list whose front is left is the next of those that were to be turned
  pub head-is : (xs old : List (Bio T)) (k : ℕ) (run : List (Bio T)) (b r : Bio T) → get_elem? xs k ≡ some b → old ≡ drop k xs ++ run → r ≡ get_or old 0 r → r ≡ b
  head-is xs old k run b r at is got = first-of old (drop (suc k) xs ++ run) b r (is ∙ ap (λ l. l ++ run) (drop_at xs k b at)) got

  -- the same where the places are counted
  pub turned-here : (xs old new : List (Bio T)) (k j : ℕ) (cs ds es : List Done) (b r : Bio T) (d : Done) → get_elem? xs k ≡ some b → j ≡ suc k → Turned (take k xs) (drop k xs) old cs ds → IsRun b r d → new ≡ drop 1 old ++ r ∷ [] → es ≡ ds ++ d ∷ [] → Turned (take j xs) (drop j xs) new cs es
  turned-here xs old new k j cs ds es b r d at next x is news more =
      let y : Turned (take k xs) (b ∷ drop (suc k) xs) old cs ds = subst (λ l. Turned (take k xs) l old cs ds) (drop_at xs k b at) x in
      let z : Turned (take k xs ++ b ∷ []) (drop (suc k) xs) new cs es = turned-next (take k xs) (drop (suc k) xs) old new cs ds es b r d y is news more in
      subst (λ n. Turned (take n xs) (drop n xs) new cs es) (sym next) (subst (λ l. Turned l (drop (suc k) xs) new cs es) (sym (take-at xs k b at)) z)

  pub turned-came : (xs left old new : List (Bio T)) (k j : ℕ) (cs ds es : List Done) (b r : Bio T) (d : Done) → get_elem? xs k ≡ some b → j ≡ suc k → Turned (take k xs) left old cs ds → IsRun b r d → new ≡ old ++ r ∷ [] → es ≡ ds ++ d ∷ [] → Turned (take j xs) left new cs es
  turned-came xs left old new k j cs ds es b r d at next x is news more =
      let z : Turned (take k xs ++ b ∷ []) left new cs es = turned-back (take k xs) left old new cs ds es b r d x is news more in
      subst (λ n. Turned (take n xs) left new cs es) (sym next) (subst (λ l. Turned l left new cs es) (sym (take-at xs k b at)) z)

-- the counts of a lane after one more transfer of it, and what was told before
pub own-then : (n then first : ℕ) (old new : LaneView) (ds es : List Done) (d : Done) → then ≤ first → first ≤ old.count → Tells n old d new → OwnFailures old.number then old.count ds → es ≡ ds ++ d ∷ [] → OwnFailures new.number then new.count es
own-then n then first old new ds es d le rises t x more = subst (OwnFailures new.number then new.count) (sym more) (own-told n then d.landed old new ds d (omega arith) t x)
