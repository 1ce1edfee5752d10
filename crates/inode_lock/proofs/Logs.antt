-- One step more in the log of a lock, and in what its seat knows.
use Rattle.std.proofs.Common.{◌≡◌, ◌≢◌, ℕ, zero, suc, ◌+◌, ◌≤◌, true, List, [], ◌∷◌, ◌++◌, length, set, sym, refl, ap, subst, arith, length-append, Option, ⊎_elim}
use mathlib.Core.Option.{some, some-injective, some-ne-none}
use lib.ListN.{get_elem?}
use Rattle.std.specs.Prelude.{if◌then◌else◌}
use Rattle.std.proofs.lemmas.List.{map-append}
use Rattle.atomic_table.proofs.Lists.{at_set, at_snoc}
use Rattle.inode_lock.specs.declared.word.Class.{Class}
use Rattle.inode_lock.specs.declared.steps.Step.{Step}
use Rattle.inode_lock.specs.declared.steps.Step.TheVariants.{Split}
use Rattle.inode_lock.specs.declared.steps.Placed.{Placed}
use Rattle.inode_lock.specs.declared.steps.Known.{Known}
use Rattle.inode_lock.specs.Steps.{placed, after_step, IsAfter, newcomer, forked}
use Rattle.inode_lock.specs.Log.{Leads, IsLog, is_at_word, weights, all_weights, AreInOrder, IsLogged}

pub is_after : (v : Known) (now : Option Class) (place : ℕ) (s : Step) → IsAfter v now s (after_step v now place s)
is_after v now place s = (refl, map-append (λ (p : Placed). p.step) v.steps (placed place s ∷ []))

leads_on : (at word last next : ℕ) (ps : List Placed) (s : Step) (k : ℕ) → k ≡ at + length ps → IsLog at word ps last → Leads s last next → IsLog at word (ps ++ placed k s ∷ []) next
leads_on at word last next [] s k is h step = (next, omega arith, subst (λ (n : ℕ). Leads s n next) h step, refl)
leads_on at word last next (p ∷ ps) s k is h step = (h.0, h.1, h.2, leads_on (at + 1) h.0 last next ps s k (omega arith) h.3 step)

weights-append : (f : Placed → ℕ) (xs ys : List Placed) → weights f (xs ++ ys) ≡ weights f xs + weights f ys
weights-append f [] ys = omega arith
weights-append f (x ∷ xs) ys = let r = weights-append f xs ys in omega arith

all_weights-set : (f : Placed → ℕ) (l : List Known) (i : ℕ) (v w : Known) → get_elem? l i ≡ some v → all_weights f (set l i w) + weights f v.steps ≡ all_weights f l + weights f w.steps
all_weights-set f [] i v w e = absurd (some-ne-none v (sym e))
all_weights-set f (x ∷ xs) zero v w e = let is : weights f x.steps ≡ weights f v.steps = ap (λ (m : Known). weights f m.steps) (some-injective x v e) in omega arith
all_weights-set f (x ∷ xs) (suc i) v w e = let r = all_weights-set f xs i v w e in omega arith

all_weights-snoc : (f : Placed → ℕ) (l : List Known) (v : Known) → all_weights f (l ++ v ∷ []) ≡ all_weights f l + weights f v.steps
all_weights-snoc f [] v = omega arith
all_weights-snoc f (x ∷ xs) v = let r = all_weights-snoc f xs v in omega arith

-- a step at the word in the next place, and a split
in_order-next : (low high : ℕ) (ps : List Placed) (s : Step) → is_at_word s ≡ true → AreInOrder low high ps → AreInOrder low (high + 1) (ps ++ placed high s ∷ [])
in_order-next low high [] s at h = ((λ _. h), subst (λ b. (if b then high + 1 else low) ≤ high + 1) (sym at) (omega arith))
in_order-next low high (p ∷ ps) s at h = (h.0, in_order-next (if is_at_word p.step then p.place + 1 else low) high ps s at h.1)

in_order-split : (low high : ℕ) (ps : List Placed) → AreInOrder low high ps → AreInOrder low high (ps ++ placed 0 Split ∷ [])
in_order-split low high [] h = ((λ e. absurd (cc)), h)
in_order-split low high (p ∷ ps) h = (h.0, in_order-split (if is_at_word p.step then p.place + 1 else low) high ps h.1)

in_order-more : (low high : ℕ) (ps : List Placed) → AreInOrder low high ps → AreInOrder low (high + 1) ps
in_order-more low high [] h = omega arith
in_order-more low high (p ∷ ps) h = (h.0, in_order-more (if is_at_word p.step then p.place + 1 else low) high ps h.1)

-- what a new step makes of the log
pub logged-next : (word next id : ℕ) (views : List Known) (v : Known) (now : Option Class) (s : Step) → get_elem? views id ≡ some v → is_at_word s ≡ true → Leads s word next → (h : IsLogged word views)
    → IsLogged next (set views id (after_step v now (length h.log) s))
logged-next word next id views v now s at reads leads h =
    let k : ℕ = length h.log in
    let w : Known = after_step v now k s in
    let long : length (h.log ++ placed k s ∷ []) ≡ k + 1 = length-append h.log (placed k s ∷ []) in
    record {
      log = h.log ++ placed k s ∷ [];
      leads = leads_on 0 0 word next h.log s k (omega arith) h.leads leads;
      once = λ f.
          let a = weights-append f h.log (placed k s ∷ []) in
          let b = weights-append f v.steps (placed k s ∷ []) in
          let c = all_weights-set f views id v w at in
          let o = h.once f in
          omega arith;
      order = λ j u there. subst (λ n. AreInOrder 0 n u.steps) (sym long)
          (⊎_elim
          (λ (t : (j ≡ id) × (w ≡ u)). subst (λ (x : Known). AreInOrder 0 (k + 1) x.steps) t.1 (in_order-next 0 k v.steps s reads (h.order id v at)))
          (λ (t : (j ≢ id) × (get_elem? views j ≡ some u)). in_order-more 0 k u.steps (h.order j u t.1))
          (at_set views id j w u there));
    }

-- a split is in no log, and a new seat has made no step
pub logged-split : (word id : ℕ) (views : List Known) (v : Known) → get_elem? views id ≡ some v → IsLogged word views → IsLogged word (set views id (forked v) ++ newcomer ∷ [])
logged-split word id views v at h = record {
  log = h.log;
  leads = h.leads;
  once = λ f.
      let a = weights-append f v.steps (placed 0 Split ∷ []) in
      let b = all_weights-set f views id v (forked v) at in
      let c = all_weights-snoc f (set views id (forked v)) newcomer in
      let o = h.once f in
      omega arith;
  order = λ j u there. ⊎_elim
      (λ (t : get_elem? (set views id (forked v)) j ≡ some u). ⊎_elim
      (λ (e : (j ≡ id) × (forked v ≡ u)). subst (λ (x : Known). AreInOrder 0 (length h.log) x.steps) e.1 (in_order-split 0 (length h.log) v.steps (h.order id v at)))
      (λ (e : (j ≢ id) × (get_elem? views j ≡ some u)). h.order j u e.1)
      (at_set views id j (forked v) u t))
      (λ t. subst (λ (x : Known). AreInOrder 0 (length h.log) x.steps) t (omega arith))
      (at_snoc (set views id (forked v)) newcomer u j there);
}
