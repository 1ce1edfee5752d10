-- A shelf starts, is looked at, and its owner gives errands away: the rule holds.
use Rattle.std.proofs.Common.{◌≡◌, ◌≢◌, ℕ, zero, suc, ◌+◌, ◌-◌, ◌<◌, ◌≤◌, eqb, true, List, [], ◌∷◌, ◌++◌, length, map, set, replicate, Option, Some, None, refl, sym, ap, ◌∙◌, subst, ⊎_elim, arith, length-set}
use Rattle.std.specs.Prelude.{slice_index}
use Rattle.std.proofs.lemmas.Bool.Decides.{nat_tests}
use mathlib.Core.Option.{some, none, some-injective, some-ne-none}
use lib.ListN.{get_elem?}
use Rattle.atomic_table.specs.Table.{Me, keeps, opening, Allows, Splits}
use Rattle.atomic_table.proofs.Lists.{at_snoc, at_longer, set_else}
use Rattle.fault_device.specs.declared.lane.Done.{Done}
use Rattle.turn_cell.specs.Stakes.{total}
use Rattle.turn_cell.proofs.Sums.{total-set, total-append, total-at}
use Rattle.turn_cell.proofs.Stakes.{set-there, map-there}
use Rattle.bio_pages.specs.declared.bio.Bio.{Bio}
use Rattle.bio_pages.specs.declared.errand.Errand.{Errand}
use Rattle.bio_pages.specs.declared.errand.Doing.TheVariants.{Idle, Waiting}
use Rattle.bio_pages.specs.declared.errand.Known.{Known}
use Rattle.bio_pages.specs.ShelfRule.{amount_of, waits, moves, waiting_at, moving_at, Follows, FitsSeat, FitsSlot, Shelved}
use Rattle.bio_pages.specs.ShelfSteps.{first_known, lender, sent_out, looked_at, IsAtRest}
use Rattle.bio_pages.proofs.ShelfSums.{never, owner-idle, words-set, word-is, all-set, there-too, at-replicate, Home, at-here, at-else, follows-else, waiting-set, moving-set, slot-same, slots-at}

same-number : (n m : ℕ) → eqb n m ≡ true → n ≡ m
same-number n m e = grind (arith, nat_tests)

as-long : {A B C : Type 0} (f : A → B) (a : A) (c : C) (n : ℕ) → length (replicate n c) ≡ length (map f (replicate n a))
as-long f a c zero = refl
as-long f a c (suc n) = ap suc (as-long f a c n)

module _ {T : Type 0} where
  waits-for : {e : Errand T} → Idle ≡ Waiting e → ⊥
  waits-for e = cc

  first-fits : (slots number : ℕ) (v : Known T) → get_elem? (first_known slots ∷ []) number ≡ some v → FitsSeat (replicate slots None) (total amount_of (first_known {T = T} slots ∷ [])) number v
  first-fits slots zero v at =
      subst (FitsSeat (replicate slots None) (total amount_of (first_known {T = T} slots ∷ [])) 0) (some-injective (first_known slots) v at)
      (record { owner = λ z. refl; last = λ e. absurd (never e); follows = tt })
  first-fits slots (suc number) v at = absurd (some-ne-none v (sym at))

  -- the table of a new shelf meets the rule
  pub starts : (slots : ℕ) → Shelved {T = T} (opening (9223372036854775808 ∷ []) (replicate slots None) (first_known slots))
  starts slots = record {
    notes = replicate slots None;
    word = refl;
    small = omega arith;
    sized = as-long some None None slots;
    seats = first-fits slots;
    slots = λ k note home a b.
        let is : None ≡ note = at-replicate slots k None note a in
        let there = map-there some (replicate slots None) k home b in
        let empty : some None ≡ home = ap some (at-replicate slots k None there.0 there.1) ∙ there.2 in
        subst (λ (p : Option (Bio T) × Home T). FitsSlot (first_known slots ∷ []) k p.0 p.1) (λ i. (is i, empty i)) (record { counted = refl; out = refl; bio = tt });
  }

  -- whatever the table is, a look keeps the rule
  pub looks : (slots id : ℕ) (me : Me (Option (Bio T × Done)) (Known T)) → Allows Shelved slots id me 0 (λ n. n) (λ n w. w ≡ (looked_at n me.0, me.1))
  looks slots id me s r len at below =
      let n : ℕ = slice_index s.words 0 in
      let v : Known T = me.0 in
      let w : Known T = looked_at n v in
      let all : ℕ = total amount_of s.views in
      let word : n ≡ all = word-is s.words all r.word in
      let same : total amount_of (set s.views id w) ≡ all = let t : total amount_of (set s.views id w) + v.amount ≡ all + v.amount = total-set amount_of s.views id v w at in omega arith in
      let fit = r.seats id v at in (
        w,
        keeps,
        tt,
        record {
          notes = r.notes;
          word = words-set s.words all n (total amount_of (set s.views id w)) r.word (word ∙ sym same);
          small = (let h = r.small in omega arith);
          sized = r.sized;
          seats = all-set (FitsSeat r.notes (total amount_of (set s.views id w))) s.views id w
              (record { owner = fit.owner; last = λ e. same ∙ sym word ∙ same-number n v.amount e; follows = fit.follows })
              (λ j u _ there. subst (λ x. FitsSeat r.notes x j u) (sym same) (r.seats j u there));
          slots = λ k note home a b. slot-same s.views id v w k note home at refl refl (r.slots k note home a b);
        },
        refl,
      )

  -- the owner may give one of its amount, and an errand to a slot that is not noted, to a new seat
  pub splits : (id : ℕ) (e : Errand T) (v : Known T) → id ≡ 0 → IsAtRest v.doing → get_elem? v.noted e.slot ≡ some None → 0 < v.amount → Splits Shelved id v (lender (Some e) v) (sent_out (Some e))
  splits id e v first rests free enough s r at =
      let a : Known T = lender (Some e) v in
      let b : Known T = sent_out (Some e) in
      let k : ℕ = e.slot in
      let views : List (Known T) = set s.views id a in
      let all : ℕ = total amount_of s.views in
      let fit = r.seats id v at in
      let idle : v.doing ≡ Idle = owner-idle id v.amount r.notes v.doing fit.follows rests first in
      let notes : List (Option (Bio T)) = set r.notes k (Some e.bio) in
      let noted_at : get_elem? r.notes k ≡ some None = ap (λ l. get_elem? l k) (sym (fit.owner first)) ∙ free in
      let home = there-too r.notes s.homes k None r.sized noted_at in
      let slot = r.slots k None home.0 noted_at home.1 in
      let same : total amount_of (views ++ b ∷ []) ≡ all =
      let t : total amount_of views + v.amount ≡ all + (v.amount - 1) = total-set amount_of s.views id v a at in
      let u : total amount_of (views ++ b ∷ []) ≡ total amount_of views + (1 + 0) = total-append amount_of views (b ∷ []) in omega arith in
      let out : (j : ℕ) (u : Known T) → get_elem? s.views j ≡ some u → (waits k u.doing ≡ 0) × (moves k u.doing ≡ 0) =
      λ j u there.
      let c = slot.counted in
      let x : waits k u.doing ≤ total (waiting_at k) s.views = total-at (waiting_at k) s.views j u there in
      let y : moves k u.doing ≤ total (moving_at k) s.views = total-at (moving_at k) s.views j u there in ((omega arith), (omega arith)) in
      let begin : get_elem? (views ++ b ∷ []) 0 ≡ some a = at_longer views (b ∷ []) 0 a (ap (get_elem? views) (sym first) ∙ set-there s.views id v a at) in
      let none_new : (j : ℕ) (u : Known T) → get_elem? (views ++ b ∷ []) j ≡ some u → b ≡ u → j ≢ 0 =
      λ j u there is z. let same : a ≡ u = some-injective a u (sym begin ∙ ap (get_elem? (views ++ b ∷ [])) (sym z) ∙ there) in waits-for (sym idle ∙ ap (λ (x : Known T). x.doing) (same ∙ sym is)) in
      let waiting : (j : ℕ) → total (waiting_at j) (views ++ b ∷ []) ≡ total (waiting_at j) views + (waits j (Waiting e) + 0) = λ j. total-append (waiting_at j) views (b ∷ []) in
      let moving : (j : ℕ) → total (moving_at j) (views ++ b ∷ []) ≡ total (moving_at j) views + (0 + 0) = λ j. total-append (moving_at j) views (b ∷ []) in
      record {
        notes = notes;
        word = r.word ∙ ap (λ n. n ∷ []) (sym same);
        small = (let h = r.small in omega arith);
        sized = length-set r.notes k (Some e.bio) ∙ r.sized;
        seats = λ j u there. ⊎_elim
            (λ (was : get_elem? views j ≡ some u). all-set (FitsSeat notes (total amount_of (views ++ b ∷ []))) s.views id a
            (record { owner = λ z. ap (λ l. set l k (Some e.bio)) (fit.owner z); last = λ l. absurd (never l); follows = subst (Follows notes id a.amount) (sym idle) tt })
            (λ i x ne before. let f = r.seats i x before in let o = out i x before in
            record { owner = λ z. absurd (ne (z ∙ sym first)); last = λ l. same ∙ f.last l; follows = follows-else k i x.amount r.notes (Some e.bio) x.doing f.follows o.0 o.1 })
            j u was)
            (λ (is : b ≡ u). subst (FitsSeat notes (total amount_of (views ++ b ∷ [])) j) is
            (record { owner = λ z. absurd (none_new j u there is z); last = λ l. absurd (never l); follows = (refl, none_new j u there is, set-there r.notes k None (Some e.bio) noted_at) }))
            (at_snoc views b u j there);
        slots = slots-at (views ++ b ∷ []) notes s.homes k (Some e.bio) home.0 (set-there r.notes k None (Some e.bio) noted_at) home.1
            (let w = waiting k in
            let m = moving k in
            let one = at-here k e refl in
            let c = slot.counted in
            let d = slot.out in
            let x = waiting-set k s.views id v a at in
            let y = moving-set k s.views id v a at in
            record { counted = omega arith; out = omega arith; bio = nothing home.0 (omega arith) })
            (λ j note h ne n_at h_at.
            let f = slot-same s.views id v a j note h at refl refl (r.slots j note h (sym (set_else r.notes k j (Some e.bio) ne) ∙ n_at) h_at) in
            let w = waiting j in
            let m = moving j in
            let none_here = at-else j e (λ z. ne (sym z)) in
            let c = f.counted in
            let d = f.out in
            record { counted = omega arith; out = omega arith; bio = f.bio });
      }
    where
      nothing : (h : Home T) → Rattle.bio_pages.specs.ShelfRule.full h ≡ 0 → Rattle.bio_pages.specs.ShelfRule.HasItsBio (Some e.bio) h
      nothing none f = tt
      nothing (some None) f = tt
      nothing (some (Some p)) f = absurd (omega arith)
