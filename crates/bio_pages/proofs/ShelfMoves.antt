-- A slot is filled or emptied, and the rule of a shelf holds.
use Rattle.std.proofs.Common.{◌≡◌, ◌≢◌, ℕ, ◌+◌, ◌-◌, ◌%◌, ◌^◌, ◌≤◌, true, List, [], ◌∷◌, set, Option, Some, None, refl, sym, ap, ◌∙◌, subst, arith, length-set}
use Rattle.std.specs.Prelude.{slice_index}
use mathlib.Core.Option.{some, none}
use lib.ListN.{get_elem?}
use Rattle.atomic_table.specs.Table.{takes, gives, Allows}
use Rattle.atomic_table.proofs.Lists.{set_else}
use Rattle.fault_device.specs.declared.lane.Done.{Done}
use Rattle.turn_cell.specs.Stakes.{total}
use Rattle.turn_cell.proofs.Sums.{total-set, total-at, total-two, total-sole, total-alone}
use Rattle.turn_cell.proofs.Stakes.{set-there}
use Rattle.bio_pages.specs.declared.bio.Bio.{Bio}
use Rattle.bio_pages.specs.declared.errand.Errand.{Errand}
use Rattle.bio_pages.specs.declared.errand.Doing.TheVariants.{Idle, Waiting, Filling, Picking}
use Rattle.bio_pages.specs.declared.errand.Known.{Known}
use Rattle.bio_pages.specs.Running.{IsRun}
use Rattle.bio_pages.specs.ShelfRule.{errand_to, amount_of, waits, moves, waiting_at, moving_at, HasItsBio, Follows, FitsSeat, Shelved}
use Rattle.bio_pages.specs.ShelfSteps.{filling, counted_down, picking, emptied, IsAtRest, Picked}
use Rattle.bio_pages.proofs.ShelfSums.{never, owner-idle, words-set, word-is, all-set, there-too, at-here, at-else, home-empty, home-full, quiet, follows-else, waiting-set, moving-set, slot-same, slots-at}

module _ {T : Type 0} where
  -- a seat may take the slot of its errand, which is empty
  pub fills : (slots id : ℕ) (e : Errand T) (v : Known T) → v.doing ≡ Waiting e → Allows Shelved slots id (v, []) 0 (λ n. n) (λ n w. w ≡ (filling e v, (e.slot, None) ∷ []))
  fills slots id e v is s r len at below =
      let n : ℕ = slice_index s.words 0 in
      let k : ℕ = e.slot in
      let w : Known T = filling e v in
      let all : ℕ = total amount_of s.views in
      let word : n ≡ all = word-is s.words all r.word in
      let same : total amount_of (set s.views id w) ≡ all = let t : total amount_of (set s.views id w) + v.amount ≡ all + v.amount = total-set amount_of s.views id v w at in omega arith in
      let fit = r.seats id v at in
      let errand : Follows r.notes id v.amount (Waiting e) = subst (Follows r.notes id v.amount) is fit.follows in
      let home = there-too r.notes s.homes k (Some e.bio) r.sized errand.2 in
      let slot = r.slots k (Some e.bio) home.0 errand.2 home.1 in
      let c = slot.counted in
      let d = slot.out in
      let one : waits k v.doing ≡ 1 = ap (waits k) is ∙ at-here k e refl in
      let none_moved : moves k v.doing ≡ 0 = ap (moves k) is in
      let most : waits k v.doing ≤ total (waiting_at k) s.views = total-at (waiting_at k) s.views id v at in
      let empty : home.0 ≡ some None = home-empty home.0 (omega arith) (omega arith) in (
        w,
        takes k None,
        home.1 ∙ ap some empty,
        record {
          notes = r.notes;
          word = words-set s.words all n (total amount_of (set s.views id w)) r.word (word ∙ sym same);
          small = (let h = r.small in omega arith);
          sized = r.sized ∙ sym (length-set s.homes k none);
          seats = all-set (FitsSeat r.notes (total amount_of (set s.views id w))) s.views id w
              (record { owner = fit.owner; last = λ l. same ∙ fit.last l; follows = errand })
              (λ j u _ there. subst (λ x. FitsSeat r.notes x j u) (sym same) (r.seats j u there));
          slots = slots-at (set s.views id w) r.notes (set s.homes k none) k (Some e.bio) none errand.2 (set-there s.homes k home.0 none home.1)
              (let x = waiting-set k s.views id v w at in
              let y = moving-set k s.views id v w at in
              let z = at-here k e refl in
              record { counted = omega arith; out = omega arith; bio = tt })
              (λ j note h ne n_at h_at. slot-same s.views id v w j note h at
              (sym (ap (waits j) is ∙ at-else j e (λ z. ne (sym z)))) (at-else j e (λ z. ne (sym z)) ∙ sym (ap (moves j) is))
              (r.slots j note h n_at (sym (set_else s.homes k j none ne) ∙ h_at)));
        },
        refl,
      )

  -- a seat that has filled its slot with the bio of its errand, after its transfer, may give the slot back and count down
  pub counts : (slots id : ℕ) (e : Errand T) (v : Known T) (p : Bio T × Done) → v.doing ≡ Filling e → IsRun e.bio p.0 p.1
      → Allows Shelved slots id (v, (e.slot, Some p) ∷ []) 0 (λ n. (n + (2 ^ 64 - 1)) % 2 ^ 64) (λ n w. w ≡ (counted_down n v, []))
  counts slots id e v p is run s r len at below =
      let n : ℕ = slice_index s.words 0 in
      let m : ℕ = (n + (2 ^ 64 - 1)) % 2 ^ 64 in
      let k : ℕ = e.slot in
      let w : Known T = counted_down n v in
      let all : ℕ = total amount_of s.views in
      let word : n ≡ all = word-is s.words all r.word in
      let fit = r.seats id v at in
      let errand : Follows r.notes id v.amount (Filling e) = subst (Follows r.notes id v.amount) is fit.follows in
      let one : v.amount ≡ 1 = errand.0 in
      let some_left : v.amount ≤ all = total-at amount_of s.views id v at in
      let less : total amount_of (set s.views id w) + v.amount ≡ all + 0 = total-set amount_of s.views id v w at in
      let now : m ≡ total amount_of (set s.views id w) = omega arith in
      let home = there-too r.notes s.homes k (Some e.bio) r.sized errand.2 in
      let slot = r.slots k (Some e.bio) home.0 errand.2 home.1 in
      let c = slot.counted in
      let d = slot.out in
      let moved : moves k v.doing ≡ 1 = ap (moves k) is ∙ at-here k e refl in
      let none_waits : waits k v.doing ≡ 0 = ap (waits k) is in
      let most : moves k v.doing ≤ total (moving_at k) s.views = total-at (moving_at k) s.views id v at in (
        w,
        gives,
        tt,
        record {
          notes = r.notes;
          word = words-set s.words all m (total amount_of (set s.views id w)) r.word now;
          small = (let h = r.small in omega arith);
          sized = r.sized ∙ sym (length-set s.homes k (some (Some p)));
          seats = all-set (FitsSeat r.notes (total amount_of (set s.views id w))) s.views id w
              (record { owner = λ z. absurd (errand.1 z); last = λ l. absurd (never l); follows = tt })
              (λ j u ne there.
              let f = r.seats j u there in
              let both : v.amount + u.amount ≤ all = total-two amount_of s.views id j v u ne at there in
              record { owner = f.owner; last = λ l. absurd (let x : all ≡ u.amount = f.last l in omega arith); follows = f.follows });
          slots = slots-at (set s.views id w) r.notes (set s.homes k (some (Some p))) k (Some e.bio) (some (Some p)) errand.2 (set-there s.homes k home.0 (some (Some p)) home.1)
              (let x = waiting-set k s.views id v w at in
              let y = moving-set k s.views id v w at in
              record { counted = omega arith; out = omega arith; bio = run })
              (λ j note h ne n_at h_at. slot-same s.views id v w j note h at
              (sym (ap (waits j) is)) (sym (ap (moves j) is ∙ at-else j e (λ z. ne (sym z))))
              (r.slots j note h n_at (sym (set_else s.homes k j (some (Some p)) ne) ∙ h_at)));
        },
        refl,
      )

  -- the owner that has seen Last may take a slot that it noted: the bio is in it, after its transfer
  pub picks : (slots id slot : ℕ) (b : Bio T) (v : Known T) → id ≡ 0 → IsAtRest v.doing → v.last ≡ true → get_elem? v.noted slot ≡ some (Some b)
      → Allows Shelved slots id (v, []) 0 (λ n. n) (λ n w. Picked (errand_to slot b) v w)
  picks slots id k b v first rests last noted s r len at below =
      let n : ℕ = slice_index s.words 0 in
      let e : Errand T = errand_to k b in
      let w : Known T = picking e v in
      let all : ℕ = total amount_of s.views in
      let word : n ≡ all = word-is s.words all r.word in
      let same : total amount_of (set s.views id w) ≡ all = let t : total amount_of (set s.views id w) + v.amount ≡ all + v.amount = total-set amount_of s.views id v w at in omega arith in
      let fit = r.seats id v at in
      let idle : v.doing ≡ Idle = owner-idle id v.amount r.notes v.doing fit.follows rests first in
      let sole : all ≡ v.amount = fit.last last in
      let noted_at : get_elem? r.notes k ≡ some (Some b) = ap (λ l. get_elem? l k) (sym (fit.owner first)) ∙ noted in
      let home = there-too r.notes s.homes k (Some b) r.sized noted_at in
      let slot = r.slots k (Some b) home.0 noted_at home.1 in
      let others : (j : ℕ) (u : Known T) → j ≢ id → get_elem? s.views j ≡ some u → (waits k u.doing ≡ 0) × (moves k u.doing ≡ 0) =
      λ j u ne there. quiet k j u.amount r.notes u.doing (r.seats j u there).follows (total-sole amount_of s.views id j v u at sole ne there) (λ z. ne (z ∙ sym first)) in
      let none_waits : total (waiting_at k) s.views ≡ 0 = total-alone (waiting_at k) s.views id v at (λ j u ne there. (others j u ne there).0) ∙ ap (waits k) idle in
      let none_moved : total (moving_at k) s.views ≡ 0 = total-alone (moving_at k) s.views id v at (λ j u ne there. (others j u ne there).1) ∙ ap (moves k) idle in
      let c = slot.counted in
      let found = home-full home.0 (omega arith) in
      let run : IsRun b found.0.0 found.0.1 = subst (HasItsBio (Some b)) found.1 slot.bio in (
        w,
        takes k (Some found.0),
        home.1 ∙ ap some found.1,
        record {
          notes = r.notes;
          word = words-set s.words all n (total amount_of (set s.views id w)) r.word (word ∙ sym same);
          small = (let h = r.small in omega arith);
          sized = r.sized ∙ sym (length-set s.homes k none);
          seats = all-set (FitsSeat r.notes (total amount_of (set s.views id w))) s.views id w
              (record { owner = fit.owner; last = λ l. same ∙ fit.last l; follows = (first, noted_at) })
              (λ j u _ there. subst (λ x. FitsSeat r.notes x j u) (sym same) (r.seats j u there));
          slots = slots-at (set s.views id w) r.notes (set s.homes k none) k (Some b) none noted_at (set-there s.homes k home.0 none home.1)
              (let x = waiting-set k s.views id v w at in
              let y = moving-set k s.views id v w at in
              let x' : waits k v.doing ≡ 0 = ap (waits k) idle in
              let y' : moves k v.doing ≡ 0 = ap (moves k) idle in
              let z = at-here k e refl in
              record { counted = omega arith; out = omega arith; bio = tt })
              (λ j note h ne n_at h_at. slot-same s.views id v w j note h at
              (sym (ap (waits j) idle)) (at-else j e (λ z. ne (sym z)) ∙ sym (ap (moves j) idle))
              (r.slots j note h n_at (sym (set_else s.homes k j none ne) ∙ h_at)));
        },
        record { bio = found.0.0; done = found.0.1; run = run; idle = idle; me_is = refl },
      )

  -- the owner may give back a slot that it emptied, and take back the note
  pub clears : (slots id : ℕ) (e : Errand T) (v : Known T) → v.doing ≡ Picking e → Allows Shelved slots id (v, (e.slot, None) ∷ []) 0 (λ n. n) (λ n w. w ≡ (emptied e.slot v, []))
  clears slots id e v is s r len at below =
      let n : ℕ = slice_index s.words 0 in
      let k : ℕ = e.slot in
      let w : Known T = emptied k v in
      let all : ℕ = total amount_of s.views in
      let word : n ≡ all = word-is s.words all r.word in
      let same : total amount_of (set s.views id w) ≡ all = let t : total amount_of (set s.views id w) + v.amount ≡ all + v.amount = total-set amount_of s.views id v w at in omega arith in
      let fit = r.seats id v at in
      let errand : Follows r.notes id v.amount (Picking e) = subst (Follows r.notes id v.amount) is fit.follows in
      let first : id ≡ 0 = errand.0 in
      let notes : List (Option (Bio T)) = set r.notes k None in
      let home = there-too r.notes s.homes k (Some e.bio) r.sized errand.1 in
      let slot = r.slots k (Some e.bio) home.0 errand.1 home.1 in
      let c = slot.counted in
      let moved : moves k v.doing ≡ 1 = ap (moves k) is ∙ at-here k e refl in
      let none_waits : waits k v.doing ≡ 0 = ap (waits k) is in
      let most : moves k v.doing ≤ total (moving_at k) s.views = total-at (moving_at k) s.views id v at in
      let others : (j : ℕ) (u : Known T) → j ≢ id → get_elem? s.views j ≡ some u → (waits k u.doing ≡ 0) × (moves k u.doing ≡ 0) =
      λ j u ne there.
      let x : waits k u.doing ≤ total (waiting_at k) s.views = total-at (waiting_at k) s.views j u there in
      let y : moves k v.doing + moves k u.doing ≤ total (moving_at k) s.views = total-two (moving_at k) s.views id j v u ne at there in ((omega arith), (omega arith)) in (
        w,
        gives,
        tt,
        record {
          notes = notes;
          word = words-set s.words all n (total amount_of (set s.views id w)) r.word (word ∙ sym same);
          small = (let h = r.small in omega arith);
          sized = length-set r.notes k None ∙ r.sized ∙ sym (length-set s.homes k (some None));
          seats = all-set (FitsSeat notes (total amount_of (set s.views id w))) s.views id w
              (record { owner = λ z. ap (λ l. set l k None) (fit.owner z); last = λ l. same ∙ fit.last l; follows = tt })
              (λ j u ne there. let f = r.seats j u there in let o = others j u ne there in
              record { owner = λ z. absurd (ne (z ∙ sym first)); last = λ l. same ∙ f.last l; follows = follows-else k j u.amount r.notes None u.doing f.follows o.0 o.1 });
          slots = slots-at (set s.views id w) notes (set s.homes k (some None)) k None (some None) (set-there r.notes k (Some e.bio) None errand.1) (set-there s.homes k home.0 (some None) home.1)
              (let x = waiting-set k s.views id v w at in
              let y = moving-set k s.views id v w at in
              record { counted = omega arith; out = omega arith; bio = tt })
              (λ j note h ne n_at h_at. slot-same s.views id v w j note h at
              (sym (ap (waits j) is)) (sym (ap (moves j) is ∙ at-else j e (λ z. ne (sym z))))
              (r.slots j note h (sym (set_else r.notes k j None ne) ∙ n_at) (sym (set_else s.homes k j (some None) ne) ∙ h_at)));
        },
        refl,
      )
