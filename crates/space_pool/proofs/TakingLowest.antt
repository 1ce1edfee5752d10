-- What a heap's pop says of the lowest numbers.
use Rattle.std.proofs.Common.{◌≡◌, ℕ, ◌+◌, ◌-◌, ◌≤◌, false, List, [], ◌∷◌, ◌++◌, length, refl, sym, ap, ◌∙◌, arith, append_assoc, length-append}
use Rattle.std.specs.Prelude.{All}
use Rattle.std.specs.List.Sorted.{IsPermutation}
use Rattle.std.specs.BinaryHeap.{IsUpperBound}
use Rattle.std.proofs.lemmas.Bool.Decides.{nat_tests}
use Rattle.std.proofs.lemmas.List.Elements.{All-from_recursion, All-weaker, All-push, All-tail}
use Rattle.std.proofs.lemmas.List.{append-nil}
use Rattle.std.proofs.lemmas.List.Sorted.{IsNonDecreasingBy-push, IsNonDecreasingBy-short, All-permutation}
use Rattle.iob_base.specs.DeviceBlock.{DeviceBlock}
use Rattle.turn_cell.specs.Stakes.{total}
use Rattle.turn_cell.proofs.Sums.{total-append}
use Rattle.space_pool.specs.Sectors.{lowest_first, TakesLowest, AreBelow}
use Rattle.space_pool.proofs.Weighing.{total-permutation}

-- nothing was taken yet
pub takes-none : (free into : List DeviceBlock) → TakesLowest 0 free into free into
takes-none free into = record {
  taken = [];
  appended = sym (append-nil into);
  count = refl;
  moved = λ f. omega arith;
  ordered = IsNonDecreasingBy-short (λ (s : DeviceBlock). s.number) [] (omega arith);
  lowest = λ k d below. absurd (omega arith);
}

not-below : (x y : DeviceBlock) → Rattle.std.specs.Ordering.is_lt (lowest_first x y) ≡ false → x.number ≤ y.number
not-below x y h = grind (arith, nat_tests)

-- the top of the heap is no higher than the rest
pub top-is-lowest : (x : DeviceBlock) (rest : List DeviceBlock) → IsUpperBound lowest_first x rest → All (λ y. x.number ≤ y.number) rest
top-is-lowest x rest h = All-weaker _ _ (not-below x) rest (All-from_recursion _ rest h)

-- one more is taken from the top of the heap
pub takes-more : (n : ℕ) (free into left into' rest : List DeviceBlock) (x : DeviceBlock) → TakesLowest n free into left into' → IsPermutation left (x ∷ rest)
    → All (λ y. x.number ≤ y.number) rest → TakesLowest (n + 1) free into rest (into' ++ x ∷ [])
takes-more n free into left into' rest x t p top =
    let taken : List DeviceBlock = t.taken in
    let below : AreBelow taken (x ∷ rest) = All-weaker _ _ (λ (s : DeviceBlock) (h : All (λ y. s.number ≤ y.number) left). All-permutation (λ (y : DeviceBlock). s.number ≤ y.number) left (x ∷ rest) p h) taken t.lowest in
    record {
      taken = taken ++ x ∷ [];
      appended = ap (λ l. l ++ x ∷ []) t.appended ∙ append_assoc into taken (x ∷ []);
      count = omega (arith, length-append taken (x ∷ []), t.count);
      moved = λ f.
          let m : total f free ≡ total f taken + total f left = t.moved f in
          let q : total f (x ∷ rest) ≡ total f left = total-permutation f left (x ∷ rest) p in
          let a : total f (taken ++ x ∷ []) ≡ total f taken + total f (x ∷ []) = total-append f taken (x ∷ []) in omega arith;
      ordered = IsNonDecreasingBy-push (λ (s : DeviceBlock). s.number) taken x t.ordered (λ d some. below (length taken - 1) d (omega arith) 0 x (omega arith));
      lowest = All-push (λ (s : DeviceBlock). All (λ y. s.number ≤ y.number) rest) taken x (All-weaker _ _ (λ (s : DeviceBlock) (h : All (λ y. s.number ≤ y.number) (x ∷ rest)). All-tail (λ (y : DeviceBlock). s.number ≤ y.number) x rest h) taken below) top;
    }
