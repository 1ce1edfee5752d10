use Rattle.std.proofs.Common.{◌≡◌, ℕ, zero, suc, ◌+◌, ◌-◌, ◌<◌, ◌≤◌, Bool, true, false, not, cond, List, [], ◌∷◌, ◌++◌, length, drop, get_or, Option, Some, None, IfNone, IfSome, inl, inr, refl, sym, ◌∙◌, ap, subst, arith, add-zero, length-drop}
use Rattle.std.specs.List.{position_from}
use Rattle.std.proofs.lemmas.Bool.{cases_eq, cond-false, cond-true}
use Rattle.std.proofs.lemmas.List.{drop_all, drop_more, get_or-drop}
use Rattle.io_model.specs.Kinds.{kind_after}
use Rattle.io_model.specs.declared.file.Extent.{Extent}
use Rattle.io_model.specs.declared.file.Kind.{Kind}
use Rattle.io_model.specs.declared.file.Kind.TheVariants.{Hole, Delalloc, Unwritten, Mapped}
use Rattle.extent_map.specs.BlockKinds.{kind_of_block}
use Rattle.extent_map.specs.Expansion.{kinds_of, run_of}
use Rattle.extent_map.specs.Keeping.{FollowOn, LiesIn, start_of}
use Rattle.extent_map.specs.Sorts.{IsLeastFrom, NoneBetween, is_sort}
use Rattle.extent_map.proofs.Following.{ReadAt, read_or}
use Rattle.extent_map.proofs.Looking.{rest_of}

-- blocks of a run are of one sort
sort_after : (h : Bool) (k : Kind) (i : ℕ) → is_sort h (kind_after k i) ≡ is_sort h k
sort_after true Hole i = refl
sort_after true Delalloc i = refl
sort_after true (Unwritten d) i = refl
sort_after true (Mapped d) i = refl
sort_after false Hole i = refl
sort_after false Delalloc i = refl
sort_after false (Unwritten d) i = refl
sort_after false (Mapped d) i = refl

-- a run that is not of the sort is passed, one that is ends the search
passed : (h : Bool) (b : ℕ) (k : Kind) (n : ℕ) (t : List Kind) → is_sort h k ≡ false → position_from (is_sort h) b (run_of k n ++ t) ≡ position_from (is_sort h) (b + n) t
passed h b k zero t other_sort = ap (λ x. position_from (is_sort h) x t) (sym (add-zero b))
passed h b k (suc n) t other_sort =
    let step : b + 1 + n ≡ b + suc n = omega arith in
    cond-false (is_sort h k) (Some b) (position_from (is_sort h) (b + 1) (run_of (kind_after k 1) n ++ t)) other_sort
    ∙ passed h (b + 1) (kind_after k 1) n t (sort_after h k 1 ∙ other_sort)
    ∙ ap (λ x. position_from (is_sort h) x t) step

met : (h : Bool) (b : ℕ) (k : Kind) (n : ℕ) (t : List Kind) → is_sort h k ≡ true → 0 < n → position_from (is_sort h) b (run_of k n ++ t) ≡ Some b
met h b k zero t of_sort some = absurd (omega arith)
met h b k (suc n) t of_sort some = cond-true (is_sort h k) (Some b) (position_from (is_sort h) (b + 1) (run_of (kind_after k 1) n ++ t)) of_sort

-- the search from a block on
abbrev pub sought : Bool → ℕ → List Extent → Option ℕ
sought h b runs = position_from (is_sort h) b (drop b (kinds_of runs))

-- the search from the i-th run on
abbrev pub sought_from : Bool → ℕ → List Extent → Option ℕ
sought_from h i runs = position_from (is_sort h) (start_of runs i) (kinds_of (drop i runs))

pub sought_past : (h : Bool) (b : ℕ) (runs : List Extent) → length (kinds_of runs) ≤ b → sought h b runs ≡ None
sought_past h b runs m = ap (position_from (is_sort h) b) (drop_all b (kinds_of runs) m)

pub sought_here : (h : Bool) (b i : ℕ) (runs : List Extent) (d : Extent) → FollowOn 0 runs → LiesIn runs b i → is_sort h (get_or runs i d).kind ≡ true → sought h b runs ≡ Some b
sought_here h b i runs d f l of_sort =
    let e : Extent = get_or runs i d in
    let r : ReadAt runs i e = read_or runs i d f l.within in
    let from : e.block ≤ b = omega (arith, r.begins.at, l.from) in
    let below : b < e.block + e.length = omega (arith, r.begins.at, r.next, l.below) in
    ap (position_from (is_sort h) b) (rest_of runs i b e r from (omega arith))
    ∙ met h b (kind_after e.kind (b - e.block)) (e.length - (b - e.block)) (kinds_of (drop (i + 1) runs)) (sort_after h e.kind (b - e.block) ∙ of_sort) (omega arith)

pub sought_next : (h : Bool) (b i : ℕ) (runs : List Extent) (d : Extent) → FollowOn 0 runs → LiesIn runs b i → is_sort h (get_or runs i d).kind ≡ false → sought h b runs ≡ sought_from h (i + 1) runs
sought_next h b i runs d f l other_sort =
    let e : Extent = get_or runs i d in
    let r : ReadAt runs i e = read_or runs i d f l.within in
    let from : e.block ≤ b = omega (arith, r.begins.at, l.from) in
    let below : b < e.block + e.length = omega (arith, r.begins.at, r.next, l.below) in
    let n : b + (e.length - (b - e.block)) ≡ start_of runs (i + 1) = omega (arith, r.begins.at, r.next) in
    ap (position_from (is_sort h) b) (rest_of runs i b e r from (omega arith))
    ∙ passed h b (kind_after e.kind (b - e.block)) (e.length - (b - e.block)) (kinds_of (drop (i + 1) runs)) (sort_after h e.kind (b - e.block) ∙ other_sort)
    ∙ ap (λ x. position_from (is_sort h) x (kinds_of (drop (i + 1) runs))) n

pub sought_more : (h : Bool) (i : ℕ) (runs : List Extent) (d : Extent) → FollowOn 0 runs → i < length runs → is_sort h (get_or runs i d).kind ≡ false → sought_from h i runs ≡ sought_from h (i + 1) runs
sought_more h i runs d f m other_sort =
    let e : Extent = get_or runs i d in
    let r : ReadAt runs i e = read_or runs i d f m in
    ap (λ l. position_from (is_sort h) (start_of runs i) (kinds_of l)) (drop_more runs i d m)
    ∙ passed h (start_of runs i) e.kind e.length (kinds_of (drop (i + 1) runs)) other_sort
    ∙ ap (λ x. position_from (is_sort h) x (kinds_of (drop (i + 1) runs))) (sym r.next)

pub sought_at : (h : Bool) (i : ℕ) (runs : List Extent) (d : Extent) → FollowOn 0 runs → i < length runs → is_sort h (get_or runs i d).kind ≡ true → sought_from h i runs ≡ Some (get_or runs i d).block
sought_at h i runs d f m of_sort =
    let e : Extent = get_or runs i d in
    let r : ReadAt runs i e = read_or runs i d f m in
    ap (λ l. position_from (is_sort h) (start_of runs i) (kinds_of l)) (drop_more runs i d m)
    ∙ met h (start_of runs i) e.kind e.length (kinds_of (drop (i + 1) runs)) of_sort r.begins.some
    ∙ ap Some (sym r.begins.at)

pub sought_end : (h : Bool) (i : ℕ) (runs : List Extent) → length runs ≤ i → sought_from h i runs ≡ None
sought_end h i runs m = ap (λ l. position_from (is_sort h) (start_of runs i) (kinds_of l)) (drop_all i runs m)

-- what a search finds, in a list counted from b on
record Found (p : Kind → Bool) (xs : List Kind) (b x : ℕ) : Type 0 where
  from : b ≤ x
  within : x < b + length xs
  here : p (get_or xs (x - b) Hole) ≡ true
  before : (y : ℕ) → b ≤ y → y < x → p (get_or xs (y - b) Hole) ≡ false

found_head : (p : Kind → Bool) (k : Kind) (xs : List Kind) (b : ℕ) → p k ≡ true → Found p (k ∷ xs) b b
found_head p k xs b of_sort =
    let n : b - b ≡ 0 = omega arith in
    record { from = omega arith; within = omega arith; here = ap (λ i. p (get_or (k ∷ xs) i Hole)) n ∙ of_sort; before = λ y l m. absurd (omega arith) }

found_tail : (p : Kind → Bool) (k : Kind) (xs : List Kind) (b x : ℕ) → p k ≡ false → Found p xs (b + 1) x → Found p (k ∷ xs) b x
found_tail p k xs b x other_sort f =
    let n : x - b ≡ suc (x - (b + 1)) = omega (arith, f.from) in
    record {
      from = omega (arith, f.from);
      within = omega (arith, f.within);
      here = ap (λ i. p (get_or (k ∷ xs) i Hole)) n ∙ f.here;
      before = λ y l m.
          elim (cases_eq y b) [
            | inl same ↦ (let z : y - b ≡ 0 = omega arith in ap (λ i. p (get_or (k ∷ xs) i Hole)) z ∙ other_sort)
            | inr apart ↦ (let z : y - b ≡ suc (y - (b + 1)) = omega arith in ap (λ i. p (get_or (k ∷ xs) i Hole)) z ∙ f.before y (omega arith) m)
          ];
    }

found_step : (t : Bool) (p : Kind → Bool) (k : Kind) (xs : List Kind) (b x : ℕ) → p k ≡ t → cond t (Some b) (position_from p (b + 1) xs) ≡ Some x → ((position_from p (b + 1) xs ≡ Some x) → Found p xs (b + 1) x) → Found p (k ∷ xs) b x
found_step true p k xs b x is e rec =
    let same : b ≡ x = cc in
    let P : ℕ → Type 0 = Found p (k ∷ xs) b in
    subst P same (found_head p k xs b is)
found_step false p k xs b x is e rec = found_tail p k xs b x is (rec e)

found : (p : Kind → Bool) (xs : List Kind) (b x : ℕ) → position_from p b xs ≡ Some x → Found p xs b x
found p [] b x e = absurd (cc)
found p (k ∷ xs) b x e = found_step (p k) p k xs b x refl e (found p xs (b + 1) x)

-- and what it means that it finds nothing
none_step : (t : Bool) (p : Kind → Bool) (xs : List Kind) (b : ℕ) → cond t (Some b) (position_from p (b + 1) xs) ≡ None → (t ≡ false) × (position_from p (b + 1) xs ≡ None)
none_step true p xs b e = absurd (cc)
none_step false p xs b e = (refl, e)

none_in : (p : Kind → Bool) (xs : List Kind) (b : ℕ) → position_from p b xs ≡ None → (y : ℕ) → b ≤ y → y < b + length xs → p (get_or xs (y - b) Hole) ≡ false
none_in p [] b e y l m = absurd (omega arith)
none_in p (k ∷ xs) b e y l m =
    let s = none_step (p k) p xs b e in
    elim (cases_eq y b) [
      | inl same ↦ (let z : y - b ≡ 0 = omega arith in ap (λ i. p (get_or (k ∷ xs) i Hole)) z ∙ s.0)
      | inr apart ↦ (let z : y - b ≡ suc (y - (b + 1)) = omega arith in ap (λ i. p (get_or (k ∷ xs) i Hole)) z ∙ none_in p xs (b + 1) s.1 y (omega arith) (omega arith))
    ]

-- in the whole list
shifted : (kinds : List Kind) (b y : ℕ) → b ≤ y → get_or (drop b kinds) (y - b) Hole ≡ kind_of_block kinds y
shifted kinds b y h = let n : b + (y - b) ≡ y = omega arith in get_or-drop b kinds (y - b) Hole ∙ ap (λ i. get_or kinds i Hole) n

pub least : (p : Kind → Bool) (kinds : List Kind) (b x : ℕ) → position_from p b (drop b kinds) ≡ Some x → IsLeastFrom p kinds b x
least p kinds b x e =
    let f = found p (drop b kinds) b x e in
    record {
      from = f.from;
      within = omega (arith, f.from, f.within, length-drop b kinds);
      here = ap p (sym (shifted kinds b x f.from)) ∙ f.here;
      none_before = λ y l m. ap not (ap p (sym (shifted kinds b y l)) ∙ f.before y l m);
    }

pub none : (p : Kind → Bool) (kinds : List Kind) (b : ℕ) → position_from p b (drop b kinds) ≡ None → NoneBetween p kinds b (length kinds)
none p kinds b e = λ y l m. ap not (ap p (sym (shifted kinds b y l)) ∙ none_in p (drop b kinds) b e y l (omega (arith, length-drop b kinds)))

-- the same of an answer
pub least_of : (r : Option ℕ) (p : Kind → Bool) (kinds : List Kind) (b : ℕ) → r ≡ position_from p b (drop b kinds) → IfSome r (λ x. IsLeastFrom p kinds b x)
least_of None p kinds b e = tt
least_of (Some x) p kinds b e = least p kinds b x (sym e)

pub none_of : (r : Option ℕ) (p : Kind → Bool) (kinds : List Kind) (b : ℕ) → r ≡ position_from p b (drop b kinds) → IfNone r (NoneBetween p kinds b (length kinds))
none_of None p kinds b e = none p kinds b (sym e)
none_of (Some x) p kinds b e = tt

-- all blocks end where the last run does
pub end_of_last : (runs : List Extent) (d : Extent) → FollowOn 0 runs → 0 < length runs → (get_or runs (length runs - 1) d).block + (get_or runs (length runs - 1) d).length ≡ length (kinds_of runs)
end_of_last runs d f some =
    let i : ℕ = length runs - 1 in
    let r : ReadAt runs i (get_or runs i d) = read_or runs i d f (omega arith) in
    let nothing : length (kinds_of (drop (i + 1) runs)) ≡ 0 = ap (λ l. length (kinds_of l)) (drop_all (i + 1) runs (omega arith)) in
    omega (arith, r.begins.at, r.total, nothing)
