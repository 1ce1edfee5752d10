use Rattle.std.proofs.Common.{◌≡◌, ℕ, ◌+◌, ◌<◌, ◌≤◌, true, false, List, [], ◌∷◌, ◌++◌, length, take, drop, set, get_or, refl, sym, ◌∙◌, ap, subst, arith, add-zero, append_assoc, length-append, length-take, length-drop}
use Rattle.std.proofs.lemmas.List.{append-nil, drop-drop, drop_more, length-take-le, set_at, take-append-drop, take_all, take_at, take_more}
use Rattle.io_model.specs.Fitting.{could_be_joined}
use Rattle.io_model.specs.Kinds.{kind_after}
use Rattle.io_model.specs.declared.file.Extent.{Extent}
use Rattle.io_model.specs.declared.file.Kind.{Kind}
use Rattle.extent_map.specs.BlockKinds.{with_run}
use Rattle.extent_map.specs.Edits.{attach, glue, longer}
use Rattle.extent_map.specs.Expansion.{NumbersFit, kinds_of, run_of}
use Rattle.extent_map.specs.Keeping.{Apart, BeginsAt, FollowOn}
use Rattle.extent_map.specs.Longest.{IsLookup, IsRunAt, begins}
use Rattle.extent_map.specs.Merged.{IsMergedList}
use Rattle.extent_map.specs.Splicing.{run_at}
use Rattle.extent_map.proofs.Following.{kinds_of-append, length-kinds_of, length-run_of, run_of-add}
use Rattle.extent_map.proofs.Joining.{apart_attach, follow_attach, glue_no, glue_yes, kinds_of-attach}
use Rattle.extent_map.proofs.Looking.{is_kind-true, longest_here}
use Rattle.extent_map.proofs.Merged.{merged_from}

-- so many blocks as a run has are in the list
pub run_within : (kinds : List Kind) (b : ℕ) (k : Kind) (n : ℕ) → 0 < n → IsRunAt kinds b k n → b + n ≤ length kinds
run_within kinds b k n some r = omega (arith, ap length r, length-run_of k n, length-take n (drop b kinds), length-drop b kinds)

-- the list from a block on, after a run
split_run : (kinds : List Kind) (b : ℕ) (k : Kind) (n : ℕ) → IsRunAt kinds b k n → drop b kinds ≡ run_of k n ++ drop (b + n) kinds
split_run kinds b k n r =
    sym (take-append-drop n (drop b kinds)) ∙ ap (λ l. l ++ drop n (drop b kinds)) r ∙ ap (λ l. run_of k n ++ l) (drop-drop n b kinds)

pub run_one : (kinds : List Kind) (b : ℕ) (d : Kind) → b < length kinds → IsRunAt kinds b (get_or kinds b d) 1
run_one kinds b d h = ap (take 1) (drop_more kinds b d h)

-- a list that begins with a kind
grows : (k : Kind) (n : ℕ) (t : List Kind) → begins (kind_after k n) t ≡ true → take (n + 1) (run_of k n ++ t) ≡ run_of k (n + 1)
grows k n [] h = absurd (cc)
grows k n (x ∷ t) h =
    let long : length (run_of k n ++ x ∷ []) ≡ n + 1 = omega (arith, length-append (run_of k n) (x ∷ []), length-run_of k n) in
    ap (take (n + 1)) (sym (append_assoc (run_of k n) (x ∷ []) t))
    ∙ take_at (run_of k n ++ x ∷ []) t (n + 1) long
    ∙ ap (λ y. run_of k n ++ y ∷ []) (sym (is_kind-true (kind_after k n) x h))
    ∙ sym (run_of-add k n 1)

pub run_more : (kinds : List Kind) (b : ℕ) (k : Kind) (n : ℕ) → IsRunAt kinds b k n → begins (kind_after k n) (drop (b + n) kinds) ≡ true → IsRunAt kinds b k (n + 1)
run_more kinds b k n r h = ap (take (n + 1)) (split_run kinds b k n r) ∙ grows k n (drop (b + n) kinds) h

pub run_ends : (kinds : List Kind) (b max : ℕ) (k : Kind) (n : ℕ) → 0 < n → n ≤ max → NumbersFit k n → IsRunAt kinds b k n → begins (kind_after k n) (drop (b + n) kinds) ≡ false → IsLookup kinds b max (run_at b n k)
run_ends kinds b max k n some le fits r h =
    record {
      block = refl;
      some = some;
      cut = le;
      run = r;
      longest = λ x m l is. omega (arith, longest_here kinds b max k n (drop (b + n) kinds) (split_run kinds b k n r) some h x m l is);
      numbers = fits;
    }

pub run_cut : (kinds : List Kind) (b max : ℕ) (k : Kind) → 1 ≤ max → NumbersFit k max → IsRunAt kinds b k max → IsLookup kinds b max (run_at b max k)
run_cut kinds b max k some fits r = record { block = refl; some = some; cut = omega arith; run = r; longest = λ x m l is. l; numbers = fits }

-- a run that grows by a block in its place
pub filled_none : (kinds : List Kind) (b : ℕ) (k : Kind) → kinds ≡ with_run kinds b 0 k
filled_none kinds b k =
    sym (take-append-drop b kinds) ∙ ap (λ n. take b kinds ++ drop n kinds) (sym (add-zero b)) ∙ ap (λ l. l ++ drop (b + 0) kinds) (sym (append-nil (take b kinds)))

pub filled_more : (kinds : List Kind) (b i : ℕ) (k : Kind) → b + i < length kinds → set (with_run kinds b i k) (b + i) (kind_after k i) ≡ with_run kinds b (i + 1) k
filled_more kinds b i k h =
    let front : List Kind = take b kinds ++ run_of k i in
    let d : Kind = k in
    let long : length front ≡ b + i = omega (arith, length-append (take b kinds) (run_of k i), length-run_of k i, length-take-le b kinds (omega arith)) in
    let n : b + i + 1 ≡ b + (i + 1) = omega arith in
    ap (λ l. set (front ++ l) (b + i) (kind_after k i)) (drop_more kinds (b + i) d h)
    ∙ set_at front (get_or kinds (b + i) d) (drop (b + i + 1) kinds) (kind_after k i) (b + i) long
    ∙ sym (append_assoc front (kind_after k i ∷ []) (drop (b + i + 1) kinds))
    ∙ ap (λ l. l ++ drop (b + i + 1) kinds) (append_assoc (take b kinds) (run_of k i) (kind_after k i ∷ []) ∙ ap (λ l. take b kinds ++ l) (sym (run_of-add k i 1)))
    ∙ ap (λ x. take b kinds ++ run_of k (i + 1) ++ drop x kinds) n

-- the last extent in front of another
attach-last : (l : List Extent) (e : Extent) (r : List Extent) → attach (l ++ e ∷ []) r ≡ l ++ glue e r
attach-last [] e r = refl
attach-last (x ∷ []) e r = refl
attach-last (x ∷ y ∷ l) e r = ap (λ z. x ∷ z) (attach-last (y ∷ l) e r)

pub block_joined : (old rest now : List Extent) (last one : Extent) → old ≡ rest ++ last ∷ [] → could_be_joined last one ≡ true → now ≡ rest ++ longer last one.length ∷ [] → now ≡ attach old (one ∷ [])
block_joined old rest now last one o t n =
    n ∙ ap (λ l. rest ++ l) (sym (glue_yes last one [] t)) ∙ sym (attach-last rest last (one ∷ [])) ∙ ap (λ l. attach l (one ∷ [])) (sym o)

pub block_added : (old rest mid now : List Extent) (last one : Extent) → old ≡ rest ++ last ∷ [] → could_be_joined last one ≡ false → mid ≡ rest ++ last ∷ [] → now ≡ mid ++ one ∷ [] → now ≡ attach old (one ∷ [])
block_added old rest mid now last one o t m n =
    n ∙ ap (λ l. l ++ one ∷ []) m ∙ append_assoc rest (last ∷ []) (one ∷ []) ∙ ap (λ l. rest ++ l) (sym (glue_no last one [] t))
    ∙ sym (attach-last rest last (one ∷ [])) ∙ ap (λ l. attach l (one ∷ [])) (sym o)

-- the last extent is no longer than all
pub last_short : (rest : List Extent) (e : Extent) → e.length ≤ length (kinds_of (rest ++ e ∷ []))
last_short rest e = omega (arith, ap length (kinds_of-append rest (e ∷ [])), length-append (kinds_of rest) (kinds_of (e ∷ [])), length-kinds_of e [])

-- the extents of the blocks so far
pub record Merging (kinds : List Kind) (i : ℕ) (extents : List Extent) : Type 0 where
  pub kinds_are : kinds_of extents ≡ take i kinds
  pub follow : FollowOn 0 extents
  pub apart : Apart extents

pub merging_none : (kinds : List Kind) (extents : List Extent) → extents ≡ [] → Merging kinds 0 extents
merging_none kinds extents e =
    let P : List Extent → Type 0 = Merging kinds 0 in subst P (sym e) (record { kinds_are = refl; follow = tt; apart = tt })

pub merging_long : (kinds : List Kind) (i : ℕ) (extents : List Extent) → i ≤ length kinds → Merging kinds i extents → length (kinds_of extents) ≡ i
merging_long kinds i extents h m = ap length m.kinds_are ∙ length-take-le i kinds h

more : (kinds : List Kind) (i : ℕ) (old : List Extent) (d : Kind) → i < length kinds → Merging kinds i old → NumbersFit (get_or kinds i d) 1 → Merging kinds (i + 1) (attach old (run_at i 1 (get_or kinds i d) ∷ []))
more kinds i old d h m fits =
    let k : Kind = get_or kinds i d in
    let one : List Extent = run_at i 1 k ∷ [] in
    let at : 0 + length (kinds_of old) ≡ i = omega (arith, merging_long kinds i old (omega arith) m) in
    let P : ℕ → Type 0 = λ x. FollowOn x one in
    let some : 0 < 1 = omega arith in
    let begins : BeginsAt i (run_at i 1 k) = record { at = refl; some = some; fits = fits } in
    record {
      kinds_are = kinds_of-attach old one ∙ ap (λ l. l ++ k ∷ []) m.kinds_are ∙ sym (take_more kinds i d h);
      follow = follow_attach 0 old one m.follow (subst P (sym at) (begins, tt));
      apart = apart_attach old one m.apart (refl, tt);
    }

pub merging_more : (kinds : List Kind) (i : ℕ) (old now : List Extent) (k d : Kind) → i < length kinds → Merging kinds i old → k ≡ get_or kinds i d → NumbersFit k 1 → now ≡ attach old (run_at i 1 k ∷ []) → Merging kinds (i + 1) now
merging_more kinds i old now k d h m is fits e =
    let P : List Extent → Type 0 = Merging kinds (i + 1) in
    let Q : Kind → Type 0 = λ x. NumbersFit x 1 in
    subst P (sym (e ∙ ap (λ x. attach old (run_at i 1 x ∷ [])) is)) (more kinds i old d h m (subst Q is fits))

pub merging_all : (kinds : List Kind) (i : ℕ) (extents : List Extent) → length kinds ≤ i → Merging kinds i extents → IsMergedList kinds extents
merging_all kinds i extents h m =
    let kinds_are = m.kinds_are ∙ take_all i kinds h in
    record { kinds_are = kinds_are; merged = merged_from 0 (length kinds) extents m.follow m.apart (omega (arith, ap length kinds_are)) }
