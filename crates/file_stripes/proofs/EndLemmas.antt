-- The ends of stripes, joined one after another.
use Rattle.std.proofs.Common.{◌≡◌, ℕ, ◌+◌, ◌≤◌, true, List, [], ◌∷◌, ◌++◌, length, refl, sym, ◌∙◌, ap, subst, arith, append_assoc, length-append}
use Rattle.std.proofs.lemmas.Bool.Decides.{nat_tests}
use Rattle.std.proofs.lemmas.List.{append-nil}
use Rattle.io_model.specs.Fitting.{is_merged_from}
use Rattle.io_model.specs.declared.file.BlockEnd.{BlockEnd}
use Rattle.io_model.specs.declared.file.Extent.{Extent}
use Rattle.file_stripes.specs.Ends.{FollowOn, blocks_in, kinds_of_ends}
use Rattle.file_stripes.specs.Kinds.{kinds_from}
use Rattle.file_stripes.specs.Runs.{FollowsOn, with_runs}
use Rattle.file_stripes.specs.declared.run_end.RunEnd.{RunEnd}
use Rattle.file_stripes.proofs.RunsLemmas.{runs_kinds, runs_merged}

-- the kinds of both, from block 0 on
kinds_all : (n m : ℕ) (es rs : List Extent) → is_merged_from 0 n es ≡ true → is_merged_from n (n + m) rs ≡ true → kinds_from (with_runs es rs) 0 (n + m) ≡ kinds_from es 0 n ++ kinds_from rs n m
kinds_all n m es rs h k =
    let zero_at : 0 + n ≡ n = omega arith in
    let M : ℕ → Type 0 = λ x. is_merged_from 0 x es ≡ true in
    let R : ℕ → Type 0 = λ x. is_merged_from x (x + m) rs ≡ true in
    runs_kinds 0 n m es rs (subst M (sym zero_at) h) (subst R (sym zero_at) k) ∙ ap (λ x. kinds_from es 0 n ++ kinds_from rs x m) zero_at

-- what is joined of some ends, and the others
pub record Joining (ends rest : List RunEnd) (extents : List Extent) (blocks : List BlockEnd) : Type 0 where
  pub merged : is_merged_from 0 (length blocks) extents ≡ true
  pub follow : FollowOn (length blocks) rest
  pub few : length blocks + length (blocks_in rest) ≤ 65536
  pub blocks_are : blocks ++ blocks_in rest ≡ blocks_in ends
  pub kinds_are : kinds_from extents 0 (length blocks) ++ kinds_of_ends (length blocks) rest ≡ kinds_of_ends 0 ends

pub joining_none : (ends : List RunEnd) → FollowOn 0 ends → length (blocks_in ends) ≤ 65536 → Joining ends ends [] []
joining_none ends f h = record { merged = grind (arith, nat_tests); follow = f; few = omega arith; blocks_are = refl; kinds_are = refl }

-- the next end begins where the last one ends
pub joining_follows : (ends rest others : List RunEnd) (e : RunEnd) (extents : List Extent) (blocks : List BlockEnd) → rest ≡ e ∷ others → Joining ends rest extents blocks → FollowsOn extents e.extents
joining_follows ends rest others e extents blocks is j =
    let F : List RunEnd → Type 0 = λ l. FollowOn (length blocks) l in
    let f : F (e ∷ others) = subst F is j.follow in
    record {
      from = 0;
      at = length blocks;
      to = length blocks + length e.blocks;
      before = j.merged;
      after = f.0;
      few = omega (arith, j.few, ap (λ l. length (blocks_in l)) is, length-append e.blocks (blocks_in others));
    }

-- one end more is joined
pub joining_more : (ends rest others : List RunEnd) (e : RunEnd) (extents runs : List Extent) (blocks all : List BlockEnd) → rest ≡ e ∷ others → Joining ends rest extents blocks → runs ≡ with_runs extents e.extents → all ≡ blocks ++ e.blocks → Joining ends others runs all
joining_more ends rest others e extents runs blocks all is j r a =
    let F : List RunEnd → Type 0 = λ l. FollowOn (length blocks) l in
    let f : F (e ∷ others) = subst F is j.follow in
    let long : length all ≡ length blocks + length e.blocks = ap length a ∙ length-append blocks e.blocks in
    let G : ℕ → Type 0 = λ n. FollowOn n others in
    let M : ℕ → Type 0 = λ n. is_merged_from 0 n (with_runs extents e.extents) ≡ true in
    let n : ℕ = length blocks in
    let m : ℕ = length e.blocks in
    record {
      merged = ap (is_merged_from 0 (length all)) r ∙ subst M (sym long) (runs_merged 0 n (n + m) extents e.extents j.merged f.0);
      follow = subst G (sym long) f.1;
      few = omega (arith, j.few, ap (λ l. length (blocks_in l)) is, length-append e.blocks (blocks_in others));
      blocks_are =
          ap (λ l. l ++ blocks_in others) a ∙ append_assoc blocks e.blocks (blocks_in others)
          ∙ ap (λ l. blocks ++ blocks_in l) (sym is) ∙ j.blocks_are;
      kinds_are =
          ap (λ l. kinds_from l 0 (length all) ++ kinds_of_ends (length all) others) r
          ∙ ap (λ x. kinds_from (with_runs extents e.extents) 0 x ++ kinds_of_ends x others) long
          ∙ ap (λ l. l ++ kinds_of_ends (n + m) others) (kinds_all n m extents e.extents j.merged f.0)
          ∙ append_assoc (kinds_from extents 0 n) (kinds_from e.extents n m) (kinds_of_ends (n + m) others)
          ∙ ap (λ l. kinds_from extents 0 n ++ kinds_of_ends n l) (sym is) ∙ j.kinds_are;
    }

-- all are joined
pub record Joined (ends : List RunEnd) (extents : List Extent) (blocks : List BlockEnd) : Type 0 where
  pub merged : is_merged_from 0 (length blocks) extents ≡ true
  pub kinds : kinds_from extents 0 (length blocks) ≡ kinds_of_ends 0 ends
  pub blocks_are : blocks ≡ blocks_in ends

no_more : {A : Type 0} (xs : List A) → length xs ≡ 0 → xs ≡ []
no_more [] h = refl
no_more (x ∷ xs) h = absurd (omega arith)

pub joining_all : (ends rest : List RunEnd) (extents : List Extent) (blocks : List BlockEnd) → length rest ≡ 0 → Joining ends rest extents blocks → Joined ends extents blocks
joining_all ends rest extents blocks h j =
    let none : rest ≡ [] = no_more rest h in
    record {
      merged = j.merged;
      kinds = sym (append-nil (kinds_from extents 0 (length blocks))) ∙ ap (λ l. kinds_from extents 0 (length blocks) ++ kinds_of_ends (length blocks) l) (sym none) ∙ j.kinds_are;
      blocks_are = sym (append-nil blocks) ∙ ap (λ l. blocks ++ blocks_in l) (sym none) ∙ j.blocks_are;
    }
