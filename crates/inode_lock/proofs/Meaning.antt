-- What class exclusion means.
use Rattle.std.proofs.Common.{◌≡◌, ℕ, zero, suc, ◌<◌, List, [], ◌∷◌, get_or, sym, refl, ap, ◌∙◌, arith, Option, None, Some}
use mathlib.Core.Option.{some}
use lib.ListN.{get_elem?}
use Rattle.atomic_table.specs.Table.{State}
use Rattle.inode_lock.specs.declared.word.Class.{Class}
use Rattle.inode_lock.specs.declared.word.Class.TheVariants.{Cached, Direct, Exclusive}
use Rattle.inode_lock.specs.declared.steps.Known.{Known}
use Rattle.inode_lock.specs.Word.{told, holds_in}
use Rattle.inode_lock.specs.Exclusion.{weight, holders, ClassesExclude, HoldsShareAClass, ExclusiveIsAlone, WordTellsTheHolds, FreeLockAdmitsAll}
use Rattle.inode_lock.proofs.Words.{weight-same, class_in-told, class_number-injective, admits-free}
use Rattle.inode_lock.proofs.Holders.{one_holds, two_hold}

abbrev St : Type 0
St = State (Unit {0}) Known

-- the word tells the hold of a seat
tells : (s : St) → ClassesExclude s → (i : ℕ) (v : Known) (c : Class) → get_elem? s.views i ≡ some v → v.holds ≡ Some c → 0 < told c (get_or s.words 0 0)
tells s h i v c at held =
    let one : weight c v.holds ≡ 1 = ap (weight c) held ∙ weight-same c in
    let counts = one_holds c s.views i v at in
    let counted = h.counted c in
    omega arith

pub word_tells_the_holds : WordTellsTheHolds
word_tells_the_holds s h i v c at held =
    let t = class_in-told c (get_or s.words 0 0) (tells s h i v c at held) in
    (t.0, sym (h.counted c ∙ t.1))

pub holds_share_a_class : HoldsShareAClass
holds_share_a_class s h i j v w c d at held at' held' =
    let p = word_tells_the_holds s h i v c at held in
    let q = word_tells_the_holds s h j w d at' held' in
    class_number-injective c d (sym p.0 ∙ q.0)

nothing : (o : Option Class) → ((d : Class) → o ≡ Some d → Exclusive ≡ d) → weight Exclusive o ≡ 0 → o ≡ None
nothing None _ _ = refl
nothing (Some d) same none_yet =
    let is : weight Exclusive (Some d) ≡ 1 = ap (λ (e : Class). weight Exclusive (Some e)) (sym (same d refl)) in absurd (omega arith)

pub exclusive_is_alone : ExclusiveIsAlone
exclusive_is_alone s h i j v w at held at' apart =
    let one : weight Exclusive v.holds ≡ 1 = ap (weight Exclusive) held in
    let both = two_hold Exclusive s.views i j v w apart at at' in
    let counted = h.counted Exclusive in
    let most = h.one_exclusive in
    nothing w.holds (λ d is. holds_share_a_class s h i j v w Exclusive d at held at' is) (omega arith)

none_hold : (c : Class) (views : List Known) → ((i : ℕ) (v : Known) → get_elem? views i ≡ some v → v.holds ≡ None) → holders c views ≡ 0
none_hold c [] free = refl
none_hold c (x ∷ xs) free =
    let is : weight c x.holds ≡ 0 = ap (weight c) (free zero x refl) in
    let r = none_hold c xs (λ i v at. free (suc i) v at) in
    omega arith

pub free_lock_admits_all : FreeLockAdmitsAll
free_lock_admits_all s h free c =
    let n : ℕ = get_or s.words 0 0 in
    let a = none_hold Cached s.views free in
    let b = none_hold Direct s.views free in
    let x = none_hold Exclusive s.views free in
    let sum = h.all_counted in
    let is : holds_in n ≡ 0 = omega arith in
    admits-free c n is
