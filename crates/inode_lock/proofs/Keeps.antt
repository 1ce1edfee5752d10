-- Each kind of step keeps class exclusion.
use Rattle.std.proofs.Common.{◌≡◌, ◌≢◌, ℕ, zero, suc, ◌+◌, ◌-◌, ◌%◌, ◌^◌, ◌<◌, ◌≤◌, Bool, true, false, eqb, List, [], ◌∷◌, ◌++◌, length, get_or, set, sym, refl, ap, ◌∙◌, subst, arith, length-set, get_or-set_same, eq-eqb, ne_eqb, None, Some}
use mathlib.Core.Logic.{dite}
use mathlib.Core.Option.{none, some, some-injective, some-ne-none}
use native.Mathlib.Decide.{ℕ_discrete}
use lib.ListN.{get_elem?}
use prog.Atomic.{either}
use Rattle.atomic_table.specs.Table.{State, Me, step, keeps, stepped, opening, Allows, Splits}
use Rattle.inode_lock.specs.declared.word.Class.{Class}
use Rattle.inode_lock.specs.declared.word.Class.TheVariants.{Cached, Direct, Exclusive}
use Rattle.inode_lock.specs.declared.steps.Step.TheVariants.{Look, Take, Leave}
use Rattle.inode_lock.specs.declared.steps.Known.{Known}
use Rattle.inode_lock.specs.Exclusion.{weight, holders, ClassesExclude}
use Rattle.inode_lock.specs.Word.{holds_in, word_of, told, excludes}
use Rattle.inode_lock.specs.Steps.{looked, asked, left, held_after, newcomer, forked}
use Rattle.inode_lock.specs.Log.{AreInOrder, IsLogged}
use Rattle.inode_lock.specs.Tells.{Looked, Asked, Left}
use Rattle.inode_lock.proofs.Words.{told-joined, one-joined, told-left, some-told, weight-same, TellsAll, tells_all-joined, tells_all-left}
use Rattle.inode_lock.proofs.Logs.{is_after, logged-next, logged-split}
use Rattle.inode_lock.proofs.Holders.{holders-set, holders-snoc, one_holds}

abbrev M : Type 0
M = Me (Unit {0}) Known

abbrev St : Type 0
St = State (Unit {0}) Known

-- the rule, of the word and what the seats know
record Fits (word : ℕ) (views : List Known) : Type 0 where
  counted : (c : Class) → holders c views ≡ told c word
  all : TellsAll word
  one_exclusive : told Exclusive word ≤ 1

of_state : (s : St) → ClassesExclude s → Fits (get_or s.words 0 0) s.views
of_state s r = record {
  counted = r.counted;
  all = (let a = r.counted Cached in let b = r.counted Direct in let c = r.counted Exclusive in let sum = r.all_counted in omega arith);
  one_exclusive = r.one_exclusive;
}

put : (s : St) → ClassesExclude s → (n id : ℕ) (me : M) (w : Known) → Fits n (set s.views id w) → IsLogged n (set s.views id w) → ClassesExclude (stepped s 0 n id me.1 w keeps)
put s r n id me w h logged =
    let wide = r.one_word in
    let found : n ≡ get_or (set s.words 0 n) 0 0 = sym (get_or-set_same s.words 0 n 0 (omega arith)) in
    record {
      one_word = length-set s.words 0 n ∙ wide;
      counted = λ c. h.counted c ∙ ap (told c) found;
      all_counted = (let a = h.counted Cached in let b = h.counted Direct in let c = h.counted Exclusive in let sum = h.all in
          let is : holds_in n ≡ holds_in (get_or (set s.words 0 n) 0 0) = ap holds_in found in omega arith);
      one_exclusive = subst (λ (k : ℕ). told Exclusive k ≤ 1) found h.one_exclusive;
      logged = subst (λ (k : ℕ). IsLogged k (set s.views id w)) found logged;
    }

-- a seat that holds what it held changes nothing
unmoved : (n id : ℕ) (views : List Known) (v w : Known) → get_elem? views id ≡ some v → w.holds ≡ v.holds → Fits n views → Fits n (set views id w)
unmoved n id views v w at same h = record {
  counted = λ c. let sum = holders-set c views id v w at in let is : weight c w.holds ≡ weight c v.holds = ap (weight c) same in let was = h.counted c in omega arith;
  all = h.all;
  one_exclusive = h.one_exclusive;
}

pub looks : (slots id : ℕ) (me : M) → Allows ClassesExclude slots id me 0 (λ n. n) (Looked (step slots 0 0 0 none) me)
looks slots id me s r _ at _ =
    let n : ℕ = get_or s.words 0 0 in
    let at_place : ℕ = length r.logged.log in
    let w : Known = looked at_place n me.0 in
    let logged = logged-next n n id s.views me.0 me.0.holds (Look n) at refl (refl, refl) r.logged in
    (w, keeps, tt, put s r n id me w (unmoved n id s.views me.0 w at refl (of_state s r)) logged, is_after me.0 me.0.holds at_place (Look n))

-- a seat that held nothing holds the class, at a word that admits it
taken : (c : Class) (n id : ℕ) (views : List Known) (v w : Known) → get_elem? views id ≡ some v → v.holds ≡ None → w.holds ≡ Some c → excludes c n ≡ false → Fits n views
    → Fits (word_of c (holds_in n + 1)) (set views id w)
taken c n id views v w at idle now admits h = record {
  counted = λ d.
      let sum = holders-set d views id v w at in
      let was : weight d v.holds ≡ 0 = ap (weight d) idle in
      let is : weight d w.holds ≡ weight d (Some c) = ap (weight d) now in
      let t = told-joined c d n admits in
      let counted = h.counted d in
      omega arith;
  all = tells_all-joined c n admits h.all;
  one_exclusive = one-joined c n admits h.one_exclusive;
}

-- the rule after a take, at this place of the log
record Took (c : Class) (n next id : ℕ) (views : List Known) (w : Known) : Type 0 where
  fits : Fits next (set views id w)
  logged : IsLogged next (set views id w)

-- a take at the word that it expects is granted
granted : (c : Class) (n read new id : ℕ) (views : List Known) (v : Known) → get_elem? views id ≡ some v → v.holds ≡ None → excludes c read ≡ false → new ≡ word_of c (holds_in read + 1) → n ≡ read
    → Fits n views → (l : IsLogged n views) → Took c n (either (eqb n read) new n) id views (asked c (length l.log) n (eqb n read) v)
granted c n read new id views v at idle admits joined e h l =
    let k : ℕ = length l.log in
    let P : Bool → Type 0 = λ b. Took c n (either b new n) id views (asked c k n b v) in
    let admits_n : excludes c n ≡ false = subst (λ (m : ℕ). excludes c m ≡ false) (sym e) admits in
    let joined_n : new ≡ word_of c (holds_in n + 1) = joined ∙ ap (λ (m : ℕ). word_of c (holds_in m + 1)) (sym e) in
    let w : Known = asked c k n true v in
    let fits : Fits new (set views id w) = subst (λ (m : ℕ). Fits m (set views id w)) (sym joined_n) (taken c n id views v w at idle refl admits_n h) in
    let logged : IsLogged new (set views id w) = logged-next n new id views v (Some c) (Take c n true) at refl (refl, joined_n) l in
    subst P (sym (eq-eqb n read e)) (record { fits = fits; logged = logged })

-- and at another word it changes nothing
refused : (c : Class) (n read new id : ℕ) (views : List Known) (v : Known) → get_elem? views id ≡ some v → n ≢ read → Fits n views
    → (l : IsLogged n views) → Took c n (either (eqb n read) new n) id views (asked c (length l.log) n (eqb n read) v)
refused c n read new id views v at e h l =
    let k : ℕ = length l.log in
    let P : Bool → Type 0 = λ b. Took c n (either b new n) id views (asked c k n b v) in
    let w : Known = asked c k n false v in
    let logged : IsLogged n (set views id w) = logged-next n n id views v v.holds (Take c n false) at refl (refl, refl) l in
    subst P (sym (ne_eqb n read e)) (record { fits = unmoved n id views v w at refl h; logged = logged })

pub asks : (c : Class) (slots id : ℕ) (me : M) (read new : ℕ) → me.0.holds ≡ None → excludes c read ≡ false → new ≡ word_of c (holds_in read + 1)
    → Allows ClassesExclude slots id me 0 (λ n. either (eqb n read) new n) (Asked c (step slots 0 read new none) me)
asks c slots id me read new idle admits joined s r _ at _ =
    let n : ℕ = get_or s.words 0 0 in
    let at_place : ℕ = length r.logged.log in
    let w : Known = asked c at_place n (eqb n read) me.0 in
    let h = of_state s r in
    let kept : Took c n (either (eqb n read) new n) id s.views w =
    dite (ℕ_discrete n read) (λ e. granted c n read new id s.views me.0 at idle admits joined e h r.logged) (λ e. refused c n read new id s.views me.0 at e h r.logged) in
    (w, keeps, tt, put s r (either (eqb n read) new n) id me w kept.fits kept.logged, is_after me.0 (held_after c (eqb n read) me.0.holds) at_place (Take c n (eqb n read)))

-- a seat that held the class holds nothing
given_up : (c : Class) (n m id : ℕ) (views : List Known) (v w : Known) → get_elem? views id ≡ some v → v.holds ≡ Some c → w.holds ≡ None → 0 < told c n → m + 1 ≡ n → Fits n views
    → Fits m (set views id w)
given_up c n m id views v w at held now tells less h = record {
  counted = λ d.
      let sum = holders-set d views id v w at in
      let was : weight d v.holds ≡ weight d (Some c) = ap (weight d) held in
      let is : weight d w.holds ≡ 0 = ap (weight d) now in
      let t = told-left c d n m tells less in
      let counted = h.counted d in
      omega arith;
  all = tells_all-left c n m tells less h.all;
  one_exclusive = let t = told-left c Exclusive n m tells less in let one = h.one_exclusive in omega arith;
}

pub leaves : (c : Class) (slots id : ℕ) (me : M) → me.0.holds ≡ Some c → Allows ClassesExclude slots id me 0 (λ n. (n + (2 ^ 64 - 1)) % 2 ^ 64) (Left c (step slots 0 1 0 none) me)
leaves c slots id me held s r _ at small =
    let n : ℕ = get_or s.words 0 0 in
    let at_place : ℕ = length r.logged.log in
    let w : Known = left c at_place n me.0 in
    let one : weight c me.0.holds ≡ 1 = ap (weight c) held ∙ weight-same c in
    let counts = one_holds c s.views id me.0 at in
    let counted = r.counted c in
    let tells : 0 < told c n = omega arith in
    let above = some-told c n tells in
    let m : ℕ = (n + 18446744073709551615) % 18446744073709551616 in
    let fits : n < 18446744073709551616 = small in
    let less : m + 1 ≡ n = omega arith in
    let logged = logged-next n m id s.views me.0 None (Leave c n) at refl (refl, less) r.logged in
    (w, keeps, tt, put s r m id me w (given_up c n m id s.views me.0 w at held refl tells less (of_state s r)) logged, (is_after me.0 None at_place (Leave c n), tells, r.one_exclusive))

forked-holders : (c : Class) (views : List Known) (id : ℕ) (v : Known) → get_elem? views id ≡ some v → holders c (set views id (forked v) ++ newcomer ∷ []) ≡ holders c views
forked-holders c views id v at =
    let more = holders-snoc c (set views id (forked v)) newcomer in
    let sum = holders-set c views id v (forked v) at in
    omega arith

none_at_first : (c : Class) → 0 ≡ told c 0
none_at_first Cached = refl
none_at_first Direct = refl
none_at_first Exclusive = refl

only : (i : ℕ) (v : Known) → get_elem? (newcomer ∷ []) i ≡ some v → newcomer ≡ v
only zero v e = some-injective newcomer v e
only (suc i) v e = absurd (some-ne-none v (sym e))

pub forks : (id : ℕ) (v : Known) → Splits ClassesExclude id v (forked v) newcomer
forks id v s r at = record {
  one_word = r.one_word;
  counted = λ c. forked-holders c s.views id v at ∙ r.counted c;
  all_counted = (let a = forked-holders Cached s.views id v at in let b = forked-holders Direct s.views id v at in let c = forked-holders Exclusive s.views id v at in let sum = r.all_counted in omega arith);
  one_exclusive = r.one_exclusive;
  logged = logged-split (get_or s.words 0 0) id s.views v at r.logged;
}

pub starts : ClassesExclude (opening (0 ∷ []) [] newcomer)
starts = record {
  one_word = refl;
  counted = λ c. none_at_first c;
  all_counted = refl;
  one_exclusive = omega arith;
  logged = record { log = []; leads = refl; once = λ f. refl; order = λ i v there. subst (λ (x : Known). AreInOrder 0 0 x.steps) (only i v there) (omega arith) };
}
