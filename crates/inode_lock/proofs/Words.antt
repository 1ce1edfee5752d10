-- What the word tells after a take and after a leave.
use Rattle.std.proofs.Common.{◌≡◌, ℕ, ◌+◌, ◌*◌, ◌/◌, ◌%◌, ◌<◌, ◌≤◌, Bool, true, false, cond, eqb, refl, ap, arith, Some}
use Rattle.std.proofs.lemmas.Bool.Decides.{nat_tests}
use Rattle.inode_lock.specs.declared.word.Class.{Class}
use Rattle.inode_lock.specs.declared.word.Class.TheVariants.{Cached, Direct, Exclusive}
use Rattle.inode_lock.specs.Word.{class_number, is_exclusive, holds_in, class_in, word_of, told, excludes}
use Rattle.inode_lock.specs.Exclusion.{weight}

pub class_in-word_of : (k r : ℕ) → r < 4294967296 → (k * 4294967296 + r) / 4294967296 ≡ k
class_in-word_of k r h = omega arith

pub holds_in-word_of : (k r : ℕ) → r < 4294967296 → (k * 4294967296 + r) % 4294967296 ≡ r
holds_in-word_of k r h = omega arith

-- told, of the parts of a word
abbrev told_by : ℕ → ℕ → ℕ → ℕ
told_by k q r = cond (eqb q k) r 0

-- a word that admits one more hold of the class k, with the class q and r holds
joins : (x : Bool) (k d q r : ℕ) → cond (eqb r 0) false (cond (eqb r 4294967295) true (cond (eqb q k) x true)) ≡ false → told_by d k (r + 1) ≡ told_by d q r + cond (eqb d k) 1 0
joins x k d q r h = grind (arith, nat_tests)

room : (x : Bool) (k q r : ℕ) → r < 4294967296 → cond (eqb r 0) false (cond (eqb r 4294967295) true (cond (eqb q k) x true)) ≡ false → r + 1 < 4294967296
room x k q r small h = grind (arith, nat_tests)

alone : (k q r : ℕ) → cond (eqb r 0) false (cond (eqb r 4294967295) true (cond (eqb q k) true true)) ≡ false → r ≡ 0
alone k q r h = grind (arith, nat_tests)

-- after a take that is granted
pub told-joined : (c d : Class) (n : ℕ) → excludes c n ≡ false → told d (word_of c (holds_in n + 1)) ≡ told d n + weight d (Some c)
told-joined c d n h =
    let fits = room (is_exclusive c) (class_number c) (n / 4294967296) (n % 4294967296) (omega arith) h in
    let q = class_in-word_of (class_number c) (n % 4294967296 + 1) fits in
    let r = holds_in-word_of (class_number c) (n % 4294967296 + 1) fits in
    rw (q, r) (joins (is_exclusive c) (class_number c) (class_number d) (n / 4294967296) (n % 4294967296) h)

-- an exclusive hold is granted where there is no hold
pub one-joined : (c : Class) (n : ℕ) → excludes c n ≡ false → told Exclusive n ≤ 1 → told Exclusive (word_of c (holds_in n + 1)) ≤ 1
one-joined Cached n h one = let t = told-joined Cached Exclusive n h in omega arith
one-joined Direct n h one = let t = told-joined Direct Exclusive n h in omega arith
one-joined Exclusive n h one =
    let none_yet : n % 4294967296 ≡ 0 = alone 3 (n / 4294967296) (n % 4294967296) h in
    let t = told-joined Exclusive Exclusive n h in
    let was : told Exclusive n ≡ 0 = grind (arith, nat_tests) in
    omega arith

-- a word that tells a hold of the class k, with the class q and r holds, has one hold less after a leave
parts_left : (n m : ℕ) → 0 < n % 4294967296 → m + 1 ≡ n → (m / 4294967296 ≡ n / 4294967296) × (m % 4294967296 + 1 ≡ n % 4294967296)
parts_left n m some_left less = (omega arith, omega arith)

leaves : (k d q r s : ℕ) → 0 < told_by k q r → s + 1 ≡ r → told_by d q s + cond (eqb d k) 1 0 ≡ told_by d q r
leaves k d q r s holds less = grind (arith, nat_tests)

some_hold : (k q r : ℕ) → 0 < told_by k q r → 0 < r
some_hold k q r h = grind (arith, nat_tests)

-- after a leave of the class, at a word that tells a hold of it
pub told-left : (c d : Class) (n m : ℕ) → 0 < told c n → m + 1 ≡ n → told d m + weight d (Some c) ≡ told d n
told-left c d n m holds less =
    let some_left = some_hold (class_number c) (n / 4294967296) (n % 4294967296) holds in
    let parts = parts_left n m some_left less in
    rw parts.0 (leaves (class_number c) (class_number d) (n / 4294967296) (n % 4294967296) (m % 4294967296) holds parts.1)

pub some-told : (c : Class) (n : ℕ) → 0 < told c n → 0 < n
some-told c n h = let r = some_hold (class_number c) (n / 4294967296) (n % 4294967296) h in omega arith

pub weight-same : (c : Class) → weight c (Some c) ≡ 1
weight-same Cached = refl
weight-same Direct = refl
weight-same Exclusive = refl

-- the class that a word tells is one
told_one : (k q r : ℕ) → 0 < told_by k q r → (q ≡ k) × (told_by k q r ≡ r)
told_one k q r h = (grind (arith, nat_tests), grind (arith, nat_tests))

pub class_in-told : (c : Class) (n : ℕ) → 0 < told c n → (class_in n ≡ class_number c) × (told c n ≡ holds_in n)
class_in-told c n h = told_one (class_number c) (n / 4294967296) (n % 4294967296) h

pub class_number-injective : (c d : Class) → class_number c ≡ class_number d → c ≡ d
class_number-injective Cached Cached e = refl
class_number-injective Cached Direct e = absurd (omega arith)
class_number-injective Cached Exclusive e = absurd (omega arith)
class_number-injective Direct Cached e = absurd (omega arith)
class_number-injective Direct Direct e = refl
class_number-injective Direct Exclusive e = absurd (omega arith)
class_number-injective Exclusive Cached e = absurd (omega arith)
class_number-injective Exclusive Direct e = absurd (omega arith)
class_number-injective Exclusive Exclusive e = refl

-- each class is one of the three
weights-one : (c : Class) → weight Cached (Some c) + weight Direct (Some c) + weight Exclusive (Some c) ≡ 1
weights-one Cached = refl
weights-one Direct = refl
weights-one Exclusive = refl

-- the word tells holds of the three classes alone
abbrev pub TellsAll : ℕ → Type 0
TellsAll n = told Cached n + told Direct n + told Exclusive n ≡ holds_in n

pub tells_all-joined : (c : Class) (n : ℕ) → excludes c n ≡ false → TellsAll n → TellsAll (word_of c (holds_in n + 1))
tells_all-joined c n h all =
    let fits = room (is_exclusive c) (class_number c) (n / 4294967296) (n % 4294967296) (omega arith) h in
    let r : holds_in (word_of c (holds_in n + 1)) ≡ holds_in n + 1 = holds_in-word_of (class_number c) (n % 4294967296 + 1) fits in
    let p = told-joined c Cached n h in
    let q = told-joined c Direct n h in
    let x = told-joined c Exclusive n h in
    let one = weights-one c in
    omega arith

pub tells_all-left : (c : Class) (n m : ℕ) → 0 < told c n → m + 1 ≡ n → TellsAll n → TellsAll m
tells_all-left c n m holds less all =
    let some_left = some_hold (class_number c) (n / 4294967296) (n % 4294967296) holds in
    let parts = parts_left n m some_left less in
    let p = told-left c Cached n m holds less in
    let q = told-left c Direct n m holds less in
    let x = told-left c Exclusive n m holds less in
    let one = weights-one c in
    omega arith

-- a word that tells no hold admits each class
pub admits-free : (c : Class) (n : ℕ) → holds_in n ≡ 0 → excludes c n ≡ false
admits-free c n free = ap (λ (r : ℕ). cond (eqb r 0) false (cond (eqb r 4294967295) true (cond (eqb (n / 4294967296) (class_number c)) (is_exclusive c) true))) free
