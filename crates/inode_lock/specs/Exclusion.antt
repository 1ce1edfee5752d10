-- Class exclusion: the rule between the word of a lock and what its seats know, and what it means.
use Rattle.std.specs.Prelude.{◌≡◌, ◌≢◌, ℕ, ◌+◌, ◌≤◌, List, [], ◌∷◌, length, slice_index, Option, Some, None, true, false, ◌==◌, if◌then◌else◌}
use mathlib.Core.Option.{some}
use lib.ListN.{get_elem?}
use Rattle.atomic_table.specs.Table.{State}
use Rattle.inode_lock.specs.declared.word.Class.{Class}
use Rattle.inode_lock.specs.declared.word.Class.TheVariants.{Cached, Direct, Exclusive}
use Rattle.inode_lock.specs.declared.steps.Placed.{Placed}
use Rattle.inode_lock.specs.declared.steps.Known.{Known}
use Rattle.inode_lock.specs.Word.{class_number, holds_in, class_in, told, excludes}
use Rattle.inode_lock.specs.Log.{is_at_word, found_by, word_after, IsLogged}

-- 1 where this is the class held, else 0
abbrev pub weight : Class → Option Class → ℕ
weight c None = 0
weight c (Some d) = (if class_number c == class_number d then 1 else 0)

-- how many seats hold the class
abbrev pub holders : Class → List Known → ℕ
holders c [] = 0
holders c (v ∷ vs) = weight c v.holds + holders c vs

-- Class exclusion, of a lock's one word and what its seats know: the seats that hold a class are as many as the word
-- tells of it, which is none for all classes but one; the holders of all classes are the holds that the word tells; one
-- seat at most holds the exclusive class; and each step of a seat at the word found the word that the lock had there
pub record ClassesExclude (s : State (Unit {0}) Known) : Type 0 where
  pub one_word : length s.words ≡ 1
  pub counted : (c : Class) → holders c s.views ≡ told c (slice_index s.words 0)
  pub all_counted : holders Cached s.views + holders Direct s.views + holders Exclusive s.views ≡ holds_in (slice_index s.words 0)
  pub one_exclusive : told Exclusive (slice_index s.words 0) ≤ 1
  pub logged : IsLogged (slice_index s.words 0) s.views

-- two seats that hold a class hold the same
abbrev pub HoldsShareAClass : Type 0
HoldsShareAClass =
    (s : State (Unit {0}) Known) → ClassesExclude s → (i j : ℕ) (v w : Known) (c d : Class) → get_elem? s.views i ≡ some v → v.holds ≡ Some c
    → get_elem? s.views j ≡ some w → w.holds ≡ Some d → c ≡ d

-- beside a seat that holds the exclusive class no other seat holds anything
abbrev pub ExclusiveIsAlone : Type 0
ExclusiveIsAlone =
    (s : State (Unit {0}) Known) → ClassesExclude s → (i j : ℕ) (v w : Known) → get_elem? s.views i ≡ some v → v.holds ≡ Some Exclusive
    → get_elem? s.views j ≡ some w → i ≢ j → w.holds ≡ None

-- the word tells the class that a seat holds, with the number of the seats that hold it
abbrev pub WordTellsTheHolds : Type 0
WordTellsTheHolds =
    (s : State (Unit {0}) Known) → ClassesExclude s → (i : ℕ) (v : Known) (c : Class) → get_elem? s.views i ≡ some v → v.holds ≡ Some c
    → (class_in (slice_index s.words 0) ≡ class_number c) × (holds_in (slice_index s.words 0) ≡ holders c s.views)

-- each word that a seat says it found is the one that the steps before its own had left
abbrev pub EachWordWasFound : Type 0
EachWordWasFound =
    (s : State (Unit {0}) Known) (h : ClassesExclude s) (i j : ℕ) (v : Known) (p : Placed) → get_elem? s.views i ≡ some v → get_elem? v.steps j ≡ some p → is_at_word p.step ≡ true
    → found_by p.step ≡ word_after 0 h.logged.log p.place

-- where no seat holds a class, the word excludes none
abbrev pub FreeLockAdmitsAll : Type 0
FreeLockAdmitsAll =
    (s : State (Unit {0}) Known) → ClassesExclude s → ((i : ℕ) (v : Known) → get_elem? s.views i ≡ some v → v.holds ≡ None) → (c : Class)
    → excludes c (slice_index s.words 0) ≡ false
