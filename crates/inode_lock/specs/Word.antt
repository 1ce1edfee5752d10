-- The word of a lock: a class times 2^32, plus the number of its holds.
use Rattle.std.specs.Prelude.{◌≡◌, ◌-◌, ℕ, ◌+◌, ◌*◌, ◌/◌, ◌%◌, Bool, true, false, ◌==◌, if◌then◌else◌}
use Rattle.inode_lock.specs.declared.word.Class.{Class}
use Rattle.inode_lock.specs.declared.word.Class.TheVariants.{Cached, Direct, Exclusive}

-- what the word tells the class by
abbrev pub class_number : Class → ℕ
class_number Cached = 1
class_number Direct = 2
class_number Exclusive = 3

abbrev pub is_exclusive : Class → Bool
is_exclusive Cached = false
is_exclusive Direct = false
is_exclusive Exclusive = true

-- how many holds the word tells
abbrev pub holds_in : ℕ → ℕ
holds_in word = word % 4294967296

-- the number of the class that the word tells
abbrev pub class_in : ℕ → ℕ
class_in word = word / 4294967296

-- the word of so many holds of the class
abbrev pub word_of : Class → ℕ → ℕ
word_of c holds = class_number c * 4294967296 + holds

-- how many holds of this class the word tells
abbrev pub told : Class → ℕ → ℕ
told c word = (if class_in word == class_number c then holds_in word else 0)

-- The word shuts out one more hold of the class: it tells holds, and these are as many as it can tell, or of another
-- class, or the class is exclusive
abbrev pub excludes : Class → ℕ → Bool
excludes c word =
    (if holds_in word == 0 then false else
    (if holds_in word == 4294967295 then true else
    (if class_in word == class_number c then is_exclusive c else true)))

-- a class that the word excludes is excluded after one hold less, too
abbrev pub StaysShut : ℕ → Type 0
StaysShut word = (c : Class) → excludes c word ≡ true → excludes c (word - 1) ≡ true
