use Rattle.std.specs.Prelude.{ℕ, Bool, true, false, not, ◌==◌, ◌||◌, nat_lt, List, [], ◌∷◌, length}
use Rattle.std.specs.List.{slice_split, filter, list_any}

abbrev pub Word : Type 0
Word = List ℕ

abbrev pub is_empty : Word → Bool
is_empty [] = true
is_empty (b ∷ bs) = false

-- what stands between the places of a byte, and before the first and after the last of them
abbrev pub pieces : ℕ → List ℕ → List (List ℕ)
pieces separator bytes = slice_split (λ b. b == separator) bytes

-- the words of a line, with one or more spaces between them
abbrev pub words : List ℕ → List Word
words line = filter (λ word. not (is_empty word)) (pieces 32 line)

-- what a line says: how many words it has, and the first six of them
pub record Fields : Type 0 where
  pub count : ℕ
  pub first : Word
  pub second : Word
  pub third : Word
  pub fourth : Word
  pub fifth : Word
  pub sixth : Word

-- the first word, and the words after it; a line without words has no bytes in their place
abbrev pub head : List Word → Word
head [] = []
head (w ∷ ws) = w

abbrev pub tail : List Word → List Word
tail [] = []
tail (w ∷ ws) = ws

-- one for a word, none for the empty place of a word that is missing
abbrev pub one_if_any : Word → ℕ
one_if_any [] = 0
one_if_any (b ∷ bs) = 1

abbrev pub fields_of : List Word → Fields
fields_of ws = record {
  count = length ws;
  first = head ws;
  second = head (tail ws);
  third = head (tail (tail ws));
  fourth = head (tail (tail (tail ws)));
  fifth = head (tail (tail (tail (tail ws))));
  sixth = head (tail (tail (tail (tail (tail ws)))));
}

abbrev pub is_comment : Word → Bool
is_comment [] = false
is_comment (b ∷ bs) = b == 35

-- a line is kept unless it has no word, or its first begins with `#`
abbrev pub is_kept : List Word → Bool
is_kept [] = false
is_kept (word ∷ more) = not (is_comment word)

-- a byte that may stand in no kept line
abbrev pub is_bad_byte : ℕ → Bool
is_bad_byte b = nat_lt b 32 || nat_lt 126 b

abbrev pub has_bad_byte : List ℕ → Bool
has_bad_byte line = list_any is_bad_byte line
