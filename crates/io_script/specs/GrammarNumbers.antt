use Rattle.std.specs.Prelude.{ℕ, Bool, not, ◌&&◌, ◌||◌, ◌==◌, nat_le, nat_lt, ◌+◌, ◌-◌, ◌*◌, ◌/◌, ◌%◌, List, [], ◌∷◌, Option, Some, None, length, replicate, is_some, unwrap_or, if◌then◌else◌}
use Rattle.std.specs.List.{list_all}
use Rattle.std.specs.Str.{bytes_eq}
use Rattle.io_script.specs.GrammarWords.{Word, pieces, is_empty}

-- the next step, if this one gave a value
infixl 10 ◌>>=◌
abbrev pub ◌>>=◌ : {A B : Type 0} → Option A → (A → Option B) → Option B
Some x >>= f = f x
None >>= f = None

-- a value that stands only where a test holds
abbrev pub provided : {A : Type 0} → Bool → Option A → Option A
provided b o = if b then o else None

abbrev pub is_digit : ℕ → Bool
is_digit b = nat_le 48 b && nat_le b 57

-- a number with one more digit, as long as it stays below 2 ^ 64
abbrev pub with_digit : ℕ → ℕ → Option ℕ
with_digit n b = provided (is_digit b && nat_lt (n * 10 + (b - 48)) 18446744073709551616) (Some (n * 10 + (b - 48)))

-- a number that goes on with these digits
abbrev pub number_from : ℕ → Word → Option ℕ
number_from n [] = Some n
number_from n (b ∷ bs) = with_digit n b >>= (λ m. number_from m bs)

-- a number is 1 to 20 decimal digits, with a value below 2 ^ 64
abbrev pub number_of : Word → Option ℕ
number_of word = provided (nat_lt 0 (length word) && nat_le (length word) 20) (number_from 0 word)

abbrev pub is_number : Word → Bool
is_number word = is_some (number_of word)

-- what a word says as a number; a word that says none is not looked at
abbrev pub value_of : Word → ℕ
value_of word = unwrap_or (number_of word) 0

-- a number of a range
abbrev pub number_in : ℕ → ℕ → Word → Option ℕ
number_in low high word = number_of word >>= (λ n. provided (nat_le low n && nat_le n high) (Some n))

-- a letter, a digit or a low line
abbrev pub is_name_byte : ℕ → Bool
is_name_byte b = (nat_le 97 b && nat_le b 122) || is_digit b || b == 95

-- a name is 1 to 16 such bytes
abbrev pub is_name : Word → Bool
is_name word = nat_le 1 (length word) && (nat_le (length word) 16 && list_all is_name_byte word)

-- a hexadecimal digit, in either case
abbrev pub is_hex : ℕ → Bool
is_hex b = is_digit b || (nat_le 97 b && nat_le b 102) || (nat_le 65 b && nat_le b 70)

abbrev pub hex_value : ℕ → ℕ
hex_value b = if is_digit b then b - 48 else (if nat_le 97 b && nat_le b 102 then b - 87 else (if nat_le 65 b && nat_le b 70 then b - 55 else 0))

-- the byte that two hexadecimal digits say
abbrev pub byte_of : ℕ → ℕ → ℕ
byte_of high low = hex_value high * 16 + hex_value low

-- the bytes that hexadecimal digits say, two digits a byte
abbrev pub hex_bytes : Word → List ℕ
hex_bytes [] = []
hex_bytes (high ∷ []) = []
hex_bytes (high ∷ low ∷ more) = byte_of high low ∷ hex_bytes more

-- the byte of two hexadecimal digits, where a word is these
abbrev pub fill_in : Word → Option ℕ
fill_in (high ∷ low ∷ []) = provided (is_hex high && is_hex low) (Some (byte_of high low))
fill_in _ = None

-- an even number of hexadecimal digits, at least two
abbrev pub is_hex_word : Word → Bool
is_hex_word word = not (is_empty word) && (length word % 2 == 0 && list_all is_hex word)

-- bytes as a dash, which is none, or as their digits
abbrev pub is_plain : Word → Bool
is_plain word = bytes_eq word (45 ∷ []) || is_hex_word word

-- one byte as two digits, and how often
abbrev pub is_repeated : ℕ → ℕ → Word → Bool
is_repeated high low times = is_hex high && (is_hex low && is_number times)

-- a segment of bytes: a byte with `x` and how often, or plain
abbrev pub is_segment : Word → Bool
is_segment (high ∷ low ∷ x ∷ times) = if x == 120 then is_repeated high low times else is_plain (high ∷ low ∷ x ∷ times)
is_segment word = is_plain word

-- how many bytes a segment has
abbrev pub segment_length : Word → ℕ
segment_length (high ∷ low ∷ x ∷ times) = if x == 120 then value_of times else length (high ∷ low ∷ x ∷ times) / 2
segment_length word = length word / 2

abbrev pub segment_bytes : Word → List ℕ
segment_bytes (high ∷ low ∷ x ∷ times) = if x == 120 then replicate (value_of times) (byte_of high low) else hex_bytes (high ∷ low ∷ x ∷ times)
segment_bytes word = hex_bytes word

-- the parts of a length word or a byte word
abbrev pub parts : Word → List Word
parts word = pieces 43 word
