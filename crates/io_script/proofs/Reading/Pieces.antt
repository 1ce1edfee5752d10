-- Numbers, words and bytes, read off the text that they begin.
use Rattle.std.proofs.Common.{◌≡◌, ℕ, zero, suc, ◌*◌, ◌/◌, ◌%◌, ◌^◌, ◌<◌, ◌≤◌, ◌&&◌, not, nat_le, nat_lt, Bool, true, false, List, [], ◌∷◌, ◌++◌, length, slice_index, decimal, codes, IsTrue, inl, inr, refl, sym, ap, ap₂, subst, ◌∙◌, arith}
use Rattle.std.proofs.lemmas.Bool.{false≢true, and_parts, cases_lt}
use Rattle.std.proofs.lemmas.Bool.Decides.{nat_tests}
use Rattle.std.proofs.lemmas.List.{append_cancel_left}
use Rattle.std.proofs.lemmas.Fmt.{decimal_is_IsNumeral, decimal_injective}
use Rattle.std.specs.Result.{result_unwrap_or}
use Rattle.std.specs.Str.Parse.{AllDigits}
use Rattle.std.proofs.lemmas.Str.Parse.{digit_from_value}
use Rattle.hex.specs.Hex.{IsBytes, decode_of, encode_lower, encode_with, lower_digits}
use Rattle.hex.proofs.HexLemmas.{decode_of-encode_lower, length-encode_with}
use Rattle.io_model.specs.ReplyText.{hex_text}
use Rattle.io_script.proofs.Reading.Lists.{heads, tails, Each}

-- the text does not begin with a byte that passes the test
abbrev pub stops : (ℕ → Bool) → List ℕ → Bool
stops test [] = true
stops test (c ∷ cs) = not (test c)

not_both : (b : Bool) → b ≡ true → IsTrue (not b) → ⊥
not_both true e h = false≢true h
not_both false e h = false≢true e

-- bytes that pass a test, up to one that does not
pub span_one : (test : ℕ → Bool) (xs ys a b : List ℕ) → Each (λ c. test c ≡ true) xs → Each (λ c. test c ≡ true) ys → IsTrue (stops test a) → IsTrue (stops test b)
    → xs ++ a ≡ ys ++ b → (xs ≡ ys) × (a ≡ b)
span_one test [] [] a b hx hy ha hb e = (refl, e)
span_one test [] (y ∷ ys) a b hx hy ha hb e = absurd (not_both (test y) hy.0 (subst (λ t. IsTrue (stops test t)) e ha))
span_one test (x ∷ xs) [] a b hx hy ha hb e = absurd (not_both (test x) hx.0 (subst (λ t. IsTrue (stops test t)) (sym e) hb))
span_one test (x ∷ xs) (y ∷ ys) a b hx hy ha hb e =
    let same = span_one test xs ys a b hx.1 hy.1 ha hb (tails x y (xs ++ a) (ys ++ b) e) in
    (ap₂ (λ z zs. z ∷ zs) (heads x y (xs ++ a) (ys ++ b) e) same.0, same.1)

abbrev pub is_digit : ℕ → Bool
is_digit c = nat_le 48 c && nat_le c 57

is_digit-in_range : (c : ℕ) → 48 ≤ c → c ≤ 57 → is_digit c ≡ true
is_digit-in_range c low high = grind (arith, nat_tests)

digits_pass : (ds : List ℕ) → AllDigits 10 ds → Each (λ c. is_digit c ≡ true) ds
digits_pass [] h = tt
digits_pass (d ∷ ds) h = let range = digit_from_value d h.0 in (is_digit-in_range d (omega (arith, range)) (omega (arith, range)), digits_pass ds h.1)

-- a number, up to a byte that is no digit
pub number_one : (m n : ℕ) (a b : List ℕ) → m < 2 ^ 64 → n < 2 ^ 64 → IsTrue (stops is_digit a) → IsTrue (stops is_digit b)
    → decimal m ++ a ≡ decimal n ++ b → (m ≡ n) × (a ≡ b)
number_one m n a b hm hn ha hb e =
    let same = span_one is_digit (decimal m) (decimal n) a b (digits_pass (decimal m) (decimal_is_IsNumeral m hm).0.1) (digits_pass (decimal n) (decimal_is_IsNumeral n hn).0.1) ha hb e in
    (decimal_injective m n hm hn same.0, same.1)

-- a byte that is neither a blank nor the end of a line, nor less
abbrev pub is_mark : ℕ → Bool
is_mark c = nat_lt 32 c

all_marks : List ℕ → ℕ → Bool
all_marks t zero = true
all_marks t (suc n) = is_mark (slice_index t n) && all_marks t n

all_marks-at : (t : List ℕ) (n k : ℕ) → all_marks t n ≡ true → k < n → is_mark (slice_index t k) ≡ true
unfolding all_marks
all_marks-at t zero k h lt = absurd (omega arith)
all_marks-at t (suc n) k h lt =
    let parts = and_parts (is_mark (slice_index t n)) (all_marks t n) h in
    elim (cases_lt k n) [
      | inl below ↦ all_marks-at t n k parts.1 below
      | inr top ↦
          let e : k ≡ n = omega arith in
          rw e parts.0
    ]

digit_mark : (d : ℕ) → d < 16 → is_mark (slice_index lower_digits d) ≡ true
unfolding all_marks
digit_mark d h = all_marks-at lower_digits 16 d refl h

encoded_marks : (xs : List ℕ) → IsBytes xs → Each (λ c. is_mark c ≡ true) (encode_with lower_digits xs)
unfolding encode_with
encoded_marks [] h = tt
encoded_marks (x ∷ xs) h =
    let small : x < 256 = h 0 in
    (digit_mark (x / 16) (omega arith), (digit_mark (x % 16) (omega arith), encoded_marks xs (λ i. h (suc i))))

hex_marks : (xs : List ℕ) → IsBytes xs → Each (λ c. is_mark c ≡ true) (hex_text xs)
hex_marks [] h = (refl, tt)
hex_marks (x ∷ xs) h = encoded_marks (x ∷ xs) h

encoded-one : (xs ys : List ℕ) → IsBytes xs → IsBytes ys → encode_lower xs ≡ encode_lower ys → xs ≡ ys
encoded-one xs ys hx hy e =
    ap (λ r. result_unwrap_or r []) (sym (decode_of-encode_lower xs hx) ∙ ap decode_of e ∙ decode_of-encode_lower ys hy)

dash_apart : (xs : List ℕ) → codes "-" ≡ encode_lower xs → ⊥
dash_apart xs e = let even : 1 ≡ 2 * length xs = ap length e ∙ length-encode_with lower_digits xs in omega (arith, even)

hex-one : (xs ys : List ℕ) → IsBytes xs → IsBytes ys → hex_text xs ≡ hex_text ys → xs ≡ ys
hex-one [] [] hx hy e = refl
hex-one [] (y ∷ ys) hx hy e = absurd (dash_apart (y ∷ ys) e)
hex-one (x ∷ xs) [] hx hy e = absurd (dash_apart (x ∷ xs) (sym e))
hex-one (x ∷ xs) (y ∷ ys) hx hy e = encoded-one (x ∷ xs) (y ∷ ys) hx hy e

-- bytes, up to a blank or the end of a line
pub bytes_one : (xs ys a b : List ℕ) → IsBytes xs → IsBytes ys → IsTrue (stops is_mark a) → IsTrue (stops is_mark b)
    → hex_text xs ++ a ≡ hex_text ys ++ b → (xs ≡ ys) × (a ≡ b)
bytes_one xs ys a b hx hy ha hb e =
    let same = span_one is_mark (hex_text xs) (hex_text ys) a b (hex_marks xs hx) (hex_marks ys hy) ha hb e in
    (hex-one xs ys hx hy same.0, same.1)

-- a word, and then a number
pub counted_one : (word : List ℕ) (m n : ℕ) (a b : List ℕ) → m < 2 ^ 64 → n < 2 ^ 64 → IsTrue (stops is_digit a) → IsTrue (stops is_digit b)
    → word ++ (decimal m ++ a) ≡ word ++ (decimal n ++ b) → (m ≡ n) × (a ≡ b)
counted_one word m n a b hm hn ha hb e = number_one m n a b hm hn ha hb (append_cancel_left word (decimal m ++ a) (decimal n ++ b) e)

-- two words, each with a number
pub pair_one : (word more : List ℕ) (m k n l : ℕ) (a b : List ℕ) → m < 2 ^ 64 → k < 2 ^ 64 → n < 2 ^ 64 → l < 2 ^ 64
    → IsTrue (stops is_digit (more ++ (decimal k ++ a))) → IsTrue (stops is_digit (more ++ (decimal l ++ b))) → IsTrue (stops is_digit a) → IsTrue (stops is_digit b)
    → word ++ (decimal m ++ (more ++ (decimal k ++ a))) ≡ word ++ (decimal n ++ (more ++ (decimal l ++ b))) → (m ≡ n) × ((k ≡ l) × (a ≡ b))
pair_one word more m k n l a b hm hk hn hl hc hd ha hb e =
    let first = counted_one word m n (more ++ (decimal k ++ a)) (more ++ (decimal l ++ b)) hm hn hc hd e in
    (first.0, counted_one more k l a b hk hl ha hb first.1)
