-- Hexadecimal digits, some bytes after others.
use Rattle.std.proofs.Common.{◌≡◌, ℕ, zero, suc, List, [], ◌∷◌, ◌++◌, ◌/◌, ◌%◌, take, drop, slice_index, refl, ap}
use Rattle.hex.specs.Hex.{encode_with}

pub encode_with-cut : (t : List ℕ) (n : ℕ) (xs rest : List ℕ) → encode_with t xs ++ rest ≡ encode_with t (take n xs) ++ (encode_with t (drop n xs) ++ rest)
unfolding encode_with
encode_with-cut t zero xs rest = refl
encode_with-cut t (suc n) [] rest = refl
encode_with-cut t (suc n) (x ∷ xs) rest = ap (λ digits. slice_index t (x / 16) ∷ slice_index t (x % 16) ∷ digits) (encode_with-cut t n xs rest)
