-- Hexadecimal digits, two a byte.
use Rattle.std.proofs.Common.{◌≡◌, ℕ, ◌≤◌, ◌<◌, ◌+◌, ◌*◌, List, [], ◌∷◌, ◌++◌, length, take, drop, refl, arith}
use Rattle.std.proofs.lemmas.List.{append-nil, take_all, length-drop}
use Rattle.io_script.specs.GrammarNumbers.{hex_bytes}

-- fewer than two digits are no byte
hex_bytes-none : (word : List ℕ) → length word < 2 → hex_bytes word ≡ []
hex_bytes-none [] h = refl
hex_bytes-none (a ∷ []) h = refl
hex_bytes-none (a ∷ b ∷ more) h = absurd (omega arith)

-- every byte is decoded
pub decoded : (word bytes : List ℕ) (i : ℕ) → length bytes ≤ i → length word < 2 * i + 2
    → take i bytes ++ hex_bytes (drop (2 * i) word) ≡ hex_bytes word → bytes ≡ hex_bytes word
decoded word bytes i all short so_far =
    let left : length (drop (2 * i) word) < 2 = rw (length-drop (2 * i) word) (omega arith) in
    let none = hex_bytes-none (drop (2 * i) word) left in
    let whole = take_all i bytes all in
    rw (none, whole, append-nil) at so_far
