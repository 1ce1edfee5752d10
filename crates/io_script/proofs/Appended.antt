-- Texts that grow at their end.
use Rattle.std.proofs.Common.{◌≡◌, ℕ, List, ◌++◌, sym, ap, ◌∙◌}
use Rattle.io_script.specs.Appending.{Appends}

-- what is left of some lines, once a text that began as `start` has come so far
abbrev pub HasLeft : (List ℕ → List ℕ) → (List ℕ → List ℕ) → List ℕ → List ℕ → Type 0
HasLeft whole left start now = (rest : List ℕ) → now ++ left rest ≡ start ++ whole rest

-- nothing is left
pub appends_whole : (whole left : List ℕ → List ℕ) (start now : List ℕ) → HasLeft whole left start now
    → ((rest : List ℕ) → left rest ≡ rest) → Appends whole start now
appends_whole whole left start now before none rest = ap (λ t. now ++ t) (sym (none rest)) ∙ before rest
