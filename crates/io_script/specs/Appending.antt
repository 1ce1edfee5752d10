use Rattle.std.specs.Prelude.{◌≡◌, ℕ, List, ◌++◌}

-- a text grew by these lines: whatever comes after the text afterwards, it is the text before with the lines and the same after it
abbrev pub Appends : (List ℕ → List ℕ) → List ℕ → List ℕ → Type 0
Appends lines before after = (rest : List ℕ) → after ++ rest ≡ before ++ lines rest
