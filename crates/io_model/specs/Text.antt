use Rattle.std.specs.Prelude.{ℕ, List, [], ◌∷◌, ◌++◌}

-- one piece of text, and what comes after it: `s ⋅ t` groups to the right, as text is appended
infixr 65 ◌⋅◌
abbrev pub ◌⋅◌ : List ℕ → List ℕ → List ℕ
s ⋅ t = s ++ t

abbrev pub line_end : List ℕ
line_end = 10 ∷ []

abbrev pub space : List ℕ
space = 32 ∷ []
