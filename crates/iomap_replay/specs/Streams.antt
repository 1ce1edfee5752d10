use Rattle.std.specs.Prelude.{◌≡◌, ℕ, ◌<◌, ◌≤◌, Option, Some, List, [], ◌++◌, length, take, IfSome}
use Rattle.io_script.specs.Grammar.{TEXT_LIMIT}

-- what was read of these bytes: all of them, and nothing is left; or more than a script may have, as
-- the bytes then are too
pub record WasRead (bytes text : List ℕ) (left : Option (List ℕ)) : Type 0 where
  pub whole : length text ≤ TEXT_LIMIT → (text ≡ bytes) × (left ≡ Some [])
  pub beyond : TEXT_LIMIT < length text → TEXT_LIMIT < length bytes

-- where a source tells its bytes, the text is what was read of them
abbrev pub ReadTold : Option (List ℕ) → List ℕ → Option (List ℕ) → Type 0
ReadTold before text now = IfSome before (λ bytes. WasRead bytes text now)

-- where a sink tells its bytes, it took the whole text
abbrev pub TookWhole : Option (List ℕ) → List ℕ → Option (List ℕ) → Type 0
TookWhole before text now = IfSome before (λ bytes. now ≡ Some (bytes ++ text))

-- where a sink tells its bytes, it took the first bytes of the text
abbrev pub TookPrefix : Option (List ℕ) → List ℕ → Option (List ℕ) → Type 0
TookPrefix before text now = IfSome before (λ bytes. (n : ℕ) × (now ≡ Some (bytes ++ take n text)))
