use Rattle.std.specs.Prelude.{◌≡◌, ℕ, List, ◌++◌, Some, codes}
use Rattle.io_script.specs.Grammar.{refusal_of}
use Rattle.io_script.specs.declared.read.cause.Cause.{Cause}

-- a device of 8 blocks of 16 bytes, each byte ee, folios of 4 blocks, and more lines
abbrev pub small : List ℕ → List ℕ
small more = codes "iomap 1\ndev 16 8 ee\nfolio 4\n" ++ more

-- the same in the second version, with blocks of 32 bytes, up to the place of the grain line
abbrev pub fine : List ℕ → List ℕ
fine more = codes "iomap 2\ndev 32 8 ee\nfolio 4\n" ++ more

-- the first of these with a cached file of four blocks, and the line of its first phase
abbrev pub with_file : List ℕ → List ℕ
with_file more = small (codes "file f cached 4\nphase\n" ++ more)

-- a text is refused at a line for a cause
abbrev pub IsRefused : List ℕ → ℕ → Cause → Type 0
IsRefused text line cause = refusal_of text ≡ Some (line, cause)
