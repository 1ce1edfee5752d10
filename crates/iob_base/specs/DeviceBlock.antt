use Rattle.std.specs.Prelude.{ℕ, zero, suc, List, [], ◌∷◌, ◌++◌, replicate}

-- a block of a device: its number there, and its bytes
pub record DeviceBlock : Type 0 where
  pub number : ℕ
  pub bytes : List ℕ

abbrev pub device_block : ℕ → List ℕ → DeviceBlock
device_block number bytes = record { number = number; bytes = bytes }

-- a block of no device
abbrev pub BLANK : DeviceBlock
BLANK = device_block 0 []

-- the blocks below this number, in order, each with so many bytes of this value
abbrev pub fresh_blocks : ℕ → ℕ → ℕ → List DeviceBlock
fresh_blocks size fill zero = []
fresh_blocks size fill (suc n) = fresh_blocks size fill n ++ device_block n (replicate size fill) ∷ []
