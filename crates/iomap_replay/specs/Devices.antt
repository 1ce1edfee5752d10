use Rattle.std.specs.Prelude.{◌≡◌, ℕ, zero, suc, ◌+◌, ◌-◌, List, [], ◌∷◌, ◌++◌}
use Rattle.iob_base.specs.DeviceBlock.{DeviceBlock, device_block}
use Rattle.std.specs.Option.{unwrap_or}
use Rattle.io_model.specs.Contents.{Content, given_or}
use Rattle.io_model.specs.Kinds.{device_number}
use Rattle.io_model.specs.declared.file.Kind.{Kind}
use Rattle.turn_cell.specs.Stakes.{total}

-- so many blocks of a device from one on, in order, each with its content
abbrev pub blocks_with : (ℕ → Content) → ℕ → ℕ → List DeviceBlock
blocks_with content d zero = []
blocks_with content d (suc n) = device_block d (content d) ∷ blocks_with content (d + 1) n

-- the blocks of a device of so many, but those of a run
abbrev pub blocks_beside : (ℕ → Content) → ℕ → ℕ → ℕ → List DeviceBlock
blocks_beside content d n blocks = blocks_with content 0 d ++ blocks_with content (d + n) (blocks - (d + n))

-- blocks have the same numbers as others, in some order: however numbers are weighed, both weigh the same
abbrev pub SameNumbers : List DeviceBlock → List DeviceBlock → Type 0
SameNumbers xs ys = (f : ℕ → ℕ) → total (λ s. f s.number) xs ≡ total (λ s. f s.number) ys

-- the content of a device block: what a list gives for it, or else the same for all
abbrev pub content_given : List (ℕ × List ℕ) → Content → ℕ → Content
content_given given others d = given_or given d others

-- the device number with which a kind begins, and 0 where it has none
abbrev pub first_number : Kind → ℕ
first_number kind = unwrap_or (device_number kind) 0
