use Rattle.std.specs.Prelude.{ℕ, zero, suc, ◌+◌, Bool, false, List, [], ◌∷◌, if◌then◌else◌, is_some}
use Rattle.io_model.specs.Kinds.{kind_after, is_kind, mapped_number}
use Rattle.io_model.specs.declared.file.Kind.{Kind}
use Rattle.range_core.specs.declared.cell.Cell.{Cell}

-- of at most n blocks, how many go on with the extent that begins with this kind, from its i-th block on
abbrev pub run_from : Kind → ℕ → List Cell → ℕ → ℕ
run_from kind i [] n = 0
run_from kind i (c ∷ cells) zero = 0
run_from kind i (c ∷ cells) (suc n) = if is_kind (kind_after kind i) c.kind then suc (run_from kind (i + 1) cells n) else 0

-- the length of the longest run of one extent at the head of these blocks, of at most n
abbrev pub run_length : List Cell → ℕ → ℕ
run_length [] n = 0
run_length (c ∷ cells) n = run_from c.kind 0 (c ∷ cells) n

-- of at most n items, how many pass a test by their number, before the first that does not; the first item has the number i
abbrev pub leading : {A : Type 0} → (ℕ → A → Bool) → ℕ → List A → ℕ → ℕ
leading p i [] n = 0
leading p i (x ∷ xs) zero = 0
leading p i (x ∷ xs) (suc n) = if p i x then suc (leading p (i + 1) xs n) else 0

-- the first block is mapped
abbrev pub begins_mapped : List Cell → Bool
begins_mapped [] = false
begins_mapped (c ∷ _) = is_some (mapped_number c.kind)
