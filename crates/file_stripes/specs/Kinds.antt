-- The kinds of blocks, as extents give them.
use Rattle.std.specs.Prelude.{ℕ, zero, suc, ◌+◌, ◌-◌, ◌≤◌, ◌^◌, Bool, is_some, List, [], ◌∷◌, IfSome, IsTrue, if◌then◌else◌}
use Rattle.std.specs.List.{filter_map}
use Rattle.io_model.specs.Kinds.{covers, device_number, kind_after, kind_at}
use Rattle.io_model.specs.declared.file.Extent.{Extent}
use Rattle.io_model.specs.declared.file.Kind.{Kind}
use Rattle.io_model.specs.declared.file.Kind.TheVariants.{Hole, Delalloc, Unwritten, Mapped}

-- a block of this kind has a block of the device
abbrev pub has_space : Kind → Bool
has_space k = is_some (device_number k)

-- the device numbers of so many blocks, from one of this kind on, are numbers of a device
abbrev pub NumbersFit : Kind → ℕ → Type 0
NumbersFit k n = IfSome (device_number k) (λ d. d + n ≤ 2 ^ 32)

-- an extent has space, and lies among so many blocks from one on
pub record LiesIn (first blocks : ℕ) (extent : Extent) : Type 0 where
  pub placed : IsTrue (has_space extent.kind)
  pub low : first ≤ extent.block
  pub high : extent.block + extent.length ≤ first + blocks
  pub numbers : NumbersFit extent.kind extent.length

-- the kinds of so many blocks from one on, as the extents give them
abbrev pub kinds_from : List Extent → ℕ → ℕ → List Kind
kinds_from extents b zero = []
kinds_from extents b (suc n) = kind_at extents b ∷ kinds_from extents (b + 1) n

-- the device numbers of these kinds, in order
abbrev pub numbers_of : List Kind → List ℕ
numbers_of kinds = filter_map device_number kinds

-- the kinds of blocks from one on, where an extent says those of the blocks that it has
abbrev pub kinds_over : Extent → ℕ → List Kind → List Kind
kinds_over e b [] = []
kinds_over e b (k ∷ ks) = (if covers e b then kind_after e.kind (b - e.block) else k) ∷ kinds_over e (b + 1) ks

-- a run of a file before the first call: holes, or space at numbers of a device
abbrev pub IsFirstRun : Kind → ℕ → Type 0
IsFirstRun Hole n = Unit {0}
IsFirstRun Delalloc n = ⊥
IsFirstRun (Unwritten d) n = d + n ≤ 2 ^ 32
IsFirstRun (Mapped d) n = d + n ≤ 2 ^ 32

abbrev pub IsFirstKind : Kind → Type 0
IsFirstKind k = IsFirstRun k 1
