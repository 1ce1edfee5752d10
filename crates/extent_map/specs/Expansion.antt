use Rattle.std.specs.Prelude.{ℕ, zero, suc, ◌+◌, ◌≤◌, ◌^◌, List, [], ◌∷◌, ◌++◌, IfSome}
use Rattle.io_model.specs.Kinds.{kind_after, device_number}
use Rattle.io_model.specs.declared.file.Extent.{Extent}
use Rattle.io_model.specs.declared.file.Kind.{Kind}

-- the kinds of so many blocks, from one of this kind on: device numbers go on by one
abbrev pub run_of : Kind → ℕ → List Kind
run_of k zero = []
run_of k (suc n) = k ∷ run_of (kind_after k 1) n

-- the kinds of all blocks of extents, one extent after another
abbrev pub kinds_of : List Extent → List Kind
kinds_of [] = []
kinds_of (e ∷ es) = run_of e.kind e.length ++ kinds_of es

-- the device numbers of so many blocks, from one of this kind on, are numbers of a device
abbrev pub NumbersFit : Kind → ℕ → Type 0
NumbersFit k n = IfSome (device_number k) (λ d. d + n ≤ 2 ^ 32)
