use Rattle.std.specs.Prelude.{ℕ}
use Rattle.iob_base.specs.declared.answer.Fault.{Fault}
use Rattle.iob_base.specs.declared.answer.Fault.TheVariants.{Eio, SyncEio, Again, NoMemory, NotAligned, TooFar, NoSpace, Worn}

-- the error number of Linux for a fault
abbrev pub errno_of : Fault → ℕ
errno_of (Eio _ _ _) = 5
errno_of (SyncEio _ _) = 5
errno_of (Again _) = 11
errno_of NoMemory = 12
errno_of (NotAligned _) = 22
errno_of (TooFar _ _) = 27
errno_of (NoSpace _ _) = 28
errno_of (Worn _) = 75
