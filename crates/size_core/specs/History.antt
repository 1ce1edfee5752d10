-- The history of a size, and the entries of the size journal that it leaves.
use Rattle.std.specs.Prelude.{ℕ, Bool, ◌==◌, if◌then◌else◌, List, [], ◌∷◌, ◌++◌, Ok, Err}
use Rattle.size_core.specs.SizesView.{stamp_by}
use Rattle.size_core.specs.declared.entry.SizeEntry.{SizeEntry}
use Rattle.size_core.specs.declared.entry.SizeEvent.{SizeEvent}
use Rattle.size_core.specs.declared.entry.SizeEvent.TheVariants.{See, Ready, Grow, Cut, Forget}
use Rattle.io_model.specs.declared.file.SizeMark.TheVariants as mark
use Rattle.io_model.specs.declared.file.SizeStamp.{SizeStamp}

-- what an event enters into the journal
abbrev pub stamps_of : SizeEvent → List SizeStamp
stamps_of (See by (Ok found)) = stamp_by by (mark.See found) ∷ []
stamps_of (See by (Err error)) = []
stamps_of (Ready answer) = []
stamps_of (Grow by to) = stamp_by by (mark.Grow to) ∷ []
stamps_of (Cut by to) = stamp_by by (mark.Cut to) ∷ []
stamps_of Forget = []

-- what the entries of a history enter into it, in order
abbrev pub stamps_in : List SizeEntry → List SizeStamp
stamps_in [] = []
stamps_in (e ∷ es) = stamps_of e.event ++ stamps_in es

-- 1 where a test holds
abbrev pub one_where : Bool → ℕ
one_where t = if t then 1 else 0

-- the seat with this caller number made it
abbrev pub made_as : ℕ → SizeEntry → ℕ
made_as caller e = one_where (e.caller == caller)
