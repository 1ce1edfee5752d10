-- What a write does at the size of its file.
use Rattle.std.specs.Prelude.{◌≡◌, ℕ, ◌+◌, ◌<◌, ◌==◌, if◌then◌else◌, Bool, true, false, OnErr, OnOk, Option, Some, None, Result, Ok, Err, List, [], ◌∷◌, slice_get}
use Rattle.std.specs.declared.alloc.AllocError.{AllocError}
use Rattle.iob_base.specs.declared.answer.Fault.{Fault}
use Rattle.iob_base.specs.declared.answer.Fault.TheVariants.{NoMemory}
use Rattle.iob_base.specs.declared.stamp.FileId.{FileId}
use Rattle.iob_base.specs.declared.stamp.Tag.{Tag}
use Rattle.size_core.specs.declared.entry.SizeEntry.{SizeEntry}
use Rattle.size_core.specs.declared.entry.SizeEvent.{SizeEvent}
use Rattle.size_core.specs.declared.entry.SizeEvent.TheVariants.{Forget, Grow, Ready}
use Rattle.mount_parts.specs.MountView.{MountView}
use Rattle.mini_fs.specs.Acts.{Act, Acts}
use Rattle.mini_fs.specs.Acts.Act.{SizeTurn}
use Rattle.mini_fs.specs.CallActs.{size_acts}
use Rattle.mini_fs.specs.PassView.{PassView, SizeSeat}
use Rattle.mini_fs.specs.SizeTurns.{size_at}

-- the entry of a caller at a size
abbrev pub size_entry : ℕ → SizeEvent → SizeEntry
size_entry caller event = record { caller = caller; event = event }

-- the acts are turns at a size cell with these events of a caller, in order
abbrev pub AreSizeTurns : ℕ → ℕ → List SizeEvent → List Act → Type 0
AreSizeTurns caller cell [] [] = Unit {0}
AreSizeTurns caller cell (event ∷ events) (SizeTurn at others own ∷ acts) = (at ≡ cell) × (own ≡ size_entry caller event) × AreSizeTurns caller cell events acts
AreSizeTurns caller cell events acts = ⊥

-- how a write of so many bytes ends at the size of its file: it raises the size to where they end, and without any it gives its room up
abbrev pub grown : Tag → ℕ → ℕ → SizeEvent
grown by from count = if count == 0 then Forget else Grow by (from + count)

-- the events of a write at the size of its file, by whether it had memory to make room for its entry first
abbrev pub size_events : Tag → ℕ → ℕ → Result (Unit {0}) AllocError → List SizeEvent
size_events by from count (Ok done) = Ready (Ok done) ∷ grown by from count ∷ []
size_events by from count (Err error) = Ready (Err error) ∷ []

-- A write of so many bytes at a size cell: it made room for its entry, and used it after the bytes. Without memory for it, it wrote nothing
pub record GrowsAt (cell caller : ℕ) (by : Tag) (from count : ℕ) (fault : Option Fault) (acts : List Act) : Type 0 where
  pub room : Result (Unit {0}) AllocError
  pub turns : AreSizeTurns caller cell (size_events by from count room) acts
  pub refused : OnErr room ((count ≡ 0) × (fault ≡ Some NoMemory))

-- what a write did at the size of a file: nothing at a file without one
abbrev pub GrowsSize : Option ℕ → ℕ → Tag → ℕ → ℕ → Option Fault → List Act → Type 0
GrowsSize None caller by from count fault acts = acts ≡ []
GrowsSize (Some cell) caller by from count fault acts = GrowsAt cell caller by from count fault acts

-- the same of a call, which meets no size where it does nothing
abbrev pub MeetsSize : Bool → Option ℕ → ℕ → Tag → ℕ → ℕ → Option Fault → List Act → Type 0
MeetsSize true size caller by from count fault acts = GrowsSize size caller by from count fault (size_acts acts)
MeetsSize false size caller by from count fault acts = size_acts acts ≡ []

-- the pass has room for an entry at the size of a file
abbrev pub HasRoom : MountView → FileId → PassView → Type 0
HasRoom m file p = (seat : SizeSeat) → slice_get p.sizes (size_at m file) ≡ Some seat → 0 < seat.rooms

-- A turn at the size of a file with this event of the pass
pub record TurnedAtSize (m : MountView) (file : FileId) (event : SizeEvent) (p q : PassView) : Type 0 where
  pub others : List SizeEntry
  pub did : Acts (SizeTurn (size_at m file) others (size_entry p.caller event)) p q

-- A turn at the size of a file made room for one entry, or had no memory for it
pub record MadeRoom (m : MountView) (file : FileId) (p q : PassView) (answer : Result (Unit {0}) AllocError) : Type 0 where
  pub turned : TurnedAtSize m file (Ready answer) p q
  pub room : OnOk answer (HasRoom m file q)
