-- What a cut does at the size of its file.
use Rattle.std.specs.Prelude.{◌≡◌, ℕ, ◌≤◌, IfOk, OnErr, Option, Some, None, Result, Ok, Err, List, [], ◌∷◌}
use Rattle.std.specs.declared.alloc.AllocError.{AllocError}
use Rattle.iob_base.specs.declared.answer.Fault.{Fault}
use Rattle.iob_base.specs.declared.answer.Fault.TheVariants.{NoMemory}
use Rattle.iob_base.specs.declared.stamp.FileId.{FileId}
use Rattle.iob_base.specs.declared.stamp.Tag.{Tag}
use Rattle.size_core.specs.declared.entry.SizeEvent.{SizeEvent}
use Rattle.size_core.specs.declared.entry.SizeEvent.TheVariants.{Cut, Forget, Ready, See}
use Rattle.mount_parts.specs.MountView.{MountView}
use Rattle.mini_fs.specs.Acts.{Act}
use Rattle.mini_fs.specs.Mappings.{file_end}
use Rattle.mini_fs.specs.PassView.{PassView}
use Rattle.buffered_write.specs.Grows.{AreSizeTurns, TurnedAtSize}

-- the last turn of a cut at the size of its file: it sets the size, and after a fault it gives its room up
abbrev pub settled : Tag → ℕ → Option Fault → SizeEvent
settled by to None = Cut by to
settled by to (Some fault) = Forget

-- the events of a cut at the size of its file from the one on that makes room for its entry, by what that answered
abbrev pub room_events : Tag → ℕ → Option Fault → Result (Unit {0}) AllocError → List SizeEvent
room_events by to fault (Ok done) = Ready (Ok done) ∷ settled by to fault ∷ []
room_events by to fault (Err error) = Ready (Err error) ∷ []

-- all its events there, by what its look at the size answered
abbrev pub cut_events : Tag → ℕ → Option Fault → Result ℕ AllocError → Result (Unit {0}) AllocError → List SizeEvent
cut_events by to fault (Ok found) room = See by (Ok found) ∷ room_events by to fault room
cut_events by to fault (Err error) room = See by (Err error) ∷ []

-- the size that a look found, where it had memory to enter it
abbrev pub size_found : Result ℕ AllocError → Option ℕ
size_found (Ok found) = Some found
size_found (Err error) = None

-- A cut to a size, of which so many bytes were cleared, at the size cell of a file with so many bytes in its blocks: it looked at the size, made room for its entry, and at last set the size or gave the room up. Without memory for one of the first two it cleared nothing
pub record CutsAt (cell caller end : ℕ) (by : Tag) (to count : ℕ) (fault : Option Fault) (found : Option ℕ) (acts : List Act) : Type 0 where
  pub seen : Result ℕ AllocError
  pub room : Result (Unit {0}) AllocError
  pub turns : AreSizeTurns caller cell (cut_events by to fault seen room) acts
  pub found_is : found ≡ size_found seen
  pub within : IfOk seen (λ size. size ≤ end)
  pub unseen : OnErr seen ((count ≡ 0) × (fault ≡ Some NoMemory))
  pub refused : OnErr room ((count ≡ 0) × (fault ≡ Some NoMemory))

-- A turn at the size of a file looked at it, and found one within the file's blocks or had no memory to enter the look
pub record SawSize (m : MountView) (file : FileId) (by : Tag) (p q : PassView) (seen : Result ℕ AllocError) : Type 0 where
  pub turned : TurnedAtSize m file (See by seen) p q
  pub within : IfOk seen (λ size. size ≤ file_end m file)
