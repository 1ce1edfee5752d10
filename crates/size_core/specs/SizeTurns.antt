-- What each turn at a size does and enters.
use Rattle.std.specs.Prelude.{◌≡◌, ℕ, List, Result, OnOk, OnErr, IfOk}
use Rattle.std.specs.declared.alloc.AllocError.{AllocError}
use Rattle.size_core.specs.ClaimsView.{ClaimsView, with_room, without_room}
use Rattle.size_core.specs.History.{stamps_in}
use Rattle.io_model.specs.Sizes.{replayed_size}
use Rattle.size_core.specs.SizesView.{SizesView, seen_by, made_ready, grown_by, cut_by, forgotten}
use Rattle.size_core.specs.declared.entry.SizeEntry.{SizeEntry}
use Rattle.size_core.specs.declared.entry.SizeEvent.{SizeEvent}
use Rattle.size_core.specs.declared.entry.SizeEvent.TheVariants.{See, Ready, Grow, Cut, Forget}
use Rattle.size_core.specs.declared.turns.SeeSize.{SeeSize}
use Rattle.size_core.specs.declared.turns.ReadyRoom.{ReadyRoom}
use Rattle.size_core.specs.declared.turns.GrowSize.{GrowSize}
use Rattle.size_core.specs.declared.turns.CutSize.{CutSize}
use Rattle.size_core.specs.declared.turns.ForgetRoom.{ForgetRoom}

-- the entry of a seat with these claims
abbrev pub entry_by : ClaimsView → SizeEvent → SizeEntry
entry_by claims event = record { caller = claims.caller; event = event }

-- The turn found the size that the history leaves, and entered its event
pub record Enters (opening before : SizesView) (history : List SizeEntry) (claims : ClaimsView) (event : SizeEvent) (entry : SizeEntry) : Type 0 where
  pub found : before.size ≡ replayed_size opening.size (stamps_in history)
  pub entry_is : entry ≡ entry_by claims event

-- The turn told the size, or had no memory to enter it
pub record Sees (look later : SeeSize) (opening : SizesView) (history : List SizeEntry) (before after : SizesView) (claims left : ClaimsView) (out : Result ℕ AllocError) (entry : SizeEntry) : Type 0 where
  pub change : later ≡ look
  pub claims_are : left ≡ claims
  pub ok : IfOk out (λ found. (found ≡ before.size) × (after ≡ seen_by look.by before))
  pub err : OnErr out (after ≡ before)
  pub enters : Enters opening before history claims (See look.by out) entry

-- The turn made room for one entry, or had no memory for it
pub record Readies (change later : ReadyRoom) (opening : SizesView) (history : List SizeEntry) (before after : SizesView) (claims left : ClaimsView) (out : Result (Unit {0}) AllocError) (entry : SizeEntry) : Type 0 where
  pub same : later ≡ change
  pub ok : OnOk out ((after ≡ made_ready before) × (left ≡ with_room claims))
  pub err : OnErr out ((after ≡ before) × (left ≡ claims))
  pub enters : Enters opening before history claims (Ready out) entry

-- The turn raised the size
pub record Grows (grow later : GrowSize) (opening : SizesView) (history : List SizeEntry) (before after : SizesView) (claims left : ClaimsView) (entry : SizeEntry) : Type 0 where
  pub change : later ≡ grow
  pub value : after ≡ grown_by grow.by grow.to before
  pub claims_are : left ≡ without_room claims
  pub enters : Enters opening before history claims (Grow grow.by grow.to) entry

-- The turn set the size
pub record Cuts (cut later : CutSize) (opening : SizesView) (history : List SizeEntry) (before after : SizesView) (claims left : ClaimsView) (entry : SizeEntry) : Type 0 where
  pub change : later ≡ cut
  pub value : after ≡ cut_by cut.by cut.to before
  pub claims_are : left ≡ without_room claims
  pub enters : Enters opening before history claims (Cut cut.by cut.to) entry

-- The turn gave a room up
pub record Forgets (change later : ForgetRoom) (opening : SizesView) (history : List SizeEntry) (before after : SizesView) (claims left : ClaimsView) (entry : SizeEntry) : Type 0 where
  pub same : later ≡ change
  pub value : after ≡ forgotten before
  pub claims_are : left ≡ without_room claims
  pub enters : Enters opening before history claims Forget entry
