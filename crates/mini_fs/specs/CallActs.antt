-- What an input or output call did at a mount: the form in which all such calls tell it.
use Rattle.std.specs.Prelude.{◌≡◌, ℕ, ◌+◌, ◌==◌, Bool, true, false, ◌&&◌, if◌then◌else◌, Some, List, [], ◌∷◌, ◌++◌, All, IsTrue, slice_get}
use Rattle.iob_base.specs.declared.stamp.FileId.{FileId}
use Rattle.iob_base.specs.declared.stamp.Tag.{Tag}
use Rattle.turn_cell.specs.Stakes.{total}
use Rattle.range_core.specs.EntryCounts.{lendings}
use Rattle.range_core.specs.declared.entry.Entry.{Entry}
use Rattle.range_core.specs.declared.entry.Event.{Event}
use Rattle.mount_parts.specs.MountView.{HasBlock, MountView, file_at, stripe_at}
use Rattle.mini_fs.specs.Acts.{Act, Acted, closed_in, opened_in, own_entries}
use Rattle.mini_fs.specs.Acts.Act.{Turn, SizeTurn, Busy, Open, Close, Take, Refused, Leave, Run, Note, Number}
use Rattle.mini_fs.specs.PassView.{PassView}

-- a stripe of this file
abbrev pub IsStripeOf : MountView → FileId → ℕ → Type 0
IsStripeOf m file stripe = (b : ℕ) × HasBlock m file b × (stripe ≡ stripe_at m file b)

-- the act is at this file: at one of its stripes, at its size, or at its lock
abbrev pub IsActAt : MountView → FileId → Act → Type 0
IsActAt m file (Turn stripe others own) = IsStripeOf m file stripe
IsActAt m file (SizeTurn cell others own) = (file_at m file).size ≡ Some cell
IsActAt m file (Busy stripe word) = IsStripeOf m file stripe
IsActAt m file (Open stripe) = IsStripeOf m file stripe
IsActAt m file (Close stripe) = IsStripeOf m file stripe
IsActAt m file (Take at c before after) = at ≡ file
IsActAt m file (Refused at c before after) = at ≡ file
IsActAt m file (Leave at c before after) = at ≡ file
IsActAt m file (Run bios) = Unit {0}
IsActAt m file (Note begun) = Unit {0}
IsActAt m file (Number call) = Unit {0}

-- the acts at locks, in order
abbrev pub lock_acts : List Act → List Act
lock_acts [] = []
lock_acts (Take file c before after ∷ acts) = Take file c before after ∷ lock_acts acts
lock_acts (Refused file c before after ∷ acts) = Refused file c before after ∷ lock_acts acts
lock_acts (Leave file c before after ∷ acts) = Leave file c before after ∷ lock_acts acts
lock_acts (_ ∷ acts) = lock_acts acts

-- the acts at sizes, in order
abbrev pub size_acts : List Act → List Act
size_acts [] = []
size_acts (SizeTurn cell others own ∷ acts) = SizeTurn cell others own ∷ size_acts acts
size_acts (_ ∷ acts) = size_acts acts

-- how many of the own entries lent blocks
abbrev pub loans_in : List Act → ℕ
loans_in acts = total lendings (own_entries acts)

-- the pass with the number of another call
abbrev pub with_call : PassView → ℕ → PassView
with_call p call = record p { last = call }

-- the tag of what a call of the pass does
abbrev pub tag_of : PassView → ℕ → Tag
tag_of p call = record { caller = p.caller; call = call }

-- two tags are the same
abbrev pub is_tag : Tag → Tag → Bool
is_tag a b = a.caller == b.caller && a.call == b.call

-- What acts of one call have in common: they are at one file, only such events were made as the call may make, and each ticket that was opened was closed
pub record CallActs (m : MountView) (file : FileId) (may : Event → Bool) (p q : PassView) (acts : List Act) : Type 0 where
  pub acted : Acted acts p q
  pub at_file : All (IsActAt m file) acts
  pub made : All (λ e. IsTrue (may e.event)) (own_entries acts)
  pub closed : (stripe : ℕ) → opened_in stripe acts ≡ closed_in stripe acts
