-- A step of a call on one file: the form in which the parts of calls tell what they did at a mount.
use Rattle.std.specs.Prelude.{◌≡◌, Bool, true, false, List, [], ◌∷◌, ◌++◌, All, IsTrue}
use Rattle.iob_base.specs.Counts.{Rose}
use Rattle.iob_base.specs.declared.stamp.FileId.{FileId}
use Rattle.fault_device.specs.LaneView.{LaneView}
use Rattle.fault_device.specs.declared.lane.Done.{Done}
use Rattle.bio_pages.specs.Lists.{OwnFailures}
use Rattle.bio_pages.specs.Running.{HasRun}
use Rattle.range_core.specs.EntryStamps.{stamps_of}
use Rattle.range_core.specs.declared.entry.Entry.{Entry}
use Rattle.range_core.specs.declared.entry.Event.{Event}
use Rattle.range_core.specs.declared.entry.Event.TheVariants.{Attach, DaxGet, DaxPut, DaxZero, DirectBack, DirectNow, DropClean, FillBack, LendRead, LendWriteback, PartBack, Preallocate, Reserve, Sample, Unreserve, WrittenBack}
use Rattle.range_core.specs.declared.entry.Outcome.{Outcome}
use Rattle.range_core.specs.declared.entry.Outcome.TheVariants.{Counted, Finished, Refused}
use Rattle.range_core.specs.declared.fault.EventFault.TheVariants.{Poison}
use Rattle.mount_parts.specs.MountView.{MountView, stripe_at}
use Rattle.mini_fs.specs.Acts.{Act, bios_in, own_entries}
use Rattle.mini_fs.specs.Acts.Act.{Turn}
use Rattle.mini_fs.specs.CallActs.{CallActs, loans_in, lock_acts, size_acts}
use Rattle.mini_fs.specs.PassView.{IsPassOf, PassView}
use Rattle.mini_fs.specs.Tickets.{KeepsTickets}

-- what the transfer did of which an event took the blocks back, or the judgement that failed within the event
abbrev pub done_of : Event → Outcome → List Done
done_of (FillBack ticket block blocks done) Finished = done ∷ []
done_of (WrittenBack ticket block kind blocks done) (Counted n) = done ∷ []
done_of (DirectBack by op ticket block kind pages done) Finished = done ∷ []
done_of (PartBack by ticket block kind from to bytes done) Finished = done ∷ []
done_of (DirectNow by block blocks) (Refused (Poison done)) = done ∷ []
done_of (DaxGet by seen from to) (Refused (Poison done)) = done ∷ []
done_of (DaxPut by seen from to bytes) (Refused (Poison done)) = done ∷ []
done_of (DaxZero by seen from to) (Refused (Poison done)) = done ∷ []
done_of _ _ = []

-- what the transfers did of which entries took the blocks back, and the judgements that failed within entries, in order
abbrev pub dones_in : List Entry → List Done
dones_in [] = []
dones_in (e ∷ entries) = done_of e.event e.outcome ++ dones_in entries

-- a transfer that failed, or a judgement, came of a rise of the count
abbrev pub CameOfRise : Done → Type 0
CameOfRise done = done.failed ≡ true → Rose done.before done.after

-- A lane served a step, in which these transfers came back: those that failed are its own, each of a rise of its count, and no two share a rise
pub record ServedBy (before after : LaneView) (dones : List Done) : Type 0 where
  pub ran : HasRun before after
  pub own : OwnFailures before.number before.count after.count dones
  pub rose : All CameOfRise dones

-- the stamps that a turn left are of blocks of its stripe
abbrev pub IsPlaced : MountView → FileId → Act → Type 0
IsPlaced m file (Turn stripe others own) = All (λ x. stripe ≡ stripe_at m file x.0) (stamps_of m.geometry.block_size own)
IsPlaced m file _ = Unit {0}

-- A step of a call, from the pass `p` to the pass `q` and from one view of its lane to another. Its acts are at one file, make only such events, take no class, meet no size and begin no call. It closed each ticket that it opened and ran each bio that it lent. Each own entry has the pass's caller number and left its stamps at the stripe of their blocks, and each other ticket of the pass is still its ticket
pub record Steps (m : MountView) (file : FileId) (may : Event → Bool) (before after : LaneView) (p q : PassView) (acts : List Act) : Type 0 where
  pub of : IsPassOf m q
  pub did : CallActs m file may p q acts
  pub locks : lock_acts acts ≡ []
  pub sizes : size_acts acts ≡ []
  pub last : q.last ≡ p.last
  pub callers : All (λ e. e.caller ≡ p.caller) (own_entries acts)
  pub placed : All (IsPlaced m file) acts
  pub run : bios_in acts ≡ loans_in acts
  pub lane : ServedBy before after (dones_in (own_entries acts))
  pub tickets : KeepsTickets p q

-- the events that give no bytes and leave no stamps, whatever comes of them: looks, promises, space, and loans and returns of the cache's pages
abbrev pub is_quiet : Event → Bool
is_quiet (Sample block most) = true
is_quiet (Reserve seen blocks) = true
is_quiet (Unreserve block blocks) = true
is_quiet (Attach block blocks) = true
is_quiet (Preallocate block blocks) = true
is_quiet (LendRead block most) = true
is_quiet (FillBack ticket block blocks done) = true
is_quiet (LendWriteback block most) = true
is_quiet (WrittenBack ticket block kind blocks done) = true
is_quiet (DropClean block blocks) = true
is_quiet _ = false

abbrev pub IsQuiet : Entry → Type 0
IsQuiet e = IsTrue (is_quiet e.event)
